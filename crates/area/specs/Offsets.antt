-- Where each thing lies in the work area. Only this file, Area, their laws and src/lib.rt know an offset. Assumes
-- nothing.
use Rattle.std.specs.Prelude.{ℕ, ◌+◌, ◌*◌}

-- "The work area is shorter than 57,344 octets."
abbrev pub area_size : ℕ
area_size = 57344

-- the places of a delay line
abbrev pub ring : ℕ
ring = 256

-- the octets that a frame and a receive buffer lie in
abbrev pub frame_room : ℕ
frame_room = 1536

-- a region of octets: the clock; D; the layout; the draws; of station i its counters, its record, its delay line, its
-- frame, what it collected
pub data Piece : Type 0 where
  the_clock the_depth the_layout the_draws : Piece
  the_counters the_station the_line the_frame the_buffer : ℕ → Piece

abbrev pub from : Piece → ℕ
from the_clock = 0
from the_depth = 4
from the_layout = 8
from the_draws = 320
from (the_counters i) = 832 + 68 * i
from (the_station i) = 2048 + 64 * i
from (the_line i) = 4096 + ring * i
from (the_frame i) = 8192 + frame_room * i
from (the_buffer i) = 32768 + frame_room * i

abbrev pub width : Piece → ℕ
width the_clock = 4
width the_depth = 4
width the_layout = 312
width the_draws = 512
width (the_counters i) = 68
width (the_station i) = 64
width (the_line i) = ring
width (the_frame i) = frame_room
width (the_buffer i) = frame_room

-- within the layout: the tap of station i, and its address
abbrev pub tap_from : ℕ → ℕ
tap_from i = 64 + 16 * i

abbrev pub address_from : ℕ → ℕ
address_from i = 68 + 16 * i

-- within the draws: draw k of station i
abbrev pub draw_from : (i k : ℕ) → ℕ
draw_from i k = from the_draws + 32 * i + 2 * k
