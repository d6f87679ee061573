-- Parts of the work area: pieces, which are regions of octets, and places of delay lines. How a place is kept is not
-- said here: two areas hold the same at a place where they have the same symbol there. Assumes nothing.
use Rattle.std.specs.Prelude.{ℕ, ◌+◌, ◌*◌, ◌%◌, ◌≡◌, List}
use Rattle.octets.specs.Store.{Apart}
use Rattle.octets.specs.Region.{Same}
use Rattle.area.specs.Offsets.{ring, Piece, the_clock, the_depth, the_layout, the_draws, the_counters, the_station}
use Rattle.area.specs.Offsets.{the_line, the_frame, the_buffer, from, width}
use Rattle.area.specs.Area.{symbol_at}

-- a piece, or place u of the delay line of station i
pub data Part : Type 0 where
  piece : Piece → Part
  place : ℕ → ℕ → Part

abbrev pub clock : Part
clock = piece the_clock

abbrev pub depth : Part
depth = piece the_depth

abbrev pub layout : Part
layout = piece the_layout

abbrev pub draws : Part
draws = piece the_draws

abbrev pub counters : ℕ → Part
counters i = piece (the_counters i)

abbrev pub station : ℕ → Part
station i = piece (the_station i)

abbrev pub frame : ℕ → Part
frame i = piece (the_frame i)

abbrev pub buffer : ℕ → Part
buffer i = piece (the_buffer i)

-- two parts have nothing in common: `λ x y. omega arith` proves it where it holds
abbrev pub Off : Part → Part → Type 0
Off (piece p) (piece q) = Apart (from p) (width p) (from q) (width q)
Off (piece p) (place i u) = Apart (from p) (width p) (from (the_line i)) (width (the_line i))
Off (place i u) (piece q) = Apart (from (the_line i)) (width (the_line i)) (from q) (width q)
Off (place i u) (place j v) = Apart (ring * i + u % ring) 1 (ring * j + v % ring) 1

-- the two areas hold the same there
unfoldable pub Keeps : Part → List ℕ → List ℕ → Type 0
Keeps (piece p) l m = Same (from p) (width p) l m
Keeps (place i u) l m = symbol_at l i u ≡ symbol_at m i u
