-- Reading and writing the work area, by name. The laws are in AreaLaws. Assumes nothing.
use Rattle.std.specs.Prelude.{ℕ, ◌+◌, ◌-◌, ◌*◌, ◌/◌, ◌%◌, ◌^◌, min, Bool, true, false, List, [], ◌∷◌, eqb, length, get_or, set}
use Rattle.std.proofs.lemmas.List.Edits.{sets}
use Rattle.octets.specs.Base.{pick, refused, accepted, Outcome, outcome}
use Rattle.octets.specs.Bits.{digit}
use Rattle.octets.specs.Number.{get, put}
use Rattle.octets.specs.Store.{part}
use Rattle.octets.specs.Words.{words_at, put_words}
use Rattle.frame_build.specs.Limits.{refuses_data, buffer_octets}
use Rattle.frame_build.specs.Build.{frame_of}
use Rattle.sheet_layout.specs.declared.Figures.{Figures}
use Rattle.sheet_layout.specs.declared.Tap.{Tap}
use Rattle.sheet_layout.specs.declared.Layout.{Layout}
use Rattle.sheet_layout.specs.Layout.{places_of}
use Rattle.station_symbols.specs.declared.Heard.{Heard}
use Rattle.station_symbols.specs.declared.Heard.TheVariants.{Nothing, Clean, Spoiled}
use Rattle.station_symbols.specs.declared.Symbol.{Symbol}
use Rattle.station_symbols.specs.Packet.{hears_any}
use Rattle.station_symbols.specs.declared.Symbol.TheVariants.{Silence, Bit, Jam}
use Rattle.station_state.specs.declared.Station.{Station}
use Rattle.area_record.specs.Codec.{decoded, encoded}
use Rattle.area.specs.Offsets.{from, the_counters, the_station, the_frame, the_buffer, ring, address_from, draw_from}
use Rattle.area.specs.Offsets.{tap_from}
use Rattle.area.specs.Offsets.{the_line}
use Rattle.sheet_layout.specs.Limits.{max_stations}
use Rattle.station_state.specs.State.{counter_count}
use Rattle.area_record.specs.Words.{record_words}

-- ---- the clock and the draws

unfoldable pub clock_at : List ℕ → ℕ
clock_at a = get 4 a 0

unfoldable pub with_clock : List ℕ → ℕ → List ℕ
with_clock a t = put 4 a 0 t

-- D, and draw k of station i
unfoldable pub depth_at : List ℕ → ℕ
depth_at a = get 4 a 4

unfoldable pub draw_at : List ℕ → ℕ → ℕ → ℕ
draw_at a i k = get 2 a (draw_from i k)

-- ---- the layout

unfoldable pub figures_at : List ℕ → Figures
figures_at a =
    record {
      slot = get 4 a 8;
      gap1 = get 4 a 12;
      gap2 = get 4 a 16;
      jam = get 4 a 20;
      limit = get 4 a 24;
      backoff = get 4 a 28;
      ends = get 4 a 36;
    }

unfoldable pub count_at : List ℕ → ℕ
count_at a = get 4 a 32

unfoldable pub position_at : List ℕ → ℕ → ℕ
position_at a i = get 4 a (tap_from i)

unfoldable pub address_at : List ℕ → ℕ → List ℕ
address_at a i = part a (address_from i) 6

-- station i, and the layout, blank after its stations
abbrev pub tap_at : List ℕ → ℕ → Tap
tap_at a i = record { position = position_at a i; address = address_at a i }

unfoldable pub layout_at : List ℕ → Layout
layout_at a =
    record { figures = figures_at a; count = count_at a; stations = places_of (tap_at a) (min (count_at a) max_stations) }

-- |p(i) − p(j)|
unfoldable pub distance : ℕ → ℕ → ℕ
distance p q = (p - q) + (q - p)

unfoldable pub space_at : List ℕ → ℕ → ℕ → ℕ
space_at a i j = distance (position_at a i) (position_at a j)

-- ---- a station

unfoldable pub counters_at : List ℕ → ℕ → List ℕ
counters_at a i = words_at counter_count a (from (the_counters i))

unfoldable pub with_counters : List ℕ → ℕ → List ℕ → List ℕ
with_counters a i cs = put_words counter_count a (from (the_counters i)) cs

-- its record, and the state that it stands for
unfoldable pub record_at : List ℕ → ℕ → List ℕ
record_at a i = words_at record_words a (from (the_station i))

unfoldable pub station_at : List ℕ → ℕ → Station
station_at a i = decoded (record_at a i) (address_at a i)

unfoldable pub with_station : List ℕ → ℕ → Station → List ℕ
with_station a i s = put_words record_words a (from (the_station i)) (encoded s)

-- word k of its record written alone
unfoldable pub with_word : List ℕ → ℕ → ℕ → ℕ → List ℕ
with_word a i k v = put 4 a (from (the_station i) + 4 * k) v

-- the n octets of its frame
unfoldable pub frame_at : List ℕ → ℕ → ℕ → List ℕ
frame_at a i n = part a (from (the_frame i)) n

-- a frame written over its place
unfoldable pub with_frame : List ℕ → ℕ → List ℕ → List ℕ
with_frame a i f = sets a (from (the_frame i)) f

-- what it collected, as much as is kept
unfoldable pub buffer_at : List ℕ → ℕ → List ℕ
buffer_at a i = part a (from (the_buffer i)) buffer_octets

-- an octet with bit p stored: the bits below it stay, those above it are 0
unfoldable pub octet_with : ℕ → ℕ → Bool → ℕ
octet_with x p b = x % 2 ^ p + digit b * 2 ^ p

-- collected bit k stored, "low bit first"
unfoldable pub with_bit : List ℕ → ℕ → ℕ → Bool → List ℕ
with_bit a i k b = set a (from (the_buffer i) + k / 8) (octet_with (get_or a (from (the_buffer i) + k / 8) 0) (k % 8) b)

-- octet k of what it collected written alone
unfoldable pub with_octet : List ℕ → (i k v : ℕ) → List ℕ
with_octet a i k v = set a (from (the_buffer i) + k) v

-- ---- delay lines: what reaches station i in step u

-- 0 nothing, 1 and 2 the bits 0 and 1, 3 spoiled
abbrev pub heard_code : Heard → ℕ
heard_code Nothing = 0
heard_code (Clean false) = 1
heard_code (Clean true) = 2
heard_code Spoiled = 3

-- the highest code that stands for something
abbrev pub max_code : ℕ
max_code = 3

unfoldable pub heard_of : ℕ → Heard
heard_of c =
    pick (eqb c 0) Nothing
    (pick (eqb c 1) (Clean false)
    (pick (eqb c 2) (Clean true)
    Spoiled))

-- the code at place u, counted modulo 256, and what it stands for
unfoldable pub symbol_at : List ℕ → ℕ → ℕ → ℕ
symbol_at a i u = get_or a (from (the_line i) + u % ring) 0

unfoldable pub arrival_at : List ℕ → ℕ → ℕ → Heard
arrival_at a i u = heard_of (symbol_at a i u)

unfoldable pub with_arrival : List ℕ → ℕ → ℕ → Heard → List ℕ
with_arrival a i u h = set a (from (the_line i) + u % ring) (heard_code h)

-- "A jam bit, or any symbol heard from two or more": one symbol alone, what is heard where two are heard, and one
-- symbol more
abbrev pub alone : Symbol → Heard
alone Silence = Nothing
alone (Bit b) = Clean b
alone Jam = Spoiled

abbrev pub met : Heard → Heard → Heard
met g h = pick (hears_any g) (pick (hears_any h) Spoiled g) h

abbrev pub joined : Heard → Symbol → Heard
joined h s = met h (alone s)

-- the same by codes, for a symbol that is not silence
unfoldable pub with_symbol : List ℕ → (i u c : ℕ) → List ℕ
with_symbol a i u c = set a (from (the_line i) + u % ring) (pick (eqb (symbol_at a i u) 0) c max_code)

-- ---- building a frame at its place, with the station's own address as source

unfoldable pub frame_built : List ℕ → ℕ → (d : List ℕ) (v : ℕ) (x : List ℕ) → Outcome
frame_built a i d v x =
    pick (refuses_data v (length x)) (outcome (refused 11) a)
    (outcome (accepted (length (frame_of d (address_at a i) v x) ∷ [])) (with_frame a i (frame_of d (address_at a i) v x)))
