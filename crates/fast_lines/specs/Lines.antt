-- What each station emits in a window, as values taken before it, and the lines after the window by those values. The
-- laws are in LinesLaws. Assumes nothing.
use Rattle.std.specs.Prelude.{ℕ, ◌+◌, ◌*◌, ◌≤◌, ◌<◌, min, ◌≡◌, List, eqb, length, get_or}
use Rattle.octets.specs.Base.{pick}
use Rattle.octets.specs.Filled.{filled}
use Rattle.station_symbols.specs.declared.Symbol.{Symbol}
use Rattle.station_symbols.specs.declared.Symbol.TheVariants.{Silence}
use Rattle.station_state.specs.declared.Transmitter.{Transmitter}
use Rattle.station_state.specs.declared.Transmitter.TheVariants.{NoFrame, Waiting, BackingOff, Sending, Heading}
use Rattle.station_state.specs.declared.Transmitter.TheVariants.{Jamming}
use Rattle.area.specs.Area.{clock_at, count_at, space_at, station_at, frame_at, symbol_at, max_code}
use Rattle.fast_plan.specs.Plan.{Plan}
use Rattle.fast_plan.specs.Push.{on_way}
use Rattle.fast_line.specs.Line.{bits_from, jams, Coded}
use Rattle.fast_lines.specs.declared.Emitter.{Emitter}
use Rattle.fast_lines.specs.declared.Emitter.TheVariants.{Silent, Sender, Jammer}
use Rattle.sheet_layout.specs.Limits.{last_clock, max_stations}
use Rattle.area.specs.Offsets.{area_size, ring, frame_room}

-- ---- what a station emits

-- a transmitter that holds a frame of z octets: it sends its packet's bits from the next one on, or jams, or emits
-- nothing
abbrev pub emitter_of : Transmitter → ℕ → Emitter
emitter_of NoFrame z = Silent
emitter_of Waiting z = Silent
emitter_of (BackingOff w) z = Silent
emitter_of (Sending k) z = Sender k z
emitter_of (Heading k) z = Sender k z
emitter_of (Jamming n ends) z = Jammer

unfoldable pub emitter_at : List ℕ → ℕ → Emitter
emitter_at a i = emitter_of (station_at a i).transmitter (station_at a i).frame

-- the first n stations, and silent places after them
unfoldable pub emitters_of : List ℕ → ℕ → List Emitter
emitters_of a n = filled Silent (emitter_at a) n

-- no symbol
unfoldable pub silence : ℕ → Symbol
silence s = Silence

-- its symbols, where its frame is F
unfoldable pub emitted : List ℕ → Emitter → ℕ → Symbol
emitted F Silent = silence
emitted F (Sender k z) = bits_from F k
emitted F Jammer = jams

-- the octets of the frame that it sends, and its next packet bit; 0 where it sends none
abbrev pub octets_in : Emitter → ℕ
octets_in Silent = 0
octets_in (Sender k z) = z
octets_in Jammer = 0

abbrev pub bit_in : Emitter → ℕ
bit_in Silent = 0
bit_in (Sender k z) = k
bit_in Jammer = 0

-- the plan that these emitters follow, with the frames in area x
unfoldable pub plan_by : List ℕ → List Emitter → Plan
plan_by x es i = emitted (frame_at x i (octets_in (get_or es i Silent))) (get_or es i Silent)

-- its frame has its place, and it has packet bits for K steps where it sends any
pub record Enough (K : ℕ) (e : Emitter) : Type 0 where
  pub frame : octets_in e ≤ frame_room
  pub bits : (k z : ℕ) → e ≡ Sender k z → k + K ≤ 65 + 8 * z

unfoldable pub AllEnough : (K : ℕ) → List Emitter → (n : ℕ) → Type 0
AllEnough K es n = (i : ℕ) → i < n → Enough K (get_or es i Silent)

-- ---- the codes of what is emitted

-- the 256 places of emitter e at station i hold the codes of what it emits in K steps, if it emits any
unfoldable pub CodedFrom : (cs : List ℕ) (K i : ℕ) → Emitter → List ℕ → Type 0
CodedFrom cs K i e x = (e ≡ Silent → ⊥) → Coded cs (ring * i) K (emitted (frame_at x i (octets_in e)) e)

unfoldable pub AllCoded : (cs : List ℕ) (K : ℕ) → List Emitter → List ℕ → (n : ℕ) → Type 0
AllCoded cs K es x n = (i : ℕ) → i < n → CodedFrom cs K i (get_or es i Silent) x

-- ---- the symbols of one station to another

-- what the code asks for
pub record Pushes (j t K i : ℕ) (e : Emitter) (x : List ℕ) : Type 0 where
  pub from : i < max_stations
  pub to : j < max_stations
  pub long : area_size ≤ length x
  pub near : space_at x i j < ring
  pub early : t + K ≤ last_clock
  pub codes : (u : ℕ) → symbol_at x j u ≤ max_code
  pub enough : Enough K e

-- the symbols of emitter e at station i that are on their way to station j after K steps from t on
unfoldable pub pushed_from : (j t K i : ℕ) → Emitter → List ℕ → List ℕ
pushed_from j t K i e x =
    pick (eqb i j) x
    (on_way t (space_at x i j) K (emitted (frame_at x i (octets_in e)) e) j (min (space_at x i j) K) x)

-- ---- all lines

-- what the code asks of the area; it stays so while lines are written
pub record Settles (n t K : ℕ) (es : List Emitter) (x : List ℕ) : Type 0 where
  pub few : n ≤ max_stations
  pub count : n ≡ count_at x
  pub time : t ≡ clock_at x
  pub long : area_size ≤ length x
  pub early : t + K ≤ last_clock
  pub near : (i j : ℕ) → i < n → j < n → space_at x i j < ring
  pub codes : (i u : ℕ) → i < n → symbol_at x i u ≤ max_code
  pub enough : (i : ℕ) → i < n → Enough K (get_or es i Silent)
