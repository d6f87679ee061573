-- One bit time of the whole pair, on the octets of the work area (document 01, "One bit time").
-- "In step t all stations work from what they hear at t and emitted at t−1; none sees another's step t." The laws are
-- in InPlace and CodeLaws. Assumes nothing.
use Rattle.std.specs.Prelude.{ℕ, ◌+◌, Bool, ◌||◌, List, get_or, Option, None, is_some, Some}
use Rattle.octets.specs.Base.{pick}
use Rattle.octets.specs.Turns.{turns}
use Rattle.octets.specs.Filled.{filled}
use Rattle.sheet_layout.specs.declared.Figures.{Figures}
use Rattle.station_symbols.specs.declared.Heard.TheVariants.{Nothing}
use Rattle.station_symbols.specs.Packet.{symbol_of}
use Rattle.station_spec.specs.declared.Stored.{Stored}
use Rattle.station_spec.specs.Transmit.{octets_held}
use Rattle.station_spec.specs.declared.Stepped.{Stepped}
use Rattle.station_spec.specs.Step.{stepped}
use Rattle.station_spec.specs.Count.{counted}
use Rattle.area.specs.Area.{clock_at, with_clock, depth_at, draw_at, figures_at, count_at, counters_at, with_counters}
use Rattle.area.specs.Area.{station_at, with_station, frame_at, buffer_at, with_bit, arrival_at, with_arrival}
use Rattle.bus_spec.specs.Medium.{pushed}
use Rattle.bus_spec.specs.declared.Events.{Events}
use Rattle.bus_spec.specs.declared.Act.{Act}

-- ---- what a station does

-- Station i in step t of area a: its step by value, from its own state, its next draw of d, what it collected and what
-- it hears; and the symbol that it emits, of the frame that it held before the step.
unfoldable pub outcome_in : Figures → (d t : ℕ) → List ℕ → ℕ → Stepped
outcome_in f d t a i = stepped f (station_at a i) d (draw_at a i (station_at a i).draw) (buffer_at a i) (arrival_at a i t)

unfoldable pub act_in : Figures → (d t : ℕ) → List ℕ → ℕ → Act
act_in f d t a i =
    record {
      outcome = outcome_in f d t a i;
      symbol =
          symbol_of (frame_at a i (octets_held (station_at a i).transmitter (station_at a i).frame))
          (outcome_in f d t a i).emission;
    }

-- in the next step of area a
unfoldable pub act_at : List ℕ → ℕ → Act
act_at a i = act_in (figures_at a) (depth_at a) (clock_at a) a i

-- ---- what it leaves in area x

-- the bit that it collected
abbrev pub with_stored : ℕ → Option Stored → List ℕ → List ℕ
with_stored i None x = x
with_stored i (Some s) x = with_bit x i s.bit s.one

-- its counters, where there is anything to count
unfoldable pub happened : Stepped → Bool
happened o = o.start || (is_some o.sent || is_some o.got)

unfoldable pub with_counted : ℕ → Stepped → List ℕ → List ℕ
with_counted i o x = pick (happened o) (with_counters x i (counted (counters_at x i) o)) x

-- its record, its counters, the bit; and what reached it in step t is taken from its line
unfoldable pub placed : (t i : ℕ) → Stepped → List ℕ → List ℕ
placed t i o x = with_arrival (with_stored i o.stored (with_counted i o (with_station x i o.station))) i t Nothing

unfoldable pub settled : (n t i : ℕ) → Act → List ℕ → List ℕ
settled n t i r x = pushed n t i r.symbol (placed t i r.outcome x)

-- ---- the step

-- each station in turn acts as it does in a, the area before the step; the clock goes on
unfoldable pub step_area : List ℕ → List ℕ
step_area a = with_clock (turns (λ i x. settled (count_at a) (clock_at a) i (act_at a i) x) (count_at a) a) (clock_at a + 1)

-- "A step answers for each station at most one transmit and one receive event"; the places after the last station have
-- none
abbrev pub events_of : Act → Events
events_of r = record { sent = r.outcome.sent; got = r.outcome.got }

abbrev pub no_events : Events
no_events = record { sent = None; got = None }

-- those of station i
abbrev pub event_at : List Events → ℕ → Events
event_at es i = get_or es i no_events

unfoldable pub events_at : List ℕ → List Events
events_at a = filled no_events (λ i. events_of (act_at a i)) (count_at a)

-- ---- the same in parts, for the code

-- the first k of n stations have had their turn, and their events
unfoldable pub turned_in : Figures → (d n t : ℕ) → List ℕ → (k : ℕ) → List ℕ
turned_in f d n t a k = turns (λ i x. settled n t i (act_in f d t a i) x) k a

unfoldable pub events_in : Figures → (d t : ℕ) → List ℕ → (k : ℕ) → List Events
events_in f d t a k = filled no_events (λ i. events_of (act_in f d t a i)) k

-- all turns, and the clock
unfoldable pub advanced_in : Figures → (d n t : ℕ) → List ℕ → List ℕ
advanced_in f d n t a = with_clock (turned_in f d n t a n) (t + 1)

-- one station's turn in place: it acts from x, which the stations before it have changed already
unfoldable pub turn_in : Figures → (d n t i : ℕ) → List ℕ → List ℕ
turn_in f d n t i x = settled n t i (act_in f d t x i) x
