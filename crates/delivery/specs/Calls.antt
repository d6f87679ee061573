-- Lists of calls on one work area (document 01, "Demand 3, word by word"): "The list holds, in any order and number,
-- offers, single steps, runs and readings of a received frame, all on one work area, refused ones among them. .. Each
-- call gets the area as the call before left it, and nobody else writes there". Assumes nothing.
use Rattle.std.specs.Prelude.{ℕ, zero, suc, ◌+◌, ◌<◌, ◌≡◌, Bool, List, [], ◌∷◌, ◌++◌, ◌⊎◌, eqb, length, get_or, Option, Some}
use Rattle.octets.specs.Base.{pick, number_of}
use Rattle.octets.specs.NumberLaws.{Octets}
use Rattle.frame_build.specs.Build.{frame_of}
use Rattle.station_symbols.specs.declared.Heard.{Heard}
use Rattle.station_symbols.specs.declared.Heard.TheVariants.{Nothing}
use Rattle.station_spec.specs.declared.ReceiveEvent.{ReceiveEvent}
use Rattle.station_spec.specs.declared.TransmitEvent.{TransmitEvent}
use Rattle.station_spec.specs.declared.TransmitEvent.TheVariants.{Sent, GivenUp, LateEnded}
use Rattle.area.specs.Area.{clock_at, address_at, arrival_at}
use Rattle.bus_spec.specs.BitTime.{act_at, events_at, step_area, event_at}
use Rattle.bus_offer.specs.Offer.{offered}
use Rattle.bus_step.specs.Step.{stepped_once}
use Rattle.bus_spec.specs.Run.{ran, stops}

-- offer: station, destination, length/type value, data. read: station, and what the lent output holds
pub data Call : Type 0 where
  offer : (i : ℕ) (d : List ℕ) (v : ℕ) (x : List ℕ) → Call
  step : Call
  run : ℕ → Call
  read : (i : ℕ) (out : List ℕ) → Call

-- what the types of the code's arguments say: a destination is six octets, a value sixteen bits, data are octets
pub record FairOffer (d : List ℕ) (v : ℕ) (x : List ℕ) : Type 0 where
  pub six : length d ≡ 6
  pub destination : Octets d
  pub value : v < 65536
  pub payload : Octets x

abbrev pub Fair : Call → Type 0
Fair (offer i d v x) = FairOffer d v x
Fair step = Unit {0}
Fair (run n) = Unit {0}
Fair (read i out) = Unit {0}

abbrev pub AllFair : List Call → Type 0
AllFair [] = Unit {0}
AllFair (c ∷ cs) = Fair c × AllFair cs

-- The area between two calls, and beside it, of each station: how many offers it has accepted, the frame of the last of
-- them ("what the builder makes of its destination, value and data, with the offering station's own address as
-- source"), and the steps in which that frame has started.
pub record Moment : Type 0 where
  pub area : List ℕ
  pub offers : ℕ → ℕ
  pub frame : ℕ → List ℕ
  pub starts : ℕ → ℕ

-- a step made: "A frame's attempts are the steps in which it starts"
unfoldable pub next : Moment → Moment
next m =
    record {
      area = step_area m.area;
      offers = m.offers;
      frame = m.frame;
      starts = λ i. m.starts i + pick (act_at m.area i).outcome.start 1 0;
    }

-- an offer that is accepted
unfoldable pub accept : (i : ℕ) (F : List ℕ) → List ℕ → Moment → Moment
accept i F b m =
    record {
      area = b;
      offers = λ j. m.offers j + pick (eqb j i) 1 0;
      frame = λ j. pick (eqb j i) F (m.frame j);
      starts = λ j. pick (eqb j i) 0 (m.starts j);
    }

-- whether any station has a late collision in the next step
unfoldable pub late : Moment → Bool
late m = stops (events_at m.area)

-- the steps of a run: the moments before them, and the one after; it ends early after a step with a late collision
unfoldable pub run_made : ℕ → Moment → List Moment
run_made zero m = []
run_made (suc k) m = m ∷ pick (late m) [] (run_made k (next m))

unfoldable pub run_end : ℕ → Moment → Moment
run_end zero m = m
run_end (suc k) m = pick (late m) (next m) (run_end k (next m))

-- whether a call is not refused
abbrev pub taken : ℕ → Bool
taken number = eqb number 0

-- the steps that a call makes: the moment before each
unfoldable pub made : Call → Moment → List Moment
made (offer i d v x) m = []
made step m = pick (taken (number_of (stepped_once m.area).answer)) (m ∷ []) []
made (run n) m = pick (taken (number_of (ran m.area n).answer)) (run_made n m) []
made (read i out) m = []

-- and what it leaves
unfoldable pub leaves : Call → Moment → Moment
leaves (offer i d v x) m =
    pick (taken (number_of (offered m.area i d v x).answer))
    (accept i (frame_of d (address_at m.area i) v x) (offered m.area i d v x).octets m)
    m
leaves step m = pick (taken (number_of (stepped_once m.area).answer)) (next m) m
leaves (run n) m = pick (taken (number_of (ran m.area n).answer)) (run_end n m) m
leaves (read i out) m = m

-- a list of calls: the moment before each step made, in order, and what is left
unfoldable pub log : List Call → Moment → List Moment
log [] m = []
log (c ∷ cs) m = made c m ++ log cs (leaves c m)

unfoldable pub end : List Call → Moment → Moment
end [] m = m
end (c ∷ cs) m = end cs (leaves c m)

-- "A fresh start": nothing offered yet
abbrev pub begin : List ℕ → Moment
begin b = record { area = b; offers = λ i. 0; frame = λ i. []; starts = λ i. 0 }

-- ---- what a step reports: "Step t is the one made at clock t"

abbrev pub moment_at : List Moment → ℕ → Moment
moment_at T u = get_or T u (begin [])

abbrev pub sent_at : List Moment → (u i : ℕ) → Option TransmitEvent
sent_at T u i = (event_at (events_at (moment_at T u).area) i).sent

abbrev pub got_at : List Moment → (u j : ℕ) → Option ReceiveEvent
got_at T u j = (event_at (events_at (moment_at T u).area) j).got

-- an event that ends a frame, with the attempts that it carries
abbrev pub Ends : Option TransmitEvent → ℕ → Type 0
Ends v n = (v ≡ Some (Sent n)) ⊎ ((v ≡ Some (GivenUp n)) ⊎ (v ≡ Some (LateEnded n)))

-- what station j hears in it
abbrev pub hears_at : List Moment → (u j : ℕ) → Heard
hears_at T u j = arrival_at (moment_at T u).area j (clock_at (moment_at T u).area)

-- "after u and before j next hears another": j has heard no other since step u
abbrev pub QuietSince : List Moment → (u j : ℕ) → Type 0
QuietSince T u j = (s : ℕ) → u < s → s < length T → hears_at T s j ≡ Nothing
