-- What the run program prints for an input (document 01, "The run program"): one function from octets to octets, and
-- the area that the run leaves. l is the input. Assumes nothing.
use Rattle.std.specs.Prelude.{ℕ, zero, suc, ◌+◌, Bool, ◌&&◌, List, [], ◌++◌, eqb, leb, length, replicate}
use Rattle.octets.specs.Base.{pick, Outcome, number_of}
use Rattle.sheet_layout.specs.declared.Layout.{Layout}
use Rattle.sheet_layout.specs.Layout.{fits_well}
use Rattle.area.specs.Offsets.{area_size}
use Rattle.area.specs.Area.{clock_at}
use Rattle.bus_start.specs.Fresh.{fresh}
use Rattle.bus_spec.specs.BitTime.{events_at, step_area}
use Rattle.bus_offer.specs.Offer.{offered}
use Rattle.bus_spec.specs.Run.{stops}
use Rattle.report_text.specs.Text.{first_line, fit_yes, fit_no, refused_line, refused_offer, end_line}
use Rattle.report_lines.specs.Events.{step_lines}
use Rattle.plan_draws.specs.Draws.{draws_in}
use Rattle.plan_read.specs.Plan.{offer_time, offer_station, offer_destination, offer_value, offer_size, offer_data, Planned}
use Rattle.plan_read.specs.Plan.{plan_as_read}

-- ---- an offer

-- where the offer after the one at p begins
abbrev pub next_offer : List ℕ → (p : ℕ) → ℕ
next_offer l p = p + 15 + offer_size l p

-- whether the offer at p lies within the input
unfoldable pub lies : List ℕ → (p : ℕ) → Bool
lies l p = leb (p + 15) (length l) && leb (next_offer l p) (length l)

-- the offer at p, made on area a
unfoldable pub made : List ℕ → (p : ℕ) → List ℕ → Outcome
made l p a = offered a (offer_station l p) (offer_destination l p) (offer_value l p) (offer_data l p (offer_size l p))

-- "refused, it prints `time station refused n`": the line of refusal n, none where there is no refusal
unfoldable pub offer_line : List ℕ → (p n : ℕ) → List ℕ
offer_line l p n = pick (eqb n 0) [] (refused_offer (offer_time l p) (offer_station l p) n)

unfoldable pub offer_text : List ℕ → (p : ℕ) → List ℕ → List ℕ
offer_text l p a = offer_line l p (number_of (made l p a).answer)

-- what the offers made before a step leave: their lines, how many offers are left, where the next begins, the area
pub record Offers : Type 0 where
  pub text : List ℕ
  pub left : ℕ
  pub at : ℕ
  pub octets : List ℕ

abbrev pub none : (m p : ℕ) → List ℕ → Offers
none m p a = record { text = []; left = m; at = p; octets = a }

abbrev pub after : List ℕ → Offers → Offers
after s o = record { text = s ++ o.text; left = o.left; at = o.at; octets = o.octets }

-- "An offer is made, in plan order, just before the step of its time": of m offers from octet p on, those whose time is
-- the clock
unfoldable pub due_offers : List ℕ → (m p : ℕ) → List ℕ → Offers
due_offers l zero p a = none zero p a
due_offers l (suc m) p a =
    pick (eqb (offer_time l p) (clock_at a))
    (after (offer_text l p a) (due_offers l m (next_offer l p) (made l p a).octets)) (none (suc m) p a)

-- ---- the run

-- what a run comes to: its lines, and the area that it leaves
pub record Course : Type 0 where
  pub text : List ℕ
  pub octets : List ℕ

abbrev pub course : List ℕ → List ℕ → Course
course s a = record { text = s; octets = a }

-- more lines ahead of it
abbrev pub before : List ℕ → Course → Course
before s c = record { text = s ++ c.text; octets = c.octets }

-- "`end` gives the clock."
abbrev pub at_end : List ℕ → Course
at_end a = course (end_line (clock_at a)) a

-- the step that area a makes: its lines, "ahead" of which the offers' lines stand; then the rest, or where a station
-- has a late collision the end
abbrev pub step_then : List ℕ → Course → Course
step_then a rest = before (step_lines (clock_at a) (events_at a) 16) (pick (stops (events_at a)) (at_end (step_area a)) rest)

-- n bit times on area a, with m offers from octet p on. "An offer whose step never runs is not made."
unfoldable pub run_on : List ℕ → (n m p : ℕ) → List ℕ → Course
run_on l zero m p a = at_end a
run_on l (suc n) m p a =
    before (due_offers l m p a).text
    (step_then (due_offers l m p a).octets
    (run_on l n (due_offers l m p a).left (due_offers l m p a).at (step_area (due_offers l m p a).octets)))

-- ---- the whole

-- "The first line gives N and whether the layout fits, `yes` or `no`."
unfoldable pub first_text : Layout → List ℕ
first_text y = first_line y.count (pick (fits_well y) fit_yes fit_no)

-- the area of a fresh start on the plan r, over area a
unfoldable pub start_area : List ℕ → Planned → List ℕ → List ℕ
start_area l r a = fresh r.layout r.depth (draws_in l r.drawn r.layout.count r.depth) a

-- the plan r, from a fresh start over area a on
unfoldable pub plan_course : List ℕ → Planned → List ℕ → Course
plan_course l r a = before (first_text r.layout) (run_on l r.times r.offers r.first (start_area l r a))

-- "A refused input prints `refused n`." The area is then as it was.
unfoldable pub input_course : List ℕ → List ℕ → Course
input_course l a =
    pick (eqb (number_of (plan_as_read l).answer) 0) (plan_course l (plan_as_read l) a)
    (course (refused_line (number_of (plan_as_read l).answer)) a)

-- an area of zeros, as long as one must be
abbrev pub zeros : List ℕ
zeros = replicate area_size 0

-- what is printed: the same whatever area of that length the run is made on (Whole)
unfoldable pub printed : List ℕ → List ℕ
printed l = (input_course l zeros).text
