-- The text of a run handed out piece by piece, on lent octets: the input l, a work area a, and octets o for the text.
-- That the pieces are what is printed is in Whole. The laws are in PieceLaws. Assumes nothing.
use Rattle.std.specs.Prelude.{ℕ, zero, suc, ◌+◌, ◌-◌, min, Bool, true, false, not, List, [], ◌∷◌, ◌++◌, eqb, ltb, length, get_or, take, drop, Result, Ok, Err}
use Rattle.std.proofs.lemmas.List.Edits.{sets}
use Rattle.octets.specs.Base.{pick, Answer, refused, accepted, answer_by, number_of, values_of}
use Rattle.octets.specs.declared.Refusal.{Refusal}
use Rattle.area.specs.Offsets.{area_size}
use Rattle.area.specs.Area.{clock_at}
use Rattle.area_check.specs.Valid.{area_refusal}
use Rattle.bus_spec.specs.Run.{stops}
use Rattle.bus_spec.specs.Until.{Stretched, until_event}
use Rattle.report_text.specs.Text.{refused_line, end_line}
use Rattle.report_lines.specs.Events.{step_lines}
use Rattle.plan_read.specs.Plan.{offer_time, Planned, plan_as_read}
use Rattle.report_spec.specs.declared.Progress.{Progress}
use Rattle.report_spec.specs.declared.Handed.{Handed}
use Rattle.report_spec.specs.Printed.{next_offer, lies, made, offer_text, Course, course, run_on, first_text}
use Rattle.report_spec.specs.Printed.{start_area}
use Rattle.sheet_layout.specs.Limits.{last_clock}

-- ---- the next piece

-- what a piece leaves: its text, where the run stands, the area
pub record Moved : Type 0 where
  pub text : List ℕ
  pub progress : Progress
  pub octets : List ℕ

abbrev pub moved : List ℕ → Progress → List ℕ → Moved
moved s g a = record { text = s; progress = g; octets = a }

abbrev pub standing : (at offers times : ℕ) (ended : Bool) → Progress
standing at offers times ended = record { at = at; offers = offers; times = times; ended = ended }

-- whether the next offer is due
unfoldable pub is_due : List ℕ → Progress → List ℕ → Bool
is_due l g a = pick (eqb g.offers 0) false (eqb (offer_time l g.at) (clock_at a))

-- the steps that may be made before the next offer
unfoldable pub span_of : List ℕ → Progress → List ℕ → ℕ
span_of l g a =
    pick (eqb g.offers 0) g.times
    (pick (ltb (clock_at a) (offer_time l g.at)) (min (offer_time l g.at - clock_at a) g.times) g.times)

-- no bit times are left: the last line
unfoldable pub last_piece : Progress → List ℕ → Moved
last_piece g a = moved (end_line (clock_at a)) (standing g.at g.offers 0 true) a

-- the next offer is made
unfoldable pub offer_piece : List ℕ → Progress → List ℕ → Moved
offer_piece l g a =
    moved (offer_text l g.at a) (standing (next_offer l g.at) (g.offers - 1) g.times false)
    (made l g.at a).octets

-- the bit times left of n: none after a late collision
unfoldable pub times_left : (n : ℕ) → Stretched → ℕ
times_left n s = pick (stops s.events) 0 (n - s.steps)

-- steps are made, and the last one's lines handed out
unfoldable pub stretch_piece : Progress → Stretched → Moved
stretch_piece g s =
    moved (step_lines (clock_at s.octets - 1) s.events 16)
    (standing g.at g.offers (times_left g.times s) false) s.octets

abbrev pub step_piece : List ℕ → Progress → List ℕ → Moved
step_piece l g a = stretch_piece g (until_event (span_of l g a) a)

-- after the last line there is nothing
unfoldable pub move : List ℕ → Progress → List ℕ → Moved
move l g a =
    pick g.ended (moved [] g a) (pick (eqb g.times 0) (last_piece g a)
    (pick (is_due l g a) (offer_piece l g a) (step_piece l g a)))

-- ---- what is handed out

-- what a call leaves: its answer, where the run stands, the area, the lent output
pub record Hand : Type 0 where
  pub answer : Answer
  pub progress : Progress
  pub octets : List ℕ
  pub out : List ℕ

-- of a call that hands out a piece, by its octets
abbrev pub piece_answer : Result Handed Refusal → Answer
piece_answer r = answer_by (λ h. h.size ∷ []) r

-- where the run stands after a call at g: a refused call leaves it where it stood
abbrev pub standing_after : Progress → Result Handed Refusal → Progress
standing_after g (Ok r) = r.progress
standing_after g (Err e) = g

abbrev pub handing : Progress → Result Handed Refusal → (a o : List ℕ) → Hand
handing g r a o = record { answer = piece_answer r; progress = standing_after g r; octets = a; out = o }

abbrev pub handed : Handed → (a o : List ℕ) → Hand
handed r a o = record { answer = accepted (r.size ∷ []); progress = r.progress; octets = a; out = o }

-- a piece, at the front of the output
abbrev pub given : (o : List ℕ) → Moved → Hand
given o m =
    record {
      answer = accepted (length m.text ∷ []);
      progress = m.progress;
      octets = m.octets;
      out = sets o 0 m.text;
    }

abbrev pub withheld : (n : ℕ) → Progress → (a o : List ℕ) → Hand
withheld n g a o = record { answer = refused n; progress = g; octets = a; out = o }

-- no piece is longer
abbrev pub piece_room : ℕ
piece_room = 2048

-- whether an offer is left and does not lie within the input
unfoldable pub offer_short : List ℕ → Progress → Bool
offer_short l g = pick (eqb g.offers 0) false (not (lies l g.at))

-- 2, 13 ("Clock plus the bit times asked"), 15 ("The lent output is too short"), 16 ("The plan .. is short")
unfoldable pub move_refusal : List ℕ → (a : List ℕ) (room : ℕ) → Progress → ℕ
move_refusal l a room g =
    pick (eqb (area_refusal a) 0)
    (pick (ltb last_clock (clock_at a + g.times)) 13 (pick (ltb room piece_room) 15 (pick (offer_short l g) 16 0)))
    (area_refusal a)

-- on an area of just the octets that one must have
unfoldable pub advanced_on : List ℕ → (a o : List ℕ) → Progress → Hand
advanced_on l a o g =
    pick (eqb (move_refusal l a (length o) g) 0) (given o (move l g a)) (withheld (move_refusal l a (length o) g) g a o)

-- of a longer area the octets after those stay
abbrev pub on_front : (a : List ℕ) → Hand → Hand
on_front a h = record { answer = h.answer; progress = h.progress; octets = h.octets ++ drop area_size a; out = h.out }

unfoldable pub advanced : List ℕ → (a o : List ℕ) → Progress → Hand
advanced l a o g = pick (ltb (length a) area_size) (withheld 1 g a o) (on_front a (advanced_on l (take area_size a) o g))

-- ---- the first piece

abbrev pub no_progress : Progress
no_progress = standing 0 0 0 true

-- the first line, and a fresh start
unfoldable pub start_piece : List ℕ → Planned → List ℕ → Moved
start_piece l r a = moved (first_text r.layout) (standing r.first r.offers r.times false) (start_area l r a)

unfoldable pub first_piece : List ℕ → List ℕ → Moved
first_piece l a =
    pick (eqb (number_of (plan_as_read l).answer) 0) (start_piece l (plan_as_read l) a)
    (moved (refused_line (number_of (plan_as_read l).answer)) no_progress a)

unfoldable pub begun : List ℕ → (a o : List ℕ) → Hand
begun l a o =
    pick (ltb (length a) area_size) (withheld 1 no_progress a o)
    (pick (ltb (length o) piece_room) (withheld 15 no_progress a o)
    (on_front a (given o (first_piece l (take area_size a)))))

-- ---- what is still to come

unfoldable pub remaining : List ℕ → Progress → List ℕ → Course
remaining l g a = pick g.ended (course [] a) (run_on l g.times g.offers g.at a)

-- ---- what a caller gets who goes on to the end, each call on the area and the output as the call before left them

-- the octets of the piece
abbrev pub piece_of : Hand → List ℕ
piece_of h = take (get_or (values_of h.answer) 0 0) h.out

-- the pieces of a call and of at most n − 1 calls of `advance` after it
unfoldable pub told : (n : ℕ) → List ℕ → Hand → List ℕ
told zero l h = []
told (suc n) l h = piece_of h ++ pick h.progress.ended [] (told n l (advanced l h.octets h.out h.progress))
