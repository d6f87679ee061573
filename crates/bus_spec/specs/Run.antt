-- A run of n bit times (document 01: "A run of n bit times ends early after the first step in which any station has a
-- late collision. .. a run answers the steps made and how many events of each word came"; refusals 1, 2, 13). The laws
-- are in RunLaws. Assumes nothing.
use Rattle.std.specs.Prelude.{ℕ, zero, suc, ◌+◌, Bool, List, [], ltb, eqb, replicate, Option, Some, None, Result, Ok, Err}
use Rattle.octets.specs.Base.{pick, some, Answer, refused, accepted, refusal_number}
use Rattle.octets.specs.declared.Refusal.{Refusal}
use Rattle.octets.specs.Turns.{turns}
use Rattle.station_tally.specs.Tally.{sent_counted, got_counted}
use Rattle.area.specs.Area.{clock_at}
use Rattle.area_check.specs.Valid.{area_refusal}
use Rattle.bus_spec.specs.declared.Events.{Events}
use Rattle.bus_spec.specs.BitTime.{event_at, events_at, step_area}
use Rattle.bus_spec.specs.declared.course.LateEnd.{LateEnd}
use Rattle.bus_spec.specs.declared.course.Course.{Course}
use Rattle.bus_spec.specs.declared.course.RunAnswer.{RunAnswer}
use Rattle.sheet_layout.specs.Limits.{last_clock}
use Rattle.station_tally.specs.Words.{ends_run, word_count}

-- ---- counting

-- those of the first n stations
unfoldable pub tallied : List Events → ℕ → List ℕ → List ℕ
tallied es n ws = turns (λ i x. got_counted (sent_counted x (event_at es i).sent) (event_at es i).got) n ws

-- ---- the early end

unfoldable pub late_at : List Events → ℕ → Bool
late_at es i = ends_run (event_at es i).sent

-- a step with these events ends a run
abbrev pub stops : List Events → Bool
stops es = some (late_at es) 16

-- the first number below n that passes the test
unfoldable pub first : (ℕ → Bool) → ℕ → ℕ
first t zero = 0
first t (suc n) = pick (some t n) (first t n) n

-- ---- the run

-- a late collision of this station in this step
abbrev pub late_in : ℕ → ℕ → LateEnd
late_in m i = record { step = m; station = i }

-- what a run leaves: its answer, the steps made, the words, the late collision that ended it, if one did, the area
pub record Ran : Type 0 where
  pub answer : Answer
  pub steps : ℕ
  pub words : List ℕ
  pub ended : Option LateEnd
  pub octets : List ℕ

-- At most k steps more, one after the other, where m have been made already: each counted, the one with a late
-- collision among them.
unfoldable pub run_of : ℕ → (m : ℕ) (ws : List ℕ) (a : List ℕ) → Ran
run_of zero m ws a = record { answer = accepted []; steps = m; words = ws; ended = None; octets = a }
run_of (suc k) m ws a =
    pick (stops (events_at a))
    (record {
      answer = accepted [];
      steps = m + 1;
      words = tallied (events_at a) 16 ws;
      ended = Some (late_in m (first (late_at (events_at a)) 16));
      octets = step_area a;
    })
    (run_of k (m + 1) (tallied (events_at a) 16 ws) (step_area a))

abbrev pub course_of : Course → (ws a : List ℕ) → Ran
course_of r ws a = record { answer = accepted []; steps = r.steps; words = ws; ended = r.late; octets = a }

abbrev pub unrun : ℕ → List ℕ → Ran
unrun k a = record { answer = refused k; steps = 0; words = replicate word_count 0; ended = None; octets = a }

abbrev pub run_outcome : Result RunAnswer Refusal → List ℕ → Ran
run_outcome (Ok r) a = record { answer = accepted []; steps = r.steps; words = r.words; ended = r.late; octets = a }
run_outcome (Err e) a = unrun (refusal_number e) a

-- "13. Clock plus the bit times asked exceeds 16,777,216."
unfoldable pub ran : List ℕ → ℕ → Ran
ran a n =
    pick (eqb (area_refusal a) 0)
    (pick (ltb last_clock (clock_at a + n)) (unrun 13 a) (run_of n 0 (replicate word_count 0) a))
    (unrun (area_refusal a) a)
