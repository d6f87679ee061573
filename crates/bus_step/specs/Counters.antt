-- Reading a station's counters (document 01, refusals 1, 2, 10). The laws are in StepLaws. Assumes nothing.
use Rattle.std.specs.Prelude.{ℕ, List, [], leb, eqb, replicate, Result, Ok, Err}
use Rattle.station_state.specs.State.{counter_count}
use Rattle.octets.specs.Base.{pick, Answer, refused, accepted, refusal_number}
use Rattle.octets.specs.declared.Refusal.{Refusal}
use Rattle.area.specs.Area.{count_at, counters_at}
use Rattle.area_check.specs.Valid.{area_refusal}

-- the answer, and beside it the seventeen; all 0 with a refusal
pub record Reading : Type 0 where
  pub answer : Answer
  pub words : List ℕ

abbrev pub counters_reading : Result (List ℕ) Refusal → Reading
counters_reading (Ok ws) = record { answer = accepted []; words = ws }
counters_reading (Err e) = record { answer = refused (refusal_number e); words = replicate counter_count 0 }

unfoldable pub counters_read : List ℕ → ℕ → Reading
counters_read a i =
    pick (eqb (area_refusal a) 0)
    (pick (leb (count_at a) i) (record { answer = refused 10; words = replicate counter_count 0 })
    (record { answer = accepted []; words = counters_at a i }))
    (record { answer = refused (area_refusal a); words = replicate counter_count 0 })
