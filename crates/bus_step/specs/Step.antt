-- A step (document 01, refusals 1, 2, 13). The laws are in StepLaws. Assumes nothing.
use Rattle.std.specs.Prelude.{ℕ, ◌+◌, List, [], ltb, eqb, replicate, Result, Ok, Err}
use Rattle.octets.specs.Base.{pick, Answer, refused, accepted, refusal_number}
use Rattle.octets.specs.declared.Refusal.{Refusal}
use Rattle.area.specs.Area.{clock_at}
use Rattle.area_check.specs.Valid.{area_refusal}
use Rattle.bus_spec.specs.declared.Events.{Events}
use Rattle.bus_spec.specs.BitTime.{no_events, events_at, step_area}
use Rattle.sheet_layout.specs.Limits.{last_clock}

-- what a step leaves: its answer, the events of each station, the area
pub record Bit : Type 0 where
  pub answer : Answer
  pub events : List Events
  pub octets : List ℕ

abbrev pub unstepped : ℕ → List ℕ → Bit
unstepped k a = record { answer = refused k; events = replicate 16 no_events; octets = a }

abbrev pub bit_time_outcome : Result (List Events) Refusal → List ℕ → Bit
bit_time_outcome (Ok es) a = record { answer = accepted []; events = es; octets = a }
bit_time_outcome (Err e) a = unstepped (refusal_number e) a

-- "13. Clock plus the bit times asked exceeds 16,777,216."
unfoldable pub stepped_once : List ℕ → Bit
stepped_once a =
    pick (eqb (area_refusal a) 0)
    (pick (ltb last_clock (clock_at a + 1)) (unstepped 13 a)
    (record { answer = accepted []; events = events_at a; octets = step_area a }))
    (unstepped (area_refusal a) a)
