-- `bus_turn::turn` meets its contract. Assumes nothing.
use Rattle.bus_quick.specs.Easy.{rests_area, rests_events, no_events_lem, still_able, still_turn, still_events}
use Rattle.bus_quick.specs.Quick.{taken_area}
use native.Mathlib.Omega.{arith}
use Rattle.bus_turn.proofs.turn.Goals as goal

pub returns-then-rests-clause-area : goal.returns-then-rests-clause-area
returns-then-rests-clause-area c = search rests_area

pub returns-then-rests-clause-events : goal.returns-then-rests-clause-events
returns-then-rests-clause-events c = search rests_events

pub returns-then-hearing-clause-area : goal.returns-then-hearing-clause-area
returns-then-hearing-clause-area c = search taken_area

pub returns-then-hearing-clause-events : goal.returns-then-hearing-clause-events
returns-then-hearing-clause-events c = search no_events_lem

pub work-requires-2 : goal.work-requires-2
work-requires-2 c = (
  omega arith,
  omega arith,
  omega arith,
  omega arith,
  still_able _ _ _ _ _ _ _ _
      c.hearing.ensures c.if-hearing.false
      c.requires.4,
)

pub returns-clause-area : goal.returns-clause-area
returns-clause-area c = search still_turn

pub returns-clause-events : goal.returns-clause-events
returns-clause-events c = search still_events
