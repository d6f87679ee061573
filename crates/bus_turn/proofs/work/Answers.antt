-- `bus_turn::work` meets its contract. Assumes nothing.
use Rattle.bus_quick.specs.Easy.{able_gap, nothing_here, no_events_lem, still_able, still_turn, still_events}
use Rattle.bus_quick.specs.Quick.{taken_area}
use native.Mathlib.Omega.{arith}
use Rattle.bus_turn.proofs.work.Goals as goal

pub waits-requires : goal.waits-requires
waits-requires c = (omega arith, omega arith, search nothing_here, search able_gap)

pub returns-then-waits-clause-area : goal.returns-then-waits-clause-area
returns-then-waits-clause-area c = search taken_area

pub returns-then-waits-clause-events : goal.returns-then-waits-clause-events
returns-then-waits-clause-events c = search no_events_lem

pub general-requires : goal.general-requires
general-requires c = (
  omega arith,
  omega arith,
  omega arith,
  omega arith,
  still_able _ _ _ _ _ _ _ _
      c.waits.ensures c.if-waits.false
      c.requires.4,
)

pub returns-then-read_symbol-eq0-clause-area : goal.returns-then-read_symbol-eq0-clause-area
returns-then-read_symbol-eq0-clause-area c = search still_turn

pub returns-then-read_symbol-eq0-clause-events : goal.returns-then-read_symbol-eq0-clause-events
returns-then-read_symbol-eq0-clause-events c = search still_events
