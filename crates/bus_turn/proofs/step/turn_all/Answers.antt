-- `bus_turn::step::turn_all` meets its contract. Assumes nothing.
use borrow.Author.Rules.{rules}
use native.Mathlib.Omega.{arith}
use mathlib.Core.Path.{refl}
use lib.ListN.{length-set}
use Rattle.bus_spec.specs.CodeLaws.{turned_none, turned_end, events_none, events_end}
use Rattle.bus_spec.proofs.ReadyTurns.{turn_able, turn_next, events_next}
use Rattle.bus_turn.specs.EventLaws.{place_blank}
use Rattle.bus_turn.proofs.step.turn_all.Goals as goal

pub loop-i-init : goal.loop-i-init
loop-i-init c = (omega arith, refl, refl, search turned_none, search events_none)

pub turn-e-requires : goal.turn-e-requires
turn-e-requires c = (omega arith, omega arith, omega arith, omega arith, search turn_able)

pub keep_events-requires : goal.keep_events-requires
keep_events-requires c = (omega arith, search place_blank)

pub loop-i-preserved : goal.loop-i-preserved
loop-i-preserved c =
    (omega arith, omega arith, rw c.keep_events.ensures (simp length-set (search rules)), search turn_next, rw c.keep_events.ensures (search events_next))

pub returns-clause-area : goal.returns-clause-area
returns-clause-area c = search turned_end

pub returns-clause-events : goal.returns-clause-events
returns-clause-events c = search events_end
