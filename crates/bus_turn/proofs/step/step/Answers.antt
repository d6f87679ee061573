-- `bus_turn::step::step` meets its contract. Assumes nothing.
use Rattle.bus_spec.specs.Ready.{step_is}
use Rattle.bus_turn.proofs.step.step.Goals as goal

pub returns-clause-area : goal.returns-clause-area
returns-clause-area c = search step_is
