-- `station_step::step` meets its contract. Assumes nothing.
use Rattle.station_spec.specs.StepLaws.{step_is}
use Rattle.station_step.proofs.step.Goals as goal

pub returns : goal.returns
returns c = search step_is
