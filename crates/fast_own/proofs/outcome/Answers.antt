-- `fast_own::outcome` meets its contract. Assumes nothing.
use Rattle.bus_spec.specs.Ready.{able_room}
use Rattle.fast_own.proofs.outcome.Goals as goal

pub step-requires : goal.step-requires
step-requires c = search able_room
