-- `fast_bound::is_emitter` meets its contract. Assumes nothing.
use Rattle.fast_bound.specs.WindowLaws.{emitter_is}
use Rattle.fast_bound.proofs.is_emitter.Goals as goal

pub returns : goal.returns
returns c = search emitter_is
