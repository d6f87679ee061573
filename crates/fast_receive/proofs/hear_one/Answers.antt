-- `fast_receive::hear_one` meets its contract. Assumes nothing.
use Rattle.fast_receive.specs.CodeLaws.{one_range}
use Rattle.fast_receive.proofs.hear_one.Goals as goal

pub returns-clause-range : goal.returns-clause-range
returns-clause-range c = search one_range
