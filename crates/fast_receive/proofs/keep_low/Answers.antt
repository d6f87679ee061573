-- `fast_receive::keep_low` meets its contract. Assumes nothing.
use Rattle.fast_receive.specs.CodeLaws.{low_kept_lem}
use Rattle.fast_receive.proofs.keep_low.Goals as goal

pub returns : goal.returns
returns c = search low_kept_lem
