-- `fast_jump::rest_all` meets its contract. Assumes nothing.
use Rattle.fast_jump.specs.JumpLaws.{all_none, all_more, all_end}
use Rattle.fast_jump.proofs.rest_all.Goals as goal

pub loop-i-init : goal.loop-i-init
loop-i-init c = search all_none

pub loop-i-preserved : goal.loop-i-preserved
loop-i-preserved c = search all_more

pub returns : goal.returns
returns c = search all_end
