-- `bus_quick::easy::back_on` meets its contract. Assumes nothing.
use Rattle.bus_quick.specs.Easy.{back_now}
use Rattle.bus_quick.specs.Quick.{not_taken}
use Rattle.bus_quick.proofs.easy.back_on.Goals as goal

pub returns-then-left-gt1 : goal.returns-then-left-gt1
returns-then-left-gt1 c = search back_now

pub returns : goal.returns
returns c = search not_taken
