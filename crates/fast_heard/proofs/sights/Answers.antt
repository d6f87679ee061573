-- `fast_heard::sights` meets its contract. Assumes nothing.
use native.Mathlib.Omega.{arith}
use Rattle.octets.specs.Filled.{filled_none, filled_more}
use Rattle.fast_heard.specs.NearLaws.{lists_front}
use Rattle.fast_heard.specs.SightLaws.{sights_end}
use Rattle.fast_heard.proofs.sights.Goals as goal

pub loop-j-init : goal.loop-j-init
loop-j-init c = search filled_none

pub see-requires : goal.see-requires
see-requires c = (omega arith, omega arith, omega arith, lists_front _ _ _ _ (omega arith) c.emitters-count.ensures.lists)

pub loop-j-preserved : goal.loop-j-preserved
loop-j-preserved c = search filled_more

pub returns : goal.returns
returns c = search sights_end
