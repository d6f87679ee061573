-- `fast_heard::emitters` meets its contract. Assumes nothing.
use native.Mathlib.Omega.{arith}
use Rattle.fast_heard.specs.NearLaws.{lists_none, lists_on, lists_end}
use Rattle.fast_heard.proofs.emitters.Goals as goal

pub loop-i-init : goal.loop-i-init
loop-i-init c = (omega arith, search lists_none)

pub loop-i-preserved : goal.loop-i-preserved
loop-i-preserved c = (omega arith, search lists_on)

pub returns-clause-lists : goal.returns-clause-lists
returns-clause-lists c = search lists_end
