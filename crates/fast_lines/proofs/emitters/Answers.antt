-- `fast_lines::emitters` meets its contract. Assumes nothing.
use mathlib.Core.Path.{refl}
use lib.ListN.{length-set}
use native.Mathlib.Omega.{arith}
use borrow.Author.Rules.{rules}
use Rattle.octets.specs.Filled.{filled_none, filled_more}
use Rattle.fast_lines.specs.LinesLaws.{emitters_end}
use Rattle.fast_lines.proofs.emitters.Goals as goal

pub loop-i-init : goal.loop-i-init
loop-i-init c = (omega arith, refl, search filled_none)

pub loop-i-preserved : goal.loop-i-preserved
loop-i-preserved c = (omega arith, simp length-set (search rules), search filled_more)

pub returns : goal.returns
returns c = search emitters_end
