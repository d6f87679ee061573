-- `sheet_check::lay_out` meets its contract. Assumes nothing.
use native.Mathlib.Omega.{arith}
use borrow.Author.Rules.{rules}
use Prim.Native.Nat.{◌-◌}
use mathlib.Core.Path.{refl}
use lib.ListN.{length-set}
use Rattle.sheet_check.specs.PlainLaws.{laid_none, laid_more, laid_end}
use Rattle.sheet_check.proofs.lay_out.Goals as goal

pub loop-i-init : goal.loop-i-init
loop-i-init c = (omega arith, omega arith, omega arith, search laid_none)

pub loop-i-preserved : goal.loop-i-preserved
loop-i-preserved c = (
  omega arith,
  simp length-set (search rules),
  simp length-set (search rules),
  laid_more _ _ _ _ _ _ (omega arith)
      (omega arith) refl c.number.ensures.value c.number.ensures.octets c.number.ensures.six
      c.loop-i.invariant.3,
)

pub returns : goal.returns
returns c = search laid_end
