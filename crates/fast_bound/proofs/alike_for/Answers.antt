-- `fast_bound::alike_for` meets its contract. Assumes nothing.
use native.Mathlib.Omega.{arith}
use Rattle.fast_bound.specs.WindowLaws.{alike_none, alike_more}
use Rattle.fast_bound.proofs.alike_for.Goals as goal

pub loop-s-init : goal.loop-s-init
loop-s-init c = (omega arith, search alike_none)

pub loop-s-preserved : goal.loop-s-preserved
loop-s-preserved c = (omega arith, search alike_more)
