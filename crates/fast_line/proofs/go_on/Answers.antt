-- `fast_line::go_on` meets its contract. Assumes nothing.
use native.Mathlib.Omega.{arith}
use Rattle.fast_line.specs.LineLaws.{alike_more}
use Rattle.fast_line.proofs.go_on.Goals as goal

pub loop-k-preserved : goal.loop-k-preserved
loop-k-preserved c = (omega arith, search alike_more)
