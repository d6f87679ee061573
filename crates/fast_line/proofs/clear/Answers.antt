-- `fast_line::clear` meets its contract. Assumes nothing.
use native.Mathlib.Omega.{arith}
use Rattle.fast_line.specs.LineLaws.{cleared_none, cleared_rows, cleared_end}
use Rattle.fast_line.proofs.clear.Goals as goal

pub loop-s-init : goal.loop-s-init
loop-s-init c = (omega arith, search cleared_none)

pub loop-s-preserved : goal.loop-s-preserved
loop-s-preserved c = (omega arith, search cleared_rows)

pub returns : goal.returns
returns c = search cleared_end
