-- `sheet_write::map_octet` meets its contract. Assumes nothing.
use native.Mathlib.Omega.{arith}
use Rattle.sheet_write.specs.WriteLaws.{map_first, map_more, map_lower}
use Rattle.sheet_write.proofs.map_octet.Goals as goal

pub loop-k-init : goal.loop-k-init
loop-k-init c = (search map_first, omega arith)

pub loop-k-preserved : goal.loop-k-preserved
loop-k-preserved c = (search map_more, search map_lower)
