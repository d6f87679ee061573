-- `report_lines::put_step` meets its contract. Assumes nothing.
use native.Mathlib.Omega.{arith}
use Rattle.report_lines.specs.EventsLaws.{lines_none, lines_more}
use Rattle.report_lines.proofs.put_step.Goals as goal

pub loop-i-init : goal.loop-i-init
loop-i-init c = (omega arith, search lines_none)

pub loop-i-preserved : goal.loop-i-preserved
loop-i-preserved c = (omega arith, search lines_more)
