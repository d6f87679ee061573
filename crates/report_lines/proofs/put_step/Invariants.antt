-- `report_lines::put_step` meets its contract. Assumes nothing.
use Rattle.std.proofs.Common.{◌≡◌, ◌≤◌, ◌*◌}
use Rattle.report_text.specs.Text.{written, puts}
use Rattle.report_lines.specs.Events.{step_lines}
use Rattle.report_lines.proofs.put_step.Given as goal

abbrev pub invariant-loop-i : goal.invariant-loop-i
invariant-loop-i l =
    (l.at ≤ 96 * l.i) × (written l.at l.out ≡ puts l.initial.out 0 (step_lines l.t l.fn.events l.i))
