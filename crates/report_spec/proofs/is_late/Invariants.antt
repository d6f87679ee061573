-- `report_spec::is_late` meets its contract. Assumes nothing.
use Rattle.std.proofs.Common.{◌≡◌, false}
use Rattle.octets.specs.Base.{some}
use Rattle.bus_spec.specs.Run.{late_at}
use Rattle.report_spec.proofs.is_late.Given as goal

abbrev pub invariant-loop-e : goal.invariant-loop-e
invariant-loop-e l = some (late_at l.fn.events) l.e-index ≡ false
