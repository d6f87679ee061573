-- `report_whole::rest_fits` meets its contract. Assumes nothing.
use Prim.Native.Nat.{◌≤◌}
use mathlib.Core.Path.{◌≡◌}
use lib.ListN.{length}
use Rattle.report_theorem.specs.Whole.{pieces}
use Rattle.report_theorem.specs.Along.{Along}
use Rattle.report_whole.proofs.rest_fits.Given as goal

abbrev pub invariant-loop-g : goal.invariant-loop-g
invariant-loop-g l =
    (Along l.input l.at l.g l.area) × (l.at ≤ l.room) × (length l.buf ≡ 2048) × (length l.area ≡ length l.initial.area)

abbrev pub decreases-loop-g : goal.decreases-loop-g
decreases-loop-g l = pieces l.g
