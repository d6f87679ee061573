-- `report_whole::store_rest` meets its contract. Assumes nothing.
use mathlib.Core.Path.{◌≡◌}
use lib.ListN.{length, drop}
use lib.Seq.{sets}
use Rattle.report_spec.specs.Printed.{printed}
use Rattle.report_spec.specs.Pieces.{remaining}
use Rattle.report_theorem.specs.Whole.{pieces}
use Rattle.report_theorem.specs.Along.{Along}
use Rattle.report_whole.proofs.store_rest.Given as goal

abbrev pub invariant-loop-g : goal.invariant-loop-g
invariant-loop-g l =
    (Along l.input l.at l.g l.area) × (length l.buf ≡ 2048) × (length l.area ≡ length l.initial.area) × (length l.out ≡ length l.initial.out)
    × ((remaining l.input l.g l.area).octets ≡ (remaining l.input l.initial.g l.initial.area).octets)
    × (sets l.out l.at (drop l.at (printed l.input)) ≡ sets l.initial.out l.at-2 (drop l.at-2 (printed l.input)))

abbrev pub decreases-loop-g : goal.decreases-loop-g
decreases-loop-g l = pieces l.g
