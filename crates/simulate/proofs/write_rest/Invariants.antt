-- What was written so far is the text from where the call began to where the next piece begins.
use Rattle.std.proofs.Common.{◌≡◌, ℕ, ◌+◌, ◌*◌, ◌≤◌, List, ◌++◌, length, drop}
use Rattle.std.specs.Io.KnownBytes.{Appends}
use Rattle.report_spec.specs.Printed.{printed}
use Rattle.report_theorem.specs.Whole.{pieces}
use Rattle.report_theorem.specs.Along.{Along}
use Rattle.simulate.specs.Written.{most}
use Rattle.simulate.proofs.write_rest.Given as goal

abbrev pub invariant-loop-g : goal.invariant-loop-g
invariant-loop-g g l =
    (Along l.input l.at l.g l.area) × (l.at + 2048 * pieces l.g ≤ most) × (length l.buf ≡ 2048)
    × ((d : List ℕ) × (drop l.initial.at (printed l.input) ≡ d ++ drop l.at (printed l.input))
    × Appends (g.W.Write.contents l.initial.to) (g.W.Write.contents l.to) d)

abbrev pub decreases-loop-g : goal.decreases-loop-g
decreases-loop-g g l = pieces l.g
