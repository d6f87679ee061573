use Rattle.fast_lines.specs.Lines.{AllCoded}
use lib.ListN.{length}
use mathlib.Core.Path.{◌≡◌}
use Prim.Native.Nat.{◌≤◌}
use Rattle.fast_lines.proofs.note_all.Given as goal

abbrev pub invariant-loop-i : goal.invariant-loop-i
invariant-loop-i l =
    (l.i ≤ l.n) × (length l.codes ≡ length l.initial.codes) × AllCoded l.codes l.steps l.from l.area l.i
