use Rattle.fast_lines.specs.Lines.{plan_by, AllCoded}
use Rattle.fast_plan.specs.Placed.{lines_done}
use lib.ListN.{length}
use mathlib.Core.Path.{◌≡◌}
use Prim.Native.Nat.{◌≤◌}
use Rattle.fast_lines.proofs.settle_with.Given as goal

abbrev pub invariant-loop-j : goal.invariant-loop-j
invariant-loop-j l =
    (l.j ≤ l.n) × (length l.area ≡ length l.initial.area) × (l.area ≡ lines_done l.initial.area (plan_by l.initial.area l.from) l.steps l.j l.initial.area)
    × AllCoded l.codes l.steps l.from l.initial.area l.n
