use Rattle.fast_lines.specs.Lines.{plan_by}
use Rattle.fast_plan.specs.Push.{ways_to}
use lib.ListN.{length}
use mathlib.Core.Path.{◌≡◌}
use Prim.Native.Nat.{◌≤◌}
use Rattle.fast_lines.proofs.push_all.Given as goal

abbrev pub invariant-loop-i : goal.invariant-loop-i
invariant-loop-i l =
    (l.i ≤ l.n) × (length l.area ≡ length l.initial.area) × (l.area ≡ ways_to l.initial.area (plan_by l.initial.area l.from) l.steps l.j l.i l.initial.area)
