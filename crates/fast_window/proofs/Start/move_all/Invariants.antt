use Prim.Native.Nat.{◌≤◌}
use mathlib.Core.Path.{◌≡◌}
use lib.ListN.{length}
use Rattle.fast_plan.specs.Exact.{own_all}
use Rattle.fast_heard.specs.Hearing.{plan_of}
use Rattle.fast_window.proofs.Start.move_all.Given as goal

abbrev pub invariant-loop-j : goal.invariant-loop-j
invariant-loop-j l =
    (length l.area ≡ length l.initial.area) × (l.area ≡ own_all l.initial.area (plan_of l.initial.area) l.m l.j l.initial.area)
