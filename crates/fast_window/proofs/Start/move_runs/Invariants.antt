use Prim.Native.Nat.{◌≤◌, ◌-◌}
use mathlib.Core.Path.{◌≡◌}
use lib.ListN.{length}
use Rattle.fast_plan.specs.Own.{by_itself}
use Rattle.fast_window.specs.Window.{heard_by}
use Rattle.fast_window.proofs.Start.move_runs.Given as goal

abbrev pub invariant-loop-s : goal.invariant-loop-s
invariant-loop-s l =
    (l.s ≤ l.m) × (length l.area ≡ length l.initial.area) × (l.area ≡ by_itself l.self.figures l.self.depth l.j (heard_by l.initial.area l.j l.self.clock l.w.near l.frame l.w.bit) l.s l.initial.area)

abbrev pub decreases-loop-s : goal.decreases-loop-s
decreases-loop-s l = l.m - l.s
