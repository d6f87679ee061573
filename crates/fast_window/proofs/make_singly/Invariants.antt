use Rattle.bus_spec.specs.RunLaws.{Runnable}
use Rattle.fast_plan.specs.Plan.{steps}
use lib.ListN.{length}
use mathlib.Core.Path.{◌≡◌}
use Prim.Native.Nat.{◌≤◌, ◌-◌}
use Rattle.fast_window.proofs.make_singly.Given as goal

abbrev pub invariant-loop-s : goal.invariant-loop-s
invariant-loop-s l = (l._s ≤ l.r) × (length l.area ≡ length l.initial.area) × (l.area ≡ steps l._s l.initial.area) × Runnable (l.r - l._s) l.area
