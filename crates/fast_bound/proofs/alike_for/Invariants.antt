-- `fast_bound::alike_for` meets its contract. Assumes nothing.
use Prim.Native.Nat.{◌-◌, ◌≤◌}
use Rattle.fast_bound.specs.Bound.{Alike}
use Rattle.fast_bound.proofs.alike_for.Given as goal

abbrev pub invariant-loop-s : goal.invariant-loop-s
invariant-loop-s l = (l.s ≤ l.m) × Alike l.area l.j l.heard l.s

abbrev pub decreases-loop-s : goal.decreases-loop-s
decreases-loop-s l = l.m - l.s
