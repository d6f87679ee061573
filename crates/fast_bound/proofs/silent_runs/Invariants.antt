-- `fast_bound::silent_runs` meets its contract. Assumes nothing.
use Prim.Native.Nat.{◌+◌, ◌-◌, ◌≤◌}
use Rattle.fast_bound.specs.Bound.{Underway}
use Rattle.fast_bound.proofs.silent_runs.Given as goal

abbrev pub invariant-loop-s : goal.invariant-loop-s
invariant-loop-s l = (l.s ≤ l.m) × (l.at.bits ≤ l.t + l.s) × Underway l.area l.j l.m l.s l.at

abbrev pub decreases-loop-s : goal.decreases-loop-s
decreases-loop-s l = l.m - l.s
