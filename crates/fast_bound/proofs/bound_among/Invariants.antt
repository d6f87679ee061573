-- `fast_bound::bound_among` meets its contract. Assumes nothing.
use Prim.Native.Nat.{◌≤◌}
use Rattle.fast_bound.specs.Bound.{CalmAmong}
use Rattle.fast_bound.proofs.bound_among.Given as goal

abbrev pub invariant-loop-j : goal.invariant-loop-j
invariant-loop-j l = (l.left ≤ l.m) × CalmAmong l.area l.emits l.j l.left
