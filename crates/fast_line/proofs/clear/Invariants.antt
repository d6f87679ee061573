-- The invariants and measures of `fast_line::clear`.
use Prim.Native.Nat.{◌≤◌, ◌-◌}
use mathlib.Core.Path.{◌≡◌}
use Rattle.fast_plan.specs.Push.{cleared}
use Rattle.fast_line.proofs.clear.Given as goal

abbrev pub invariant-loop-s : goal.invariant-loop-s
invariant-loop-s l = (l.s ≤ l.m) × (l.area ≡ cleared l.t l.j l.s l.initial.area)

abbrev pub decreases-loop-s : goal.decreases-loop-s
decreases-loop-s l = l.m - l.s
