-- The invariants and measures of `fast_line::go_on`.
use Prim.Native.Nat.{◌≤◌, ◌-◌}
use Rattle.fast_line.specs.Line.{kind_number, AllOf}
use Rattle.fast_line.proofs.go_on.Given as goal

abbrev pub invariant-loop-k : goal.invariant-loop-k
invariant-loop-k l = (l.k ≤ l.m) × AllOf l.area l.j l.p (kind_number l.kind) l.k

abbrev pub decreases-loop-k : goal.decreases-loop-k
decreases-loop-k l = l.m - l.k
