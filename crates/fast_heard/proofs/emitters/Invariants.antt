-- The invariants and measures of `fast_heard::emitters`.
use Prim.Native.Nat.{◌≤◌}
use Rattle.fast_heard.specs.Hearing.{Lists}
use Rattle.fast_heard.proofs.emitters.Given as goal

abbrev pub invariant-loop-i : goal.invariant-loop-i
invariant-loop-i l = (l.count ≤ l.i) × Lists l.area l.i l.list l.count
