-- `marks::find_free` meets its contract. Assumes nothing.
use Prim.Native.Nat.{◌-◌}
use mathlib.Core.Path.{◌≡◌}
use Rattle.marks.specs.Marks.{mark_count, first_from, vacant, free}
use Rattle.marks.proofs.find_free.Given as goal

abbrev pub invariant-loop-k : goal.invariant-loop-k
invariant-loop-k l = first_from (vacant l.store) l.k (mark_count - l.k) ≡ free l.store
