-- `marks::find` meets its contract. Assumes nothing.
use Prim.Native.Nat.{◌-◌}
use mathlib.Core.Path.{◌≡◌}
use Rattle.marks.specs.Marks.{mark_count, first_from, named, found}
use Rattle.marks.proofs.find.Given as goal

abbrev pub invariant-loop-k : goal.invariant-loop-k
invariant-loop-k l = first_from (named l.store l.name) l.k (mark_count - l.k) ≡ found l.store l.name
