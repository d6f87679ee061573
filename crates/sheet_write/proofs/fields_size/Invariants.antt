-- `sheet_write::fields_size` meets its contract. Assumes nothing.
use lib.ListN.{length}
use mathlib.Core.Path.{◌≡◌}
use Prim.Native.Nat.{◌*◌, ◌≤◌}
use Rattle.sheet_write.specs.Write.{fields_octets}
use Rattle.sheet_write.proofs.fields_size.Given as goal

abbrev pub invariant-loop-k : goal.invariant-loop-k
invariant-loop-k l = (l.size ≡ length (fields_octets l.all l.k)) × (l.size ≤ 2 * l.k)
