-- `sheet_write::put_fields` meets its contract. Assumes nothing.
use lib.Seq.{sets}
use lib.ListN.{length}
use mathlib.Core.Path.{◌≡◌}
use Prim.Native.Nat.{◌+◌, ◌*◌, ◌≤◌}
use Rattle.sheet_write.specs.Write.{fields_octets}
use Rattle.sheet_write.proofs.put_fields.Given as goal

abbrev pub invariant-loop-k : goal.invariant-loop-k
invariant-loop-k l = (l.at ≡ 1 + length (fields_octets l.all l.k)) × (l.at ≤ 1 + 2 * l.k)
    × (l.out ≡ sets l.initial.out 1 (fields_octets l.all l.k))
