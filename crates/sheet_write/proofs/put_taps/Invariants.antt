-- `sheet_write::put_taps` meets its contract. Assumes nothing.
use lib.Seq.{sets}
use lib.ListN.{length}
use mathlib.Core.Path.{◌≡◌}
use Prim.Native.Nat.{◌*◌}
use Rattle.sheet_write.specs.Write.{taps_octets}
use Rattle.sheet_write.proofs.put_taps.Given as goal

abbrev pub invariant-loop-i : goal.invariant-loop-i
invariant-loop-i l =
    (length (taps_octets l.y l.i) ≡ 7 * l.i)
    × (l.out ≡ sets l.initial.out l.at (taps_octets l.y l.i))
