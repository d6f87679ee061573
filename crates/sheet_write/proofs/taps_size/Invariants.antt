-- `sheet_write::taps_size` meets its contract. Assumes nothing.
use lib.ListN.{length}
use mathlib.Core.Path.{◌≡◌}
use Prim.Native.Nat.{◌*◌}
use Rattle.sheet_write.specs.Write.{taps_octets}
use Rattle.sheet_write.proofs.taps_size.Given as goal

abbrev pub invariant-loop-i : goal.invariant-loop-i
invariant-loop-i l = (l.size ≡ length (taps_octets l.y l.i)) × (l.size ≡ 7 * l.i)
