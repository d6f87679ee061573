-- `sheet_write::map_octet` meets its contract. Assumes nothing.
use mathlib.Core.Path.{◌≡◌}
use Prim.Native.Nat.{◌-◌, ◌<◌}
use Rattle.sheet_write.specs.Write.{map_from}
use Rattle.sheet_write.proofs.map_octet.Given as goal

abbrev pub invariant-loop-k : goal.invariant-loop-k
invariant-loop-k l = (l.map ≡ map_from l.all l.k (7 - l.k)) × (l.map < 128)
