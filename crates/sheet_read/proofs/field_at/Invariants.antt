-- `sheet_read::field_at` meets its contract. Assumes nothing.
use Prim.Native.Nat.{◌+◌, ◌*◌, ◌≤◌}
use mathlib.Core.Path.{◌≡◌}
use Rattle.sheet_read.specs.Sheet.{map_of, field_at}
use Rattle.sheet_read.proofs.field_at.Given as goal

abbrev pub invariant-loop-j : goal.invariant-loop-j
invariant-loop-j l = (l.at ≡ field_at (map_of l.s) l.j) × (l.at ≤ 1 + 2 * l.j)
