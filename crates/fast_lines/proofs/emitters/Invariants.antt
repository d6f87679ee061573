-- `fast_lines::emitters` meets its contract. Assumes nothing.
use Prim.Native.Nat.{◌≤◌}
use mathlib.Core.Path.{◌≡◌}
use lib.ListN.{length}
use Rattle.octets.specs.Filled.{filled}
use Rattle.fast_lines.specs.declared.Emitter.TheVariants.{Silent}
use Rattle.fast_lines.specs.Lines.{emitter_at}
use Rattle.fast_lines.proofs.emitters.Given as goal

abbrev pub invariant-loop-i : goal.invariant-loop-i
invariant-loop-i l = (l.i ≤ l.n) × (length l.all ≡ 16) × (l.all ≡ filled Silent (emitter_at l.area) l.i)
