-- `bus_turn::step::turn_all` meets its contract. Assumes nothing.
use Prim.Native.Nat.{◌≤◌}
use mathlib.Core.Path.{◌≡◌}
use lib.ListN.{length}
use Rattle.bus_spec.specs.BitTime.{turned_in, events_in}
use Rattle.bus_turn.proofs.step.turn_all.Given as goal

abbrev pub invariant-loop-i : goal.invariant-loop-i
invariant-loop-i l =
    (l.i ≤ l.n) × (length l.area ≡ length l.initial.area) × (length l.all ≡ 16) × (l.area ≡ turned_in l.f l.depth l.n l.t l.initial.area l.i)
    × (l.all ≡ events_in l.f l.depth l.t l.initial.area l.i)
