-- `fast_advance::until::until_event` meets its contract. Assumes nothing.
use Prim.Native.Nat.{◌≤◌, ◌-◌}
use mathlib.Core.Path.{◌≡◌}
use lib.ListN.{length}
use Rattle.bus_spec.specs.RunLaws.{Runnable}
use Rattle.bus_spec.specs.Until.{until_event}
use Rattle.bus_spec.specs.UntilLaws.{plus}
use Rattle.fast_advance.proofs.until.until_event.Given as goal

abbrev pub invariant-loop-t : goal.invariant-loop-t
invariant-loop-t l =
    (l.t ≤ l.n) × (length l.area ≡ length l.initial.area) × Runnable (l.n - l.t) l.area
    × (plus l.t (until_event (l.n - l.t) l.area) ≡ until_event l.n l.initial.area)

abbrev pub decreases-loop-t : goal.decreases-loop-t
decreases-loop-t l = l.n - l.t
