-- `bus_run::run_steps` meets its contract. Assumes nothing.
use Prim.Native.Nat.{◌*◌, ◌≤◌, ◌-◌}
use mathlib.Core.Path.{◌≡◌}
use lib.ListN.{length}
use Rattle.std.specs.Prelude.{None}
use Rattle.bus_spec.specs.Run.{run_of}
use Rattle.bus_spec.specs.RunLaws.{Runnable, NoneLate}
use Rattle.station_tally.specs.TallyLaws.{Bounded}
use Rattle.bus_run.proofs.run_steps.Given as goal

abbrev pub invariant-loop-i : goal.invariant-loop-i
invariant-loop-i g l = (l.late ≡ None) × NoneLate l.s.events l.i

abbrev pub invariant-steps : goal.invariant-steps
invariant-steps g l =
    (l.t ≤ l.n) × (length l.area ≡ length l.initial.area) × (length l.words ≡ length l.initial.words) × (l.late ≡ None) × Runnable (l.n - l.t) l.area
    × Bounded l.words (32 * l.t) × (run_of (l.n - l.t) l.t l.words l.area ≡ run_of l.n 0 l.initial.words l.initial.area)

abbrev pub decreases-steps : goal.decreases-steps
decreases-steps g l = l.n - l.t
