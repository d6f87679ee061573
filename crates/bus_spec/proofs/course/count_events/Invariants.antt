-- `bus_spec::course::count_events` meets its contract. Assumes nothing.
use Prim.Native.Nat.{◌+◌, ◌*◌, ◌≤◌}
use mathlib.Core.Path.{◌≡◌}
use lib.ListN.{length}
use Rattle.bus_spec.specs.Run.{tallied}
use Rattle.station_tally.specs.TallyLaws.{Bounded}
use Rattle.sheet_layout.specs.Limits.{max_stations}
use Rattle.bus_spec.proofs.course.count_events.Given as goal

abbrev pub invariant-loop-i : goal.invariant-loop-i
invariant-loop-i l =
    (l.i ≤ max_stations) × (length l.words ≡ length l.initial.words) × (l.words ≡ tallied l.events l.i l.initial.words) × Bounded l.words (l.top + 2 * l.i)
