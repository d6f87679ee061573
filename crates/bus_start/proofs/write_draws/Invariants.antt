-- `bus_start::write_draws` meets its contract. Assumes nothing.
use mathlib.Core.Path.{◌≡◌}
use Rattle.bus_start.specs.Fresh.{with_draws}
use Rattle.bus_start.proofs.write_draws.Given as goal

abbrev pub invariant-loop-i : goal.invariant-loop-i
invariant-loop-i l = l.area ≡ with_draws l.draws l.i l.depth l.initial.area
