-- `bus_start::write_taps` meets its contract. Assumes nothing.
use mathlib.Core.Path.{◌≡◌}
use Rattle.bus_start.specs.Fresh.{with_taps}
use Rattle.bus_start.proofs.write_taps.Given as goal

abbrev pub invariant-loop-i : goal.invariant-loop-i
invariant-loop-i l = l.area ≡ with_taps l.taps l.i l.initial.area
