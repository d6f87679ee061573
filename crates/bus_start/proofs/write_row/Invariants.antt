-- `bus_start::write_row` meets its contract. Assumes nothing.
use mathlib.Core.Path.{◌≡◌}
use Rattle.bus_start.specs.Fresh.{with_row}
use Rattle.bus_start.proofs.write_row.Given as goal

abbrev pub invariant-loop-k : goal.invariant-loop-k
invariant-loop-k l = l.area ≡ with_row l.row l.i l.k l.initial.area
