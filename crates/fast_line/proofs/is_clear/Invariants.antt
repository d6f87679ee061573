-- `fast_line::is_clear` meets its contract. Assumes nothing.
use mathlib.Core.Path.{◌≡◌}
use mathlib.Core.Bool.{not}
use lib.Dec.{eqb}
use Rattle.octets.specs.Base.{some}
use Rattle.fast_line.specs.Line.{in_use}
use Rattle.fast_line.proofs.is_clear.Given as goal

abbrev pub invariant-loop-u : goal.invariant-loop-u
invariant-loop-u l = some (in_use l.area l.j) l.u ≡ not (eqb l.all 0)
