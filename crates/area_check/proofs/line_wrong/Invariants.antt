-- `area_check::line_wrong` meets its contract. Assumes nothing.
use mathlib.Core.Path.{◌≡◌}
use lib.Dec.{ltb}
use Rattle.octets.specs.Base.{some}
use Rattle.area_check.specs.Valid.{symbol_wrong}
use Rattle.area.specs.Area.{max_code}
use Rattle.area_check.proofs.line_wrong.Given as goal

abbrev pub invariant-loop-u : goal.invariant-loop-u
invariant-loop-u l = some (symbol_wrong l.area l.i) l.u ≡ ltb max_code l.top
