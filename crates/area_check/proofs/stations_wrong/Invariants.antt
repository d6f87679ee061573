-- `area_check::stations_wrong` meets its contract. Assumes nothing.
use mathlib.Core.Path.{◌≡◌}
use mathlib.Core.Bool.{false}
use Rattle.octets.specs.Base.{some}
use Rattle.area_check.specs.Valid.{station_wrong}
use Rattle.area_check.proofs.stations_wrong.Given as goal

abbrev pub invariant-loop-i : goal.invariant-loop-i
invariant-loop-i l = some (station_wrong l.area) l.i ≡ false
