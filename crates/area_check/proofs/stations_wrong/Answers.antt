-- `area_check::stations_wrong` meets its contract. Assumes nothing.
use Rattle.octets.specs.BaseLaws.{some_hit}
use Rattle.area_check.proofs.stations_wrong.Goals as goal

pub returns-then-station_wrong : goal.returns-then-station_wrong
returns-then-station_wrong c = search some_hit
