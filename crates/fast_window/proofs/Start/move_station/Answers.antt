use Rattle.fast_window.specs.MovedLaws.{station_moved}
use Rattle.fast_window.proofs.Start.move_station.Goals as goal

-- src/lib.rt:84:1
pub returns : goal.returns
returns c = search station_moved
