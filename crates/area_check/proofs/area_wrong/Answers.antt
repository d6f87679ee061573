-- `area_check::area_wrong` meets its contract. Assumes nothing.
use Rattle.area_check.specs.AreaCheckLaws.{wrong_layout, wrong_depth, wrong_clock, wrong_station, count_small}
use Rattle.area_check.specs.AreaCheckLaws.{gap_small, slot_small}
use native.Mathlib.Omega.{arith}
use Rattle.area_check.proofs.area_wrong.Goals as goal

pub returns-then-is_err : goal.returns-then-is_err
returns-then-is_err c = search wrong_layout

pub returns-then-out_of : goal.returns-then-out_of
returns-then-out_of c = search wrong_depth

pub returns-then-read_clock-gt-LAST_CLOCK : goal.returns-then-read_clock-gt-LAST_CLOCK
returns-then-read_clock-gt-LAST_CLOCK c = search wrong_clock

pub stations_wrong-requires-clause-n_le_max_stations : goal.stations_wrong-requires-clause-n_le_max_stations
stations_wrong-requires-clause-n_le_max_stations c = (search count_small, omega arith)

pub stations_wrong-requires-clause-area_bound : goal.stations_wrong-requires-clause-area_bound
stations_wrong-requires-clause-area_bound c = (search gap_small, search slot_small)

pub returns : goal.returns
returns c = search wrong_station
