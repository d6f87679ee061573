-- `report_lines::put_station` meets its contract. Assumes nothing.
use Rattle.report_lines.specs.EventsLaws.{station_is}
use Rattle.report_lines.proofs.put_station.Goals as goal

pub returns-clause-text : goal.returns-clause-text
returns-clause-text c = search station_is
