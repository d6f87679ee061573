-- `station_tally::count_got` meets its contract. Assumes nothing.
use Rattle.station_tally.specs.TallyLaws.{got_counted_lem}
use Rattle.station_tally.proofs.count_got.Goals as goal

pub returns : goal.returns
returns c = search got_counted_lem
