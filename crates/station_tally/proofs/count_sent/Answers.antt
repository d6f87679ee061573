-- `station_tally::count_sent` meets its contract. Assumes nothing.
use Rattle.station_tally.specs.TallyLaws.{sent_counted_lem}
use Rattle.station_tally.proofs.count_sent.Goals as goal

pub returns : goal.returns
returns c = search sent_counted_lem
