-- `fast_search::stations_rest` meets its contract. Assumes nothing.
use Rattle.fast_search.specs.SearchLaws.{stations_few}
use Rattle.fast_search.proofs.stations_rest.Goals as goal

pub returns-then-left-lt5 : goal.returns-then-left-lt5
returns-then-left-lt5 c = search stations_few
