-- `station_tally::count` meets its contract. Assumes nothing.
use native.Mathlib.Omega.{arith}
use Rattle.station_tally.specs.TallyLaws.{bump_room, counted_none, counted_some}
use Rattle.station_tally.proofs.count.Goals as goal

pub overflow_add-words : goal.overflow_add-words
overflow_add-words c = omega (arith, bump_room _ c.place.result _ c.requires.1 c.requires.2)

pub returns-in-Some : goal.returns-in-Some
returns-in-Some c = search counted_some

pub returns-in_default : goal.returns-in_default
returns-in_default c = search counted_none
