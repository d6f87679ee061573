-- `bus_quick::easy::deference_in` meets its contract. Assumes nothing.
use Rattle.bus_quick.specs.Easy.{deference_in_lem}
use Rattle.bus_quick.proofs.easy.deference_in.Goals as goal

pub returns : goal.returns
returns c = search deference_in_lem
