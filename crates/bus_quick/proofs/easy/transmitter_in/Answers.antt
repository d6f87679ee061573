-- `bus_quick::easy::transmitter_in` meets its contract. Assumes nothing.
use Rattle.bus_quick.specs.Easy.{transmitter_in_lem}
use Rattle.bus_quick.proofs.easy.transmitter_in.Goals as goal

pub returns : goal.returns
returns c = search transmitter_in_lem
