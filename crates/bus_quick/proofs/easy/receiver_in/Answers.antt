-- `bus_quick::easy::receiver_in` meets its contract. Assumes nothing.
use Rattle.bus_quick.specs.Easy.{receiver_in_lem}
use Rattle.bus_quick.proofs.easy.receiver_in.Goals as goal

pub returns : goal.returns
returns c = search receiver_in_lem
