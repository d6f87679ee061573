-- `bus_quick::easy::is_plain` meets its contract. Assumes nothing.
use Rattle.bus_quick.specs.Easy.{plain_is}
use Rattle.bus_quick.proofs.easy.is_plain.Goals as goal

pub returns : goal.returns
returns c = search plain_is
