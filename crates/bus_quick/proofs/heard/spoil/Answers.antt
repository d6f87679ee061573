-- `bus_quick::heard::spoil` meets its contract. Assumes nothing.
use Rattle.bus_quick.specs.Quick.{spoiled_not, spoiled_is}
use Rattle.bus_quick.proofs.heard.spoil.Goals as goal

pub returns-then-code-le2 : goal.returns-then-code-le2
returns-then-code-le2 c = search spoiled_not

pub returns : goal.returns
returns c = search spoiled_is
