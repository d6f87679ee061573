-- `bus_quick::heard::seek_on` meets its contract. Assumes nothing.
use Rattle.bus_quick.specs.Quick.{sought_bit, sought_spoiled}
use Rattle.bus_quick.proofs.heard.seek_on.Goals as goal

pub returns-then-code-le2 : goal.returns-then-code-le2
returns-then-code-le2 c = search sought_bit

pub returns : goal.returns
returns c = search sought_spoiled
