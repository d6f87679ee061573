-- `bus_quick::heard::seek_bit` meets its contract. Assumes nothing.
use Rattle.bus_quick.specs.Quick.{row_delimiter, row_longer}
use Rattle.bus_quick.proofs.heard.seek_bit.Goals as goal

pub returns-then-next-eq427 : goal.returns-then-next-eq427
returns-then-next-eq427 c = search row_delimiter

pub returns : goal.returns
returns c = search row_longer
