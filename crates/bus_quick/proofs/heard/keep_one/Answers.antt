-- `bus_quick::heard::keep_one` meets its contract. Assumes nothing.
use Rattle.bus_quick.specs.Quick.{one_kept, one_dropped}
use Rattle.bus_quick.proofs.heard.keep_one.Goals as goal

pub returns-then-m-lt-BUFFER_BITS : goal.returns-then-m-lt-BUFFER_BITS
returns-then-m-lt-BUFFER_BITS c = search one_kept

pub returns-else-m-lt-BUFFER_BITS : goal.returns-else-m-lt-BUFFER_BITS
returns-else-m-lt-BUFFER_BITS c = search one_dropped
