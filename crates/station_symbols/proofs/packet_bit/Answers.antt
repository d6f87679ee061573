-- `station_symbols::packet_bit` meets its contract. Assumes nothing.
use Rattle.station_symbols.specs.PacketLaws.{bit_alternates, bit_delimits, bit_of_frame}
use Rattle.station_symbols.proofs.packet_bit.Goals as goal

pub returns-then-k-le62 : goal.returns-then-k-le62
returns-then-k-le62 c = search bit_alternates

pub returns-then-k-le64 : goal.returns-then-k-le64
returns-then-k-le64 c = search bit_delimits

pub returns : goal.returns
returns c = search bit_of_frame
