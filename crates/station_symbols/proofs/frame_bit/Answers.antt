-- `station_symbols::frame_bit` meets its contract. Assumes nothing.
use Rattle.station_symbols.specs.PacketLaws.{frame_bit_past, frame_bit_lem}
use Rattle.station_symbols.proofs.frame_bit.Goals as goal

pub returns-then-frame-at : goal.returns-then-frame-at
returns-then-frame-at c = search frame_bit_past

pub returns : goal.returns
returns c = search frame_bit_lem
