-- `frame_crc::crc_of` meets its contract. Assumes nothing.
use Rattle.frame_crc.specs.Register.{eight_more, octets_more, octets_end}
use Rattle.frame_crc.proofs.crc_of.Goals as goal

pub loop-eight-preserved : goal.loop-eight-preserved
loop-eight-preserved c = search eight_more

pub loop-x-preserved : goal.loop-x-preserved
loop-x-preserved c = search octets_more

pub returns : goal.returns
returns c = search octets_end
