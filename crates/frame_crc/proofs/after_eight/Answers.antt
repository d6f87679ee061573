-- `frame_crc::after_eight` meets its contract. Assumes nothing.
use Rattle.frame_crc.specs.Register.{eight_is}
use Rattle.frame_crc.proofs.after_eight.Goals as goal

pub returns : goal.returns
returns c = search eight_is
