-- `fast_stretch::hear_packet` meets its contract. Assumes nothing.
use Rattle.fast_stretch.specs.StretchLaws.{stretch_heard}
use Rattle.fast_stretch.proofs.hear_packet.Goals as goal

pub returns : goal.returns
returns c = search stretch_heard
