-- `fast_stretch::hear_spoiled` meets its contract. Assumes nothing.
use Rattle.fast_stretch.specs.StretchLaws.{stretch_heard}
use Rattle.fast_stretch.proofs.hear_spoiled.Goals as goal

pub returns : goal.returns
returns c = search stretch_heard
