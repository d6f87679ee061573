-- `frame_build::builder::seal` meets its contract. Assumes nothing.
use Rattle.frame_build.specs.BuildLaws.{seal_is}
use Rattle.frame_build.proofs.builder.seal.Goals as goal

pub returns : goal.returns
returns c = search seal_is
