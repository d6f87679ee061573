-- `frame_build::builder::build` meets its contract. Assumes nothing.
use Rattle.frame_build.specs.BuildLaws.{built_refused, built_short, built_made}
use Rattle.frame_build.proofs.builder.build.Goals as goal

pub returns-then-refuses : goal.returns-then-refuses
returns-then-refuses c = search built_refused

pub returns-then-out-end : goal.returns-then-out-end
returns-then-out-end c = search built_short

pub returns : goal.returns
returns c = search built_made
