-- `fast_heard::heard_run` meets its contract. Assumes nothing.
use Rattle.fast_heard.specs.HearingLaws.{segment_several, segment_one}
use Rattle.fast_heard.proofs.heard_run.Goals as goal

pub returns-then-has_begun-clause-says : goal.returns-then-has_begun-clause-says
returns-then-has_begun-clause-says c = search segment_several

pub returns-clause-says : goal.returns-clause-says
returns-clause-says c = search segment_one
