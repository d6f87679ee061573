-- `plan_read::offers_wrong` meets its contract. Assumes nothing.
use Rattle.plan_read.specs.PlanLaws.{walk_short}
use Rattle.plan_read.proofs.offers_wrong.Goals as goal

pub returns-then-n-place-lt15 : goal.returns-then-n-place-lt15
returns-then-n-place-lt15 c = search walk_short
