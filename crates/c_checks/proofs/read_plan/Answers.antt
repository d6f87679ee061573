-- `c_checks::read_plan` meets its contract. Assumes nothing.
use Rattle.c_checks.specs.CheckCallLaws.{plan_drawn, plan_first}
use Rattle.c_checks.proofs.read_plan.Goals as goal

pub plan_words-words-requires : goal.plan_words-words-requires
plan_words-words-requires c = (search (plan_drawn, c.in_ok-plan.ensures), search (plan_first, c.in_ok-plan.ensures))
