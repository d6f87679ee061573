-- `plan_read::read_plan` meets its contract. Assumes nothing.
use Rattle.std.proofs.lemmas.Result.{err_from_is_err_and}
use Rattle.plan_read.specs.PlanLaws.{sheet_within, sheet_few, plan_refused, plan_read}
use Rattle.plan_read.proofs.read_plan.Goals as goal

pub returns-in_err-front : goal.returns-in_err-front
returns-in_err-front c =
    let p = err_from_is_err_and c.from_residual.result c.from_residual.ensures.1 in rw (p.1, p.2)
    (plan_refused _ _ c.in_err-front.ensures)

pub after_sheet-requires : goal.after_sheet-requires
after_sheet-requires c = search (sheet_within, sheet_few, c.in_ok-front.ensures)

pub returns : goal.returns
returns c = search (plan_read, c.in_ok-front.ensures)
