-- `report_next::put_offer` meets its contract. Assumes nothing.
use Rattle.report_spec.specs.PieceLaws.{offer_none, offer_refused}
use Rattle.report_next.proofs.put_offer.Goals as goal

pub returns-in-Ok : goal.returns-in-Ok
returns-in-Ok c = rw c.in-Ok.is (search offer_none)

pub returns-in-Err : goal.returns-in-Err
returns-in-Err c = rw c.in-Err.is (search offer_refused)
