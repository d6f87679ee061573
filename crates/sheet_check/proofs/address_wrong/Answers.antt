-- `sheet_check::address_wrong` meets its contract. Assumes nothing.
use Rattle.sheet_check.specs.PlainLaws.{wrong_is}
use Rattle.sheet_check.proofs.address_wrong.Goals as goal

pub returns : goal.returns
returns c = search wrong_is
