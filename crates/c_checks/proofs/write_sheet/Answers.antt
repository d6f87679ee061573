-- `c_checks::write_sheet` meets its contract. Assumes nothing.
use Rattle.c_checks.specs.CheckCallTheorems.{write_below}
use Rattle.c_checks.proofs.write_sheet.Goals as goal

pub returns-clause-told : goal.returns-clause-told
returns-clause-told c = write_below _ _ _ _ _ c.in_ok-read.ensures c.write_sheet.ensures
