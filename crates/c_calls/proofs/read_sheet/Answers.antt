-- `c_calls::read_sheet` meets its contract. Assumes nothing.
use Rattle.c_calls.specs.CallLaws.{sheet_value, sheet_told}
use Rattle.c_calls.proofs.read_sheet.Goals as goal

pub overflow_cast-result : goal.overflow_cast-result
overflow_cast-result c = search (sheet_value, c.in_ok-read.ensures)

pub returns-clause-told : goal.returns-clause-told
returns-clause-told c = search (sheet_told, c.in_ok-read.ensures)
