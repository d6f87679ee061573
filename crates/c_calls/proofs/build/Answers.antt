-- `c_calls::build` meets its contract. Assumes nothing.
use Rattle.c_calls.specs.CallLaws.{build_value, build_told}
use Rattle.c_calls.proofs.build.Goals as goal

pub overflow_cast-result : goal.overflow_cast-result
overflow_cast-result c = search (build_value, c.in_ok-size.ensures)

pub returns-clause-told : goal.returns-clause-told
returns-clause-told c = search (build_told, c.in_ok-size.ensures)
