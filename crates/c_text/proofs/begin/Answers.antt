-- `c_text::begin` meets its contract. Assumes nothing.
use Rattle.c_text.specs.TextCallLaws.{begun_few, begun_below}
use Rattle.c_text.proofs.begin.Goals as goal

pub overflow_cast-result : goal.overflow_cast-result
overflow_cast-result c = search (begun_few, c.in_ok-handed.ensures)

pub returns-clause-told : goal.returns-clause-told
returns-clause-told c = search (begun_below, c.in_ok-handed.ensures)
