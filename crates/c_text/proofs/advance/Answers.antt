-- `c_text::advance` meets its contract. Assumes nothing.
use Rattle.c_text.specs.TextCallLaws.{advanced_few, advanced_below, advance_refused, advance_made}
use Rattle.c_text.proofs.advance.Goals as goal

pub returns-in_err-handed-clause-number : goal.returns-in_err-handed-clause-number
returns-in_err-handed-clause-number c = search (advance_refused, c.in_err-handed.ensures)

pub overflow_cast-result : goal.overflow_cast-result
overflow_cast-result c = search (advanced_few, c.in_ok-handed.ensures)

pub returns-clause-number : goal.returns-clause-number
returns-clause-number c = search (advance_made, c.in_ok-handed.ensures)

pub returns-clause-told : goal.returns-clause-told
returns-clause-told c = search (advanced_below, c.in_ok-handed.ensures)
