-- `c_text::print` meets its contract. Assumes nothing.
use Rattle.c_words.specs.AnswersLaws.{below_refused}
use Rattle.c_text.specs.TextCallLaws.{print_few, print_below, print_refused, print_made}
use Rattle.c_text.proofs.print.Goals as goal

pub returns-in_err-size-clause-number : goal.returns-in_err-size-clause-number
returns-in_err-size-clause-number c = search (print_refused, c.in_err-size.ensures)

pub returns-in_err-size-clause-told : goal.returns-in_err-size-clause-told
returns-in_err-size-clause-told c = search below_refused

pub overflow_cast-result : goal.overflow_cast-result
overflow_cast-result c = search (print_few, c.in_ok-size.ensures)

pub returns-clause-number : goal.returns-clause-number
returns-clause-number c = search (print_made, c.in_ok-size.ensures)

pub returns-clause-told : goal.returns-clause-told
returns-clause-told c = search (print_below, c.in_ok-size.ensures)
