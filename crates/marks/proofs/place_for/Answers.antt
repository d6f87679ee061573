-- `marks::place_for` meets its contract. Assumes nothing.
use borrow.Author.Rules.{rules}
use Rattle.marks.proofs.MarkLaws.{place_is, place_in}
use Rattle.marks.proofs.place_for.Goals as goal

pub returns-clause-value : goal.returns-clause-value
returns-clause-value c = place_is _ _ c.find.result c.or_else.result c.find.ensures.value c.find.ensures.small (λ h. search rules) c.or_else.ensures

pub returns-clause-small : goal.returns-clause-small
returns-clause-small c = place_in c.find.result c.or_else.result c.find.ensures.small (λ h. search rules) c.or_else.ensures
