-- `marks::is_wrong` meets its contract. Assumes nothing.
use Rattle.marks.proofs.MarkLaws.{second_wrong}
use Rattle.marks.proofs.is_wrong.Goals as goal

pub returns : goal.returns
returns c = search second_wrong
