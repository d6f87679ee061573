-- `marks::write_mark` meets its contract. Assumes nothing.
use Rattle.marks.proofs.MarkLaws.{mark_is}
use Rattle.marks.proofs.write_mark.Goals as goal

pub returns : goal.returns
returns c = mark_is _ _ _ _ _ _ c.store.ensures c.write_head.ensures
