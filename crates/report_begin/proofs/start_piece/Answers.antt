-- `report_begin::start_piece` meets its contract. Assumes nothing.
use Rattle.report_spec.specs.PieceLaws.{start_draws, start_few, start_some, start_shallow, start_is}
use borrow.Author.Rules.{rules}
use Rattle.report_begin.proofs.start_piece.Goals as goal

pub read_draws-draws-requires : goal.read_draws-draws-requires
read_draws-draws-requires c = (search start_few, search start_shallow, search start_draws)

pub write_fresh-requires : goal.write_fresh-requires
write_fresh-requires c = (search start_few, search start_shallow, search rules)

pub put_heading-requires : goal.put_heading-requires
put_heading-requires c = (search start_some, search start_few, search rules)

pub returns : goal.returns
returns c = search start_is
