-- `c_calls::start` meets its contract. Assumes nothing.
use Rattle.c_calls.specs.CallLaws.{sheet_count}
use Rattle.c_calls.proofs.start.Goals as goal

pub start_drawn-requires : goal.start_drawn-requires
start_drawn-requires c = search (sheet_count, c.in_ok-read.ensures)
