-- `report_next::step_piece` meets its contract. Assumes nothing.
use Rattle.report_spec.specs.PieceLaws.{steps_within, clock_some, step_is}
use Rattle.report_next.proofs.step_piece.Goals as goal

pub overflow_sub-read_clock : goal.overflow_sub-read_clock
overflow_sub-read_clock c = search clock_some

pub times_left-requires : goal.times_left-requires
times_left-requires c = search steps_within

pub returns : goal.returns
returns c = search step_is
