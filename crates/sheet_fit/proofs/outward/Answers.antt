-- `sheet_fit::outward` meets its contract. Assumes nothing.
use Rattle.sheet_fit.specs.MarginLaws.{slot_left, position_left}
use Rattle.sheet_fit.proofs.outward.Goals as goal

pub overflow_sub-half : goal.overflow_sub-half
overflow_sub-half c = search slot_left

pub overflow_sub-end : goal.overflow_sub-end
overflow_sub-end c = search position_left
