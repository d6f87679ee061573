-- `fast_bound::emit_bound` meets its contract. Assumes nothing.
use Rattle.fast_bound.specs.WindowLaws.{frame_small, emit_calm}
use Rattle.fast_bound.proofs.emit_bound.Goals as goal

pub emit_steps-requires : goal.emit_steps-requires
emit_steps-requires c = search frame_small

pub returns-then-silent-gt0-clause-calm : goal.returns-then-silent-gt0-clause-calm
returns-then-silent-gt0-clause-calm c = search emit_calm

pub emit_steps-requires-2 : goal.emit_steps-requires-2
emit_steps-requires-2 c = search frame_small

pub returns-clause-calm : goal.returns-clause-calm
returns-clause-calm c = search emit_calm
