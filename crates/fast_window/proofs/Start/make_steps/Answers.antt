use Rattle.fast_window.specs.WindowLaws.{steps_settles, steps_settled}
use Rattle.fast_window.proofs.Start.make_steps.Goals as goal

-- src/lib.rt:130:5
pub settle_lines-requires : goal.settle_lines-requires
settle_lines-requires c = search steps_settles

-- src/lib.rt:124:1
pub returns : goal.returns
returns c = search steps_settled
