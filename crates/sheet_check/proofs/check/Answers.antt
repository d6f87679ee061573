-- `sheet_check::check` meets its contract. Assumes nothing.
use Prim.Native.Nat.{◌-◌}
use Rattle.sheet_check.specs.PlainLaws.{refusal_figures, refusal_plain}
use Rattle.sheet_check.proofs.check.Goals as goal

pub returns-then-figures_out : goal.returns-then-figures_out
returns-then-figures_out c = search refusal_figures

pub returns : goal.returns
returns c = search refusal_plain
