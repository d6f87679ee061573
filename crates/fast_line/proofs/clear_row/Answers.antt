-- `fast_line::clear_row` meets its contract. Assumes nothing.
use mathlib.Core.Path.{refl}
use native.Mathlib.Omega.{arith}
use Rattle.fast_line.specs.LineLaws.{cleared_row}
use Rattle.fast_line.proofs.clear_row.Goals as goal

pub returns : goal.returns
returns c =
    cleared_row c.args.u c.args.j c.args.n _ _ _ _ refl c.requires.2 (omega arith) (omega arith)
    (c.fill.ensures.after (λ y e. e))
