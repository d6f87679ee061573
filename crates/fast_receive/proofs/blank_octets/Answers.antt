-- `fast_receive::blank_octets` meets its contract. Assumes nothing.
use native.Mathlib.Omega.{arith}
use Rattle.fast_receive.specs.CodeLaws.{blanks_row}
use Rattle.fast_receive.proofs.blank_octets.Goals as goal

pub returns : goal.returns
returns c =
    blanks_row c.args.j c.args.q _ c.args.n _ _ _ (omega arith) (omega arith) (omega arith)
    (c.fill.ensures.after (λ y e. e))
