-- `fast_receive::copy_octets` meets its contract. Assumes nothing.
use mathlib.Core.Path.{sym}
use native.Mathlib.Omega.{arith}
use Rattle.std.proofs.Common.{◌∙◌}
use Rattle.fast_receive.specs.CodeLaws.{part_long, copied_row}
use Rattle.fast_receive.proofs.copy_octets.Goals as goal

pub copy_from_slice-requires : goal.copy_from_slice-requires
copy_from_slice-requires c =
    part_long c.args.area.now _ c.args.n _ (omega arith) (omega arith)
    ∙ sym (part_long c.args.frame.now c.args.p c.args.n _ (omega arith) (omega arith))

pub returns : goal.returns
returns c =
    copied_row c.args.j c.args.q c.args.p _ _ c.args.n _ _ _ _ (omega arith) (omega arith) (omega arith) (omega arith)
    (omega arith) c.copy_from_slice.ensures.after
