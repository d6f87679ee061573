-- `area_buffers::build_frame` meets its contract. Assumes nothing.
use Rattle.area.specs.CodeLaws.{built_is}
use native.Mathlib.Omega.{arith}
use Rattle.area_buffers.proofs.build_frame.Goals as goal

pub returns : goal.returns
returns c =
    built_is _ _ _ _ _ _ _ _ c.build.ensures
    c.read_address-source.ensures (omega arith) (omega arith) (omega arith) (omega arith)
