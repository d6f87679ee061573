-- `c_calls::read_frame` meets its contract. Assumes nothing.
use native.Mathlib.Omega.{arith}
use Rattle.octets.specs.NumberLaws.{octets_by}
use Rattle.c_calls.specs.CallTheorems.{frame_below}
use Rattle.c_calls.proofs.read_frame.Goals as goal

pub returns-clause-told : goal.returns-clause-told
returns-clause-told c =
    frame_below _ _ _ _ _ c.read_frame.ensures (octets_by _ (λ k. omega (arith, c.shared_slice_known-1.given k)))
