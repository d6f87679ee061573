-- `fast_receive::hear_eight` meets its contract. Assumes nothing.
use native.Mathlib.Omega.{arith}
use Rattle.fast_receive.specs.Strides.{octet_heard}
use Rattle.fast_receive.proofs.hear_eight.Goals as goal

pub returns-clause-heard : goal.returns-clause-heard
returns-clause-heard c =
    octet_heard _ _ _ _ c.in_ok-v.v _ _ _ _ _ c.in-Collecting.is c.requires.0 c.requires.1 c.if-bits-ne0.false
    c.if-bits-gt-LAST_OCTET.false (omega arith) c.in_ok-v.ensures c.write_octet.ensures
