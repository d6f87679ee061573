-- `fast_receive::hear_octets` meets its contract. Assumes nothing.
use native.Mathlib.Omega.{arith}
use Rattle.fast_receive.specs.CodeLaws.{octets_heard}
use Rattle.fast_receive.proofs.hear_octets.Goals as goal

pub returns-clause-heard : goal.returns-clause-heard
returns-clause-heard c =
    octets_heard _ _ _ _ _ _ _ _ _ _ _ _ c.in-Collecting.is c.requires.0 c.requires.1
    (λ k. omega (arith, c.type_inv.frame k)) c.if-a-lt65.false c.if-a-ne1.false c.if-bits-ne0.false
    c.octets_left-n.ensures c.if-n-eq0.false c.copy_octets.ensures
