-- `fast_receive::hear_next` meets its contract. Assumes nothing.
use Rattle.fast_receive.specs.Strides.{next_one}
use Rattle.fast_receive.proofs.hear_next.Goals as goal

pub returns-clause-heard : goal.returns-clause-heard
returns-clause-heard c =
    next_one _ _ _ _ _ _ _ _ _ _ c.in_default.ensures.heard c.packet_bit-one.ensures c.hear_one-receiver.ensures.heard
