-- `fast_receive::hear_some` meets its contract. Assumes nothing.
use Rattle.fast_receive.specs.Strides.{some_one}
use Rattle.fast_receive.proofs.hear_some.Goals as goal

pub returns-clause-heard : goal.returns-clause-heard
returns-clause-heard c =
    some_one _ _ _ _ _ _ _ _ _ _ _ c.requires.5 c.requires.6 c.requires.0 c.in_default.ensures.heard
    c.read_symbol-code.ensures c.then_some.ensures c.hear_one-receiver.ensures.heard
