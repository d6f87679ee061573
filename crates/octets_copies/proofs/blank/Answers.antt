-- `octets_copies::blank` meets its contract. Assumes nothing.
use Rattle.std.proofs.Common.{length-take-le}
use Rattle.octets.specs.Turns.{blanked_fill}
use Rattle.octets_copies.proofs.blank.Goals as goal

pub returns : goal.returns
returns c = rw (c.fill.ensures.after (λ y e. e), length-take-le c.args.n c.args.s.now c.requires) (blanked_fill _ _ c.requires)
