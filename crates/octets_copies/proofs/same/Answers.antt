-- `octets_copies::same` meets its contract. Assumes nothing.
use Rattle.octets.specs.EqualLaws.{equal_pointwise}
use Rattle.octets_copies.proofs.same.Goals as goal

pub returns : goal.returns
returns c = rw c.eq.ensures (equal_pointwise _ _)
