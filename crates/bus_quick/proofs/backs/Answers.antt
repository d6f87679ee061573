-- `bus_quick::backs` meets its contract. Assumes nothing.
use Rattle.bus_quick.specs.Quick.{backs_is}
use Rattle.octets.specs.NumberLaws.{octets_by}
use native.Mathlib.Omega.{arith}
use Rattle.bus_quick.proofs.backs.Goals as goal

pub returns-clause-value : goal.returns-clause-value
returns-clause-value c = search backs_is

pub returns-clause-octets : goal.returns-clause-octets
returns-clause-octets c = octets_by _ (λ k. omega (arith, c.shared_slice_known-1.given k))
