-- `bus_spec::ready::check` meets its contract. Assumes nothing.
use native.Mathlib.Omega.{arith}
use Rattle.octets.specs.NumberLaws.{octets_by}
use Rattle.bus_spec.proofs.ready.check.Goals as goal

pub returns-clause-octets : goal.returns-clause-octets
returns-clause-octets c = octets_by _ (λ k. omega (arith, c.shared_slice_known-1.given k))
