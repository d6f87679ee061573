-- `fast_advance::advance` meets its contract. Assumes nothing.
use native.Mathlib.Omega.{arith}
use Rattle.fast_advance.specs.AdvanceLaws.{advance_leap, leap_some, leap_most, stayed_ready, stayed_clock, advance_step}
use Rattle.fast_advance.proofs.advance.Goals as goal

pub returns-in-Some-clause-made : goal.returns-in-Some-clause-made
returns-in-Some-clause-made c = search advance_leap

pub returns-in-Some-clause-bound : goal.returns-in-Some-clause-bound
returns-in-Some-clause-bound c = (search leap_some, search leap_most)

pub step-requires : goal.step-requires
step-requires c = (omega arith, search stayed_clock, search stayed_ready)

pub returns-clause-made : goal.returns-clause-made
returns-clause-made c = search advance_step

pub returns-clause-bound : goal.returns-clause-bound
returns-clause-bound c = (omega arith, omega arith)
