-- `bus_run::Singly` goes on as `GoesOn` says. Assumes nothing.
use native.Mathlib.Omega.{arith}
use Rattle.bus_run.specs.AdvanceLaws.{advance_once, able_ready, able_clock}
use Rattle.bus_run.proofs.SinglyGoesOn.go_on.Goals as goal

pub step-requires : goal.step-requires
step-requires c = (omega arith, search able_clock, search able_ready)

pub returns-clause-made : goal.returns-clause-made
returns-clause-made c = search advance_once
