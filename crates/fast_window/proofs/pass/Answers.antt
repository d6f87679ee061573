use native.Mathlib.Omega.{arith}
use Rattle.bus_spec.specs.Ready.{ready_few}
use Rattle.fast_window.specs.WindowLaws.{begins}
use Rattle.fast_window.proofs.pass.Goals as goal

pub pass-requires : goal.pass-requires
pass-requires c = (search ready_few, omega arith, omega arith, search begins)
