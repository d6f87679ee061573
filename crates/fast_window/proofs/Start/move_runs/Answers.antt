use mathlib.Core.Path.{refl}
use native.Mathlib.Omega.{arith}
use Rattle.fast_window.specs.MovedLaws.{runs_none, runs_moving, runs_more, runs_end}
use Rattle.fast_window.proofs.Start.move_runs.Goals as goal

-- src/lib.rt:81:5
pub loop-s-init : goal.loop-s-init
loop-s-init c = (omega arith, refl, search runs_none)

-- src/lib.rt:82:14
pub move_run-s-requires : goal.move_run-s-requires
move_run-s-requires c =
    (omega arith, omega arith, omega arith, omega arith, omega arith, omega arith, search runs_moving)

-- src/lib.rt:81:5
pub loop-s-preserved : goal.loop-s-preserved
loop-s-preserved c = (omega arith, omega arith, search runs_more)

-- src/lib.rt:66:1
pub returns : goal.returns
returns c = search runs_end
