-- `plan_read::check_last` meets its contract. Assumes nothing.
use native.Mathlib.Omega.{arith}
use Rattle.plan_read.specs.PlanLaws.{times_room}
use Rattle.plan_read.proofs.check_last.Goals as goal

pub overflow_sub-s : goal.overflow_sub-s
overflow_sub-s c = times_room _ _ c.if-plan_wrong.ensures

pub get32-requires : goal.get32-requires
get32-requires c = omega (arith, times_room c.args.s.now c.args.c c.if-plan_wrong.ensures)
