use native.Mathlib.Omega.{arith}
use Rattle.fast_move.specs.AdvanceLaws.{held_here, report_room, can_emits, can_hears, can_rests}
use Rattle.fast_move.proofs.can_move.Goals as goal

-- src/lib.rt:127:9
pub emits_all-requires : goal.emits_all-requires
emits_all-requires c = search held_here

-- src/lib.rt:127:9
pub returns-then-is_emitting : goal.returns-then-is_emitting
returns-then-is_emitting c = search can_emits

-- src/lib.rt:130:9
pub returns-then-heard : goal.returns-then-heard
returns-then-heard c = search can_hears

-- src/lib.rt:133:9
pub may_report-report-requires : goal.may_report-report-requires
may_report-report-requires c = (omega arith, omega arith, search report_room)

-- src/lib.rt:120:1
pub returns : goal.returns
returns c = search can_rests
