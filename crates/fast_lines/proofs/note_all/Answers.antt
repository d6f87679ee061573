use Rattle.fast_lines.specs.LinesLaws.{all_noted_none, all_noted_more, all_noted_end, enough_at}
use mathlib.Core.Path.{refl}
use native.Mathlib.Omega.{arith}
use Rattle.fast_lines.proofs.note_all.Goals as goal

-- src/lib.rt:93:5
pub loop-i-init : goal.loop-i-init
loop-i-init c = (omega arith, refl, search all_noted_none)

-- src/lib.rt:95:9
pub note_from-requires : goal.note_from-requires
note_from-requires c = (omega arith, omega arith, omega arith, search enough_at)

-- src/lib.rt:93:5
pub loop-i-preserved : goal.loop-i-preserved
loop-i-preserved c = (omega arith, omega arith, search all_noted_more)

-- src/lib.rt:88:1
pub returns : goal.returns
returns c = search all_noted_end
