use Rattle.fast_lines.specs.LinesLaws.{all_enough, lines_none, lines_asks, lines_coded, lines_more, lines_end}
use mathlib.Core.Path.{refl}
use borrow.Author.Rules.{rules}
use native.Mathlib.Omega.{arith}
use Rattle.fast_lines.proofs.settle_with.Goals as goal

-- src/lib.rt:180:5
pub note_all-requires : goal.note_all-requires
note_all-requires c = (omega arith, omega arith, omega arith, search all_enough)

-- src/lib.rt:182:5
pub loop-j-init : goal.loop-j-init
loop-j-init c = (omega arith, refl, search lines_none, search rules)

-- src/lib.rt:183:9
pub settle_line-requires : goal.settle_line-requires
settle_line-requires c = (omega arith, search lines_asks, omega arith, search lines_coded)

-- src/lib.rt:182:5
pub loop-j-preserved : goal.loop-j-preserved
loop-j-preserved c = (omega arith, omega arith, search lines_more, search rules)

-- src/lib.rt:169:1
pub returns : goal.returns
returns c = search lines_end
