use native.Mathlib.Omega.{arith}
use Rattle.fast_move.specs.AdvanceLaws.{line_audible, once_silent, once_line, once_from, once_spoiled}
use borrow.Author.Rules.{rules}
use Rattle.fast_move.proofs.move_at_once.Goals as goal

-- src/lib.rt:154:23
pub hear_line-requires : goal.hear_line-requires
hear_line-requires c = (omega arith, omega arith, search rules, search rules, omega arith, search line_audible)

-- src/lib.rt:138:1
pub returns-in-Silent : goal.returns-in-Silent
returns-in-Silent c = search once_silent

-- src/lib.rt:138:1
pub returns-in-Line : goal.returns-in-Line
returns-in-Line c = search once_line

-- src/lib.rt:138:1
pub returns-in-From : goal.returns-in-From
returns-in-From c = search once_from

-- src/lib.rt:138:1
pub returns-in-Mixed : goal.returns-in-Mixed
returns-in-Mixed c = search once_spoiled
