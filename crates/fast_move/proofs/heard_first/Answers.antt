use Rattle.fast_move.specs.AdvanceLaws.{first_line_lem, first_from_lem, first_spoiled}
use Rattle.fast_move.proofs.heard_first.Goals as goal

-- src/lib.rt:161:1
pub returns-in-Line : goal.returns-in-Line
returns-in-Line c = search first_line_lem

-- src/lib.rt:161:1
pub returns-in-From : goal.returns-in-From
returns-in-From c = search first_from_lem

-- src/lib.rt:161:1
pub returns-in-Mixed : goal.returns-in-Mixed
returns-in-Mixed c = search first_spoiled
