-- `fast_lines::clear_line` meets its contract. Assumes nothing.
use Rattle.fast_lines.specs.LinesLaws.{clear_left, clear_made}
use Rattle.fast_lines.proofs.clear_line.Goals as goal

pub returns-then-is_clear : goal.returns-then-is_clear
returns-then-is_clear c = search clear_left

pub returns : goal.returns
returns c = search clear_made
