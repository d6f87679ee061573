-- `report_text::put_line` meets its contract. Assumes nothing.
use Rattle.report_text.specs.TextLaws.{line_is}
use Rattle.report_text.proofs.put_line.Goals as goal

pub returns-clause-text : goal.returns-clause-text
returns-clause-text c = search line_is
