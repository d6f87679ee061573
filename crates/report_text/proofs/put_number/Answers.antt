-- `report_text::put_number` meets its contract. Assumes nothing.
use Rattle.report_text.specs.TextLaws.{number_is}
use Rattle.report_text.proofs.put_number.Goals as goal

pub returns-clause-text : goal.returns-clause-text
returns-clause-text c = search number_is
