-- `report_text::put_counted` meets its contract. Assumes nothing.
use Rattle.report_text.specs.TextLaws.{counted_is}
use Rattle.report_text.proofs.put_counted.Goals as goal

pub returns-clause-text : goal.returns-clause-text
returns-clause-text c = search counted_is
