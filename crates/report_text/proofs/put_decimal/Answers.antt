-- `report_text::put_decimal` meets its contract. Assumes nothing.
use Rattle.report_text.specs.TextLaws.{decimal_is}
use Rattle.report_text.proofs.put_decimal.Goals as goal

pub returns-clause-text : goal.returns-clause-text
returns-clause-text c = search decimal_is
