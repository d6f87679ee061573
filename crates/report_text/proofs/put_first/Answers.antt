-- `report_text::put_first` meets its contract. Assumes nothing.
use Rattle.report_text.specs.TextLaws.{first_is}
use Rattle.report_text.proofs.put_first.Goals as goal

pub returns-clause-text : goal.returns-clause-text
returns-clause-text c = search first_is
