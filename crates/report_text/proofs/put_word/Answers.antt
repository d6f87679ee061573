-- `report_text::put_word` meets its contract. Assumes nothing.
use Rattle.report_text.specs.TextLaws.{word_is}
use Rattle.report_text.proofs.put_word.Goals as goal

pub returns-clause-text : goal.returns-clause-text
returns-clause-text c = search word_is
