-- `report_text::put_place` meets its contract. Assumes nothing.
use Rattle.report_text.specs.TextLaws.{place_is}
use Rattle.report_text.proofs.put_place.Goals as goal

pub returns-clause-text : goal.returns-clause-text
returns-clause-text c = search place_is
