-- `sheet_check::number` meets its contract. Assumes nothing.
use mir.Syntax.{w8}
use mir.Val.{Fits}
use lib.ListN.{get_or}
use Rattle.std.proofs.Common.{◌∙◌}
use Rattle.sheet_check.specs.PlainLaws.{number_is}
use Rattle.octets.specs.NumberLaws.{octets_by}
use borrow.Author.Rules.{rules}
use Rattle.sheet_check.proofs.number.Goals as goal

pub returns-clause-value : goal.returns-clause-value
returns-clause-value c =
    number_is c.args.a c.from.result c.from-2.result (c.from.ensures ∙ c.get16.ensures.value) (c.from-2.ensures ∙ c.get32.ensures)

pub returns-clause-octets : goal.returns-clause-octets
returns-clause-octets c = octets_by _ (λ k. let f : Fits w8 (get_or c.args.a k 0) = search rules in f.fits)
