-- `fast_line::lasting_row` meets its contract. Assumes nothing.
use mathlib.Core.Path.{◌≡◌, sym}
use native.Mathlib.Omega.{arith}
use borrow.Author.Rules.{rules}
use denote.Enum.Bare.{differs_true, differs_false}
use Rattle.std.proofs.Common.{◌∙◌}
use Rattle.fast_line.specs.contracts.LineKind.{the_type}
use Rattle.fast_line.specs.LineLaws.{alike_none, row_first, lasts_hit, lasts_more, lasts_end}
use Rattle.fast_line.proofs.lasting_row.Goals as goal

pub go_on-many-requires : goal.go_on-many-requires
go_on-many-requires c = (omega arith, omega arith, omega arith, omega arith, omega arith, omega arith, search alike_none)

pub loop-s-init : goal.loop-s-init
loop-s-init c = search row_first

pub returns-then-ne-clause-same : goal.returns-then-ne-clause-same
returns-then-ne-clause-same c =
    let other = differs_true the_type _ _ (sym c.ne.ensures ∙ c.if-ne.true) in search lasts_hit

pub loop-s-preserved : goal.loop-s-preserved
loop-s-preserved c =
    let same : c.kind_of.result ≡ c.args.kind =
    differs_false the_type (search rules) _ _ (sym c.ne.ensures ∙ c.if-ne.false) in search lasts_more

pub returns-clause-same : goal.returns-clause-same
returns-clause-same c = lasts_end _ _ _ _ _ c.loop-s.s (omega arith) (omega arith) c.loop-s.invariant
