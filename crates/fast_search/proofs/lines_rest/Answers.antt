-- `fast_search::lines_rest` meets its contract. Assumes nothing.
use Rattle.fast_search.specs.SearchLaws.{lines_few, lines_within}
use native.Mathlib.Omega.{arith}
use borrow.Author.Rules.{rules}
use Rattle.fast_search.proofs.lines_rest.Goals as goal

pub returns-then-left-lt5 : goal.returns-then-left-lt5
returns-then-left-lt5 c = search lines_few

pub line_rests-left-requires : goal.line_rests-left-requires
line_rests-left-requires c = (omega arith, omega arith, search lines_within, search rules)
