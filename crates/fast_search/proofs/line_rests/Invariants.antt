-- `fast_search::line_rests` meets its contract. Assumes nothing.
use Rattle.fast_search.specs.SearchLaws.{NoneUsed}
use Rattle.fast_search.proofs.line_rests.Given as goal

abbrev pub invariant-loop-s : goal.invariant-loop-s
invariant-loop-s l = NoneUsed l.area l.i l.s
