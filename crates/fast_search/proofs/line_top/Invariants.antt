-- `fast_search::line_top` meets its contract. Assumes nothing.
use Rattle.fast_search.specs.SearchLaws.{AtMost}
use Rattle.fast_search.proofs.line_top.Given as goal

abbrev pub invariant-loop-u : goal.invariant-loop-u
invariant-loop-u l = AtMost l.top l.area l.i l.u
