-- `fast_search::any_emitted` meets its contract. Assumes nothing.
use Rattle.fast_search.specs.SearchLaws.{NoneEmitted}
use Rattle.fast_search.proofs.any_emitted.Given as goal

abbrev pub invariant-loop-i : goal.invariant-loop-i
invariant-loop-i l = NoneEmitted l.area l.i
