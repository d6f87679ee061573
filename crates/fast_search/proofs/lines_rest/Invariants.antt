-- `fast_search::lines_rest` meets its contract. Assumes nothing.
use Rattle.fast_silence.specs.Bound.{lines_rest}
use mathlib.Core.Path.{◌≡◌}
use Rattle.fast_search.proofs.lines_rest.Given as goal

abbrev pub invariant-loop-i : goal.invariant-loop-i
invariant-loop-i l = l.left ≡ lines_rest l.area l.m l.i
