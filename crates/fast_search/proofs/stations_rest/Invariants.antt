-- `fast_search::stations_rest` meets its contract. Assumes nothing.
use Rattle.fast_silence.specs.Bound.{stations_rest}
use mathlib.Core.Path.{◌≡◌}
use Rattle.fast_search.proofs.stations_rest.Given as goal

abbrev pub invariant-loop-i : goal.invariant-loop-i
invariant-loop-i l = l.left ≡ stations_rest l.area l.m l.i
