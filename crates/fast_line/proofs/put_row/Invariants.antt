-- The invariants and measures of `fast_line::put_row`.
use mathlib.Core.Path.{◌≡◌}
use Rattle.fast_line.specs.Line.{codes_put}
use Rattle.fast_line.proofs.put_row.Given as goal

abbrev pub invariant-loop-s : goal.invariant-loop-s
invariant-loop-s l = l.area ≡ codes_put l.j l.u l.codes 0 l.s l.initial.area
