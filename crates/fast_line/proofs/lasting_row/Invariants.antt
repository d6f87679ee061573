-- The invariants and measures of `fast_line::lasting_row`.
use mathlib.Core.Path.{◌≡◌}
use mathlib.Core.Bool.{false}
use Rattle.octets.specs.Base.{some}
use Rattle.fast_line.specs.Line.{kind_number, other_kind}
use Rattle.fast_line.proofs.lasting_row.Given as goal

abbrev pub invariant-loop-s : goal.invariant-loop-s
invariant-loop-s l = some (other_kind l.area l.j l.p (kind_number l.kind)) l.s ≡ false
