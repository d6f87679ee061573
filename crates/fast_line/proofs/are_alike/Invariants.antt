-- `fast_line::are_alike` meets its contract. Assumes nothing.
use Rattle.fast_line.specs.Line.{kind_number}
use Rattle.fast_line.specs.LineLaws.{Differ}
use Rattle.fast_line.proofs.are_alike.Given as goal

abbrev pub invariant-loop-i : goal.invariant-loop-i
invariant-loop-i l = Differ l.area l.j l.p (kind_number l.fn.kind) l.i l.other
