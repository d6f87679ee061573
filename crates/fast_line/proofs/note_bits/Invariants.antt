-- The invariants and measures of `fast_line::note_bits`.
use Rattle.fast_line.specs.Line.{bits_from, Below}
use Rattle.fast_line.specs.LineLaws.{Noted}
use Rattle.fast_line.proofs.note_bits.Given as goal

abbrev pub invariant-loop-put : goal.invariant-loop-put
invariant-loop-put l =
    Noted l.codes l.first l.m l.steps (bits_from l.frame l.k) l.put × Below l.at l.initial.codes l.codes
