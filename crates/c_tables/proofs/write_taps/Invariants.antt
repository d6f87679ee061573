-- `c_tables::write_taps` meets its contract. Assumes nothing.
use Rattle.c_words.specs.Answers.{taps_put}
use mathlib.Core.Path.{◌≡◌}
use Rattle.c_tables.proofs.write_taps.Given as goal

abbrev pub invariant-loop-i : goal.invariant-loop-i
invariant-loop-i l = l.out ≡ taps_put l.taps l.i l.initial.out
