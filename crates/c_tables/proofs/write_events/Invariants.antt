-- `c_tables::write_events` meets its contract. Assumes nothing.
use Rattle.c_words.specs.Answers.{events_put}
use mathlib.Core.Path.{◌≡◌}
use Rattle.c_tables.proofs.write_events.Given as goal

abbrev pub invariant-loop-i : goal.invariant-loop-i
invariant-loop-i l = l.out ≡ events_put l.events l.i l.initial.out
