-- The invariant of `octets_words::load_words`.
use mathlib.Core.Path.{◌≡◌}
use mathlib.Core.List.{◌++◌}
use lib.ListN.{drop}
use Rattle.octets.specs.Words.{words_at}
use Rattle.octets_words.proofs.load_words.Given as goal

abbrev pub invariant-loop-k : goal.invariant-loop-k
invariant-loop-k l = l.words ≡ words_at l.k l.s l.at ++ drop l.k l.initial.words
