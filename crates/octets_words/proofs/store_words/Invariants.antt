-- The invariant of `octets_words::store_words`.
use mathlib.Core.Path.{◌≡◌}
use Rattle.octets.specs.Words.{put_words}
use Rattle.octets_words.proofs.store_words.Given as goal

abbrev pub invariant-loop-k : goal.invariant-loop-k
invariant-loop-k l = l.s ≡ put_words l.k l.initial.s l.at l.words
