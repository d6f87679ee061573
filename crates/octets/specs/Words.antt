-- 32-bit words one after the other in a list of octets, high octet first. Each recursion is on the count, and its last
-- turn is the last word's, as in the loops. The laws are in WordsLaws. Assumes nothing.
use Rattle.std.specs.Prelude.{ℕ, zero, suc, ◌+◌, ◌*◌, List, [], ◌∷◌, ◌++◌, get_or}
use Rattle.octets.specs.Number.{get, put}

-- the n words from octet `at` on
unfoldable pub words_at : ℕ → List ℕ → ℕ → List ℕ
words_at zero l at = []
words_at (suc n) l at = words_at n l at ++ (get 4 l (at + 4 * n) ∷ [])

-- the octets with the first n of the words written from octet `at` on
unfoldable pub put_words : ℕ → List ℕ → ℕ → List ℕ → List ℕ
put_words zero l at ws = l
put_words (suc n) l at ws = put 4 (put_words n l at ws) (at + 4 * n) (get_or ws n 0)
