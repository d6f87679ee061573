-- Numbers of w octets, high octet first (document 01: "All high octet first").
-- The laws are in NumberLaws. Assumes nothing.
use Rattle.std.specs.Prelude.{ℕ, zero, suc, ◌+◌, ◌*◌, ◌/◌, ◌%◌, List, [], ◌∷◌, ◌++◌, get_or}
use Rattle.std.proofs.lemmas.List.Edits.{sets}

-- the number of the w octets from `at` on
unfoldable pub get : ℕ → List ℕ → ℕ → ℕ
get zero l at = 0
get (suc zero) l at = get_or l at 0
get (suc (suc w)) l at = get (suc w) l at * 256 + get_or l (at + suc w) 0

-- the w octets that spell v; of a larger number its w low octets
unfoldable pub spelled : ℕ → ℕ → List ℕ
spelled zero v = []
spelled (suc w) v = spelled w (v / 256) ++ (v % 256 ∷ [])

-- the list with the number v written over the w octets from `at` on
unfoldable pub put : ℕ → List ℕ → ℕ → ℕ → List ℕ
put w l at v = sets l at (spelled w v)
