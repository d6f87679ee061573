-- A table whose entries are given by a rule. That a table in the code is this one is for antt to compute, entry by
-- entry, where the law is cited. Assumes nothing.
use Rattle.std.specs.Prelude.{ℕ, zero, suc, ◌+◌, ◌<◌, ◌≡◌, List, [], ◌∷◌, get_or}
use Rattle.std.proofs.Common.{◌∙◌, ap, not-suc-le-zero, zero-add, arith}

-- the n entries f i, f (i + 1), ..
abbrev pub tabulated : {A : Type 0} → (ℕ → A) → ℕ → ℕ → List A
tabulated f i zero = []
tabulated f i (suc n) = f i ∷ tabulated f (suc i) n

from : {A : Type 0} (f : ℕ → A) (z : A) (n i k : ℕ) → k < n → get_or (tabulated f i n) k z ≡ f (i + k)
from f z zero i k h = absurd (not-suc-le-zero h)
from f z (suc n) i zero h = let e : i + 0 ≡ i = omega arith in rw e
from f z (suc n) i (suc k) h = let e : i + suc k ≡ suc i + k = omega arith in rw e (from f z n (suc i) k (omega arith))

-- the rule at each entry
pub entry : {A : Type 0} (f : ℕ → A) (z : A) (n k : ℕ) → k < n → get_or (tabulated f 0 n) k z ≡ f k
entry f z n k h = from f z n 0 k h ∙ ap f (zero-add k)
