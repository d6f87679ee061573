-- Sixteen places, filled one after the other: the first n are what t gives for each, the others b. With the laws of the
-- loop that fills them. Assumes nothing.
use Prim.Native.Nat.{ℕ, zero, suc, ◌+◌, ◌-◌, ◌≤◌, ◌<◌}
use Rattle.std.specs.Prelude.{◌≡◌, length, set}
use Rattle.std.proofs.Math.Path.{refl, ap, ap₂}
use Rattle.std.proofs.Common.{sym, ◌∙◌, not-suc-le-zero}
use mathlib.Core.List.{List, [], ◌∷◌, ◌++◌}
use Rattle.std.proofs.Math.Decide.{dec_lt}
use Rattle.std.proofs.Math.Numerals.{add-one}
use native.Mathlib.Omega.{arith}
use Rattle.std.proofs.Math.ListN.{get_or, replicate, length-append, get_or-append}
use Rattle.std.proofs.Math.Seq.{set_at, append_snoc, get_or-append-add}
use Rattle.std.proofs.lemmas.List.{get_or_at}

module _ {A : Type 0} where
  unfoldable pub listed : (ℕ → A) → ℕ → List A
  listed t zero = []
  listed t (suc n) = listed t n ++ (t n ∷ [])

  unfoldable pub filled : A → (ℕ → A) → ℕ → List A
  filled b t n = listed t n ++ replicate (16 - n) b

  length_listed : (t : ℕ → A) (n : ℕ) → length (listed t n) ≡ n
  unfolding listed
  length_listed t zero = refl
  length_listed t (suc n) = length-append (listed t n) (t n ∷ []) ∙ omega (arith, length_listed t n)

  -- only the first n matter
  listed_same : (t u : ℕ → A) (n : ℕ) → ((i : ℕ) → i < n → t i ≡ u i) → listed t n ≡ listed u n
  unfolding listed
  listed_same t u zero h = refl
  listed_same t u (suc n) h =
      ap₂ (λ (ts : List A) (x : A). ts ++ (x ∷ [])) (listed_same t u n (λ i g. h i (omega arith))) (h n (omega arith))

  pub filled_same : (b : A) (t u : ℕ → A) (n : ℕ) → ((i : ℕ) → i < n → t i ≡ u i) → filled b t n ≡ filled b u n
  unfolding filled
  filled_same b t u n h = ap (λ (ts : List A). ts ++ replicate (16 - n) b) (listed_same t u n h)

  -- each of them
  listed_at : (t : ℕ → A) (n i : ℕ) (d : A) → i < n → get_or (listed t n) i d ≡ t i
  unfolding listed
  listed_at t zero i d h = absurd (not-suc-le-zero h)
  listed_at t (suc n) i d h = go (dec_lt i n) (λ p. listed_at t n i d p)
    where
      go : Dec (i < n) → (i < n → get_or (listed t n) i d ≡ t i) → get_or (listed t n ++ (t n ∷ [])) i d ≡ t i
      go (yes p) ih = get_or-append (listed t n) (t n ∷ []) d i (omega (arith, length_listed t n)) ∙ ih p
      go (no p) ih = let e : i ≡ n = omega arith in rw e (get_or_at (listed t n) (t n) [] d n (length_listed t n))

  pub filled_at : (b : A) (t : ℕ → A) (n i : ℕ) (d : A) → i < n → get_or (filled b t n) i d ≡ t i
  unfolding filled
  filled_at b t n i d h =
      get_or-append (listed t n) (replicate (16 - n) b) d i (omega (arith, length_listed t n)) ∙ listed_at t n i d h

  -- and none of those after them
  pub blank_at : (m k : ℕ) (b : A) → get_or (replicate m b) k b ≡ b
  blank_at zero k b = refl
  blank_at (suc m) zero b = refl
  blank_at (suc m) (suc k) b = blank_at m k b

  pub filled_past : (b : A) (t : ℕ → A) (n k : ℕ) → get_or (filled b t n) (n + k) b ≡ b
  unfolding filled
  filled_past b t n k =
      ap (λ (m : ℕ). get_or (listed t n ++ replicate (16 - n) b) (m + k) b) (sym (length_listed t n))
      ∙ get_or-append-add (listed t n) (replicate (16 - n) b) k b
      ∙ blank_at (16 - n) k b

  -- ---- the loop

  pub filled_none : (b : A) (t : ℕ → A) → replicate 16 b ≡ filled b t 0
  unfolding filled listed
  filled_none b t = refl

  pub filled_more : (b : A) (t : ℕ → A) (i n : ℕ) (ts : List A) (x : A) → x ≡ t i → i < n → n ≤ 16 → ts ≡ filled b t i
      → set ts i x ≡ filled b t (i + 1)
  unfolding filled listed
  filled_more b t i n ts x p h k q =
      let e : 16 - i ≡ suc (16 - (i + 1)) = omega arith in
      rw (q, e, set_at (listed t i) b (replicate (16 - (i + 1)) b) x i (length_listed t i), add-one i, p)
      (sym (append_snoc (listed t i) (t i) (replicate (16 - suc i) b)))

  pub filled_end : (b : A) (t : ℕ → A) (n i : ℕ) (ts : List A) → i ≤ n → n ≤ i → ts ≡ filled b t i → ts ≡ filled b t n
  filled_end b t n i ts p q r = let e : i ≡ n = omega arith in rw e at r
