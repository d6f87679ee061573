-- The test of `equal`, the equation, and the library's `==`. Assumes nothing.
use Rattle.std.specs.Prelude.{ℕ, ◌≡◌, refl, Bool, true, false, ◌&&◌, List, [], ◌∷◌, eqb, nat_eq}
use Rattle.std.specs.Cmp.Lexicographic.{pointwise}
use Rattle.std.proofs.Common.{sym, ◌∙◌, ap, ap₂, true≢false, eq-eqb, eqb-true}
use Rattle.octets.specs.Base.{pick}
use Rattle.octets.specs.BaseLaws.{by_test}
use Rattle.octets.specs.Equal.{equal}

pub equal_refl : (a : List ℕ) → equal a a ≡ true
unfolding equal
equal_refl [] = refl
equal_refl (x ∷ a) = rw (eq-eqb x x refl) (equal_refl a)

-- what passes the test is equal
pub equal_true : (a b : List ℕ) → equal a b ≡ true → a ≡ b
unfolding equal
equal_true [] [] p = refl
equal_true [] (y ∷ b) p = absurd (true≢false (sym p))
equal_true (x ∷ a) [] p = absurd (true≢false (sym p))
equal_true (x ∷ a) (y ∷ b) p =
    by_test (eqb x y)
    (λ e. ap₂ (λ (n : ℕ) (l : List ℕ). n ∷ l) (eqb-true x y e) (equal_true a b (rw e at p)))
    (λ e. absurd (true≢false (sym (rw e at p))))

both_pick : (s t : Bool) → (s && t) ≡ pick s t false
both_pick true t = refl
both_pick false t = refl

-- the library's `==` of two slices
pub equal_pointwise : (a b : List ℕ) → pointwise nat_eq a b ≡ equal a b
unfolding equal
equal_pointwise [] [] = refl
equal_pointwise [] (y ∷ b) = refl
equal_pointwise (x ∷ a) [] = refl
equal_pointwise (x ∷ a) (y ∷ b) =
    both_pick (eqb x y) (pointwise nat_eq a b) ∙ ap (λ (t : Bool). pick (eqb x y) t false) (equal_pointwise a b)
