-- A loop that counts up, as a recursion on the count; and the octets that such a loop makes 0. Assumes nothing.
use Rattle.std.specs.Prelude.{ℕ, zero, suc, ◌+◌, ◌≤◌, ◌<◌, ◌≡◌, refl, List, ◌++◌, length, get_or, set, drop}
use Rattle.std.proofs.Common.{sym, ◌∙◌, ap, replicate, not-suc-le-zero, add-one, arith, length-set, get_or-set_same, get_or-set_other}
use Rattle.std.proofs.lemmas.List.Edits.{fill_more}
use Rattle.std.proofs.Math.Decide.{ℕ_discrete}

-- n turns, of which turn i makes f i x of x; the last turn is the last one made
unfoldable pub turns : {A : Type 0} → (ℕ → A → A) → ℕ → A → A
turns f zero x = x
turns f (suc n) x = f n (turns f n x)

-- the three laws that the proof of such a loop cites: where it begins, after a turn, and where it ends
pub turns_none : {A : Type 0} (f : ℕ → A → A) (x : A) → x ≡ turns f 0 x
unfolding turns
turns_none f x = refl

pub turns_more : {A : Type 0} (f : ℕ → A → A) (n : ℕ) (x₀ x y : A) → y ≡ f n x → x ≡ turns f n x₀
    → y ≡ turns f (n + 1) x₀
unfolding turns
turns_more f n x₀ x y p q = rw (add-one n, sym q) p

pub turns_end : {A : Type 0} (f : ℕ → A → A) (n i : ℕ) (x₀ x : A) → i ≤ n → n ≤ i → x ≡ turns f i x₀ → x ≡ turns f n x₀
turns_end f n i x₀ x p q r = let e : i ≡ n = omega arith in rw e at r

-- turns that each keep the length keep it
pub length_turns : (f : ℕ → List ℕ → List ℕ) (n : ℕ) (l : List ℕ) → ((i : ℕ) (x : List ℕ) → length (f i x) ≡ length x)
    → length (turns f n l) ≡ length l
unfolding turns
length_turns f zero l h = refl
length_turns f (suc n) l h = h n (turns f n l) ∙ length_turns f n l h

-- ---- the first n octets are 0

unfoldable pub blanked : ℕ → List ℕ → List ℕ
blanked zero l = l
blanked (suc n) l = set (blanked n l) n 0

-- what the library's `fill` of the first n leaves
pub blanked_fill : (n : ℕ) (l : List ℕ) → n ≤ length l → replicate n 0 ++ drop n l ≡ blanked n l
unfolding blanked
blanked_fill zero l h = refl
blanked_fill (suc n) l h =
    let k : n ≤ length l = omega arith in
    let e : replicate (suc n) 0 ++ drop (suc n) l ≡ set (replicate n 0 ++ drop n l) n 0 =
    sym (rw add-one at (fill_more n 0 l (omega arith))) in
    e ∙ ap (λ (x : List ℕ). set x n 0) (blanked_fill n l k)

pub length_blanked : (n : ℕ) (l : List ℕ) → length (blanked n l) ≡ length l
unfolding blanked
length_blanked zero l = refl
length_blanked (suc n) l = length-set (blanked n l) n 0 ∙ length_blanked n l

pub blanked_same : (n k : ℕ) (l : List ℕ) → k < n → n ≤ length l → get_or (blanked n l) k 0 ≡ 0
unfolding blanked
blanked_same zero k l h b = absurd (not-suc-le-zero h)
blanked_same (suc n) k l h b = go (ℕ_discrete k n) (λ p. blanked_same n k l p (omega arith))
  where
    go : Dec (k ≡ n) → (k < n → get_or (blanked n l) k 0 ≡ 0) → get_or (set (blanked n l) n 0) k 0 ≡ 0
    go (yes p) ih = rw p (get_or-set_same (blanked n l) n 0 0 (omega (arith, length_blanked n l)))
    go (no p) ih = get_or-set_other (blanked n l) n k 0 0 p ∙ ih (omega arith)
