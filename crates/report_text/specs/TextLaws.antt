-- A law for each way through the code that writes numbers and words. Assumes nothing.
use Rattle.std.specs.Prelude.{ℕ, zero, suc, ◌+◌, ◌/◌, ◌%◌, ◌≤◌, ◌<◌, ◌≡◌, ◌^◌, eqb, List, [], ◌∷◌, ◌++◌, get_or, set, replicate}
use Rattle.std.proofs.Math.Path.{refl, ap}
use Rattle.std.proofs.Common.{sym, pow-suc, ◌∙◌, ap₂, add-one, arith, ne_eqb, length-append}
use Rattle.std.proofs.Math.ListN.{length}
use Rattle.std.specs.Fmt.{decimal as text}
use Rattle.std.proofs.lemmas.Fmt.{decimal_by_steps}
use Rattle.std.proofs.lemmas.List.{replicate_more}
use Rattle.std.proofs.lemmas.List.Edits.{sets}
use Rattle.octets.specs.BaseLaws.{by_test}
use Rattle.octets.specs.Store.{sets_append}
use Rattle.report_text.specs.Text.{Written, written, puts, digits, lean, decimal, numbered, counted, placed, line}
use Rattle.report_text.specs.Text.{stations_word, first_line}

-- ---- the digits

pub length_digits : (w n : ℕ) → length (digits w n) ≡ w
unfolding digits
length_digits zero n = refl
length_digits (suc w) n =
    length-append (digits w (n / 10)) _ ∙ ap (λ (k : ℕ). k + 1) (length_digits w (n / 10)) ∙ add-one w

lean_zeros : (w d : ℕ) → lean (replicate w 48 ++ (d ∷ [])) ≡ d ∷ []
unfolding lean
lean_zeros zero d = refl
lean_zeros (suc zero) d = refl
lean_zeros (suc (suc w)) d = lean_zeros (suc w) d

digits_zero : (w : ℕ) → digits w 0 ≡ replicate w 48
unfolding digits
digits_zero zero = refl
digits_zero (suc w) = ap (λ (l : List ℕ). l ++ (48 ∷ [])) (digits_zero w) ∙ replicate_more w 48 ∙ ap (λ (k : ℕ). replicate k 48) (add-one w)

-- behind a digit that is not 0, nothing that follows is left out
lean_append : (l : List ℕ) (d : ℕ) → 48 < get_or (lean l) 0 0 → lean (l ++ (d ∷ [])) ≡ lean l ++ (d ∷ [])
unfolding lean
lean_append [] d h = absurd (omega arith)
lean_append (x ∷ []) d h = rw (ne_eqb x 48 (λ e. omega arith))
lean_append (x ∷ y ∷ l) d h =
    by_test (eqb x 48) (λ e. rw e (lean_append (y ∷ l) d (rw e at h))) (λ e. rw e)

get_front : (l : List ℕ) (d : ℕ) → 48 < get_or l 0 0 → 48 < get_or (l ++ (d ∷ [])) 0 0
get_front [] d h = absurd (omega arith)
get_front (x ∷ l) d h = h

-- what the library writes: as many digits as there are, and the first is not 0 but of 0
Lean : ℕ → List ℕ → Type 0
Lean n ds = ((w : ℕ) → n < 10 ^ suc w → lean (digits (suc w) n) ≡ ds) × (0 < n → 48 < get_or ds 0 0)

lean_one : (n : ℕ) → n < 10 → Lean n ((48 + n) ∷ [])
unfolding Lean digits
lean_one n h =
    let z : n / 10 ≡ 0 = omega arith in
    let e : n % 10 ≡ n = omega arith in
    (λ w k. rw (z, e, digits_zero w) (lean_zeros w (48 + n)), λ k. omega arith)

lean_next : (n : ℕ) (ds : List ℕ) → 10 ≤ n → Lean (n / 10) ds → Lean n (ds ++ ((48 + n % 10) ∷ []))
unfolding Lean digits
lean_next n ds h (p, q) = (each, λ k. get_front ds (48 + n % 10) (q (omega arith)))
  where
    each : (w : ℕ) → n < 10 ^ suc w → lean (digits (suc w) n) ≡ ds ++ ((48 + n % 10) ∷ [])
    each zero k = absurd (omega arith)
    each (suc w) k =
        let f : lean (digits (suc w) (n / 10)) ≡ ds = p w (omega (arith, pow-suc 10 (suc w))) in
        lean_append (digits (suc w) (n / 10)) (48 + n % 10) (rw f (q (omega arith)))
        ∙ ap (λ (l : List ℕ). l ++ ((48 + n % 10) ∷ [])) f

decimal_text : (n : ℕ) → n < 2 ^ 32 → decimal n ≡ text n
unfolding decimal Lean
decimal_text n h = (decimal_by_steps Lean lean_one lean_next n (omega arith)).0 9 (omega arith)

-- ---- a number

pub decimal_is : (l x t s : List ℕ) (at n : ℕ) → n < 2 ^ 32 → x ≡ sets l at t → t ≡ s → s ≡ text n
    → written (at + length t) x ≡ puts l at (decimal n)
decimal_is l x t s at n h p q r =
    let e : t ≡ decimal n = q ∙ r ∙ sym (decimal_text n h) in
    ap₂ written (ap (λ (u : List ℕ). at + length u) e) (p ∙ ap (sets l at) e)

-- ---- pieces one after the other

-- text s at `at`, and t where it ends
module _ (l x : List ℕ) (at m : ℕ) (s : List ℕ) (e : written m x ≡ puts l at s) where
  pub ends : m ≡ at + length s
  ends = ap (λ (w : Written). w.end) e

  pub holds : x ≡ sets l at s
  holds = ap (λ (w : Written). w.octets) e

  pub join : (y : List ℕ) (r : ℕ) (t : List ℕ) → written r y ≡ puts x m t → written r y ≡ puts l at (s ++ t)
  join y r t p =
      let f : r ≡ at + length (s ++ t) = omega (arith, ap (λ (w : Written). w.end) p, ends, length-append s t) in
      let g : y ≡ sets l at (s ++ t) = ap (λ (w : Written). w.octets) p ∙ ap (λ (z : List ℕ). sets z m t) holds
      ∙ sets_append s t l at m ends in
      ap₂ written f g

-- ---- a number with an octet after it

module _ (l x : List ℕ) (at m n : ℕ) (e : written m x ≡ puts l at (decimal n)) where
  pub number_is : (after : ℕ) → written (m + 1) (set x m after) ≡ puts l at (numbered n after)
  unfolding numbered
  number_is after = join l x at m (decimal n) e (set x m after) (m + 1) (after ∷ []) refl

-- ---- a word, and a number

pub word_is : (l x w : List ℕ) (at : ℕ) → x ≡ sets l at w
    → written (at + length w + 1) (set x (at + length w) 32) ≡ puts l at (w ++ (32 ∷ []))
word_is l x w at q =
    join l x at (at + length w) w (ap (written (at + length w)) q) (set x (at + length w) 32) (at + length w + 1)
    (32 ∷ []) refl

module _ (l x w : List ℕ) (at m : ℕ) (e : written m x ≡ puts l at (w ++ (32 ∷ []))) where
  pub counted_is : (y : List ℕ) (r n after : ℕ) → written r y ≡ puts x m (numbered n after)
      → written r y ≡ puts l at (counted w n after)
  unfolding counted
  counted_is y r n after p = join l x at m (w ++ (32 ∷ [])) e y r (numbered n after) p

-- ---- time and station

module _ (l x : List ℕ) (at m t : ℕ) (e : written m x ≡ puts l at (numbered t 32)) where
  pub place_is : (y : List ℕ) (r i : ℕ) → written r y ≡ puts x m (numbered i 32) → written r y ≡ puts l at (placed t i)
  unfolding placed
  place_is y r i p = join l x at m (numbered t 32) e y r (numbered i 32) p

-- ---- a line

module _ (l x : List ℕ) (at m t i : ℕ) (e : written m x ≡ puts l at (placed t i)) where
  pub line_is : (y w : List ℕ) (r n : ℕ) → written r y ≡ puts x m (counted w n 10)
      → written r y ≡ puts l at (line t i w n)
  unfolding line
  line_is y w r n p = join l x at m (placed t i) e y r (counted w n 10) p

module _ (l x : List ℕ) (m n : ℕ) (e : written m x ≡ puts l 0 (counted stations_word n 32)) where
  pub first_is : (y f : List ℕ) → y ≡ sets x m f → written (m + length f) y ≡ puts l 0 (first_line n f)
  unfolding first_line
  first_is y f p = join l x 0 m (counted stations_word n 32) e y (m + length f) f (ap (written (m + length f)) p)
