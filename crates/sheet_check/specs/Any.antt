-- What `any` answers, as a search over numbers. Assumes nothing.
use Rattle.std.specs.Prelude.{ℕ, ◌<◌, ◌≡◌, Bool, true, false, List, length, get_or}
use Rattle.std.specs.Bool.{MatchBool}
use Rattle.std.specs.List.{HoldsAt, AllWithin, range_with_len}
use Rattle.std.proofs.Common.{sym, ◌∙◌, ap, refl, arith}
use Rattle.std.proofs.lemmas.List.FromFn.{length-range_with_len, get_or-range_with_len}
use Rattle.octets.specs.Base.{some}
use Rattle.octets.specs.BaseLaws.{some_hit, below_none}

-- over the items of a list
pub some_any : {X : Type 0} (p : X → Bool) (xs : List X) (t : ℕ → Bool) (d : X) (r : Bool)
    → ((i : ℕ) → i < length xs → p (get_or xs i d) ≡ t i)
    → MatchBool r ((k : ℕ) × (k < length xs) × HoldsAt (λ x. p x ≡ true) xs k)
    (AllWithin (λ x. p x ≡ false) xs 0 (length xs)) → r ≡ some t (length xs)
some_any p xs t d true e h = some_hit t (length xs) h.0 true (sym (h.2 d) ∙ e h.0 h.1) refl h.1
some_any p xs t d false e h = sym (below_none t (length xs) (λ i g. sym (e i g) ∙ h i d (omega arith) g))

-- over the numbers below n
pub some_below : (t : ℕ → Bool) (n : ℕ) (r : Bool)
    → MatchBool r ((k : ℕ) × (k < length (range_with_len 0 n)) × HoldsAt (λ i. t i ≡ true) (range_with_len 0 n) k)
    (AllWithin (λ i. t i ≡ false) (range_with_len 0 n) 0 (length (range_with_len 0 n))) → r ≡ some t n
some_below t n r h =
    let e : length (range_with_len 0 n) ≡ n = length-range_with_len 0 n in
    some_any t (range_with_len 0 n) t 0 r
    (λ i g. ap t (get_or-range_with_len 0 n i 0 (omega (arith, e)) ∙ omega arith)) h
    ∙ ap (some t) e
