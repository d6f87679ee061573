-- How long what is heard of a list of stretches stays as it is: silence until the next one is heard, and sound until the
-- last of those heard now is over. Assumes nothing.
use Rattle.std.specs.Prelude.{ℕ, ◌+◌, ◌≤◌, ◌<◌, min, max, ◌≡◌, refl, Bool, true, false, ◌||◌, List, [], ◌∷◌, eqb, ltb}
use Rattle.std.proofs.Common.{sym, ◌∙◌, ap, true≢false, arith, ltb-true, ltb-false, lt-ltb, le-ltb}
use Rattle.std.proofs.Math.Bool.{or-true}
use Rattle.octets.specs.Base.{pick}
use Rattle.octets.specs.BaseLaws.{by_test, neither}
use Rattle.fast_list.specs.declared.Stretch.{Stretch}
use Rattle.fast_list.specs.Stretches.{end_of, sounds, sounds_any}

-- the first step after s, of those up to m, in which a stretch begins to be heard at j
unfoldable pub next_in : (d : ℕ → ℕ → ℕ) → List Stretch → (j s m : ℕ) → ℕ
next_in d [] j s m = m
next_in d (r ∷ l) j s m =
    min (pick (ltb s (r.from + d r.who j)) (r.from + d r.who j) m) (next_in d l j s m)

-- the step after the last one of those that are heard in step s
unfoldable pub reach_in : (d : ℕ → ℕ → ℕ) → List Stretch → (j s : ℕ) → ℕ
reach_in d [] j s = s
reach_in d (r ∷ l) j s = max (pick (sounds d r j s) (end_of r + d r.who j) s) (reach_in d l j s)

silent_on : (d : ℕ → ℕ → ℕ) (r : Stretch) (j s v m : ℕ) → sounds d r j s ≡ false → s ≤ v
    → v < pick (ltb s (r.from + d r.who j)) (r.from + d r.who j) m → sounds d r j v ≡ false
unfolding sounds
silent_on d r j s v m e h g =
    by_test (eqb r.who j)
    (λ c. rw c)
    (λ c. let at = r.from + d r.who j in
    by_test (ltb s at)
    (λ p. let q : v < at = rw p at g in rw (c, lt-ltb v at q))
    (λ p. let q : ltb s (end_of r + d r.who j) ≡ false = rw (c, p) at e in
    let u = ltb-false s (end_of r + d r.who j) q in
    let w = ltb-false s at p in
    rw (c, le-ltb v at (omega arith), le-ltb v (end_of r + d r.who j) (omega arith))))

-- Theorem 7: what is silent stays so up to the next stretch
pub silent_until : (d : ℕ → ℕ → ℕ) (l : List Stretch) (j s v m : ℕ) → sounds_any d l j s ≡ false → s ≤ v
    → v < next_in d l j s m → sounds_any d l j v ≡ false
unfolding sounds_any next_in
silent_until d [] j s v m e h g = refl
silent_until d (r ∷ l) j s v m e h g =
    let n = neither (sounds d r j s) (sounds_any d l j s) e in
    let x = pick (ltb s (r.from + d r.who j)) (r.from + d r.who j) m in
    let y = next_in d l j s m in
    let p : v < x = omega arith in
    let q : v < y = omega arith in
    rw (silent_on d r j s v m n.0 h p) (silent_until d l j s v m n.1 h q)

sound_on : (d : ℕ → ℕ → ℕ) (r : Stretch) (j s v : ℕ) → sounds d r j s ≡ true → s ≤ v → v < end_of r + d r.who j
    → sounds d r j v ≡ true
unfolding sounds
sound_on d r j s v e h g =
    by_test (eqb r.who j)
    (λ c. let z : false ≡ true = rw c at e in absurd (true≢false (sym z)))
    (λ c. let at = r.from + d r.who j in
    by_test (ltb s at)
    (λ p. let z : false ≡ true = rw (c, p) at e in absurd (true≢false (sym z)))
    (λ p. let w = ltb-false s at p in
    rw (c, le-ltb v at (omega arith), lt-ltb v (end_of r + d r.who j) g)))

-- and what is heard is heard until the last of these stretches is over
pub sound_until : (d : ℕ → ℕ → ℕ) (l : List Stretch) (j s v : ℕ) → s ≤ v → v < reach_in d l j s
    → sounds_any d l j v ≡ true
unfolding sounds_any reach_in
sound_until d [] j s v h g = absurd (omega arith)
sound_until d (r ∷ l) j s v h g =
    let y = reach_in d l j s in
    by_test (ltb v y)
    (λ c. ap (λ (b : Bool). sounds d r j v || b) (sound_until d l j s v h (ltb-true v y c)) ∙ or-true (sounds d r j v))
    (λ c. let q = ltb-false v y c in
    by_test (sounds d r j s)
    (λ p. let z = rw p at g in
    rw (sound_on d r j s v p h (omega arith)))
    (λ p. let z : v < max s y = rw p at g in absurd (omega arith)))
