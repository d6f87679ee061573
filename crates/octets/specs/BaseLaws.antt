-- Laws of answers, of a search and of a range. Assumes nothing.
use Prim.Native.Nat.{ℕ, zero, suc, ◌+◌, ◌≤◌, ◌<◌}
use Rattle.std.specs.Prelude.{◌≡◌, Bool, ◌||◌, List, ltb}
use Rattle.std.proofs.Math.Path.{refl, sym, ap}
use Rattle.std.proofs.Common.{◌∙◌, ap₂, true≢false, not-suc-le-zero, add-one, ltb-false, le-ltb}
use Rattle.std.proofs.Math.Bool.{true, false, or-true}
use Rattle.std.proofs.Math.Decide.{dec_lt, ℕ_discrete}
use native.Mathlib.Omega.{arith}
use Rattle.octets.specs.Base.{some, outside, refusal_number, Answer, refused, accepted}
use Rattle.octets.specs.declared.Refusal.{Refusal}
use Rattle.octets.specs.declared.Refusal.TheVariants.{AreaShort, AreaWrong, SheetShort, MapBits, OutOfRange, StationCount}
use Rattle.octets.specs.declared.Refusal.TheVariants.{Positions, Addresses, Draws, NoSuchStation, FrameData, FrameHeld}
use Rattle.octets.specs.declared.Refusal.TheVariants.{ClockTop, NothingReadable, OutputShort, PlanWrong, NoSuchMark}
use Rattle.octets.specs.declared.Refusal.TheVariants.{MarksFull, WindowReversed, TimesFall}

-- a test with its answer remembered, and two numbers that are equal or not
pub by_test : {C : Type 0} (b : Bool) → (b ≡ true → C) → (b ≡ false → C) → C
by_test true f g = f refl
by_test false f g = g refl

pub by_eq : {C : Type 0} (m n : ℕ) → (m ≡ n → C) → ((m ≡ n → ⊥) → C) → C
by_eq {C} m n f g = go (ℕ_discrete m n)
  where
    go : Dec (m ≡ n) → C
    go (yes h) = f h
    go (no h) = g h

-- a refusal has a number that is not 0
pub refusal_numbered : (e : Refusal) → refusal_number e ≡ 0 → ⊥
refusal_numbered AreaShort p = cc
refusal_numbered AreaWrong p = cc
refusal_numbered SheetShort p = cc
refusal_numbered MapBits p = cc
refusal_numbered OutOfRange p = cc
refusal_numbered StationCount p = cc
refusal_numbered Positions p = cc
refusal_numbered Addresses p = cc
refusal_numbered Draws p = cc
refusal_numbered NoSuchStation p = cc
refusal_numbered FrameData p = cc
refusal_numbered FrameHeld p = cc
refusal_numbered ClockTop p = cc
refusal_numbered NothingReadable p = cc
refusal_numbered OutputShort p = cc
refusal_numbered PlanWrong p = cc
refusal_numbered NoSuchMark p = cc
refusal_numbered MarksFull p = cc
refusal_numbered WindowReversed p = cc
refusal_numbered TimesFall p = cc

-- a refusal is no accepted answer, whatever its number
abbrev is_accepted : Answer → Bool
is_accepted (refused n) = false
is_accepted (accepted vs) = true

pub refused_none : {C : Type 0} (k : ℕ) (vs : List ℕ) → refused k ≡ accepted vs → C
refused_none k vs p = absurd (true≢false (sym (ap is_accepted p)))

-- neither of two
pub neither : (a b : Bool) → (a || b) ≡ false → (a ≡ false) × (b ≡ false)
neither true b h = absurd (true≢false h)
neither false b h = (refl, h)

-- ---- a search, as a loop that counts up and stops at the first hit

module _ (t : ℕ → Bool) where
  pub some_none : some t 0 ≡ false
  unfolding some
  some_none = refl

  pub some_more : (i : ℕ) (f : Bool) → f ≡ t i → f ≡ false → some t i ≡ false → some t (i + 1) ≡ false
  unfolding some
  some_more i f p q r = rw (add-one i, r, ← p) q

  pub some_hit : (n i : ℕ) (f : Bool) → f ≡ t i → f ≡ true → i < n → true ≡ some t n
  unfolding some
  some_hit zero i f p q h = absurd (not-suc-le-zero h)
  some_hit (suc n) i f p q h = go (dec_lt i n) (λ k. some_hit n i f p q k)
    where
      go : Dec (i < n) → (i < n → true ≡ some t n) → true ≡ (some t n || t n)
      go (yes k) g = rw (← g k)
      go (no k) g =
          let e : i ≡ n = omega arith in sym (ap (λ (b : Bool). some t n || b) (ap t (sym e) ∙ sym p ∙ q) ∙ or-true
          (some t n))

  pub some_end : (n i : ℕ) → i ≤ n → n ≤ i → some t i ≡ false → false ≡ some t n
  some_end n i h k p = let e : i ≡ n = omega arith in sym (rw e at p)

  -- what no number below n passes
  pub none_below : (n i : ℕ) → some t n ≡ false → i < n → t i ≡ false
  unfolding some
  none_below zero i p h = absurd (not-suc-le-zero h)
  none_below (suc n) i p h = go (dec_lt i n) (λ k. none_below n i (neither (some t n) (t n) p).0 k)
    where
      go : Dec (i < n) → (i < n → t i ≡ false) → t i ≡ false
      go (yes k) g = g k
      go (no k) g = let e : i ≡ n = omega arith in ap t e ∙ (neither (some t n) (t n) p).1

  -- where none below n passes
  pub below_none : (n : ℕ) → ((i : ℕ) → i < n → t i ≡ false) → some t n ≡ false
  unfolding some
  below_none zero h = refl
  below_none (suc n) h = rw (below_none n (λ i p. h i (omega arith)), h n (omega arith))

-- only the numbers below n matter
pub some_same : (t u : ℕ → Bool) (n : ℕ) → ((i : ℕ) → i < n → t i ≡ u i) → some t n ≡ some u n
unfolding some
some_same t u zero h = refl
some_same t u (suc n) h = ap₂ (λ (a b : Bool). a || b) (some_same t u n (λ i p. h i (omega arith))) (h n (omega arith))

-- ---- a range

pub outside_not : (x a b : ℕ) → a ≤ x → x ≤ b → outside x a b ≡ false
unfolding outside
outside_not x a b p q = rw (le-ltb x a p, le-ltb b x q)

pub within : (x a b : ℕ) → outside x a b ≡ false → (a ≤ x) × (x ≤ b)
unfolding outside
within x a b h = let n = neither (ltb x a) (ltb b x) h in (ltb-false x a n.0, ltb-false b x n.1)

pub within_high : (x a b : ℕ) (t : Bool) → t ≡ outside x a b → t ≡ false → x ≤ b
within_high x a b t p q = (within x a b (sym p ∙ q)).1

pub outside_is : (x a b : ℕ) (t : Bool) → t ≡ (ltb x a || ltb b x) → t ≡ outside x a b
unfolding outside
outside_is x a b t p = p
