-- Theorem 2: a plan holds as far as no station deviates from it; any lower bound of each station's first deviation will
-- do. And a plan's later steps do not matter: two that agree on the first K steps hold alike there. Assumes nothing.
use Rattle.std.specs.Prelude.{ℕ, zero, suc, ◌-◌, ◌≤◌, ◌<◌, min, ◌≡◌, refl, Bool, true, false, not, ◌||◌, List, eqb}
use Rattle.std.proofs.Common.{sym, ap, true≢false, arith, eq-eqb, ne_eqb}
use Rattle.octets.specs.Base.{pick}
use Rattle.octets.specs.BaseLaws.{by_test, by_eq, neither}
use Rattle.octets.specs.Turns.{turns}
use Rattle.station_symbols.specs.declared.Symbol.{Symbol}
use Rattle.station_symbols.specs.declared.Symbol.TheVariants.{Silence, Bit, Jam}
use Rattle.area.specs.Area.{count_at}
use Rattle.fast_plan.specs.Plan.{Plan, act_after, Holds}
use Rattle.station_tally.specs.Words.{ends_run}

-- ---- a station's first deviation

abbrev pub same_bit : Bool → Bool → Bool
same_bit true b = b
same_bit false b = not b

unfoldable pub same : Symbol → Symbol → Bool
same Silence Silence = true
same Silence (Bit b) = false
same Silence Jam = false
same (Bit a) Silence = false
same (Bit a) (Bit b) = same_bit a b
same (Bit a) Jam = false
same Jam Silence = false
same Jam (Bit b) = false
same Jam Jam = true

bit_is : (a b : Bool) → same_bit a b ≡ true → a ≡ b
bit_is true b e = sym e
bit_is false true e = absurd (true≢false (sym e))
bit_is false false e = refl

same_is : (s r : Symbol) → same s r ≡ true → s ≡ r
unfolding same
same_is Silence Silence e = refl
same_is Silence (Bit b) e = absurd (true≢false (sym e))
same_is Silence Jam e = absurd (true≢false (sym e))
same_is (Bit a) Silence e = absurd (true≢false (sym e))
same_is (Bit a) (Bit b) e = ap Bit (bit_is a b e)
same_is (Bit a) Jam e = absurd (true≢false (sym e))
same_is Jam Silence e = absurd (true≢false (sym e))
same_is Jam (Bit b) e = absurd (true≢false (sym e))
same_is Jam Jam e = refl

-- no late collision in K steps
unfoldable pub Unhurt : List ℕ → Plan → ℕ → Type 0
Unhurt a P K = (s i : ℕ) → s < K → i < count_at a → ends_run (act_after a P i s).outcome.sent ≡ false

-- station i deviates in step s, or collides late
unfoldable pub deviates : List ℕ → Plan → (i s : ℕ) → Bool
deviates a P i s = not (same (act_after a P i s).symbol (P i s)) || ends_run (act_after a P i s).outcome.sent

-- the first number below m that passes the test, m where none does
unfoldable pub until : (ℕ → Bool) → ℕ → ℕ
until t zero = 0
until t (suc m) = pick (eqb (until t m) m) (pick (t m) m (suc m)) (until t m)

-- the least of g 0, .., g (n - 1) and m
unfoldable pub least : (ℕ → ℕ) → (n m : ℕ) → ℕ
least g n m = turns (λ i b. min (g i) b) n m

pub until_below : (t : ℕ → Bool) (m s : ℕ) → s < until t m → t s ≡ false
unfolding until
until_below t zero s h = absurd (omega arith)
until_below t (suc m) s h =
    by_eq (until t m) m
    (λ e. by_test (t m)
    (λ c. let z : s < m = rw (eq-eqb (until t m) m e, c) at h in until_below t m s (omega arith))
    (λ c. let z : s < suc m = rw (eq-eqb (until t m) m e, c) at h in by_eq s m (λ y. rw y c)
    (λ y. until_below t m s (omega arith))))
    (λ e. until_below t m s (rw (ne_eqb (until t m) m e) at h))

pub least_most : (g : ℕ → ℕ) (n m i : ℕ) → i < n → least g n m ≤ g i
unfolding least turns
least_most g zero m i h = absurd (omega arith)
least_most g (suc n) m i h = by_eq i n (λ e. rw e (omega arith)) (λ e. omega (arith, least_most g n m i (omega arith)))

-- ---- Theorem 2

-- any lower bound of each first deviation
pub holds_below : (a : List ℕ) (P : Plan) (K : ℕ) (b : ℕ → ℕ)
    → ((i s : ℕ) → i < count_at a → s < b i → deviates a P i s ≡ false) → ((i : ℕ) → i < count_at a → K ≤ b i)
    → Holds a P K × Unhurt a P K
unfolding Holds Unhurt deviates
holds_below a P K b h g = (
  λ s i hs hi. same_is (act_after a P i s).symbol (P i s)
      (not_off (same (act_after a P i s).symbol (P i s)) (neither _ _ (h i s hi (omega (arith, g i hi)))).0),
  λ s i hs hi. (neither (not (same (act_after a P i s).symbol (P i s))) _ (h i s hi (omega (arith, g i hi)))).1,
)
  where
    not_off : (b : Bool) → not b ≡ false → b ≡ true
    not_off true e = refl
    not_off false e = absurd (true≢false e)

-- the least of them, of m steps asked
pub holds_prefix : (a : List ℕ) (P : Plan) (m : ℕ)
    → Holds a P (least (λ i. until (deviates a P i) m) (count_at a) m) × Unhurt a P
    (least (λ i. until (deviates a P i) m) (count_at a) m)
holds_prefix a P m =
    holds_below a P (least (λ i. until (deviates a P i) m) (count_at a) m) (λ i. until (deviates a P i) m)
    (λ i s hi hs. until_below (deviates a P i) m s hs)
    (λ i hi. least_most (λ i. until (deviates a P i) m) (count_at a) m i hi)

pub holds_less : (a : List ℕ) (P : Plan) (K m : ℕ) → m ≤ K → Holds a P K → Holds a P m
unfolding Holds
holds_less a P K m le h s i hs hi = h s i (omega arith) hi
