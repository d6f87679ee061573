-- What is heard by a plan that is a list of stretches: something just where the line is in use or a stretch is heard; one
-- station alone, or several. Assumes nothing.
use Rattle.std.specs.Prelude.{ℕ, zero, suc, ◌+◌, ◌-◌, ◌≤◌, ◌<◌, ◌≡◌, Bool, true, false, eqb, ltb, leb}
use Rattle.std.proofs.Math.Path.{refl, ap, ap₂}
use Rattle.std.proofs.Common.{sym, ◌∙◌, subst, true≢false, arith}
use Rattle.std.proofs.Math.Bool.{◌||◌}
use mathlib.Core.List.{List, [], ◌∷◌}
use borrow.Author.Tests.{eq-eqb, ne_eqb, ltb-true, ltb-false, leb-true, leb-false, lt-ltb, le-ltb}
use Rattle.octets.specs.Base.{pick, some}
use Rattle.octets.specs.BaseLaws.{by_test, by_eq}
use Rattle.station_symbols.specs.declared.Heard.{Heard}
use Rattle.station_symbols.specs.declared.Heard.TheVariants.{Nothing, Clean, Spoiled}
use Rattle.station_symbols.specs.declared.Symbol.{Symbol}
use Rattle.station_symbols.specs.declared.Symbol.TheVariants.{Silence, Bit, Jam}
use Rattle.station_symbols.specs.Packet.{hears_any}
use Rattle.area.specs.Area.{count_at, space_at, alone, met, joined}
use Rattle.bus_meeting.specs.Net.{Net, gathered, reaches, heard}
use Rattle.bus_meeting.specs.Gather.{on, off_is, gathered_one, gathered_two}
use Rattle.fast_plan.specs.Plan.{Plan, net_of, line_now, hears}
use Rattle.fast_list.specs.Grown.{Alike}
use Rattle.fast_list.specs.declared.Stretch.{Stretch}
use Rattle.fast_list.specs.Stretches.{end_of, symbol_in, over, plan_in, sounds, sounds_of, sounds_any}

-- ---- one stretch

module _ (B : ℕ → ℕ → Symbol) (r : Stretch) (s : ℕ) where
  pub symbol_before : s < r.from → symbol_in B r s ≡ Silence
  unfolding symbol_in
  symbol_before h = rw (lt-ltb s r.from h)

  pub symbol_after : end_of r ≤ s → symbol_in B r s ≡ Silence
  unfolding symbol_in
  symbol_after h =
      rw (le-ltb s r.from (omega arith), le-ltb s (r.from + r.bits) (omega arith), le-ltb s (end_of r) h)

  symbol_on : ((i k : ℕ) → on (B i k) ≡ true) → r.from ≤ s → s < end_of r → on (symbol_in B r s) ≡ true
  unfolding symbol_in
  symbol_on b p q =
      by_test (ltb s (r.from + r.bits))
      (λ c. rw (le-ltb s r.from p, c) (b r.who (r.bit + (s - r.from))))
      (λ c. rw (le-ltb s r.from p, c, lt-ltb s (end_of r) q))

-- a stretch more changes nothing before it begins
pub grown_alike : (a : List ℕ) (B : ℕ → ℕ → Symbol) (r : Stretch) (l : List Stretch) (K : ℕ) → K ≤ r.from
    → Alike a (plan_in B l) (plan_in B (r ∷ l)) K
unfolding Alike plan_in
grown_alike a B r l K h i s hi hs =
    by_test (eqb r.who i)
    (λ c. rw (c, symbol_before B r s (omega arith)))
    (λ c. rw c)

-- ---- whether anything is heard

any_joined : (h : Heard) (s : Symbol) → hears_any (joined h s) ≡ (hears_any h || on s)
any_joined Nothing Silence = refl
any_joined Nothing (Bit b) = refl
any_joined Nothing Jam = refl
any_joined (Clean c) Silence = refl
any_joined (Clean c) (Bit b) = refl
any_joined (Clean c) Jam = refl
any_joined Spoiled Silence = refl
any_joined Spoiled (Bit b) = refl
any_joined Spoiled Jam = refl

any_met : (g h : Heard) → hears_any (met g h) ≡ (hears_any g || hears_any h)
any_met Nothing h = refl
any_met (Clean c) Nothing = refl
any_met (Clean c) (Clean b) = refl
any_met (Clean c) Spoiled = refl
any_met Spoiled Nothing = refl
any_met Spoiled (Clean b) = refl
any_met Spoiled Spoiled = refl

on_over : (x y : Symbol) → on (over x y) ≡ (on x || on y)
on_over Silence y = refl
on_over (Bit b) y = refl
on_over Jam y = refl

any_gathered : (n : ℕ) (c : ℕ → Symbol) → hears_any (gathered n c) ≡ some (λ i. on (c i)) n
unfolding gathered some
any_gathered zero c = refl
any_gathered (suc n) c =
    any_joined (gathered n c) (c n) ∙ ap (λ (b : Bool). b || on (c n)) (any_gathered n c)

some_same : (t u : ℕ → Bool) (n : ℕ) → ((i : ℕ) → i < n → t i ≡ u i) → some t n ≡ some u n
unfolding some
some_same t u zero h = refl
some_same t u (suc n) h = ap₂ ◌||◌ (some_same t u n (λ i l. h i (omega arith))) (h n (omega arith))

-- ---- station by station

module _ (B : ℕ → ℕ → Symbol) (b : (i k : ℕ) → on (B i k) ≡ true) (d : ℕ → ℕ → ℕ) where
  -- a stretch of station i, where it reaches j
  stretch_on : (r : Stretch) (j s : ℕ) → (r.who ≡ j → ⊥) → d r.who j ≤ s
      → on (symbol_in B r (s - d r.who j)) ≡ sounds d r j s
  unfolding sounds
  stretch_on r j s ne le =
      let i = r.who in
      rw (ne_eqb i j ne) (by_test (ltb s (r.from + d i j))
      (λ c. let h = ltb-true s (r.from + d i j) c in
      rw c (ap on (symbol_before B r (s - d i j) (omega arith))))
      (λ c. let h = ltb-false s (r.from + d i j) c in
      rw c (by_test (ltb s (end_of r + d i j))
      (λ e. let g = ltb-true s (end_of r + d i j) e in
      rw e (symbol_on B r (s - d i j) b (omega arith) (omega arith)))
      (λ e. let g = ltb-false s (end_of r + d i j) e in
      rw e (ap on (symbol_after B r (s - d i j) (omega arith)))))))

  first : (r : Stretch) (i j s : ℕ) → (i ≡ j → ⊥) → d i j ≤ s
      → on (pick (eqb r.who i) (symbol_in B r (s - d i j)) Silence) ≡ pick (eqb r.who i) (sounds d r j s) false
  first r i j s ne le =
      by_eq r.who i
      (λ w. rw (eq-eqb r.who i w) (same i w ne le))
      (λ w. rw (ne_eqb r.who i w))
    where
      same : (i : ℕ) → r.who ≡ i → (i ≡ j → ⊥) → d i j ≤ s → on (symbol_in B r (s - d i j)) ≡ sounds d r j s
      same i w ne le =
          ap (λ (k : ℕ). on (symbol_in B r (s - d k j))) (sym w)
          ∙ stretch_on r j s (λ z. ne (sym w ∙ z)) (subst (λ (k : ℕ). d k j ≤ s) (sym w) le)

  plan_on : (l : List Stretch) (i j s : ℕ) → (i ≡ j → ⊥) → d i j ≤ s
      → on (plan_in B l i (s - d i j)) ≡ sounds_of d l i j s
  unfolding plan_in sounds_of
  plan_on [] i j s ne le = refl
  plan_on (r ∷ l) i j s ne le =
      on_over (pick (eqb r.who i) (symbol_in B r (s - d i j)) Silence) (plan_in B l i (s - d i j))
      ∙ ap₂ ◌||◌ (first r i j s ne le) (plan_on l i j s ne le)

  none_own : (l : List Stretch) (j s : ℕ) → sounds_of d l j j s ≡ false
  unfolding sounds_of sounds
  none_own [] j s = refl
  none_own (r ∷ l) j s =
      by_eq r.who j
      (λ w. rw (eq-eqb r.who j w) (none_own l j s))
      (λ w. rw (ne_eqb r.who j w) (none_own l j s))

  none_early : (l : List Stretch) (i j s : ℕ) → s < d i j → sounds_of d l i j s ≡ false
  unfolding sounds_of sounds
  none_early [] i j s h = refl
  none_early (r ∷ l) i j s h =
      by_eq r.who i
      (λ w. by_test (eqb i j)
      (λ c. rw (w, eq-eqb i i refl, c) (none_early l i j s h))
      (λ c. rw (w, eq-eqb i i refl, c, lt-ltb s (r.from + d i j) (omega arith)) (none_early l i j s h)))
      (λ w. rw (ne_eqb r.who i w) (none_early l i j s h))

  -- a station is heard just where a stretch of it is
  pub reaches_on : (l : List Stretch) (i j s : ℕ) → on (reaches d (plan_in B l) j s i) ≡ sounds_of d l i j s
  unfolding reaches
  reaches_on l i j s =
      by_eq i j
      (λ z. rw (eq-eqb i j z, z) (sym (none_own l j s)))
      (λ z. by_test (leb (d i j) s)
      (λ c. rw (ne_eqb i j z, c) (plan_on l i j s z (leb-true (d i j) s c)))
      (λ c. rw (ne_eqb i j z, c) (sym (none_early l i j s (leb-false (d i j) s c)))))

-- ---- all stations

-- each stretch is of one of n stations
unfoldable pub Within : ℕ → List Stretch → Type 0
Within n [] = Unit {0}
Within n (r ∷ l) = (r.who < n) × Within n l

some_none : (n : ℕ) → some (λ i. false) n ≡ false
unfolding some
some_none zero = refl
some_none (suc n) = rw (some_none n)

some_one : (n k : ℕ) (b : Bool) → k < n → some (λ i. pick (eqb k i) b false) n ≡ b
unfolding some
some_one zero k b h = absurd (omega arith)
some_one (suc n) k b h =
    by_eq k n
    (λ e. rw (eq-eqb k n e) (ap (λ (x : Bool). x || b) (others n k b (omega arith))))
    (λ e. rw (ne_eqb k n e, some_one n k b (omega arith)) (or_false b))
  where
    or_false : (b : Bool) → (b || false) ≡ b
    or_false true = refl
    or_false false = refl

    others : (n k : ℕ) (b : Bool) → n ≤ k → some (λ i. pick (eqb k i) b false) n ≡ false
    others n k b h =
        some_same (λ i. pick (eqb k i) b false) (λ i. false) n (λ i l. rw (ne_eqb k i (λ e. omega arith)))
        ∙ some_none n

some_both : (t u : ℕ → Bool) (n : ℕ) → some (λ i. t i || u i) n ≡ (some t n || some u n)
unfolding some
some_both t u zero = refl
some_both t u (suc n) = ap (λ (x : Bool). x || (t n || u n)) (some_both t u n) ∙ mid (some t n) (some u n) (t n) (u n)
  where
    mid : (a b c e : Bool) → ((a || b) || (c || e)) ≡ ((a || c) || (b || e))
    mid true b c e = refl
    mid false true true e = refl
    mid false true false e = refl
    mid false false c e = refl

of_any : (d : ℕ → ℕ → ℕ) (l : List Stretch) (n j s : ℕ) → Within n l
    → some (λ i. sounds_of d l i j s) n ≡ sounds_any d l j s
unfolding sounds_of sounds_any Within
of_any d [] n j s w = some_none n
of_any d (r ∷ l) n j s w =
    some_both (λ i. pick (eqb r.who i) (sounds d r j s) false) (λ i. sounds_of d l i j s) n
    ∙ ap₂ ◌||◌ (some_one n r.who (sounds d r j s) w.0) (of_any d l n j s w.1)

module _ (a : List ℕ) (B : ℕ → ℕ → Symbol) (b : (i k : ℕ) → on (B i k) ≡ true) (l : List Stretch) (j s : ℕ) where
  -- Theorem 5: something is heard just where the line is in use or a stretch is heard
  pub hears_any_lem : Within (count_at a) l
      → hears_any (hears a (plan_in B l) j s) ≡ (hears_any (line_now a j s) || sounds_any (space_at a) l j s)
  unfolding hears heard net_of
  hears_any_lem w =
      any_met (line_now a j s) (gathered (count_at a) (reaches (space_at a) (plan_in B l) j s))
      ∙ ap (λ (x : Bool). hears_any (line_now a j s) || x)
      (any_gathered (count_at a) (reaches (space_at a) (plan_in B l) j s)
      ∙ some_same (λ i. on (reaches (space_at a) (plan_in B l) j s i)) (λ i. sounds_of (space_at a) l i j s) (count_at a)
      (λ i h. reaches_on B b (space_at a) l i j s)
      ∙ of_any (space_at a) l (count_at a) j s w)

  -- Theorem 6: one station alone, or two
  pub heard_one : (k : ℕ) → k < count_at a
      → ((i : ℕ) → i < count_at a → (i ≡ k → ⊥) → sounds_of (space_at a) l i j s ≡ false)
      → heard (net_of a) (plan_in B l) j s ≡ alone (reaches (space_at a) (plan_in B l) j s k)
  unfolding heard net_of
  heard_one k hk h =
      gathered_one (count_at a) (reaches (space_at a) (plan_in B l) j s) k hk
      (λ i hi ne. off_is (reaches (space_at a) (plan_in B l) j s i)
      (reaches_on B b (space_at a) l i j s ∙ h i hi ne))

  pub heard_two : (i k : ℕ) → i < count_at a → k < count_at a → (i ≡ k → ⊥) → sounds_of (space_at a) l i j s ≡ true
      → sounds_of (space_at a) l k j s ≡ true
      → heard (net_of a) (plan_in B l) j s ≡ Spoiled
  unfolding heard net_of
  heard_two i k hi hk ne oi ok =
      gathered_two (count_at a) (reaches (space_at a) (plan_in B l) j s) i k hi hk ne
      (reaches_on B b (space_at a) l i j s ∙ oi)
      (reaches_on B b (space_at a) l k j s ∙ ok)
