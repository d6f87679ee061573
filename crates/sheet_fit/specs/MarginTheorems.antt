-- A layout whose last tap is moved outward by d fits exactly where d is at most the margin; where there is no margin it
-- fits with no d. Assumes nothing.
use Rattle.std.specs.Prelude.{ℕ, zero, suc, ◌+◌, ◌-◌, ◌*◌, ◌≤◌, ◌<◌, min, ◌≡◌, Bool, false, ◌||◌, [], ◌∷◌, eqb, length, get_or}
use Rattle.std.proofs.Math.Path.{refl, sym, ap₂}
use Rattle.std.proofs.Common.{◌∙◌, ap, true≢false, eqb-true, le-ltb, le-leb}
use Rattle.std.proofs.Math.Bool.{true}
use native.Mathlib.Omega.{arith}
use Rattle.std.proofs.lemmas.Bool.{lt-leb}
use Rattle.std.proofs.Math.Seq.{get_or-set_same, get_or-set_other}
use Rattle.octets.specs.Base.{pick, outside, Answer, accepted, values_of}
use Rattle.octets.specs.BaseLaws.{by_test, by_eq, some_same, refused_none}
use Rattle.octets.specs.Equal.{equal}
use Rattle.sheet_layout.specs.declared.Tap.{Tap}
use Rattle.sheet_layout.specs.declared.Layout.{Layout}
use Rattle.sheet_layout.specs.Layout.{tap_at, position_at, address_at, gap_of, span_of, fits_well}
use Rattle.sheet_layout.specs.Fit.{fit_of}
use Rattle.sheet_layout.specs.Check.{figures_out, position_out, falls, is_group, same_address, address_wrong, refusal_of}
use Rattle.sheet_layout.specs.CheckLaws.{Sound, sound, fit_is}
use Rattle.sheet_layout.specs.Limits.{max_stations, max_position}
use Rattle.sheet_fit.specs.Margin.{moved_out, outward_of, margin_of}
use Rattle.sheet_fit.specs.MarginLaws.{fits_says}

-- ---- a fit, both ways

fits_from : (y : Layout) → 2 * span_of y + gap_of y.figures ≤ y.figures.slot
    → gap_of y.figures ≤ 64 + y.figures.jam → true ≡ fits_well y
unfolding fits_well
fits_from y p q = rw (le-leb _ _ p, le-leb _ _ q)

fit_passed : (y : Layout) → fit_of y ≡ accepted (1 ∷ []) → (refusal_of y ≡ 0) × (fits_well y ≡ true)
unfolding fit_of
fit_passed y h =
    by_test (eqb (refusal_of y) 0)
    (λ c. by_test (fits_well y) (λ e. (eqb-true (refusal_of y) 0 c, e))
    (λ e. absurd (let z : ◌≡◌ {A = ℕ} 0 1 = ap (λ (r : Answer). get_or (values_of r) 0 0)
    (rw (c, e) at h) in omega arith)))
    (λ c. refused_none (refusal_of y) (1 ∷ []) (rw c at h))

-- ---- the moved layout

module _ (y : Layout) (room : y.count ≤ length y.stations) (w : Sound y) (d : ℕ) where
  moved_here : tap_at (moved_out y d) (y.count - 1)
      ≡ record { position = position_at y (y.count - 1) + d; address = address_at y (y.count - 1) }
  unfolding moved_out tap_at
  moved_here = get_or-set_same y.stations (y.count - 1) _ _ (omega (arith, w.count, room))

  moved_there : (i : ℕ) → (i ≡ y.count - 1 → ⊥) → tap_at (moved_out y d) i ≡ tap_at y i
  unfolding moved_out tap_at
  moved_there i h = get_or-set_other y.stations (y.count - 1) i _ _ h

  place_here : (i : ℕ) → i ≡ y.count - 1 → position_at (moved_out y d) i ≡ position_at y i + d
  place_here i e =
      rw e (ap (λ (t : Tap). t.position) moved_here)

  place_there : (i : ℕ) → (i ≡ y.count - 1 → ⊥) → position_at (moved_out y d) i ≡ position_at y i
  place_there i h = ap (λ (t : Tap). t.position) (moved_there i h)

  address_same : (i : ℕ) → address_at (moved_out y d) i ≡ address_at y i
  address_same i =
      by_eq i (y.count - 1) (λ e. rw e (ap (λ (t : Tap). t.address) moved_here))
      (λ h. ap (λ (t : Tap). t.address) (moved_there i h))

  -- no tap moves inward, and the last one alone moves
  place_low : (i : ℕ) → position_at y i ≤ position_at (moved_out y d) i
  place_low i =
      by_eq i (y.count - 1) (λ e. omega (arith, place_here i e)) (λ h. omega (arith, place_there i h))

  -- ---- its checks

  fits_in : position_at y (y.count - 1) + d ≤ max_position → (i : ℕ) → i < y.count
      → position_at (moved_out y d) i ≤ max_position
  fits_in far i h =
      by_eq i (y.count - 1) (λ e. omega (arith, place_here i e, ap (position_at y) e))
      (λ n. omega (arith, place_there i n, w.position i h))

  rises : (i : ℕ) → suc i < y.count → position_at (moved_out y d) i < position_at (moved_out y d) (suc i)
  rises i h = omega (arith, place_there i (λ e. omega arith), place_low (suc i), w.rising i h)

  positions_same : position_at y (y.count - 1) + d ≤ max_position → (i : ℕ) → i < min y.count max_stations
      → position_out (moved_out y d) i ≡ position_out y i
  positions_same far i h =
      le-ltb max_position (position_at (moved_out y d) i) (fits_in far i (omega arith))
      ∙ sym (le-ltb max_position (position_at y i) (w.position i (omega arith)))

  falls_same : (i : ℕ) → i < y.count - 1 → falls (moved_out y d) i ≡ falls y i
  falls_same i h =
      lt-leb (position_at (moved_out y d) (suc i)) (position_at (moved_out y d) i) (rises i (omega arith))
      ∙ sym (lt-leb (position_at y (suc i)) (position_at y i) (w.rising i (omega arith)))

  wrong_same : (i : ℕ) → address_wrong (moved_out y d) i ≡ address_wrong y i
  unfolding address_wrong
  wrong_same i =
      ap₂ (λ (a b : Bool). a || b) (ap is_group (address_same i))
      (some_same (same_address (moved_out y d) i) (same_address y i) i
      (λ j p. ap₂ equal (address_same j) (address_same i)))

  pub moved_passes : refusal_of y ≡ 0 → position_at y (y.count - 1) + d ≤ max_position → refusal_of (moved_out y d) ≡ 0
  unfolding moved_out refusal_of
  moved_passes ok far =
      (λ k. pick (figures_out y.figures) 5
      (pick (some_same (position_out (moved_out y d)) (position_out y) (min y.count max_stations)
      (positions_same far) k) 5
      (pick (outside y.count 2 max_stations) 6
      (pick (some_same (falls (moved_out y d)) (falls y) (y.count - 1) falls_same k) 7
      (pick (some_same (address_wrong (moved_out y d)) (address_wrong y) y.count (λ i h. wrong_same i) k) 8 0)))))
      ∙ ok

  pub moved_far : refusal_of (moved_out y d) ≡ 0 → position_at y (y.count - 1) + d ≤ max_position
  unfolding moved_out
  moved_far h =
      let z = (sound (moved_out y d) h).position (y.count - 1) (omega (arith, w.count)) in
      omega (arith, place_here (y.count - 1) refl)

  -- ---- its span

  first_low : (i : ℕ) → i < y.count → position_at y 0 ≤ position_at y i
  first_low zero h = omega arith
  first_low (suc i) h = omega (arith, first_low i (omega arith), w.rising i h)

  pub moved_span : span_of (moved_out y d) ≡ span_of y + d
  unfolding span_of moved_out
  moved_span =
      omega (
        arith,
        place_here (y.count - 1) refl,
        place_there 0 (λ e. omega (arith, w.count)),
        first_low (y.count - 1) (omega (arith, w.count)),
      )

  -- ---- its fit

  gap_same : gap_of (moved_out y d).figures ≡ gap_of y.figures
  unfolding moved_out
  gap_same = refl

  moved_fits : refusal_of y ≡ 0 → position_at y (y.count - 1) + d ≤ max_position
      → 2 * (span_of y + d) + gap_of y.figures ≤ y.figures.slot → gap_of y.figures ≤ 64 + y.figures.jam
      → fit_of (moved_out y d) ≡ accepted (1 ∷ [])
  unfolding moved_out
  moved_fits ok far slot gap =
      sym (fit_is (moved_out y d) true (sym (moved_passes ok far))
      (fits_from (moved_out y d) (omega (arith, moved_span)) gap))

  -- and back: what a moved layout that fits says
  moved_says : fit_of (moved_out y d) ≡ accepted (1 ∷ [])
      → (position_at y (y.count - 1) + d ≤ max_position) × ((2 * (span_of y + d) + gap_of y.figures ≤ y.figures.slot)
      × (gap_of y.figures ≤ 64 + y.figures.jam))
  unfolding moved_out
  moved_says h =
      let q = fit_passed (moved_out y d) h in
      let r = fits_says (moved_out y d) q.1 in
      (moved_far q.0, (omega (arith, r.0, moved_span), r.1))

-- ---- the margin

-- a margin: the layout passes, fits, and that is how far
given_is : (y : Layout) (k : ℕ) → margin_of y ≡ accepted (k ∷ [])
    → (refusal_of y ≡ 0) × ((fits_well y ≡ true) × (k ≡ outward_of y))
unfolding margin_of
given_is y k h =
    by_test (eqb (refusal_of y) 0)
    (λ c. by_test (fits_well y)
    (λ e. (eqb-true (refusal_of y) 0 c, (e, sym (ap (λ (r : Answer). get_or (values_of r) 0 0) (rw (c, e) at h)))))
    (λ e. absurd (let z : ◌≡◌ {A = ℕ} 0 1 = ap (λ (r : Answer). length (values_of r)) (rw (c, e) at h) in omega arith)))
    (λ c. refused_none (refusal_of y) (k ∷ []) (rw c at h))

none_is : (y : Layout) → margin_of y ≡ accepted [] → (refusal_of y ≡ 0) × (fits_well y ≡ false)
unfolding margin_of
none_is y h =
    by_test (eqb (refusal_of y) 0)
    (λ c. by_test (fits_well y)
    (λ e. absurd (let z : ◌≡◌ {A = ℕ} 1 0 = ap (λ (r : Answer). length (values_of r)) (rw (c, e) at h) in omega arith))
    (λ e. (eqb-true (refusal_of y) 0 c, e)))
    (λ c. refused_none (refusal_of y) [] (rw c at h))

-- every station has a place, as in the code's layouts
module _ (y : Layout) (room : y.count ≤ length y.stations) where
  -- where the margin is k, the layout with its last tap moved outward by d fits exactly where d ≤ k
  pub margin_exact : (k : ℕ) → margin_of y ≡ accepted (k ∷ []) → (d : ℕ)
      → (d ≤ k → fit_of (moved_out y d) ≡ accepted (1 ∷ [])) × (fit_of (moved_out y d) ≡ accepted (1 ∷ []) → d ≤ k)
  unfolding outward_of
  margin_exact k h d =
      let g = given_is y k h in
      let w = sound y g.0 in
      let f = fits_says y g.1.0 in
      let p = w.position (y.count - 1) (omega (arith, w.count)) in (
        (λ e. moved_fits y room w d g.0 (omega (arith, g.1.1, f.0)) (omega (arith, g.1.1, f.0)) f.1),
        (λ e. let q = moved_says y room w d e in omega (arith, g.1.1, q.0, q.1.0)),
      )

  -- where there is none, it fits with no d
  pub margin_none : margin_of y ≡ accepted [] → (d : ℕ) → fit_of (moved_out y d) ≡ accepted (1 ∷ []) → ⊥
  margin_none h d e =
      let g = none_is y h in
      let q = moved_says y room (sound y g.0) d e in
      true≢false (fits_from y (omega (arith, q.1.0)) q.1.1 ∙ g.1)
