-- Laws of the checks 5 to 8, one for each way through the code, and what a layout that passes is known to be.
-- Assumes nothing.
use Rattle.std.specs.Prelude.{ℕ, suc, ◌-◌, ◌*◌, ◌≤◌, ◌<◌, min, ◌≡◌, Bool, true, false, ◌||◌, List, [], ◌∷◌, ltb, leb}
use Rattle.std.proofs.Math.Path.{refl}
use Rattle.std.proofs.Common.{sym, ◌∙◌, ap, ap₂, true≢false}
use native.Mathlib.Omega.{arith}
use borrow.Author.Tests.{ltb-false, leb-false}
use Rattle.octets.specs.Base.{pick, some, outside, accepted}
use Rattle.octets.specs.BaseLaws.{neither, within, none_below, some_same}
use Rattle.octets.specs.Equal.{equal}
use Rattle.octets.specs.EqualLaws.{equal_refl}
use Rattle.sheet_layout.specs.declared.Figures.{Figures}
use Rattle.sheet_layout.specs.declared.Tap.{Tap}
use Rattle.sheet_layout.specs.declared.Layout.{Layout}
use Rattle.sheet_layout.specs.Layout.{tap_at, position_at, address_at, fits_well}
use Rattle.sheet_layout.specs.Fit.{fit_of}
use Rattle.sheet_layout.specs.Check.{gap1_out, figures_out, position_out, falls, is_group, same_address, address_wrong}
use Rattle.sheet_layout.specs.Check.{refusal_of}
use Rattle.sheet_layout.specs.Limits.{max_slot, max_stations, max_position, max_attempts}

-- ---- what a layout that passes is known to be

-- a figure within its range
pub record Figured (f : Figures) : Type 0 where
  pub slot : (64 ≤ f.slot) × (f.slot ≤ max_slot)
  pub gap1 : (f.gap1 ≤ 255) × (f.gap1 ≤ 2 * f.gap2)
  pub gap2 : (1 ≤ f.gap2) × (f.gap2 ≤ 255)
  pub jam : (1 ≤ f.jam) × (f.jam ≤ 64)
  pub limit : (1 ≤ f.limit) × (f.limit ≤ max_attempts)
  pub backoff : (1 ≤ f.backoff) × (f.backoff ≤ 10)
  pub ends : f.ends ≤ 1

pub record Sound (y : Layout) : Type 0 where
  pub figures : Figured y.figures
  pub count : (2 ≤ y.count) × (y.count ≤ max_stations)
  pub position : (i : ℕ) → i < y.count → position_at y i ≤ max_position
  pub rising : (i : ℕ) → suc i < y.count → position_at y i < position_at y (suc i)
  pub individual : (i : ℕ) → i < y.count → is_group (address_at y i) ≡ false
  pub distinct : (i j : ℕ) → i < y.count → j < i → address_at y j ≡ address_at y i → ⊥

figured : (f : Figures) → figures_out f ≡ false → Figured f
unfolding figures_out gap1_out
figured f h =
    let a = neither (outside f.slot 64 max_slot) _ h in
    let b = neither (outside f.gap1 0 255 || ltb (2 * f.gap2) f.gap1) _ a.1 in
    let c = neither (outside f.gap2 1 255) _ b.1 in
    let d = neither (outside f.jam 1 64) _ c.1 in
    let e = neither (outside f.limit 1 max_attempts) _ d.1 in
    let k = neither (outside f.backoff 1 10) (outside f.ends 0 1) e.1 in
    let g = neither (outside f.gap1 0 255) (ltb (2 * f.gap2) f.gap1) b.0 in
    record {
      slot = within f.slot 64 max_slot a.0;
      gap1 = ((within f.gap1 0 255 g.0).1, ltb-false (2 * f.gap2) f.gap1 g.1);
      gap2 = within f.gap2 1 255 c.0;
      jam = within f.jam 1 64 d.0;
      limit = within f.limit 1 max_attempts e.0;
      backoff = within f.backoff 1 10 k.0;
      ends = (within f.ends 0 1 k.1).1;
    }

-- a check that does not refuse, and those after it
passed : (b : Bool) (k r : ℕ) → (k ≡ 0 → ⊥) → pick b k r ≡ 0 → (b ≡ false) × (r ≡ 0)
passed true k r h p = absurd (h p)
passed false k r h p = (refl, p)

pub sound : (y : Layout) → refusal_of y ≡ 0 → Sound y
unfolding refusal_of address_wrong
sound y h =
    let a = passed (figures_out y.figures) 5 _ (λ z. omega arith) h in
    let b = passed (some (position_out y) (min y.count max_stations)) 5 _ (λ z. omega arith) a.1 in
    let c = passed (outside y.count 2 16) 6 _ (λ z. omega arith) b.1 in
    let d = passed (some (falls y) (y.count - 1)) 7 _ (λ z. omega arith) c.1 in
    let e = passed (some (address_wrong y) y.count) 8 0 (λ z. omega arith) d.1 in
    let n = within y.count 2 16 c.0 in
    record {
      figures = figured y.figures a.0;
      count = n;
      position =
          λ i p. ltb-false max_position (position_at y i)
          (none_below (position_out y) (min y.count max_stations) i b.0 (omega arith));
      rising =
          λ i p. leb-false (position_at y (suc i)) (position_at y i)
          (none_below (falls y) (y.count - 1) i d.0 (omega arith));
      individual =
          λ i p. (neither (is_group (address_at y i)) (some (same_address y i) i)
          (none_below (address_wrong y) y.count i e.0 p)).0;
      distinct =
          λ i j p q r. unequal (address_at y j) (address_at y i)
          (none_below (same_address y i) i j
          (neither (is_group (address_at y i)) (some (same_address y i) i)
          (none_below (address_wrong y) y.count i e.0 p)).1 q) r;
    }
  where
    unequal : (a b : List ℕ) → equal a b ≡ false → a ≡ b → ⊥
    unequal a b p q = true≢false (sym (equal_refl a) ∙ ap (equal a) q ∙ p)

-- only the stations that are counted matter
pub refusal_same : (y z : Layout) → y.figures ≡ z.figures → y.count ≡ z.count → y.count ≤ max_stations
    → ((i : ℕ) → i < y.count → tap_at y i ≡ tap_at z i)
    → refusal_of y ≡ refusal_of z
unfolding refusal_of address_wrong
refusal_same y z ef en few et =
    λ i. pick (figures_out (ef i)) 5
    (pick (positions i) 5 (pick (outside (en i) 2 max_stations) 6 (pick (order i) 7 (pick (addresses i) 8 0))))
  where
    positions : some (position_out y) (min y.count max_stations) ≡ some (position_out z) (min z.count max_stations)
    positions =
        some_same (position_out y) (position_out z) (min y.count max_stations)
        (λ i h. ap (λ (t : Tap). ltb max_position t.position) (et i (omega arith)))
        ∙ ap (λ (n : ℕ). some (position_out z) (min n max_stations)) en

    order : some (falls y) (y.count - 1) ≡ some (falls z) (z.count - 1)
    order =
        some_same (falls y) (falls z) (y.count - 1)
        (λ i h. ap₂ (λ (t u : Tap). leb u.position t.position) (et i (omega arith)) (et (suc i) (omega arith)))
        ∙ ap (λ (n : ℕ). some (falls z) (n - 1)) en

    wrong : (i : ℕ) → i < y.count
        → (is_group (address_at y i) || some (same_address y i) i) ≡ (is_group (address_at z i) || some (same_address z i) i)
    wrong i h =
        ap₂ (λ (a b : Bool). a || b) (ap (λ (t : Tap). is_group t.address) (et i h))
        (some_same (same_address y i) (same_address z i) i
        (λ j p. ap₂ (λ (t u : Tap). equal u.address t.address) (et i h) (et j (omega arith))))

    addresses : some (λ i. is_group (address_at y i) || some (same_address y i) i) y.count ≡ some
        (λ i. is_group (address_at z i) || some (same_address z i) i) z.count
    addresses =
        some_same _ _ y.count wrong
        ∙ ap (λ (n : ℕ). some (λ i. is_group (address_at z i) || some (same_address z i) i) n) en

-- for the fit: there is a first and a last station
pub counted : (y : Layout) → 0 ≡ refusal_of y → (0 < y.count) × (y.count ≤ max_stations)
counted y p = let c = (sound y (sym p)).count in (omega arith, c.1)

-- ---- the fit

pub fit_is : (y : Layout) (b : Bool) → 0 ≡ refusal_of y → b ≡ fits_well y → accepted (pick b 1 0 ∷ []) ≡ fit_of y
unfolding fit_of
fit_is y b p q = rw (← p, ← q) (by_pick b)
  where
    by_pick : (b : Bool) → accepted (pick b 1 0 ∷ []) ≡ pick b (accepted (1 ∷ [])) (accepted (0 ∷ []))
    by_pick true = refl
    by_pick false = refl
