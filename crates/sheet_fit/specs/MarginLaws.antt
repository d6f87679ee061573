-- A law for each way through the code of the margin. Assumes nothing.
use Rattle.std.specs.Prelude.{ℕ, ◌+◌, ◌-◌, ◌*◌, ◌≤◌, ◌≡◌, refl, Bool, true, false, ◌&&◌, [], ◌∷◌, leb, get_or}
use Rattle.std.proofs.Common.{sym, true≢false}
use native.Mathlib.Omega.{arith}
use borrow.Author.Tests.{leb-true}
use Rattle.octets.specs.Base.{accepted}
use Rattle.sheet_layout.specs.declared.Layout.{Layout}
use Rattle.sheet_layout.specs.Layout.{tap_at, gap_of, span_of, fits_well}
use Rattle.sheet_layout.specs.Check.{refusal_of}
use Rattle.sheet_layout.specs.CheckLaws.{sound}
use Rattle.sheet_layout.specs.Limits.{max_position}
use Rattle.sheet_fit.specs.Margin.{outward_of, margin_of}

both : (a b : Bool) → (a && b) ≡ true → (a ≡ true) × (b ≡ true)
both true b h = (refl, h)
both false b h = absurd (true≢false (sym h))

-- a layout that fits: both inequalities
pub fits_says : (y : Layout) → fits_well y ≡ true
    → (2 * span_of y + gap_of y.figures ≤ y.figures.slot) × (gap_of y.figures ≤ 64 + y.figures.jam)
unfolding fits_well
fits_says y h =
    let q = both (leb (2 * span_of y + gap_of y.figures) y.figures.slot) _ h in
    (leb-true _ _ q.0, leb-true _ _ q.1)

-- the code's differences
pub slot_left : (y : Layout) (s g : ℕ) → s ≡ span_of y → g ≡ gap_of y.figures → fits_well y ≡ true
    → 2 * s + g ≤ y.figures.slot
slot_left y s g p q h = omega (arith, (fits_says y h).0)

pub position_left : (y : Layout) → refusal_of y ≡ 0
    → (get_or y.stations (y.count - 1) (record { position = 0; address = [] })).position ≤ max_position
unfolding tap_at
position_left y h = let w = sound y h in w.position (y.count - 1) (omega (arith, w.count))

pub margin_made : (y : Layout) (b : Bool) (d : ℕ) → 0 ≡ refusal_of y → b ≡ fits_well y → b ≡ true → d ≡ outward_of y
    → accepted (d ∷ []) ≡ margin_of y
unfolding margin_of
margin_made y b d p q r e = rw (← p, ← q, r, e)

pub margin_no : (y : Layout) (b : Bool) → 0 ≡ refusal_of y → b ≡ fits_well y → b ≡ false → accepted [] ≡ margin_of y
unfolding margin_of
margin_no y b p q r = rw (← p, ← q, r)
