-- Document 01's two stations: their sheet is read and fits, and a fresh start on it is accepted, so demand 3 holds of
-- every list of calls on them. Assumes nothing.
use Rattle.std.specs.Prelude.{ℕ, zero, suc, ◌<◌, ◌≡◌, refl, Bool, true, false, List, [], ◌∷◌, leb, length, get_or}
use Rattle.std.proofs.Common.{sym, true≢false, arith, le-ltb, leb-true}
use Rattle.std.proofs.lemmas.List.{length-replicate}
use Rattle.octets.specs.Base.{pick, some, outside, accepted}
use Rattle.octets.specs.BaseLaws.{by_test}
use Rattle.octets.specs.Equal.{equal}
use Rattle.octets.specs.Filled.{listed, filled}
use Rattle.octets.specs.Number.{get}
use Rattle.octets.specs.NumberLaws.{Octets, octets_by}
use Rattle.sheet_layout.specs.Layout.{tap_at, gap_of, span_of, fits_well}
use Rattle.sheet_layout.specs.Check.{gap1_out, figures_out, address_wrong, refusal_of}
use Rattle.sheet_layout.specs.Fit.{fit_of}
use Rattle.sheet_read.specs.Sheet.{field_at, field, figures_in, tap_in, layout_in, sheet_size, read_sheet}
use Rattle.bus_start.specs.Start.{started}
use Rattle.delivery.specs.Calls.{Call, AllFair}
use Rattle.delivery.specs.Demand3.{Demand3For}
use Rattle.delivery.proofs.Theorem.{demand_3}
use Rattle.area.specs.Offsets.{area_size}
use Rattle.delivery.specs.Two.{two, blank, draws}

-- each of them is an octet, by a test that is computed
all : List ℕ → Bool
all [] = true
all (x ∷ l) = pick (leb x 255) (all l) false

all_octets : (l : List ℕ) → all l ≡ true → (k : ℕ) → get_or l k 0 < 256
unfolding all
all_octets [] h k = omega arith
all_octets (x ∷ l) h zero =
    by_test (leb x 255) (λ c. let q = leb-true x 255 c in omega arith) (λ c. absurd (true≢false (sym (rw c at h))))
all_octets (x ∷ l) h (suc k) =
    by_test (leb x 255) (λ c. all_octets l (rw c at h) k) (λ c. absurd (true≢false (sym (rw c at h))))

two_octets : Octets two
unfolding two all
two_octets = octets_by two (all_octets two refl)

two_read : (read_sheet two).answer ≡ accepted (16 ∷ [])
unfolding two read_sheet sheet_size some outside equal get tap_at gap1_out figures_out address_wrong refusal_of field_at field figures_in tap_in listed filled layout_in
two_read = refl

two_fits : fit_of (read_sheet two).layout ≡ accepted (1 ∷ [])
unfolding two read_sheet sheet_size some outside equal get tap_at gap_of span_of fits_well gap1_out figures_out address_wrong refusal_of fit_of field_at field figures_in tap_in listed filled layout_in
two_fits = refl

two_passes : refusal_of (read_sheet two).layout ≡ 0
unfolding two read_sheet sheet_size some outside equal get tap_at gap1_out figures_out address_wrong refusal_of field_at field figures_in tap_in listed filled layout_in
two_passes = refl

blank_long : length blank ≡ area_size
unfolding blank
blank_long = length-replicate {A = ℕ} area_size 0

two_starts : (started blank (read_sheet two).layout 1 draws).answer ≡ accepted []
unfolding started outside
two_starts = rw (le-ltb (length blank) area_size (omega (arith, blank_long)), two_passes) refl

pub two_demand : (cs : List Call) → AllFair cs
    → Demand3For (read_sheet two).layout (started blank (read_sheet two).layout 1 draws).octets cs
two_demand cs fair = demand_3 two two_octets 16 two_read blank 1 draws two_starts cs fair two_fits
