-- What a caller may rely on. A look at a station that is refused leaves the lent output as it was. The margin of a
-- sheet that is read is below 255, and the layout fits exactly up to there with its last tap moved outward; or it is
-- 256, and the layout fits with no such move. Assumes nothing.
use Prim.Native.Nat.{ℕ, zero, suc, ◌-◌, ◌≤◌, ◌<◌}
use Rattle.std.specs.Prelude.{◌≡◌, refl, true, false, List, [], ◌∷◌, ◌⊎◌, ltb, length, get_or}
use Rattle.std.proofs.Common.{sym, inl, inr, arith, ltb-true, ltb-false}
use Rattle.std.proofs.Math.Path.{ap}
use Rattle.octets.specs.Base.{accepted}
use Rattle.octets.specs.BaseLaws.{by_test}
use Rattle.sheet_layout.specs.declared.Tap.{Tap}
use Rattle.sheet_layout.specs.Layout.{position_at, fits_well}
use Rattle.sheet_layout.specs.Fit.{fit_of}
use Rattle.sheet_layout.specs.CheckLaws.{sound}
use Rattle.sheet_layout.specs.Limits.{max_position}
use Rattle.sheet_read.specs.Sheet.{read_sheet}
use Rattle.sheet_read.specs.SheetTheorems.{read_passes, read_formed}
use Rattle.sheet_fit.specs.Margin.{moved_out, outward_of, margin_of}
use Rattle.sheet_fit.specs.MarginLaws.{margin_made, margin_no}
use Rattle.sheet_fit.specs.MarginTheorems.{margin_exact, margin_none}
use Rattle.c_calls.specs.Calls.{short}
use Rattle.c_calls.specs.CallTheorems.{Keeps, checks, answers}
use Rattle.c_views.specs.Views.{station_out, station_refusal, station_put, station_given, no_margin, margin_given}

pub station_keeps : (a : List ℕ) (i : ℕ) (out : List ℕ) → Keeps out (station_given a i out)
unfolding station_given
station_keeps a i out =
    checks (station_refusal a i) out _
    (checks (short station_out out) out _ (answers 0 out (station_put a i out) (omega arith)))

-- ---- the margin

-- past the end of a list
past_end : (ts : List Tap) (i : ℕ) (t : Tap) → length ts ≤ i → get_or ts i t ≡ t
past_end [] i t h = refl
past_end (x ∷ ts) zero t h = absurd (omega arith)
past_end (x ∷ ts) (suc i) t h = past_end ts i t (omega arith)

module _ (l : List ℕ) (n : ℕ) (read : (read_sheet l).answer ≡ accepted (n ∷ [])) where
  -- every station has a place: its address is six octets
  read_room : (read_sheet l).layout.count ≤ length (read_sheet l).layout.stations
  read_room =
      let y = (read_sheet l).layout in
      let w = sound y (read_passes l n read) in
      by_test (ltb (length y.stations) y.count)
      (λ p. absurd (let h = read_formed l n read (y.count - 1) (omega (arith, w.count)) in
      let e = past_end y.stations (y.count - 1) (record { position = 0; address = [] })
      (omega (arith, ltb-true (length y.stations) y.count p)) in
      omega (arith, h, ap (λ (t : Tap). length t.address) e)))
      (λ p. ltb-false (length y.stations) y.count p)

  -- what the call returns where there is a margin, and where there is none
  given_some : (k : ℕ) → margin_of (read_sheet l).layout ≡ accepted (k ∷ []) → margin_given l ≡ k
  unfolding margin_given
  given_some k e = rw (read, e)

  given_none : margin_of (read_sheet l).layout ≡ accepted [] → margin_given l ≡ no_margin
  unfolding margin_given
  given_none e = rw (read, e)

  fits_so : fits_well (read_sheet l).layout ≡ true
      → margin_of (read_sheet l).layout ≡ accepted (outward_of (read_sheet l).layout ∷ [])
  fits_so h = sym (margin_made (read_sheet l).layout true _ (sym (read_passes l n read)) (sym h) refl refl)

  not_so : fits_well (read_sheet l).layout ≡ false → margin_of (read_sheet l).layout ≡ accepted []
  not_so h = sym (margin_no (read_sheet l).layout false (sym (read_passes l n read)) (sym h) refl)

  -- the last of two or more taps is not at 0
  outward_low : outward_of (read_sheet l).layout < max_position
  unfolding outward_of
  outward_low =
      let y = (read_sheet l).layout in
      let w = sound y (read_passes l n read) in
      let e : suc (y.count - 2) ≡ y.count - 1 = omega (arith, w.count) in
      omega (arith, w.rising (y.count - 2) (omega (arith, w.count)), ap (position_at y) e)

  pub margin_within : (margin_given l < max_position) ⊎ (margin_given l ≡ no_margin)
  margin_within =
      by_test (fits_well (read_sheet l).layout)
      (λ h. inl (let e = given_some _ (fits_so h) in omega (arith, e, outward_low)))
      (λ h. inr (given_none (not_so h)))

  -- it fits exactly up to there
  pub margin_up_to : margin_given l < no_margin → (d : ℕ)
      → (d ≤ margin_given l → fit_of (moved_out (read_sheet l).layout d) ≡ accepted (1 ∷ []))
      × (fit_of (moved_out (read_sheet l).layout d) ≡ accepted (1 ∷ []) → d ≤ margin_given l)
  margin_up_to g d =
      by_test (fits_well (read_sheet l).layout)
      (λ h. let e = given_some _ (fits_so h) in
      rw e (margin_exact (read_sheet l).layout read_room (outward_of (read_sheet l).layout) (fits_so h) d))
      (λ h. absurd (let e = given_none (not_so h) in omega (arith, e)))

  -- it fits with no move outward
  pub margin_nowhere : margin_given l ≡ no_margin → (d : ℕ)
      → fit_of (moved_out (read_sheet l).layout d) ≡ accepted (1 ∷ []) → ⊥
  margin_nowhere g d =
      by_test (fits_well (read_sheet l).layout)
      (λ h. absurd (let e = given_some _ (fits_so h) in omega (arith, e, outward_low)))
      (λ h. margin_none (read_sheet l).layout read_room (not_so h) d)
