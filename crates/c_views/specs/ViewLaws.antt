-- A station that may be looked at has a place in an area that is long enough, and a margin is below the refusal bit.
-- Assumes nothing.
use Rattle.std.specs.Prelude.{ℕ, ◌≤◌, ◌<◌, ◌≡◌, refl, List, leb, eqb, length, Option, Some, None, Ok}
use Rattle.std.specs.Option.{unwrap_or}
use Rattle.std.proofs.Common.{sym, ap, arith}
use Rattle.std.proofs.lemmas.Bool.Decides.{nat_tests}
use Rattle.std.proofs.lemmas.Result.{err_from_is_err_and}
use borrow.Author.Tests.{eqb-true, eqb-false, leb-false}
use Rattle.octets.specs.BaseLaws.{by_test, refusal_numbered}
use Rattle.sheet_layout.specs.declared.Layout.{Layout}
use Rattle.sheet_layout.specs.Layout.{fits_well}
use Rattle.sheet_layout.specs.Check.{refusal_of}
use Rattle.sheet_layout.specs.Limits.{max_stations, max_position}
use Rattle.sheet_fit.specs.Margin.{outward_of, margin_answer, margin_of}
use Rattle.area.specs.Area.{count_at}
use Rattle.area.specs.Offsets.{area_size}
use Rattle.area_check.specs.Valid.{area_refusal}
use Rattle.area_check.specs.AreaCheckLaws.{passes_long, passes_station}
use Rattle.c_words.specs.Answers.{refusal_bit, value_of}
use Rattle.c_words.specs.AnswersLaws.{below_refused}
use Rattle.c_views.specs.Views.{station_refusal, no_margin}

module _ (a : List ℕ) (i : ℕ) (h : 0 ≡ station_refusal a i) where
  passed : (area_size ≤ length a) × (i < max_stations)
  unfolding station_refusal
  passed =
      by_test (eqb (area_refusal a) 0)
      (λ p. let z = sym (eqb-true (area_refusal a) 0 p) in
      by_test (leb (count_at a) i)
      (λ q. absurd (let e : ◌≡◌ {A = ℕ} 0 10 = rw (p, q) at h in omega arith))
      (λ q. (passes_long a z, passes_station a (count_at a) i z refl (leb-false (count_at a) i q))))
      (λ p. absurd (eqb-false (area_refusal a) 0 p (sym (rw p at h))))

  pub look_long : area_size ≤ length a
  look_long = passed.0

  pub look_place : i < max_stations
  look_place = passed.1

-- ---- a margin is below the bit

margin_small : (y : Layout) → value_of (margin_of y) ≤ max_position
unfolding margin_of outward_of
margin_small y =
    by_test (eqb (refusal_of y) 0)
    (λ p. by_test (fits_well y) (λ q. rw (p, q) (omega arith)) (λ q. rw (p, q) (omega arith)))
    (λ p. rw p (omega arith))

pub margin_below : (y : Layout) (o : Option ℕ) (r : ℕ) → margin_answer (Ok o) ≡ margin_of y → r ≡ unwrap_or o no_margin
    → r < refusal_bit
margin_below y None r p q = omega arith
margin_below y (Some d) r p q = let u : d ≡ value_of (margin_of y) = ap value_of p in omega (arith, margin_small y)

pub ruleset looks = (nat_tests, err_from_is_err_and, refusal_numbered, below_refused, look_long, look_place)
