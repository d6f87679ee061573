-- A law for each way through the code that checks a work area. Assumes nothing.
use Rattle.std.specs.Prelude.{ℕ, ◌+◌, ◌≤◌, ◌<◌, ◌≡◌, Bool, true, false, ◌||◌, List, ltb, eqb, length, max, Result, Ok, Err, ⊤}
use Rattle.std.specs.Result.{is_err}
use Rattle.std.proofs.Math.Path.{refl, sym, ap}
use Rattle.std.proofs.Common.{◌∙◌, true≢false, add-one}
use Rattle.std.proofs.lemmas.Bool.Decides.{nat_tests}
use Rattle.std.proofs.lemmas.Result.{err_from_is_err_and}
use native.Mathlib.Omega.{arith}
use borrow.Author.Tests.{lt-ltb, le-ltb, ne_eqb, ltb-true, ltb-false, eqb-true}
use Rattle.octets.specs.Base.{pick, some, outside, refusal_in}
use Rattle.octets.specs.BaseLaws.{by_test, refusal_numbered, within_high, some_none, some_more, some_end}
use Rattle.octets.specs.declared.Refusal.{Refusal}
use Rattle.sheet_layout.specs.declared.Figures.{Figures}
use Rattle.sheet_layout.specs.declared.Layout.{Layout}
use Rattle.sheet_layout.specs.Layout.{gap_of}
use Rattle.sheet_layout.specs.Check.{refusal_of}
use Rattle.sheet_layout.specs.CheckLaws.{Sound, sound}
use Rattle.area.specs.Area.{clock_at, depth_at, figures_at, count_at, layout_at, symbol_at, max_code}
use Rattle.area.specs.Area.{frame_at, buffer_at}
use Rattle.area_check.specs.Valid.{symbol_wrong, station_wrong, area_wrong, area_refusal}
use Rattle.frame_build.specs.Limits.{min_frame, buffer_octets}
use Rattle.octets.specs.Store.{length_part}
use Rattle.sheet_layout.specs.Limits.{last_clock, max_stations}
use Rattle.area.specs.Offsets.{area_size, ring, from, the_frame, the_buffer}

-- ---- a line, by the largest of its codes

larger_over : (p x : ℕ) → ltb max_code (max p x) ≡ (ltb max_code p || ltb max_code x)
larger_over p x =
    by_test (ltb max_code p)
    (λ h. rw h (lt-ltb max_code (max p x) (omega (arith, ltb-true max_code p h))))
    (λ h. rw h (by_test (ltb max_code x)
    (λ e. rw e (lt-ltb max_code (max p x) (omega (arith, ltb-true max_code x e))))
    (λ e. rw e (le-ltb max_code (max p x) (omega (arith, ltb-false max_code p h, ltb-false max_code x e))))))

module _ (a : List ℕ) (i : ℕ) where
  pub line_none : some (symbol_wrong a i) 0 ≡ ltb max_code 0
  unfolding some
  line_none = refl

  pub line_more : (u x p q : ℕ) → q ≡ max p x → x ≡ symbol_at a i u → some (symbol_wrong a i) u ≡ ltb max_code p
      → some (symbol_wrong a i) (u + 1) ≡ ltb max_code q
  unfolding some symbol_wrong
  line_more u x p q eq ex h = rw (add-one u, h, ← ex, eq) (sym (larger_over p x))

  pub line_end : (u p : ℕ) → u ≤ ring → ring ≤ u → some (symbol_wrong a i) u ≡ ltb max_code p
      → ltb max_code p ≡ some (symbol_wrong a i) ring
  line_end u p h k e = let z : u ≡ ring = omega arith in sym (rw z at e)

pub ruleset lines = (line_none, line_more, line_end)

-- ---- the sizes of frames

pub frame_small : (z : ℕ) (b : Bool) → b ≡ outside z 64 buffer_octets → b ≡ false → z < 65536
frame_small z b p q = let h : z ≤ buffer_octets = within_high z 64 buffer_octets b p q in omega arith

-- the frame and the buffer are long enough for their value
pub held_long : (a f : List ℕ) (i : ℕ) → f ≡ frame_at a i min_frame → i < max_stations → area_size ≤ length a
    → 14 ≤ length f
unfolding frame_at
held_long a f i e hi room = omega (arith, ap length e, length_part a (from (the_frame i)) min_frame (omega arith))

pub readable_long : (a f : List ℕ) (i : ℕ) → f ≡ buffer_at a i → i < max_stations → area_size ≤ length a → 14 ≤ length f
unfolding buffer_at
readable_long a f i e hi room =
    omega (arith, ap length e, length_part a (from (the_buffer i)) buffer_octets (omega arith))

pub gap_sum : (f : Figures) → gap_of f ≡ f.gap1 + f.gap2
unfolding gap_of
gap_sum f = refl

pub ruleset sizes = (nat_tests, gap_sum, frame_small, held_long, readable_long)

pub ruleset searches = (some_none, some_more, some_end)

-- what a check says by its being refused or not
pub check_refused : (r : Result ⊤ Refusal) (b : Bool) → b ≡ is_err r → b ≡ true → refusal_in r ≡ 0 → ⊥
check_refused (Ok x) b p q h = true≢false (sym q ∙ p)
check_refused (Err e) b p q h = refusal_numbered e h

pub check_passed : (r : Result ⊤ Refusal) (b : Bool) → b ≡ is_err r → b ≡ false → refusal_in r ≡ 0
check_passed (Ok x) b p q = refl
check_passed (Err e) b p q = absurd (true≢false (sym p ∙ q))

module _ (a : List ℕ) (y : Layout) (k : Result ⊤ Refusal) (o : Bool) (d t : ℕ) where
  zero_for : refusal_in k ≡ refusal_of y → y ≡ layout_at a → o ≡ is_err k → o ≡ false → refusal_of (layout_at a) ≡ 0
  zero_for p q eo h = ap refusal_of (sym q) ∙ sym p ∙ check_passed k o eo h

  pub wrong_layout : refusal_in k ≡ refusal_of y → y ≡ layout_at a → o ≡ is_err k → o ≡ true → true ≡ area_wrong a
  unfolding area_wrong
  wrong_layout p q eo h =
      let e : refusal_of (layout_at a) ≡ refusal_in k = ap refusal_of (sym q) ∙ sym p in
      rw (e, ne_eqb (refusal_in k) 0 (check_refused k o eo h))

  pub wrong_depth : (b : Bool) → refusal_in k ≡ refusal_of y → y ≡ layout_at a → o ≡ is_err k → o ≡ false
      → d ≡ depth_at a → b ≡ outside d 1 16 → b ≡ true → true ≡ area_wrong a
  unfolding area_wrong
  wrong_depth b p q eo h ed eb et = rw (zero_for p q eo h, ← ed, ← eb, et)

  pub wrong_clock : (b : Bool) → refusal_in k ≡ refusal_of y → y ≡ layout_at a → o ≡ is_err k → o ≡ false
      → d ≡ depth_at a → b ≡ outside d 1 16 → b ≡ false
      → t ≡ clock_at a → last_clock < t → true ≡ area_wrong a
  unfolding area_wrong
  wrong_clock b p q eo h ed eb ef et g = rw (zero_for p q eo h, ← ed, ← eb, ef, ← et, lt-ltb last_clock t g)

  pub wrong_station : (b r : Bool) (n : ℕ) → r ≡ some (station_wrong a) n → n ≡ count_at a
      → refusal_in k ≡ refusal_of y → y ≡ layout_at a → o ≡ is_err k → o ≡ false → d ≡ depth_at a
      → b ≡ outside d 1 16 → b ≡ false → t ≡ clock_at a → t ≤ last_clock → r ≡ area_wrong a
  unfolding area_wrong
  wrong_station b r n er en p q eo h ed eb ef et g =
      er ∙ rw (zero_for p q eo h, ← ed, ← eb, ef, ← et, le-ltb last_clock t g, en)

-- what the checks of a record need of a layout that passed
module _ (a : List ℕ) (y : Layout) (k : Result ⊤ Refusal) (o : Bool) (p : refusal_in k ≡ refusal_of y) (eo : o ≡ is_err k)
    (h : o ≡ false) (q : y ≡ layout_at a) where
  passed : Sound (layout_at a)
  passed = sound (layout_at a) (ap refusal_of (sym q) ∙ sym p ∙ check_passed k o eo h)

  pub count_small : (n : ℕ) → n ≡ count_at a → n ≤ max_stations
  unfolding layout_at
  count_small n e = let c = passed.count.1 in omega arith

  pub gap_small : (figures_at a).gap1 + (figures_at a).gap2 < 65536
  unfolding layout_at
  gap_small = omega (arith, passed.figures.gap1, passed.figures.gap2)

  pub slot_small : (figures_at a).slot < 65536
  unfolding layout_at
  slot_small = omega (arith, passed.figures.slot)

-- ---- what an area that passes is known to be

pub passes_right : (a : List ℕ) → area_refusal a ≡ 0 → (area_size ≤ length a) × (area_wrong a ≡ false)
unfolding area_refusal
passes_right a = go (ltb (length a) area_size) (area_wrong a) refl refl
  where
    go : (s t : Bool) → ltb (length a) area_size ≡ s → area_wrong a ≡ t → ◌≡◌ {A = ℕ} (pick s 1 (pick t 2 0)) 0
        → (area_size ≤ length a) × (area_wrong a ≡ false)
    go true t p q h = absurd (omega arith)
    go false true p q h = absurd (omega arith)
    go false false p q h = (ltb-false (length a) area_size p, q)

layout_passes : (a : List ℕ) → area_wrong a ≡ false → refusal_of (layout_at a) ≡ 0
unfolding area_wrong
layout_passes a = go (eqb (refusal_of (layout_at a)) 0) refl
  where
    go : (s : Bool) → eqb (refusal_of (layout_at a)) 0 ≡ s
        → pick s (pick (outside (depth_at a) 1 16) true
        (pick (ltb last_clock (clock_at a)) true (some (station_wrong a) (count_at a)))) true ≡ false
        → refusal_of (layout_at a) ≡ 0
    go true p h = eqb-true (refusal_of (layout_at a)) 0 p
    go false p h = absurd (true≢false h)

pub passes_long : (a : List ℕ) → 0 ≡ area_refusal a → area_size ≤ length a
passes_long a p = (passes_right a (sym p)).0

pub passes_layout : (a : List ℕ) → area_refusal a ≡ 0 → Sound (layout_at a)
passes_layout a h = sound (layout_at a) (layout_passes a (passes_right a h).1)

-- there is a place for each station that the layout counts
pub passes_count : (a : List ℕ) → 0 ≡ area_refusal a → count_at a ≤ max_stations
unfolding layout_at
passes_count a p = (passes_layout a (sym p)).count.1

pub passes_station : (a : List ℕ) (k i : ℕ) → 0 ≡ area_refusal a → k ≡ count_at a → i < k → i < max_stations
passes_station a k i p e h = let c = passes_count a p in omega arith

-- for calls that begin with the check of an area
pub ruleset refusals = (nat_tests, err_from_is_err_and, refusal_numbered)
