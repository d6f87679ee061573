-- Laws of the scans of a list: one for each way through the code. Assumes nothing.
use Prim.Native.Nat.{ℕ, zero, suc, ◌+◌, ◌≤◌, ◌<◌, min, max}
use Rattle.std.specs.Prelude.{◌≡◌, Bool, List, eqb, ltb, length}
use Rattle.std.proofs.Math.Path.{refl, ap₂, subst}
use Rattle.std.proofs.Common.{sym, ◌∙◌, ap, arith, add-one}
use Rattle.std.proofs.Math.Bool.{true, false}
use borrow.Author.Tests.{eq-eqb, ne_eqb, ltb-true, ltb-false, lt-ltb, le-ltb}
use Rattle.octets.specs.Base.{pick}
use Rattle.octets.specs.BaseLaws.{by_test}
use Rattle.area.specs.Area.{distance, position_at, space_at}
use Rattle.fast_list.specs.declared.Stretch.{Stretch}
use Rattle.fast_list.specs.Stretches.{end_of, sounds}
use Rattle.fast_list.specs.Reaching.{next_in, reach_in}
use Rattle.fast_hear.specs.Listed.{stretch_at, list_of, Reaches, Fits}
use Rattle.sheet_layout.specs.Limits.{max_stations}

-- ---- room

pub fits_each : (a : List ℕ) (l : List Stretch) (j k : ℕ) (r : Stretch) → Fits a l j → k < length l → r ≡ stretch_at l k
    → Reaches a r j
unfolding Fits
fits_each a l j k r f h e = subst (λ (x : Stretch). Reaches a x j) (sym e) (f k h)

module _ (a : List ℕ) (r : Stretch) (j : ℕ) (f : Reaches a r j) where
  pub reaches_who : r.who < max_stations
  unfolding Reaches
  reaches_who = f.0

  pub reaches_sum : (q p d : ℕ) → d ≡ distance q p → q ≡ position_at a r.who → p ≡ position_at a j
      → r.from + d < 4294967296
  unfolding Reaches space_at
  reaches_sum q p d e eq ep = omega (arith, f.1, space)
    where
      space : d ≡ distance (position_at a r.who) (position_at a j)
      space = e ∙ ap₂ distance eq ep

  pub reaches_end : (at : ℕ) → at ≡ r.from + space_at a r.who j → at + r.bits + r.jam < 4294967296
  unfolding Reaches
  reaches_end at e = omega (arith, f.1, e)

-- ---- when a stretch is heard

pub arrival_is : (a : List ℕ) (r : Stretch) (j q p d : ℕ) → d ≡ distance q p → q ≡ position_at a r.who
    → p ≡ position_at a j → r.from + d ≡ r.from + space_at a r.who j
unfolding space_at
arrival_is a r j q p d ed eq ep = ap (λ (x : ℕ). r.from + x) (ed ∙ ap₂ distance eq ep)

-- ---- the next one

module _ (d : ℕ → ℕ → ℕ) (l : List Stretch) (j s m : ℕ) where
  pub next_none : m ≡ next_in d (list_of l 0) j s m
  unfolding list_of next_in
  next_none = refl

  pub next_more : (k at x r y : ℕ) (e : Stretch) → y ≡ min r x → x ≡ pick (ltb s at) at m → at ≡ e.from + d e.who j
      → e ≡ stretch_at l k → r ≡ next_in d (list_of l k) j s m → y ≡ next_in d (list_of l (k + 1)) j s m
  unfolding list_of next_in
  next_more k at x r y e ey ex ea ee er =
      let z : at ≡ (stretch_at l k).from + d (stretch_at l k).who j = ea ∙ ap (λ (q : Stretch). q.from + d q.who j) ee in
      let w : y ≡ min x r = omega (arith, ey) in
      rw (add-one k) (w ∙ ap₂ min (ex ∙ ap (λ (u : ℕ). pick (ltb s u) u m) z) er)

  next_after : (n : ℕ) → s < m → s < next_in d (list_of l n) j s m
  unfolding list_of next_in
  next_after zero h = h
  next_after (suc n) h =
      let at = (stretch_at l n).from + d (stretch_at l n).who j in
      by_test (ltb s at)
      (λ c. let g = ltb-true s at c in rw c (omega (arith, next_after n h)))
      (λ c. rw c (omega (arith, next_after n h)))

  pub next_bound : (n r : ℕ) → s < m → r ≡ next_in d (list_of l n) j s m → s < r
  next_bound n r h e = omega (arith, next_after n h, e)

-- ---- how long what is heard now lasts

-- the end of a stretch at station j, if it is heard there in step s; else s
unfoldable pub reach_of : List ℕ → Stretch → (j s : ℕ) → ℕ
reach_of a r j s = pick (sounds (space_at a) r j s) (end_of r + space_at a r.who j) s

module _ (a : List ℕ) (r : Stretch) (j s : ℕ) where
  pub reach_own : r.who ≡ j → s ≡ reach_of a r j s
  unfolding reach_of sounds
  reach_own o = rw (eq-eqb r.who j o)

  module _ (at : ℕ) (ea : at ≡ r.from + space_at a r.who j) (ne : r.who ≡ j → ⊥) where
    pub reach_early : s < at → s ≡ reach_of a r j s
    unfolding reach_of sounds
    reach_early h = rw (ne_eqb r.who j ne, lt-ltb s (r.from + space_at a r.who j) (omega arith))

    pub reach_later : (m : ℕ) → m ≡ max s (at + r.bits + r.jam) → at ≤ s → m ≡ reach_of a r j s
    unfolding reach_of sounds
    reach_later m em h =
        rw (ne_eqb r.who j ne, le-ltb s (r.from + space_at a r.who j) (omega arith))
        (by_test (ltb s (end_of r + space_at a r.who j))
        (λ c. let g = ltb-true s (end_of r + space_at a r.who j) c in rw c (omega arith))
        (λ c. let g = ltb-false s (end_of r + space_at a r.who j) c in rw c (omega arith)))

module _ (a : List ℕ) (l : List Stretch) (j s : ℕ) where
  pub reach_none : s ≡ reach_in (space_at a) (list_of l 0) j s
  unfolding list_of reach_in
  reach_none = refl

  pub reach_more : (k x r y : ℕ) (e : Stretch) → y ≡ max r x → x ≡ reach_of a e j s → e ≡ stretch_at l k
      → r ≡ reach_in (space_at a) (list_of l k) j s → y ≡ reach_in (space_at a) (list_of l (k + 1)) j s
  unfolding list_of reach_in reach_of
  reach_more k x r y e ey ex ee er =
      let z : x ≡ reach_of a (stretch_at l k) j s = ex ∙ ap (λ (q : Stretch). reach_of a q j s) ee in
      let w : y ≡ max x r = omega (arith, ey) in
      rw (add-one k) (w ∙ ap₂ max z er)
