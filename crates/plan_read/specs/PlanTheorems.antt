-- What a caller may rely on where a run input is read: its values are in range, the draws and every offer lie within
-- the input, times do not fall, and the bit times end it. Assumes nothing.
use Rattle.std.specs.Prelude.{ℕ, ◌+◌, ◌*◌, ◌≤◌, ◌<◌, ◌≡◌, refl, Bool, true, false, not, List, [], ◌∷◌, ltb, eqb, length, get_or, Ok}
use Rattle.std.proofs.Common.{sym, ◌∙◌, ap, subst, arith}
use borrow.Author.Tests.{ltb-false, eqb-true, eqb-false, eq-eqb}
use Rattle.octets.specs.Base.{pick, some, outside, accepted, number_of}
use Rattle.octets.specs.BaseLaws.{neither, none_below, within}
use Rattle.sheet_layout.specs.declared.Layout.{Layout}
use Rattle.sheet_layout.specs.Check.{refusal_of}
use Rattle.sheet_layout.specs.CheckLaws.{Sound}
use Rattle.sheet_read.specs.Sheet.{map_of, stands, count_in, layout_in, sheet_size, unread}
use Rattle.sheet_read.specs.Sheet.{read_sheet}
use Rattle.sheet_read.specs.SheetTheorems.{read_sound, layout_formed}
use Rattle.plan_read.specs.Plan.{depth_in, offers_place, offers_in, offer_time, offer_size, offer_place, times_in}
use Rattle.plan_read.specs.Plan.{draws_wrong, time_before, time_falls, offers_wrong, plan_wrong, last_refusal}
use Rattle.plan_read.specs.Plan.{after_sheet, sheet_refusal, plan_refusal, Planned, unplanned, whole_from, unless}
use Rattle.plan_read.specs.Plan.{plan_as_read, plan_reading}
use Rattle.plan_read.specs.declared.Plan.{Plan}
use Rattle.plan_read.specs.PlanLaws.{past, offer_next, sheet_accepts}
use Rattle.sheet_layout.specs.Limits.{last_clock, max_draws}

pub record Right (l : List ℕ) (r : Planned) : Type 0 where
  pub sound : Sound r.layout
  pub depth : (1 ≤ r.depth) × (r.depth ≤ max_draws)
  pub draws : r.drawn + 2 * (r.layout.count * r.depth) ≤ length l
  pub size : length l ≤ 16384
  pub many : r.offers ≤ 64
  pub offer : (k : ℕ) → k < r.offers
      → offer_place l r.first k + 15 + offer_size l (offer_place l r.first k) ≤ length l
  pub rising : (k : ℕ) → k < r.offers → time_before l r.first k ≤ offer_time l (offer_place l r.first k)
  pub ending : length l ≡ offer_place l r.first r.offers + 4
  pub times : r.times ≤ last_clock

-- ---- no number, no refusal

passed : (b : Bool) (n m : ℕ) → (n ≡ 0 → ⊥) → pick b n m ≡ 0 → (b ≡ false) × (m ≡ 0)
passed true n m h p = absurd (h p)
passed false n m h p = (refl, p)

accepts : (n : ℕ) (r : Planned) → number_of (unless n r).answer ≡ 0 → n ≡ 0
accepts n r = go (eqb n 0) refl
  where
    go : (b : Bool) → eqb n 0 ≡ b → number_of (pick b r (unplanned n)).answer ≡ 0 → n ≡ 0
    go true e p = eqb-true n 0 e
    go false e p = p

both_right : (l : List ℕ) → plan_refusal l ≡ 0 → (sheet_refusal l ≡ 0) × (after_sheet l (sheet_size l) (count_in l) ≡ 0)
unfolding plan_refusal
both_right l = go (eqb (sheet_refusal l) 0) refl
  where
    go : (b : Bool) → eqb (sheet_refusal l) 0 ≡ b → pick b (after_sheet l (sheet_size l) (count_in l)) (sheet_refusal l) ≡ 0
        → (sheet_refusal l ≡ 0) × (after_sheet l (sheet_size l) (count_in l) ≡ 0)
    go true e p = (eqb-true (sheet_refusal l) 0 e, p)
    go false e p = absurd (eqb-false (sheet_refusal l) 0 e p)

module _ (l : List ℕ) (u n : ℕ) where
  after_right : after_sheet l u n ≡ 0 → (draws_wrong l u n ≡ false) × (last_refusal l (offers_place l u n) ≡ 0)
  unfolding after_sheet
  after_right h = passed (draws_wrong l u n) 9 (last_refusal l (offers_place l u n)) (λ z. omega arith) h

  draws_right : draws_wrong l u n ≡ false → (1 ≤ depth_in l u) × (depth_in l u ≤ max_draws) × (offers_place l u n ≤ length l)
  unfolding draws_wrong
  draws_right h =
      let a = neither (ltb (length l) (u + 1)) _ h in
      let b = neither (outside (depth_in l u) 1 16) (ltb (length l) (offers_place l u n)) a.1 in
      let d = within (depth_in l u) 1 16 b.0 in
      (d.0, d.1, ltb-false (length l) (offers_place l u n) b.1)

module _ (l : List ℕ) (c : ℕ) where
  last_right : last_refusal l c ≡ 0 → (plan_wrong l c ≡ false) × (times_in l c ≤ last_clock)
  unfolding last_refusal
  last_right h =
      let a = passed (plan_wrong l c) 16 (pick (ltb last_clock (times_in l c)) 13 0) (λ z. omega arith) h in
      let b = passed (ltb last_clock (times_in l c)) 13 0 (λ z. omega arith) a.1 in
      (a.0, ltb-false last_clock (times_in l c) b.0)

  plan_right : plan_wrong l c ≡ false
      → (length l ≤ 16384) × (offers_in l c ≤ 64) × (offers_wrong l (c + 2) (offers_in l c) ≡ false)
  unfolding plan_wrong
  plan_right h =
      let a = neither (ltb 16384 (length l)) _ h in
      let b = neither (ltb (length l) (c + 2)) _ a.1 in
      let d = neither (ltb 64 (offers_in l c)) _ b.1 in
      (ltb-false 16384 (length l) a.0, ltb-false 64 (offers_in l c) d.0, d.1)

not_not : (b : Bool) → not b ≡ false → b ≡ true
not_not true p = refl
not_not false p = sym p

module _ (l : List ℕ) (at n : ℕ) (h : offers_wrong l at n ≡ false) where
  parts : (some (time_falls l at) n ≡ false) × (not (eqb (length l) (offer_place l at n + 4)) ≡ false)
  unfolding offers_wrong
  parts = neither (some (time_falls l at) n) (not (eqb (length l) (offer_place l at n + 4))) h

  ends : length l ≡ offer_place l at n + 4
  ends = eqb-true (length l) (offer_place l at n + 4) (not_not (eqb (length l) (offer_place l at n + 4)) parts.1)

  rises : (k : ℕ) → k < n → time_before l at k ≤ offer_time l (offer_place l at k)
  rises k g =
      ltb-false (offer_time l (offer_place l at k)) (time_before l at k) (none_below (time_falls l at) n k parts.0 g)

  lies : (k : ℕ) → k < n → offer_place l at k + 15 + offer_size l (offer_place l at k) ≤ length l
  lies k g = omega (arith, past l at k n g, offer_next l at k, ends)

-- ---- an input that is read

count_is : (l : List ℕ) → (layout_in l).count ≡ count_in l
unfolding layout_in
count_is l = refl

from_right : (l : List ℕ) (y : Layout) (u : ℕ) → Sound y → after_sheet l u y.count ≡ 0 → Right l (whole_from l y u)
from_right l y u s h =
    let a = after_right l u y.count h in
    let d = draws_right l u y.count a.0 in
    let c = last_right l (offers_place l u y.count) a.1 in
    let p = plan_right l (offers_place l u y.count) c.0 in
    record {
      sound = s;
      depth = (d.0, d.1);
      draws = d.2;
      size = p.0;
      many = p.1;
      offer = lies l (offers_place l u y.count + 2) (offers_in l (offers_place l u y.count)) p.2;
      rising = rises l (offers_place l u y.count + 2) (offers_in l (offers_place l u y.count)) p.2;
      ending = ends l (offers_place l u y.count + 2) (offers_in l (offers_place l u y.count)) p.2;
      times = c.1;
    }

pub read_right : (l : List ℕ) → number_of (plan_as_read l).answer ≡ 0 → Right l (plan_as_read l)
unfolding plan_as_read
read_right l h =
    let e : plan_refusal l ≡ 0 = accepts (plan_refusal l) (whole_from l (layout_in l) (sheet_size l)) h in
    let b = both_right l e in
    let r = read_sound l (sheet_size l) (sheet_accepts l b.0) in
    let s : Sound (layout_in l) = subst (λ (y : Layout). Sound y) r.layout r.sound in
    let f : after_sheet l (sheet_size l) (layout_in l).count ≡ 0 = ap (after_sheet l (sheet_size l)) (count_is l) ∙ b.1 in
    rw (eq-eqb (plan_refusal l) 0 e) (from_right l (layout_in l) (sheet_size l) s f)

-- ---- its layout

sheet_passes : (l : List ℕ) → sheet_refusal l ≡ 0 → refusal_of (layout_in l) ≡ 0
unfolding read_sheet
sheet_passes l =
    go (ltb (length l) (sheet_size l)) (stands (map_of l) 7) (eqb (refusal_of (layout_in l)) 0) refl
  where
    go : (s t u : Bool) → eqb (refusal_of (layout_in l)) 0 ≡ u
        → number_of (pick s (unread 3) (pick t (unread 4) (pick u (record {
          answer = accepted (sheet_size l ∷ []);
          layout = layout_in l;
        }) (unread (refusal_of (layout_in l)))))).answer ≡ 0
        → refusal_of (layout_in l) ≡ 0
    go true t u q h = absurd (omega arith)
    go false true u q h = absurd (omega arith)
    go false false true q h = eqb-true (refusal_of (layout_in l)) 0 q
    go false false false q h = h

read_layout : (l : List ℕ) → number_of (plan_as_read l).answer ≡ 0 → (plan_as_read l).layout ≡ layout_in l
unfolding plan_as_read
read_layout l h = rw (eq-eqb (plan_refusal l) 0 (accepts (plan_refusal l) (whole_from l (layout_in l) (sheet_size l)) h))

plan_accepts : (l : List ℕ) → number_of (plan_as_read l).answer ≡ 0 → sheet_refusal l ≡ 0
unfolding plan_as_read
plan_accepts l h = (both_right l (accepts (plan_refusal l) (whole_from l (layout_in l) (sheet_size l)) h)).0

-- it passes checks 5 to 8
pub read_passes : (l : List ℕ) → number_of (plan_as_read l).answer ≡ 0 → refusal_of (plan_as_read l).layout ≡ 0
read_passes l h = ap refusal_of (read_layout l h) ∙ sheet_passes l (plan_accepts l h)

-- each address has six octets
pub read_formed : (l : List ℕ) → number_of (plan_as_read l).answer ≡ 0 → (i : ℕ) → i < (plan_as_read l).layout.count
    → length (get_or (plan_as_read l).layout.stations i (record { position = 0; address = [] })).address ≡ 6
read_formed l h i g =
    let e = read_layout l h in
    let w = (read_sound l (sheet_size l) (sheet_accepts l (plan_accepts l h))).within in
    let k : i < (layout_in l).count = omega (arith, ap (λ (y : Layout). y.count) e) in
    ap (λ (y : Layout). length (get_or y.stations i (record { position = 0; address = [] })).address) e
    ∙ layout_formed l w i k (let n = (read_right l h).sound.count.1 in omega arith)

-- ---- the same of the code's answer, as its callers meet it

pub reading_right : (l : List ℕ) (p : Plan) → plan_reading (Ok p) ≡ plan_as_read l → Right l (plan_reading (Ok p))
reading_right l p e =
    subst (λ (r : Planned). Right l r) (sym e) (read_right l (ap (λ (r : Planned). number_of r.answer) (sym e)))
