-- Laws of the reader of run inputs: the walk over the offers, what an input that passes is known to have, and the parts
-- of what is read. Assumes nothing.
use Rattle.std.specs.Prelude.{ℕ, zero, suc, ◌+◌, ◌-◌, ◌≤◌, ◌<◌, ◌≡◌, Bool, List, [], ◌∷◌, ltb, eqb, Ok}
use Rattle.std.proofs.Math.Path.{refl, sym, ap}
use Rattle.std.proofs.Common.{◌∙◌, ap₂, add-one, arith}
use Rattle.std.proofs.Math.Bool.{true, false, not, or-true}
use borrow.Author.Tests.{lt-ltb, le-ltb, eq-eqb, ne_eqb, ltb-false, eqb-true, eqb-false}
use Rattle.std.proofs.Math.ListN.{length}
use Rattle.octets.specs.Base.{pick, some, refused, accepted, number_of}
use Rattle.octets.specs.BaseLaws.{by_eq, neither, some_more, some_hit, refused_none}
use Rattle.octets.specs.Number.{get}
use Rattle.sheet_layout.specs.declared.Layout.{Layout}
use Rattle.sheet_layout.specs.Check.{refusal_of}
use Rattle.sheet_read.specs.declared.Sheet.{Sheet}
use Rattle.sheet_read.specs.Sheet.{map_of, stands, layout_in, sheet_size, Reading, unread, read_sheet}
use Rattle.sheet_read.specs.Sheet.{sheet_reading}
use Rattle.sheet_read.specs.SheetTheorems.{Read, read_sound}
use Rattle.plan_read.specs.Plan.{offers_in, offer_place, times_place, times_in}
use Rattle.plan_read.specs.Plan.{time_before, time_falls, offers_wrong, plan_wrong, last_refusal, after_sheet}
use Rattle.plan_read.specs.Plan.{sheet_refusal, plan_refusal, Planned, unplanned, whole_of, whole_from, unless}
use Rattle.plan_read.specs.Plan.{plan_as_read}
use Rattle.sheet_layout.specs.Limits.{last_clock, max_stations}

-- ---- the walk over the offers

offers_rise : (l : List ℕ) (at k d : ℕ) → offer_place l at k ≤ offer_place l at (d + k)
unfolding offer_place
offers_rise l at k zero = let e : 0 + k ≡ k = omega arith in rw e (omega arith)
offers_rise l at k (suc d) = let e : suc d + k ≡ suc (d + k) = omega arith in rw e (omega (arith, offers_rise l at k d))

pub offer_next : (l : List ℕ) (at k : ℕ)
    → offer_place l at (suc k) ≡ offer_place l at k + 15 + get 2 l (offer_place l at k + 13)
unfolding offer_place
offer_next l at k = refl

pub past : (l : List ℕ) (at k n : ℕ) → k < n → offer_place l at (suc k) ≤ offer_place l at n
past l at k n h =
    let e : (n - suc k) + suc k ≡ n = omega arith in
    rw e at (offers_rise l at (suc k) (n - suc k))

size_wrong : (l : List ℕ) (at n : ℕ) → (length l ≡ offer_place l at n + 4 → ⊥) → true ≡ offers_wrong l at n
unfolding offers_wrong
size_wrong l at n h = rw (ne_eqb (length l) (offer_place l at n + 4) h) (sym (or-true (some (time_falls l at) n)))

pub walk_short : (l : List ℕ) (at n k p : ℕ) → p ≡ offer_place l at k → k < n → p ≤ length l → length l - p < 15
    → true ≡ offers_wrong l at n
walk_short l at n k p e h g w = size_wrong l at n (λ q. omega (arith, past l at k n h, offer_next l at k))

pub walk_falls : (l : List ℕ) (at n k p t b : ℕ) → p ≡ offer_place l at k → k < n → t ≡ get 4 l p → b ≡ time_before l at k
    → t < b → true ≡ offers_wrong l at n
unfolding offers_wrong
walk_falls l at n k p t b e h q r w =
    let f : ltb t b ≡ time_falls l at k = ap₂ ltb (q ∙ ap (get 4 l) e) r in
    rw (← some_hit (time_falls l at) n k (ltb t b) f (lt-ltb t b w) h)

pub walk_cut : (l : List ℕ) (at n k p z : ℕ) → p ≡ offer_place l at k → k < n → z ≡ get 2 l (p + 13) → 15 ≤ length l - p
    → length l - p - 15 < z → true ≡ offers_wrong l at n
walk_cut l at n k p z e h q g w =
    let f : z ≡ get 2 l (offer_place l at k + 13) = q ∙ ap (λ (x : ℕ). get 2 l (x + 13)) e in
    size_wrong l at n (λ v. omega (arith, past l at k n h, offer_next l at k))

pub walk_place : (l : List ℕ) (at k p z : ℕ) → p ≡ offer_place l at k → z ≡ get 2 l (p + 13)
    → p + 15 + z ≡ offer_place l at (k + 1)
walk_place l at k p z e q =
    let f : z ≡ get 2 l (offer_place l at k + 13) = q ∙ ap (λ (x : ℕ). get 2 l (x + 13)) e in
    rw (add-one k) (omega (arith, offer_next l at k))

pub walk_time : (l : List ℕ) (at k p t : ℕ) → p ≡ offer_place l at k → t ≡ get 4 l p → t ≡ time_before l at (k + 1)
unfolding time_before
walk_time l at k p t e q = rw (add-one k) (q ∙ ap (get 4 l) e)

pub walk_rising : (l : List ℕ) (at k p t b : ℕ) → p ≡ offer_place l at k → t ≡ get 4 l p → b ≡ time_before l at k → b ≤ t
    → some (time_falls l at) k ≡ false
    → some (time_falls l at) (k + 1) ≡ false
walk_rising l at k p t b e q r w h =
    let f : ltb t b ≡ time_falls l at k = ap₂ ltb (q ∙ ap (get 4 l) e) r in
    some_more (time_falls l at) k (ltb t b) f (le-ltb t b w) h

pub walk_end : (l : List ℕ) (at n k p : ℕ) → p ≡ offer_place l at k → k ≤ n → n ≤ k → p ≤ length l
    → some (time_falls l at) k ≡ false → not (eqb (length l - p) 4) ≡ offers_wrong l at n
unfolding offers_wrong
walk_end l at n k p e g h b r =
    let j : k ≡ n = omega arith in
    let f : p ≡ offer_place l at n = e ∙ ap (offer_place l at) j in
    let q : some (time_falls l at) n ≡ false = rw j at r in
    rw q (by_eq (length l - p) 4
    (λ w. rw (eq-eqb (length l - p) 4 w, eq-eqb (length l) (offer_place l at n + 4) (omega arith)))
    (λ w. rw (ne_eqb (length l - p) 4 w, ne_eqb (length l) (offer_place l at n + 4) (λ v. w (omega arith)))))

-- ---- refusal 16

module _ (l : List ℕ) (c : ℕ) where
  -- none of it: the input ends with the bit times
  pub ends_so : plan_wrong l c ≡ false → (c + 2 ≤ length l) × (length l ≡ times_place l c + 4)
  unfolding plan_wrong offers_wrong
  ends_so h =
      let a = neither (ltb 16384 (length l)) _ h in
      let b = neither (ltb (length l) (c + 2)) _ a.1 in
      let d = neither (ltb 64 (offers_in l c)) _ b.1 in
      let e = neither (some (time_falls l (c + 2)) (offers_in l c)) _ d.1 in (
        ltb-false (length l) (c + 2) b.0,
        eqb-true (length l) (times_place l c + 4)
            (not_not (eqb (length l) (times_place l c + 4)) e.1),
      )
    where
      not_not : (b : Bool) → not b ≡ false → b ≡ true
      not_not true p = refl
      not_not false p = sym p

  pub times_room : false ≡ plan_wrong l c → 4 ≤ length l
  times_room p = omega (arith, (ends_so (sym p)).1)

  none_right : last_refusal l c ≡ 0 → plan_wrong l c ≡ false
  unfolding last_refusal
  none_right h = go (plan_wrong l c) 0 refl (sym h)
    where
      go : (b : Bool) (x : ℕ) → x ≡ 0 → x ≡ pick b 16 (pick (ltb last_clock (times_in l c)) 13 0) → b ≡ false
      go true x q p = absurd (omega arith)
      go false x q p = refl

  pub count_room : 0 ≡ last_refusal l c → c + 2 ≤ length l
  count_room p = (ends_so (none_right (sym p))).0

  pub end_room : 0 ≡ last_refusal l c → 4 ≤ length l
  end_room p = omega (arith, (ends_so (none_right (sym p))).1)

  pub end_place : 0 ≡ last_refusal l c → length l - 4 ≡ times_place l c
  end_place p = omega (arith, (ends_so (none_right (sym p))).1)

-- ---- what is read, after the draws

unfoldable pub rest_read : List ℕ → Layout → (d at c : ℕ) → Planned
rest_read l y d at c = unless (last_refusal l c) (whole_of l y d at c)

-- ---- after the sheet

unfoldable pub sheet_on : List ℕ → (u : ℕ) → Layout → Planned
sheet_on l u y = unless (after_sheet l u y.count) (whole_from l y u)

-- ---- the whole input

module _ (l : List ℕ) (f : Sheet) (p : sheet_reading (Ok f) ≡ read_sheet l) where
  used : Read l f.used (read_sheet l)
  used = read_sound l f.used (sym (ap (λ (r : Reading). r.answer) p))

  layout : f.layout ≡ layout_in l
  layout = ap (λ (r : Reading). r.layout) p ∙ used.layout

  pub sheet_within : f.used ≤ length l
  sheet_within = used.within

  pub sheet_few : f.layout.count ≤ max_stations
  sheet_few = rw (ap (λ (r : Reading). r.layout.count) p) used.sound.count.1

  pub plan_read : (r : Planned) → r ≡ sheet_on l f.used f.layout → r ≡ plan_as_read l
  unfolding plan_as_read plan_refusal sheet_on layout_in
  plan_read r q =
      let a : number_of (read_sheet l).answer ≡ 0 = ap (λ (r : Reading). number_of r.answer) (sym p) in
      q ∙ rw (layout, used.used, a)

sheet_number : (l : List ℕ) (n : ℕ) → sheet_refusal l ≡ n → (n ≡ 0 → ⊥) → plan_refusal l ≡ n
unfolding plan_refusal
sheet_number l n p h = rw (p, ne_eqb n 0 h)

-- where the sheet has no refusal, the answer is the octets used
pub sheet_accepts : (l : List ℕ) → sheet_refusal l ≡ 0 → (read_sheet l).answer ≡ accepted (sheet_size l ∷ [])
unfolding read_sheet
sheet_accepts l =
    go (ltb (length l) (sheet_size l)) (stands (map_of l) 7)
    (eqb (refusal_of (layout_in l)) 0) 0 refl refl
  where
    go : (s t u : Bool) (x : ℕ) → x ≡ 0 → eqb (refusal_of (layout_in l)) 0 ≡ u
        → number_of (pick s (unread 3) (pick t (unread 4) (pick u (record {
          answer = accepted (sheet_size l ∷ []);
          layout = layout_in l;
        }) (unread (refusal_of (layout_in l)))))).answer ≡ x
        → (pick s (unread 3) (pick t (unread 4) (pick u (record {
          answer = accepted (sheet_size l ∷ []);
          layout = layout_in l;
        }) (unread (refusal_of (layout_in l)))))).answer ≡ accepted (sheet_size l ∷ [])
    go true t u x z q h = absurd (omega arith)
    go false true u x z q h = absurd (omega arith)
    go false false true x z q h = refl
    go false false false x z q h = absurd (eqb-false (refusal_of (layout_in l)) 0 q (h ∙ z))

-- a refusal of the sheet has a number
refused_number : (l : List ℕ) (n : ℕ) → (read_sheet l).answer ≡ refused n → n ≡ 0 → ⊥
refused_number l n p z = refused_none n (sheet_size l ∷ []) (sym p ∙ sheet_accepts l (ap number_of p ∙ z))

pub plan_refused : (l : List ℕ) (n : ℕ) → unread n ≡ read_sheet l → unplanned n ≡ plan_as_read l
unfolding plan_as_read
plan_refused l n p =
    let h : n ≡ 0 → ⊥ = refused_number l n (ap (λ (r : Reading). r.answer) (sym p)) in
    rw (sheet_number l n (ap (λ (r : Reading). number_of r.answer) (sym p)) h, ne_eqb n 0 h)
