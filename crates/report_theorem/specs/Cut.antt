-- "More than 16,384 octets": of a longer input the first 16,385 octets decide what is printed, so the rest need not be
-- kept. Assumes nothing.
use Rattle.std.specs.Prelude.{ℕ, zero, suc, ◌+◌, ◌*◌, ◌≤◌, ◌<◌, ◌≡◌, refl, Bool, true, false, List, ◌++◌, eqb, ltb, length, get_or, take, drop}
use Rattle.std.proofs.Common.{sym, ◌∙◌, ap, arith, take-append-drop, take_all, length-take-le}
use Rattle.std.proofs.Math.Nat.{mul-le-mul}
use borrow.Author.Tests.{ne_eqb, lt-ltb, le-ltb, eqb-false, ltb-true, ltb-false}
use Rattle.std.proofs.Math.ListN.{length-append, get_or-append}
use Rattle.octets.specs.Base.{pick, outside, number_of}
use Rattle.octets.specs.BaseLaws.{by_test, within}
use Rattle.octets.specs.NumberLaws.{Octets, octets_take}
use Rattle.sheet_read.specs.Sheet.{stands, width, field_at, count_place, count_in, layout_in, sheet_size, Reading}
use Rattle.sheet_read.specs.Sheet.{field_count}
use Rattle.sheet_read.specs.SheetLaws.{width_most}
use Rattle.sheet_read.specs.SheetTheorems.{sheet_front, size_front, count_front}
use Rattle.report_text.specs.Text.{refused_line}
use Rattle.plan_read.specs.Plan.{depth_in, offers_place, draws_wrong, plan_wrong, last_refusal, after_sheet, sheet_refusal}
use Rattle.plan_read.specs.Plan.{plan_refusal, Planned, unplanned, whole_from, unless, plan_as_read}
use Rattle.report_spec.specs.Printed.{printed}
use Rattle.report_theorem.specs.Whole.{refused_print}

-- ---- a refused input prints its number

unless_number : (n : ℕ) (r : Planned) → (n ≡ 0 → ⊥) → number_of (unless n r).answer ≡ n
unless_number n r h = ap (λ (b : Bool). number_of (pick b r (unplanned n)).answer) (ne_eqb n 0 h)

refusal_print : (l : List ℕ) → (plan_refusal l ≡ 0 → ⊥) → printed l ≡ refused_line (plan_refusal l)
unfolding plan_as_read
refusal_print l h =
    let e : number_of (unless (plan_refusal l) (whole_from l (layout_in l) (sheet_size l))).answer
    ≡ plan_refusal l = unless_number (plan_refusal l) (whole_from l (layout_in l) (sheet_size l)) h in
    refused_print l (λ z. h (sym e ∙ z)) ∙ ap refused_line e

-- ---- what is refused of more than 16,384 octets

long_last : (l : List ℕ) (c : ℕ) → 16384 < length l → last_refusal l c ≡ 16
unfolding last_refusal plan_wrong
long_last l c h = rw (lt-ltb 16384 (length l) h)

long_refusal : (l : List ℕ) → 16384 < length l
    → plan_refusal l ≡ pick (eqb (sheet_refusal l) 0) (pick (draws_wrong l (sheet_size l) (count_in l)) 9 16)
    (sheet_refusal l)
unfolding plan_refusal after_sheet
long_refusal l h = rw (long_last l (offers_place l (sheet_size l) (count_in l)) h)

long_some : (l : List ℕ) → 16384 < length l → plan_refusal l ≡ 0 → ⊥
long_some l h e = go (eqb (sheet_refusal l) 0) (draws_wrong l (sheet_size l) (count_in l)) refl (sym (long_refusal l h) ∙ e)
  where
    go : (b c : Bool) → eqb (sheet_refusal l) 0 ≡ b → pick b (pick c 9 16) (sheet_refusal l) ≡ 0 → ⊥
    go true true p q = omega arith
    go true false p q = omega arith
    go false c p q = eqb-false (sheet_refusal l) 0 p q

-- ---- where the draws end

field_most : (m k : ℕ) → field_at m k ≤ 1 + 2 * k
unfolding field_at
field_most m zero = omega arith
field_most m (suc k) = go (stands m k) (width_most k) (field_most m k)
  where
    go : (b : Bool) → width k ≤ 2 → field_at m k ≤ 1 + 2 * k → field_at m k + pick b (width k) 0 ≤ 1 + 2 * suc k
    go true p q = omega arith
    go false p q = omega arith

module _ (l : List ℕ) (o : Octets l) where
  octet : (k : ℕ) → get_or l k 0 < 256
  unfolding Octets
  octet k = o k

  size_most : sheet_size l ≤ 1801
  unfolding sheet_size
  size_most = omega (arith, field_most (get_or l 0 0) field_count, octet (count_place l))

module _ (a z : List ℕ) (h : length a ≡ 16385) (o : Octets a) where
  small : sheet_size a ≤ length a
  small = omega (arith, size_most a o)

  sheet_same : sheet_refusal (a ++ z) ≡ sheet_refusal a
  sheet_same = ap (λ (r : Reading). number_of r.answer) (sheet_front a z small)

  depth_same : (u : ℕ) → u ≤ 1801 → depth_in (a ++ z) u ≡ depth_in a u
  depth_same u p = get_or-append a z 0 u (omega arith)

  draws_same : (u n : ℕ) → u ≤ 1801 → n ≤ 255 → draws_wrong (a ++ z) u n ≡ draws_wrong a u n
  unfolding draws_wrong
  draws_same u n p q =
      let w = length-append a z in
      rw (depth_same u p, le-ltb (length (a ++ z)) (u + 1) (omega arith), le-ltb (length a) (u + 1) (omega arith))
      (by_test (outside (depth_in a u) 1 16)
      (λ b. rw b)
      (λ b. let d = within (depth_in a u) 1 16 b in
      let m : n * depth_in a u ≤ 255 * 16 = mul-le-mul q d.1 in
      rw (
        b,
        le-ltb (length (a ++ z)) (u + 1 + 2 * (n * depth_in a u)) (omega arith),
        le-ltb (length a)
            (u + 1 + 2 * (n * depth_in a u)) (omega arith),
      )))

  refusal_same : plan_refusal (a ++ z) ≡ plan_refusal a
  refusal_same =
      let w = length-append a z in
      let n : count_in a ≤ 255 = omega (arith, octet a o (count_place a)) in
      long_refusal (a ++ z) (omega arith)
      ∙ rw (
        sheet_same,
        size_front a z small,
        count_front a z small,
        draws_same (sheet_size a) (count_in a)
            (size_most a o) n,
      )
      (sym (long_refusal a (omega arith)))

  print_same : printed (a ++ z) ≡ printed a
  print_same =
      let w = length-append a z in
      refusal_print (a ++ z) (long_some (a ++ z) (omega arith))
      ∙ ap refused_line refusal_same
      ∙ sym (refusal_print a (long_some a (omega arith)))

-- Any octets print what their first 16,385 print.
pub cut_same : (l : List ℕ) → Octets l → printed (take 16385 l) ≡ printed l
cut_same l o =
    by_test (ltb 16385 (length l))
    (λ b. let p = ltb-true 16385 (length l) b in
    sym (print_same (take 16385 l) (drop 16385 l) (length-take-le 16385 l (omega arith)) (octets_take 16385 l o))
    ∙ ap printed (take-append-drop 16385 l))
    (λ b. let p = ltb-false 16385 (length l) b in ap printed (take_all 16385 l (omega arith)))
