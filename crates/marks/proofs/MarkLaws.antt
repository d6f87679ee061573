-- A law for each way through the code of the marks. Assumes nothing.
use Prim.Native.Nat.{ℕ, suc, ◌+◌, ◌-◌, ◌≤◌, ◌<◌}
use Rattle.std.specs.Prelude.{◌≡◌, refl, Bool, true, false, List, eqb, length, drop, Option, Some, None, IfSome, MatchOption, Result, Ok, Err, ⊤}
use Rattle.std.specs.Result.{is_err, result_eq}
use Rattle.std.proofs.Common.{sym, ◌∙◌, subst}
use Rattle.std.proofs.Math.Path.{ap}
use Rattle.std.proofs.Math.Bool.{not}
use Rattle.std.proofs.lemmas.Bool.Decides.{nat_tests}
use Rattle.std.proofs.lemmas.Result.{err_from_is_err_and}
use native.Mathlib.Omega.{arith}
use borrow.Author.Tests.{ne_eqb, le-ltb}
use Rattle.std.proofs.Math.ListN.{take}
use Rattle.std.proofs.lemmas.List.Edits.{sets}
use Rattle.octets.specs.Base.{refusal_number, refusal_in}
use Rattle.octets.specs.BaseLaws.{by_test, refusal_numbered}
use Rattle.octets.specs.declared.Refusal.{Refusal}
use Rattle.octets.specs.declared.Refusal.TheVariants.{AreaWrong}
use Rattle.octets.specs.contracts.RefusalPartialEq.TheImpl.{eq-value}
use Rattle.octets.specs.Store.{length_part}
use Rattle.area.specs.Offsets.{area_size}
use Rattle.area_check.specs.Valid.{area_wrong, area_refusal}
use Rattle.area_check.specs.AreaCheckLaws.{passes_long}
use Rattle.marks.specs.Marks.{mark_count, store_size, copy_from, stands}
use Rattle.marks.specs.Marks.{copy_at, first_from, named, found, vacant, free, place_number, place_for, with_head, with_mark}

-- ---- a place

-- ---- the loops: no place before k passes the test

module _ (t : ℕ → Bool) (k m : ℕ) where
  first_hit : k < mark_count → t k ≡ true → first_from t k (mark_count - k) ≡ m → k ≡ m
  unfolding first_from
  first_hit h p e = let z : mark_count - k ≡ suc (mark_count - (k + 1)) = omega arith in rw p at (rw z at e)

  first_more : k < mark_count → t k ≡ false → first_from t k (mark_count - k) ≡ m
      → first_from t (k + 1) (mark_count - (k + 1)) ≡ m
  unfolding first_from
  first_more h p e = let z : mark_count - k ≡ suc (mark_count - (k + 1)) = omega arith in rw p at (rw z at e)

  first_end : k ≤ mark_count → mark_count ≤ k → first_from t k (mark_count - k) ≡ m → mark_count ≡ m
  unfolding first_from
  first_end l h e = let z : mark_count - k ≡ 0 = omega arith in let y : mark_count ≡ k = omega arith in y ∙ rw z at e

pub found_none : (s name : List ℕ) → first_from (named s name) 0 (mark_count - 0) ≡ found s name
unfolding found
found_none s name = refl

module _ (s name : List ℕ) (k : ℕ) where
  pub found_more : (b : Bool) → b ≡ named s name k → b ≡ false → k < mark_count
      → first_from (named s name) k (mark_count - k) ≡ found s name
      → first_from (named s name) (k + 1) (mark_count - (k + 1)) ≡ found s name
  found_more b p q h e = first_more (named s name) k (found s name) h (sym p ∙ q) e

  pub found_hit : (b : Bool) → b ≡ named s name k → b ≡ true → k < mark_count
      → first_from (named s name) k (mark_count - k) ≡ found s name → k ≡ found s name
  found_hit b p q h e = first_hit (named s name) k (found s name) h (sym p ∙ q) e

  pub found_end : k ≤ mark_count → mark_count ≤ k → first_from (named s name) k (mark_count - k) ≡ found s name
      → mark_count ≡ found s name
  found_end l h e = first_end (named s name) k (found s name) l h e

pub ruleset finding = (found_none, found_more, found_hit, found_end)

pub free_none : (s : List ℕ) → first_from (vacant s) 0 (mark_count - 0) ≡ free s
unfolding free
free_none s = refl

module _ (s : List ℕ) (k : ℕ) where
  pub free_more : (b : Bool) → b ≡ stands s k → not b ≡ false → k < mark_count
      → first_from (vacant s) k (mark_count - k) ≡ free s
      → first_from (vacant s) (k + 1) (mark_count - (k + 1)) ≡ free s
  unfolding vacant
  free_more b p q h e = first_more (vacant s) k (free s) h (ap not (sym p) ∙ q) e

  pub free_hit : (b : Bool) → b ≡ stands s k → not b ≡ true → k < mark_count
      → first_from (vacant s) k (mark_count - k) ≡ free s → k ≡ free s
  unfolding vacant
  free_hit b p q h e = first_hit (vacant s) k (free s) h (ap not (sym p) ∙ q) e

  pub free_end : k ≤ mark_count → mark_count ≤ k → first_from (vacant s) k (mark_count - k) ≡ free s
      → mark_count ≡ free s
  free_end l h e = first_end (vacant s) k (free s) l h e

pub ruleset freeing = (free_none, free_more, free_hit, free_end)

-- ---- where a mark goes, and what it leaves

-- the place o of the name, or else r
pub place_is : (s name : List ℕ) {P : Type 0} (o r : Option ℕ) → place_number o ≡ found s name
    → IfSome o (λ (j : ℕ). j < mark_count) → (P → place_number r ≡ free s) → MatchOption o P (λ (k : ℕ). r ≡ Some k)
    → place_number r ≡ place_for s name
unfolding place_for
place_is s name None r p l f h = f h ∙ rw (← p)
place_is s name (Some k) r p l f h = rw h (rw (← p, ne_eqb k mark_count (omega arith)))

pub place_in : {P : Type 0} (o r : Option ℕ) → IfSome o (λ (j : ℕ). j < mark_count)
    → (P → IfSome r (λ (j : ℕ). j < mark_count)) → MatchOption o P (λ (k : ℕ). r ≡ Some k)
    → IfSome r (λ (j : ℕ). j < mark_count)
place_in None r l f h = f h
place_in (Some k) r l f h = rw h l

pub mark_is : (s x y name a : List ℕ) (k : ℕ) → y ≡ sets x (copy_from k) (take (area_size - 0) a)
    → x ≡ with_head s k name → y ≡ with_mark s k name a
unfolding with_mark
mark_is s x y name a k p q = p ∙ ap (λ (l : List ℕ). sets l (copy_from k) (take area_size a)) q

-- ---- the area at a place

err_is : (r : Result ⊤ Refusal) → is_err r ≡ not (eqb (refusal_in r) 0)
err_is (Ok x) = refl
err_is (Err e) = rw (ne_eqb (refusal_number e) 0 (refusal_numbered e))

refusal_so : (a : List ℕ) → area_size ≤ length a → not (eqb (area_refusal a) 0) ≡ area_wrong a
unfolding area_refusal
refusal_so a h = rw (le-ltb (length a) area_size h) (by_test (area_wrong a) (λ p. rw p) (λ p. rw p))

-- whether a refusal is the second, by the test that is derived for refusals
second_is : (e : Refusal) → eq-value.it e AreaWrong ≡ eqb (refusal_number e) 2
second_is AreaWrong = refl
second_is e = refl

second_in : (f : ⊤ → ⊤ → Bool) (r : Result ⊤ Refusal) → result_eq f eq-value.it r (Err AreaWrong) ≡ eqb (refusal_in r) 2
second_in f (Ok x) = refl
second_in f (Err e) = second_is e

-- a check of an area that is long enough refuses by the second or not at all
second_only : (a : List ℕ) → area_size ≤ length a → eqb (area_refusal a) 2 ≡ not (eqb (area_refusal a) 0)
unfolding area_refusal
second_only a h = rw (le-ltb (length a) area_size h) (by_test (area_wrong a) (λ p. rw p) (λ p. rw p))

second_so : (a : List ℕ) (f : ⊤ → ⊤ → Bool) (r : Result ⊤ Refusal) → refusal_in r ≡ area_refusal a → area_size ≤ length a
    → result_eq f eq-value.it r (Err AreaWrong) ≡ is_err r
second_so a f r p h =
    second_in f r
    ∙ ap (λ (i : ℕ). eqb i 2) p
    ∙ second_only a h
    ∙ ap (λ (i : ℕ). not (eqb i 0)) (sym p)
    ∙ sym (err_is r)

module _ (s : List ℕ) (k : ℕ) where
  copy_part : take ((copy_from k + area_size) - copy_from k) (drop (copy_from k) s) ≡ copy_at s k
  unfolding copy_at
  copy_part =
      let e : (copy_from k + area_size) - copy_from k ≡ area_size = omega arith in
      ap (λ (i : ℕ). take i (drop (copy_from k) s)) e

  length_copy : k < mark_count → store_size ≤ length s → length (copy_at s k) ≡ area_size
  unfolding copy_at
  length_copy h l = length_part s (copy_from k) area_size (omega arith)

  pub wrong_is : (r : Result ⊤ Refusal) (b : Bool) → b ≡ is_err r
      → refusal_in r ≡ area_refusal (take ((copy_from k + area_size) - copy_from k) (drop (copy_from k) s))
      → k < mark_count → store_size ≤ length s → b ≡ area_wrong (copy_at s k)
  wrong_is r b e p h l =
      e ∙ err_is r
      ∙ ap (λ (i : ℕ). not (eqb i 0)) (p ∙ ap area_refusal copy_part)
      ∙ refusal_so (copy_at s k) (omega (arith, length_copy h l))

  pub second_wrong : (f : ⊤ → ⊤ → Bool) (r : Result ⊤ Refusal) (b : Bool)
      → b ≡ result_eq f eq-value.it r (Err AreaWrong)
      → refusal_in r ≡ area_refusal (take ((copy_from k + area_size) - copy_from k) (drop (copy_from k) s))
      → k < mark_count → store_size ≤ length s → b ≡ area_wrong (copy_at s k)
  second_wrong f r b e p h l =
      let q : refusal_in r ≡ area_refusal (copy_at s k) = p ∙ ap area_refusal copy_part in
      e ∙ second_so (copy_at s k) f r q (omega (arith, length_copy h l)) ∙ wrong_is r (is_err r) refl p h l

  pub back_is : (a x : List ℕ) → x ≡ sets a 0 (take ((copy_from k + area_size) - copy_from k) (drop (copy_from k) s))
      → x ≡ sets a 0 (copy_at s k)
  back_is a x p = p ∙ ap (sets a 0) copy_part

-- ---- the calls

pub place_small : (o : Option ℕ) (k : ℕ) → o ≡ Some k → IfSome o (λ (j : ℕ). j < mark_count) → k < mark_count
place_small o k p h = let P : Option ℕ → Type 0 = λ w. IfSome w (λ (j : ℕ). j < mark_count) in subst P p h

pub ruleset marking = (nat_tests, err_from_is_err_and, refusal_numbered, place_small, passes_long)
