-- What marks leave: a mark is found again under its name and holds the area; the other places' areas, and all of them at
-- a drop, are untouched. Assumes nothing.
use Rattle.std.specs.Prelude.{ℕ, zero, suc, ◌+◌, ◌≤◌, ◌<◌, ◌≡◌, Bool, true, false, ◌&&◌}
use Rattle.std.proofs.Common.{sym, ◌∙◌, ap}
use Rattle.std.proofs.Math.Path.{ap₂, subst}
use mathlib.Core.List.{List}
use native.Mathlib.Omega.{arith}
use borrow.Author.Tests.{eq-eqb, eqb-true}
use Rattle.std.proofs.Math.Dec.{eqb}
use Rattle.std.proofs.Math.ListN.{length, set, take, length-set}
use Rattle.std.proofs.Math.Seq.{sets, length-sets, length-take-le, get_or-set_same}
use Rattle.octets.specs.BaseLaws.{by_test, by_eq}
use Rattle.octets.specs.Equal.{equal}
use Rattle.octets.specs.EqualLaws.{equal_refl}
use Rattle.octets.specs.Region.{Same, same_trans, part_goes_by, set_leaves, sets_leaves}
use Rattle.octets.specs.Store.{part, Apart, part_same, octet_other}
use Rattle.area.specs.Offsets.{area_size}
use Rattle.marks.specs.Marks.{mark_count, name_size, store_size, mark_from, name_from, copy_from, stands, name_at}
use Rattle.marks.specs.Marks.{copy_at}
use Rattle.marks.specs.Marks.{first_from, named, found, vacant, free, place_for, with_head, with_mark}

first_most : (t : ℕ → Bool) (k n : ℕ) → first_from t k n ≤ k + n
unfolding first_from
first_most t k zero = omega arith
first_most t k (suc n) =
    by_test (t k) (λ e. rw e (omega arith)) (λ e. rw e (omega (arith, first_most t (k + 1) n)))

pub found_most : (s name : List ℕ) → found s name ≤ mark_count
unfolding found
found_most s name = first_most (named s name) 0 mark_count

pub place_most : (s name : List ℕ) → place_for s name ≤ mark_count
unfolding place_for free
place_most s name =
    by_test (eqb (found s name) mark_count) (λ e. rw e (first_most (vacant s) 0 mark_count))
    (λ e. rw e (found_most s name))

copy_by : (l m : List ℕ) (k : ℕ) → k < mark_count → store_size ≤ length l → store_size ≤ length m
    → Same (copy_from k) area_size l m → copy_at l k ≡ copy_at m k
unfolding copy_at
copy_by l m k h p q e = part_goes_by area_size (copy_from k) l m (omega arith) (omega arith) e

module _ (s name a : List ℕ) (k : ℕ) (hk : k < mark_count) (room : store_size ≤ length s) (eight : length name ≡ name_size)
    (long : area_size ≤ length a) where
  head_length : length (with_head s k name) ≡ length s
  unfolding with_head
  head_length = length-set (sets s (name_from k) name) (mark_from k) 1 ∙ length-sets s (name_from k) name

  cut : length (take area_size a) ≡ area_size
  cut = length-take-le area_size a long

  pub mark_own : copy_at (with_mark s k name a) k ≡ take area_size a
  unfolding with_mark copy_at
  mark_own =
      subst (λ (n : ℕ). part (sets (with_head s k name) (copy_from k) (take area_size a)) (copy_from k) n ≡ take area_size a)
      cut (part_same (take area_size a) (with_head s k name) (copy_from k) (omega (arith, cut, head_length)))

  pub mark_other : (j : ℕ) → j < mark_count → (j ≡ k → ⊥) → copy_at (with_mark s k name a) j ≡ copy_at s j
  unfolding with_mark with_head
  mark_other j hj ne =
      let x₁ = sets s (name_from k) name in
      let x₂ = set x₁ (mark_from k) 1 in
      let x₃ = sets x₂ (copy_from k) (take area_size a) in
      let l₁ : length x₁ ≡ length s = length-sets s (name_from k) name in
      let l₂ : length x₂ ≡ length x₁ = length-set x₁ (mark_from k) 1 in
      let l₃ : length x₃ ≡ length x₂ = length-sets x₂ (copy_from k) (take area_size a) in
      copy_by x₃ x₂ j hj (omega arith) (omega arith)
      (sets_leaves (copy_from j) area_size (copy_from k) (take area_size a) x₂ (λ p q. ne (omega (arith, cut))))
      ∙ copy_by x₂ x₁ j hj (omega arith) (omega arith)
      (set_leaves (copy_from j) area_size (mark_from k) 1 x₁ (λ p q. ne (omega arith)))
      ∙ copy_by x₁ s j hj (omega arith) room
      (sets_leaves (copy_from j) area_size (name_from k) name s (λ p q. ne (omega (arith, eight))))

pub drop_copy : (s : List ℕ) (k j : ℕ) → store_size ≤ length s → k < mark_count → j < mark_count
    → copy_at (set s (mark_from k) 0) j ≡ copy_at s j
drop_copy s k j room hk hj =
    copy_by (set s (mark_from k) 0) s j hj (omega (arith, length-set s (mark_from k) 0)) room
    (set_leaves (copy_from j) area_size (mark_from k) 0 s (λ p q. omega arith))

-- ---- a mark is found again

-- no number before the first one passes the test
before_first : (t : ℕ → Bool) (k n i : ℕ) → k ≤ i → i < first_from t k n → t i ≡ false
unfolding first_from
before_first t k zero i p = λ h. absurd (omega arith)
before_first t k (suc n) i p =
    by_test (t k) (λ e. rw e (λ h. absurd (omega arith)))
    (λ e. rw e (λ h. by_eq i k (λ z. rw z e) (λ z. before_first t (k + 1) n i (omega arith) h)))

-- the first number that passes it
first_at : (t : ℕ → Bool) (d k n : ℕ) → d < n → ((i : ℕ) → k ≤ i → i < k + d → t i ≡ false) → t (k + d) ≡ true
    → first_from t k n ≡ k + d
unfolding first_from
first_at t d k zero h f g = absurd (omega arith)
first_at t zero k (suc n) h f g =
    let z : k + 0 ≡ k = omega arith in rw (z, sym (ap t z) ∙ g)
first_at t (suc d) k (suc n) h f g =
    let z : k + 1 + d ≡ k + suc d = omega arith in
    rw (f k (omega arith) (omega arith))
    (first_at t d (k + 1) n (omega arith) (λ i p q. f i (omega arith) (omega arith)) (ap t z ∙ g) ∙ z)

-- where a mark of that name goes, none of that name stands before it
before_place : (s name : List ℕ) (i : ℕ) → i < place_for s name → i < mark_count → named s name i ≡ false
unfolding place_for found
before_place s name i =
    by_test (eqb (found s name) mark_count)
    (λ e. rw e (λ h k. before_first (named s name) 0 mark_count i (omega arith)
    (omega (arith, eqb-true (found s name) mark_count e))))
    (λ e. rw e (λ h k. before_first (named s name) 0 mark_count i (omega arith) h))

module _ (s name a : List ℕ) (k : ℕ) (hk : k < mark_count) (room : store_size ≤ length s) (eight : length name ≡ name_size)
    (long : area_size ≤ length a) where
  -- what a mark at place k leaves of another part of the store
  else_same : (b n : ℕ) → Apart b n (mark_from k) 1 → Apart b n (name_from k) name_size → Apart b n (copy_from k) area_size
      → Same b n (with_mark s k name a) s
  unfolding with_mark with_head
  else_same b n p q r =
      let x₁ = sets s (name_from k) name in
      let x₂ = set x₁ (mark_from k) 1 in
      let l = length-take-le area_size a long in
      same_trans b n (sets x₂ (copy_from k) (take area_size a)) x₂ s
      (sets_leaves b n (copy_from k) (take area_size a) x₂ (λ u v. r (omega arith) v))
      (same_trans b n x₂ x₁ s (set_leaves b n (mark_from k) 1 x₁ p)
      (sets_leaves b n (name_from k) name s (λ u v. q (omega arith) v)))

  pub mark_length : length (with_mark s k name a) ≡ length s
  unfolding with_mark
  mark_length =
      length-sets (with_head s k name) (copy_from k) (take area_size a) ∙ head_length s name a k hk room eight long

  own_octet : stands (with_mark s k name a) k ≡ true
  unfolding stands with_mark with_head
  own_octet =
      let x₁ = sets s (name_from k) name in
      let l = length-take-le area_size a long in
      eq-eqb _ 1
      (octet_other (take area_size a) (set x₁ (mark_from k) 1) (copy_from k) (mark_from k) (λ u v. omega arith)
      ∙ get_or-set_same x₁ (mark_from k) 1 0 (omega (arith, length-sets s (name_from k) name)))

  own_name : name_at (with_mark s k name a) k ≡ name
  unfolding name_at with_mark with_head
  own_name =
      let x₁ = sets s (name_from k) name in
      let x₂ = set x₁ (mark_from k) 1 in
      let x₃ = sets x₂ (copy_from k) (take area_size a) in
      let l = length-take-le area_size a long in
      let l₁ : length x₁ ≡ length s = length-sets s (name_from k) name in
      let l₂ : length x₂ ≡ length x₁ = length-set x₁ (mark_from k) 1 in
      let l₃ : length x₃ ≡ length x₂ = length-sets x₂ (copy_from k) (take area_size a) in
      part_goes_by name_size (name_from k) x₃ x₁ (omega arith) (omega arith)
      (same_trans (name_from k) name_size x₃ x₂ x₁
      (sets_leaves (name_from k) name_size (copy_from k) (take area_size a) x₂ (λ u v. omega arith))
      (set_leaves (name_from k) name_size (mark_from k) 1 x₁ (λ u v. omega arith)))
      ∙ subst (λ (n : ℕ). part x₁ (name_from k) n ≡ name) eight (part_same name s (name_from k) (omega arith))

  own_named : named (with_mark s k name a) name k ≡ true
  unfolding named
  own_named = rw (own_octet, own_name) (equal_refl name)

  other_named : (j : ℕ) → j < mark_count → (j ≡ k → ⊥) → named (with_mark s k name a) name j ≡ named s name j
  unfolding named stands name_at Same
  other_named j hj ne =
      let l : length (with_mark s k name a) ≡ length s = mark_length in
      ap₂ (λ (x : ℕ) (n : List ℕ). eqb x 1 && equal n name)
      (else_same (mark_from j) 1 (λ u v. ne (omega arith)) (λ u v. ne (omega arith)) (λ u v. ne (omega arith))
      (mark_from j) (omega arith) (omega arith))
      (part_goes_by name_size (name_from j) (with_mark s k name a) s (omega arith) (omega arith)
      (else_same (name_from j) name_size (λ u v. ne (omega arith)) (λ u v. ne (omega arith)) (λ u v. ne (omega arith))))

  pub mark_found : k ≡ place_for s name → found (with_mark s k name a) name ≡ k
  unfolding found named
  mark_found e =
      let z : 0 + k ≡ k = omega arith in
      first_at (named (with_mark s k name a) name) k 0 mark_count hk
      (λ i p q. other_named i (omega arith) (λ w. omega arith)
      ∙ before_place s name i (omega (arith, e)) (omega arith))
      (ap (named (with_mark s k name a) name) z ∙ own_named) ∙ z
