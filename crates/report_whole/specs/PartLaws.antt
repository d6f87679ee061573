-- The laws of the pieces by their octets. Assumes nothing.
use Rattle.std.specs.Prelude.{ℕ, ◌+◌, ◌-◌, ◌≤◌, ◌<◌, ◌≡◌, true, not, List, length, take, Result, Ok, Err}
use Rattle.std.specs.Result.{is_ok}
use Rattle.std.proofs.Common.{refl, ap, sym, ◌∙◌, subst, arith, length-take-le}
use Rattle.std.proofs.lemmas.Bool.{not-true}
use Rattle.octets.specs.BaseLaws.{refused_none}
use Rattle.octets.specs.declared.Refusal.{Refusal}
use Rattle.octets.specs.Store.{part}
use Rattle.report_spec.specs.declared.Progress.{Progress}
use Rattle.report_spec.specs.declared.Handed.{Handed}
use Rattle.report_spec.specs.Printed.{printed}
use Rattle.report_spec.specs.Pieces.{Moved, moved, move, Hand, handing, handed, given, advanced, no_progress, first_piece, begun}
use Rattle.report_theorem.specs.Whole.{Going, pieces, move_size, first_room}
use Rattle.report_theorem.specs.Along.{Along, Passed, first_passed, next_passed, next_fewer, begin_hand, advance_hand}
use Rattle.report_theorem.specs.Along.{hand_moved, hand_within}
use Rattle.area.specs.Offsets.{area_size}

-- a piece that is given is no refusal
given_ok : (g : Progress) (r : Result Handed Refusal) (a x o : List ℕ) (m : Moved) → handing g r a x ≡ given o m
    → is_ok r ≡ true
given_ok g (Ok h) a x o m p = refl
given_ok g (Err e) a x o m p = refused_none _ _ (ap (λ (z : Hand). z.answer) p)

module _ (l b o x c : List ℕ) (f : 2048 ≤ length o) where
  pub first_ok : (r : Result Handed Refusal) → length b ≡ area_size → handing no_progress r c x ≡ begun l b o
      → is_ok r ≡ true
  first_ok r h p = given_ok no_progress r c x o (first_piece l b) (p ∙ begin_hand l b o f h)

  pub next_ok : (r : Result Handed Refusal) (g : Progress) → Going l g b → handing g r c x ≡ advanced l b o g
      → is_ok r ≡ true
  next_ok r g w p = given_ok g r c x o (move l g b) (p ∙ advance_hand l b o f g w)

  module _ (r : Result Handed Refusal) (h : Handed) (e : r ≡ Ok h) where
    pub first_is : length b ≡ area_size → handing no_progress r c x ≡ begun l b o
        → moved (take h.size x) h.progress c ≡ first_piece l b
    first_is q p = hand_moved o x c (first_piece l b) h ((rw e at p) ∙ begin_hand l b o f q) (first_room l b) f

    pub first_within : length b ≡ area_size → handing no_progress r c x ≡ begun l b o → h.size ≤ length x
    first_within q p = hand_within o x c (first_piece l b) h ((rw e at p) ∙ begin_hand l b o f q) (first_room l b) f

    pub next_is : (g : Progress) → Going l g b → handing g r c x ≡ advanced l b o g
        → moved (take h.size x) h.progress c ≡ move l g b
    next_is g w p = hand_moved o x c (move l g b) h ((rw e at p) ∙ advance_hand l b o f g w) (move_size l g b) f

    pub next_within : (g : Progress) → Going l g b → handing g r c x ≡ advanced l b o g → h.size ≤ length x
    next_within g w p = hand_within o x c (move l g b) h ((rw e at p) ∙ advance_hand l b o f g w) (move_size l g b) f

-- ---- a piece, of k octets in buffer x, stands in what is printed from octet n on

pub part_size : (x : List ℕ) (k : ℕ) → k ≤ length x → length (take k x) ≡ k
part_size x k z = length-take-le k x z

module _ (l c x : List ℕ) (n k : ℕ) (h : Progress) (z : k ≤ length x) (p : Passed l n (moved (take k x) h c)) where
  along_on : Along l (n + k) h c
  along_on = subst (λ (m : ℕ). Along l (n + m) h c) (length-take-le k x z) p.along

  part_on : part (printed l) n (length (take k x)) ≡ take k x
  part_on = p.here

-- the first piece
module _ (l a c x : List ℕ) (k : ℕ) (h : Progress) (z : k ≤ length x) (q : length a ≡ area_size)
    (e : moved (take k x) h c ≡ first_piece l a) where
  pub begun_along : Along l k h c
  begun_along =
      let t : 0 + k ≡ k = omega arith in
      subst (λ (m : ℕ). Along l m h c) t (along_on l c x 0 k h z (first_passed l a q (moved (take k x) h c) e))

  pub begun_part : part (printed l) 0 (length (take k x)) ≡ take k x
  begun_part = part_on l c x 0 k h z (first_passed l a q (moved (take k x) h c) e)

-- a piece after it
module _ (l b c x : List ℕ) (n k : ℕ) (g h : Progress) (w : Along l n g b) (o : not g.ended ≡ true) where
  pub may_advance : Going l g b
  may_advance = w.going (not-true g.ended o)

  module _ (z : k ≤ length x) (e : moved (take k x) h c ≡ move l g b) where
    passed : Passed l n (moved (take k x) h c)
    passed = next_passed l n g b w (not-true g.ended o) (moved (take k x) h c) e

    pub along_more : Along l (n + k) h c
    along_more = along_on l c x n k h z passed

    pub along_room : n + k ≤ length (printed l)
    along_room = along_more.within

    pub along_part : part (printed l) n (length (take k x)) ≡ take k x
    along_part = part_on l c x n k h z passed

    pub along_less : pieces h < pieces g
    along_less = next_fewer l n g b w (not-true g.ended o) (moved (take k x) h c) e
