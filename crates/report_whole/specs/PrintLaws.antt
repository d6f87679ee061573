-- A law for each way through the code that makes the whole text. Assumes nothing.
use Rattle.std.specs.Prelude.{ℕ, ◌+◌, ◌-◌, ◌≤◌, ◌<◌, ◌≡◌, Bool, true, false, not, List, [], ◌∷◌, ◌++◌, leb, length, take}
use Rattle.std.proofs.Common.{sym, ◌∙◌, ap, ap₂, arith, take-append-drop, drop_of_length-le, drop-drop}
use borrow.Author.Tests.{lt-ltb, le-ltb, le-leb, lt-leb, leb-true, leb-false, not-true, not-false}
use borrow.Rule.Slice.PartMut.{put_mid}
use Rattle.std.proofs.Math.ListN.{drop}
use Rattle.std.proofs.lemmas.List.Edits.{sets}
use Rattle.octets.specs.Base.{refused, accepted}
use Rattle.octets.specs.Store.{part, sets_append}
use Rattle.report_spec.specs.declared.Progress.{Progress}
use Rattle.report_spec.specs.Printed.{input_course, printed}
use Rattle.report_spec.specs.Pieces.{moved, move, first_piece, remaining}
use Rattle.report_theorem.specs.Along.{Along, first_area, next_area, end_place, end_area}
use Rattle.report_whole.specs.PartLaws.{part_size, begun_along, begun_part, along_more, along_part}
use Rattle.report_whole.specs.Print.{print, printed_into}
use Rattle.area.specs.Offsets.{area_size}

-- ---- a piece, of k octets in buffer x, is stored

-- the rest behind a stored piece is the rest from there on
text_on : (l x y : List ℕ) (n k : ℕ) → k ≤ length x → part (printed l) n (length (take k x)) ≡ take k x
    → sets (sets y n (take k x)) (n + k) (drop (n + k) (printed l)) ≡ sets y n (drop n (printed l))
text_on l x y n k z p =
    let q : length (take k x) ≡ k = part_size x k z in
    let t : take k (drop n (printed l)) ≡ take k x = ap (λ (m : ℕ). take m (drop n (printed l))) (sym q) ∙ p in
    sets_append (take k x) (drop (n + k) (printed l)) y n (n + k) (omega (arith, q))
    ∙ ap (sets y n)
    (ap₂ (λ (u v : List ℕ). u ++ v) (sym t) (sym (drop-drop k n (printed l))) ∙ take-append-drop k (drop n (printed l)))

module _ (l a c x : List ℕ) (k : ℕ) (h : Progress) (z : k ≤ length x) (q : length a ≡ area_size)
    (e : moved (take k x) h c ≡ first_piece l a) where
  pub begun_store : (y : List ℕ) → length (printed l) ≤ length y → 0 + length (take k x) ≤ length y
  begun_store y t = omega (arith, (begun_along l a c x k h z q e).within, part_size x k z)

  pub begun_over : (room : ℕ) → room < k → false ≡ leb (length (printed l)) room
  begun_over room t = sym (lt-leb (length (printed l)) room (omega (arith, (begun_along l a c x k h z q e).within)))

  pub begun_text : (y u v : List ℕ) → u ≡ sets y 0 (take k x) → v ≡ sets u k (drop k (printed l))
      → v ≡ sets y 0 (printed l)
  begun_text y u v s t =
      let m : 0 + k ≡ k = omega arith in
      t
      ∙ ap (λ (i : List ℕ). sets i k (drop k (printed l))) s
      ∙ ap (λ (i : ℕ). sets (sets y 0 (take k x)) i (drop i (printed l))) (sym m)
      ∙ text_on l x y 0 k z (begun_part l a c x k h z q e)

  pub begun_area : (d : List ℕ) → d ≡ (remaining l h c).octets → d ≡ (input_course l a).octets
  begun_area d t = t ∙ first_area l a q (moved (take k x) h c) e

module _ (l b c x : List ℕ) (n k : ℕ) (g h : Progress) (w : Along l n g b) (o : not g.ended ≡ true)
    (z : k ≤ length x)
    (e : moved (take k x) h c ≡ move l g b) where
  pub along_over : (room : ℕ) → n ≤ room → room - n < k → false ≡ leb (length (printed l)) room
  along_over room f t =
      sym (lt-leb (length (printed l)) room (omega (arith, (along_more l b c x n k g h w o z e).within)))

  pub along_store : (y v : List ℕ) → length y ≡ length v → length (printed l) ≤ length v
      → n + length (take k x) ≤ length y
  along_store y v p t = omega (arith, (along_more l b c x n k g h w o z e).within, part_size x k z)

  pub along_text : (y u v : List ℕ) → u ≡ sets y n (take k x) → sets y n (drop n (printed l)) ≡ v
      → sets u (n + k) (drop (n + k) (printed l)) ≡ v
  along_text y u v p t =
      ap (λ (m : List ℕ). sets m (n + k) (drop (n + k) (printed l))) p
      ∙ text_on l x y n k z (along_part l b c x n k g h w o z e) ∙ t

  pub along_area : (d : List ℕ) → (remaining l g b).octets ≡ d → (remaining l h c).octets ≡ d
  along_area d t = next_area l n g b w (not-true g.ended o) (moved (take k x) h c) e ∙ t

-- ---- the end

pub fits_all : (l b : List ℕ) (n room : ℕ) (g : Progress) → Along l n g b → not g.ended ≡ false → n ≤ room
    → true ≡ leb (length (printed l)) room
fits_all l b n room g w o f =
    sym (le-leb (length (printed l)) room (omega (arith, end_place l n g b (not-false g.ended o) w)))

module _ (l b : List ℕ) (n : ℕ) (g : Progress) (w : Along l n g b) (o : not g.ended ≡ false) where
  pub all_place : n ≡ length (printed l)
  all_place = end_place l n g b (not-false g.ended o) w

  pub all_area : (d : List ℕ) → (remaining l g b).octets ≡ d → b ≡ d
  all_area d t = sym (end_area l n g b (not-false g.ended o)) ∙ t

  pub all_text : (y x : List ℕ) → sets x n (drop n (printed l)) ≡ y → x ≡ y
  all_text y x t = ap (sets x n) (sym (drop_of_length-le (printed l) {i = n} (omega (arith, all_place)))) ∙ t

-- ---- the whole

pub print_room : (l : List ℕ) (room : ℕ) (b : Bool) → b ≡ leb (length (printed l)) room → not b ≡ false
    → length (printed l) ≤ room
print_room l room b q t = leb-true (length (printed l)) room (sym q ∙ not-false b t)

module _ (l a o : List ℕ) where
  pub print_short : length a < area_size → print (refused 1) a o ≡ printed_into l a o
  unfolding printed_into
  print_short h = rw (lt-ltb (length a) area_size h)

  module _ (h : area_size ≤ length a) (b : Bool) (q : b ≡ leb (length (printed l)) (length o)) where
    pub print_over : not b ≡ true → print (refused 15) a o ≡ printed_into l a o
    unfolding printed_into
    print_over t =
        let m = leb-false (length (printed l)) (length o)
        (sym q ∙ not-true b t) in rw (le-ltb (length a) area_size h, lt-ltb (length o) (length (printed l)) m)

    pub print_whole : (n : ℕ) (m x : List ℕ) → not b ≡ false → n ≡ length (printed l) → x ≡ sets o 0 (printed l)
        → m ≡ (input_course l (take (area_size - 0) a)).octets
        → print (accepted (n ∷ [])) (put_mid 0 (area_size - 0) a m) x ≡ printed_into l a o
    unfolding printed_into
    print_whole n m x t p u v =
        rw (le-ltb (length a) area_size h, le-ltb (length o) (length (printed l)) (print_room l (length o) b q t))
        (λ i. print (accepted (p i ∷ [])) (v i ++ drop area_size a) (u i))
