-- How far the text may reach: no text of a run is longer than that many octets. The laws of the loop that writes it.
-- Assumes nothing.
use Rattle.std.specs.Prelude.{ℕ, Bool, Option, Result, Ok, Err, OnOk, ◌+◌, ◌*◌, ◌≤◌, ◌≡◌, true, false, not, List, [], ◌++◌, length, take, drop}
use Rattle.std.proofs.Common.{refl, sym, ◌∙◌, ap, subst, true≢false, append_assoc, append-nil, take-append-drop, drop-drop, drop_of_length-le, arith}
use Rattle.std.proofs.lemmas.Bool.{not-true, not-false}
use Rattle.octets.specs.Store.{part}
use Rattle.std.proofs.KnownBytes.{Appends-trans}
use Rattle.std.specs.Io.KnownBytes.{Appends}
use Rattle.report_spec.specs.declared.Progress.{Progress}
use Rattle.report_spec.specs.Printed.{printed}
use Rattle.report_spec.specs.Pieces.{Moved, moved, move, first_piece}
use Rattle.report_theorem.specs.Whole.{pieces, first_pieces}
use Rattle.report_theorem.specs.Along.{Along, end_place}
use Rattle.report_whole.specs.PartLaws.{part_size, begun_along, along_more, along_less}
use Rattle.area.specs.Offsets.{area_size}

-- 16,777,282 pieces of 2,048 octets
abbrev pub most : ℕ
most = 34359873536

-- ---- the first piece, of k octets in buffer x, ends at v

module _ (l a c x : List ℕ) (k v : ℕ) (h : Progress) (z : k ≤ length x) (q : length a ≡ area_size)
    (e : moved (take k x) h c ≡ first_piece l a) where
  pub first_end : v ≡ 0 + length (take k x) → Along l v h c
  first_end t =
      let m : v ≡ k = omega (arith, part_size x k z) in subst (λ (i : ℕ). Along l i h c) (sym m)
      (begun_along l a c x k h z q e)

  pub first_most : length x ≡ 2048 → v ≡ 0 + length (take k x) → v + 2048 * pieces h ≤ most
  first_most y t =
      omega (
        arith,
        part_size x k z,
        subst (λ (m : Moved). pieces m.progress ≤ 16777281) (sym e)
            (first_pieces l a q),
      )

pub first_fits : (x : List ℕ) (k : ℕ) → k ≤ length x → length x ≡ 2048 → 0 + length (take k x) ≤ most
first_fits x k z y = omega (arith, part_size x k z)

-- ---- a piece after it, from n on

module _ (l b c x : List ℕ) (n k : ℕ) (g h : Progress) (w : Along l n g b) (o : not g.ended ≡ true)
    (z : k ≤ length x)
    (e : moved (take k x) h c ≡ move l g b) where
  pub next_room : length x ≡ 2048 → n + 2048 * pieces g ≤ most → n + length (take k x) ≤ most
  next_room y t = omega (arith, part_size x k z, along_less l b c x n k g h w o z e)

  pub next_end : (v : ℕ) → v ≡ n + length (take k x) → Along l v h c
  next_end v t =
      let m : v ≡ n + k = omega (arith, part_size x k z) in subst (λ (i : ℕ). Along l i h c) (sym m)
      (along_more l b c x n k g h w o z e)

  pub next_most : (v : ℕ) → length x ≡ 2048 → n + 2048 * pieces g ≤ most → v ≡ n + length (take k x)
      → v + 2048 * pieces h ≤ most
  next_most v y t u = omega (arith, part_size x k z, along_less l b c x n k g h w o z e)

-- ---- the end

pub not_done : (d : Bool) (v : ℕ) (l : List ℕ) → not d ≡ true → d ≡ true → v ≡ length (printed l)
not_done d v l o t = absurd (true≢false (sym t ∙ not-true d o))

pub all_done : (l b : List ℕ) (n : ℕ) (g : Progress) → Along l n g b → not g.ended ≡ false → n ≡ length (printed l)
all_done l b n g w o = end_place l n g b (not-false g.ended o) w

-- ---- the text, octets d of which are written from s on

-- with piece p behind them
pub next_text : (l d p : List ℕ) (s n v : ℕ) → drop s (printed l) ≡ d ++ drop n (printed l)
    → part (printed l) n (length p) ≡ p
    → v ≡ n + length p → drop s (printed l) ≡ (d ++ p) ++ drop v (printed l)
next_text l d p s n v e q m =
    let t : drop n (printed l) ≡ p ++ drop v (printed l) =
    sym (take-append-drop (length p) (drop n (printed l)))
    ∙ ap (λ (x : List ℕ). x ++ drop (length p) (drop n (printed l))) q
    ∙ ap (λ (x : List ℕ). p ++ x)
    (drop-drop (length p) n (printed l) ∙ ap (λ (i : ℕ). drop i (printed l)) (sym m)) in
    e ∙ ap (λ (x : List ℕ). d ++ x) t ∙ sym (append_assoc d p (drop v (printed l)))

-- with the first piece alone
pub first_text : (l p : List ℕ) (v : ℕ) → part (printed l) 0 (length p) ≡ p → v ≡ 0 + length p
    → p ++ drop v (printed l) ≡ printed l
first_text l p v q m = sym (next_text l [] p 0 0 v refl q m)

-- all of them
pub all_text : (l d : List ℕ) (s n : ℕ) → drop s (printed l) ≡ d ++ drop n (printed l) → n ≡ length (printed l)
    → d ≡ drop s (printed l)
all_text l d s n e m =
    sym (e ∙ ap (λ (x : List ℕ). d ++ x) (drop_of_length-le (printed l) {i = n} (omega arith)) ∙ append-nil d)

-- p was written, and behind it, where all went well, q: together they are t
pub wrote : {X E : Type 0} (a b c : Option (List ℕ)) (p q t : List ℕ) (r : Result X E) → p ++ q ≡ t → Appends a b p
    → OnOk r (Appends b c q) → OnOk r (Appends a c t)
wrote a b c p q t (Ok x) e f h = subst (Appends a c) e (Appends-trans a b c p q f h)
wrote a b c p q t (Err x) e f h = tt
