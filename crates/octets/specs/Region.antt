-- Two lists that agree on a region. A reader has one law, that it goes by its region alone; a writer has one, that it
-- leaves other regions as they were. Any reader after any writer elsewhere then follows, with no law for each pair.
-- Assumes nothing.
use Rattle.std.specs.Prelude.{ℕ, zero, suc, ◌+◌, ◌*◌, ◌≤◌, ◌<◌, ◌≡◌, refl, List, length, get_or, set, drop}
use Rattle.std.proofs.Common.{◌∙◌, sym, arith, get_or-set_other, get_or-take, get_or-drop, ext_get_or}
use Rattle.std.proofs.lemmas.List.Edits.{sets}
use Rattle.octets.specs.Store.{part, Apart, octet_other, length_part}
use Rattle.octets.specs.Number.{get, put}
use Rattle.octets.specs.NumberLaws.{get_by, get_put_other}
use Rattle.octets.specs.Words.{words_at, put_words}
use Rattle.octets.specs.WordsLaws.{get_words_other}

-- the n octets from b on are the same in both
unfoldable pub Same : ℕ → ℕ → List ℕ → List ℕ → Type 0
Same b n l m = (k : ℕ) → b ≤ k → k < b + n → get_or l k 0 ≡ get_or m k 0

pub same_refl : (b n : ℕ) (l : List ℕ) → Same b n l l
unfolding Same
same_refl b n l k h g = refl

-- a part of a region
pub same_part : (b n c w : ℕ) (l m : List ℕ) → b ≤ c → c + w ≤ b + n → Same b n l m → Same c w l m
unfolding Same
same_part b n c w l m p q s k h g = s k (omega arith) (omega arith)

-- one writer after another
pub same_trans : (b n : ℕ) (l m o : List ℕ) → Same b n l m → Same b n m o → Same b n l o
unfolding Same
same_trans b n l m o s t k h g = s k h g ∙ t k h g

-- ---- writers

pub set_leaves : (b n i x : ℕ) (l : List ℕ) → Apart b n i 1 → Same b n (set l i x) l
unfolding Same
set_leaves b n i x l a k h g = get_or-set_other l i k x 0 (λ e. a (omega arith) (omega arith))

pub sets_leaves : (b n at : ℕ) (vs l : List ℕ) → Apart b n at (length vs) → Same b n (sets l at vs) l
unfolding Same
sets_leaves b n at vs l a k h g = octet_other vs l at k (λ p q. a (omega arith) (omega arith))

pub put_leaves : (b n w at x : ℕ) (l : List ℕ) → Apart b n at w → Same b n (put w l at x) l
unfolding Same get
put_leaves b n w at x l a k h g = get_put_other w 1 l at k x (λ p q. a (omega arith) (omega arith))

pub words_leave : (b n m at : ℕ) (l ws : List ℕ) → Apart b n at (4 * m) → Same b n (put_words m l at ws) l
unfolding Same get
words_leave b n m at l ws a k h g = get_words_other m 1 l at k ws (λ p q. a (omega arith) (omega arith))

-- ---- readers

pub get_goes_by : (w at : ℕ) (l m : List ℕ) → Same at w l m → get w l at ≡ get w m at
unfolding Same
get_goes_by w at l m s = get_by w at at l m (λ k h. s (at + k) (omega arith) (omega arith))

pub words_go_by : (n at : ℕ) (l m : List ℕ) → Same at (4 * n) l m → words_at n l at ≡ words_at n m at
unfolding Same words_at
words_go_by zero at l m s = refl
words_go_by (suc n) at l m s =
    rw (
      words_go_by n at l m (λ k h g. s k h (omega arith)),
      get_goes_by 4 (at + 4 * n) l m
          (λ k h g. s k (omega arith) (omega arith)),
    )

pub part_goes_by : (n at : ℕ) (l m : List ℕ) → at + n ≤ length l → at + n ≤ length m → Same at n l m
    → part l at n ≡ part m at n
unfolding Same
part_goes_by n at l m h g s =
    ext_get_or 0 (part l at n) (part m at n) (length_part l at n h ∙ sym (length_part m at n g))
    (λ i p. let q : i < n = omega (arith, length_part l at n h) in
    rw (get_or-take n (drop at l) i 0 q, get_or-take n (drop at m) i 0 q, get_or-drop at l i 0, get_or-drop at m i 0)
    (s (at + i) (omega arith) (omega arith)))
