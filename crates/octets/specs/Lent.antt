-- What a slice holds after a part of it was lent and written: a list stored into the part is stored into the slice.
-- Assumes nothing.
use Rattle.std.specs.Prelude.{ℕ, suc, ◌+◌, ◌≤◌, ◌<◌, ◌≡◌, List, [], ◌∷◌, length, set, drop}
use Rattle.std.proofs.Common.{replicate, length-drop, length-take-le, sym, ◌∙◌, append_assoc, ap, add-zero, arith, drop-set-lt}
use Rattle.std.proofs.lemmas.List.Edits.{sets, sets-eq}
use Rattle.std.proofs.lemmas.List.{take-set-le, drop-set-add, drop-drop, length-replicate}
use Rattle.std.proofs.Math.Seq.{take-set-lt}
use borrow.Rule.Slice.PartMut.{mid_of, put_mid, put_same}

-- an octet set within the part changes neither what is before it nor what is after it
put_set : (a k j v : ℕ) (l ys : List ℕ) → j < k → put_mid a k (set l (a + j) v) ys ≡ put_mid a k l ys
put_set a k j v l ys h =
    rw (take-set-le a l (a + j) v (omega arith), drop-set-add a l j v, drop-set-lt k (drop a l) j v h)

mid_set : (a k j v : ℕ) (l : List ℕ) → j < k → mid_of a k (set l (a + j) v) ≡ set (mid_of a k l) j v
mid_set a k j v l h = rw (drop-set-add a l j v) (take-set-lt k (drop a l) j v h)

stored_from : (vs : List ℕ) (a k j : ℕ) (l : List ℕ) → j + length vs ≤ k
    → put_mid a k l (sets (mid_of a k l) j vs) ≡ sets l (a + j) vs
stored_from [] a k j l h = put_same a k l
stored_from (v ∷ vs) a k j l h =
    let e : suc (a + j) ≡ a + suc j = omega arith in
    ap (λ (m : List ℕ). put_mid a k l (sets m (suc j) vs)) (sym (mid_set a k j v l (omega arith)))
    ∙ sym (put_set a k j v l (sets (mid_of a k (set l (a + j) v)) (suc j) vs) (omega arith))
    ∙ stored_from vs a k (suc j) (set l (a + j) v) (omega arith)
    ∙ ap (λ (i : ℕ). sets (set l (a + j) v) i vs) (sym e)

pub lent_store : (vs : List ℕ) (a k : ℕ) (l : List ℕ) → length vs ≤ k
    → put_mid a k l (sets (mid_of a k l) 0 vs) ≡ sets l a vs
lent_store vs a k l h = stored_from vs a k 0 l (omega arith) ∙ ap (λ (i : ℕ). sets l i vs) (add-zero a)

-- the part overwritten as a whole
pub put_all : (vs l : List ℕ) (at k : ℕ) → k ≡ length vs → at + length vs ≤ length l → put_mid at k l vs ≡ sets l at vs
put_all vs l at k e h =
    rw (sets-eq vs l at h, e, drop-drop (length vs) at l, append_assoc)

-- the part filled with one octet, by the library's `fill`
pub put_fill : (l z : List ℕ) (at k v : ℕ) → z ≡ replicate (length (mid_of at k l)) v → at + k ≤ length l
    → put_mid at k l z ≡ sets l at (replicate k v)
put_fill l z at k v e h =
    let n : length (mid_of at k l) ≡ k = length-take-le k (drop at l) (omega (arith, length-drop at l)) in
    let m : k ≡ length (replicate {A = ℕ} k v) = sym (length-replicate k v) in
    rw (e, n) (put_all (replicate k v) l at k m (omega arith))
