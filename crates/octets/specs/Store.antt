-- A part of a list, and a list stored into another. `sets l at vs` of lib.Seq is l with vs stored from index `at` on.
-- Its laws: the length stays; a part stored is read back; a part apart from it is as it was; two stores in a row are
-- one. Assumes nothing.
use Rattle.std.specs.Prelude.{ℕ, zero, suc, ◌+◌, ◌≤◌, ◌<◌, ◌≡◌, refl, List, [], ◌∷◌, ◌++◌, length, get_or, set, take, drop}
use Rattle.std.proofs.Common.{◌∙◌, ap, sym, add-zero, add-one, arith, length-set, length-drop, drop-cons, take-suc, take_all, get_or-set_same, get_or-set_other, get_or-take, get_or-drop, ext_get_or, length-take-le}
use Rattle.std.proofs.lemmas.List.Edits.{sets}
use Rattle.std.proofs.Math.Seq.{length-sets}

-- the n octets from `at` on
abbrev pub part : List ℕ → ℕ → ℕ → List ℕ
part l at n = take n (drop at l)

-- no octet of the n from b on is among the m from `at` on. `omega arith` proves it outright: it is a function into ⊥
abbrev pub Apart : ℕ → ℕ → ℕ → ℕ → Type 0
Apart b n at m = b < at + m → at < b + n → ⊥

pub length_part : (l : List ℕ) (at n : ℕ) → at + n ≤ length l → length (part l at n) ≡ n
length_part l at n h = length-take-le n (drop at l) (omega (arith, length-drop at l))

-- ---- one octet

pub octet_other : (vs l : List ℕ) (at k : ℕ) → Apart k 1 at (length vs) → get_or (sets l at vs) k 0 ≡ get_or l k 0
octet_other [] l at k h = refl
octet_other (v ∷ vs) l at k h =
    octet_other vs (set l at v) (suc at) k (λ p q. h (omega arith) (omega arith))
    ∙ get_or-set_other l at k v 0 (λ e. h (omega arith) (omega arith))

pub octet_same : (vs l : List ℕ) (at k : ℕ) → k < length vs → at + length vs ≤ length l
    → get_or (sets l at vs) (at + k) 0 ≡ get_or vs k 0
octet_same [] l at k h b = omega arith
octet_same (v ∷ vs) l at zero h b =
    ap (λ (i : ℕ). get_or (sets (set l at v) (suc at) vs) i 0) (add-zero at)
    ∙ octet_other vs (set l at v) (suc at) at (λ p q. omega arith)
    ∙ get_or-set_same l at v 0 (omega arith)
octet_same (v ∷ vs) l at (suc k) h b =
    ap (λ (i : ℕ). get_or (sets (set l at v) (suc at) vs) i 0) (omega arith)
    ∙ octet_same vs (set l at v) (suc at) k (omega arith) (omega (arith, length-set l at v))

-- ---- a part

-- a part that the store passes by is as it was
pub part_other : (vs l : List ℕ) (at b n : ℕ) → b + n ≤ length l → Apart b n at (length vs)
    → part (sets l at vs) b n ≡ part l b n
part_other vs l at b n h a =
    let e : length (part (sets l at vs) b n) ≡ n = length_part (sets l at vs) b n
    (omega (arith, length-sets l at vs)) in
    ext_get_or 0 (part (sets l at vs) b n) (part l b n) (e ∙ sym (length_part l b n h))
    (λ i p. let q : i < n = omega arith in
    rw (
      get_or-take n (drop b (sets l at vs)) i 0 q,
      get_or-take n (drop b l) i 0 q,
      get_or-drop b
          (sets l at vs) i 0,
      get_or-drop b l i 0,
    )
    (octet_other vs l at (b + i) (λ r s. a (omega arith) (omega arith))))

-- the part that was stored is what was stored
pub part_same : (vs l : List ℕ) (at : ℕ) → at + length vs ≤ length l → part (sets l at vs) at (length vs) ≡ vs
part_same vs l at h =
    let e : length (part (sets l at vs) at (length vs)) ≡ length vs = length_part (sets l at vs) at (length vs)
    (omega (arith, length-sets l at vs)) in
    ext_get_or 0 (part (sets l at vs) at (length vs)) vs e
    (λ i p. let q : i < length vs = omega arith in
    rw (get_or-take (length vs) (drop at (sets l at vs)) i 0 q, get_or-drop at (sets l at vs) i 0)
    (octet_same vs l at i q h))

-- what was stored at the front is the front
pub take_sets : (vs l : List ℕ) (n : ℕ) → n ≡ length vs → length vs ≤ length l → take n (sets l 0 vs) ≡ vs
take_sets vs l n p h = rw p (part_same vs l 0 (omega arith))

-- two octets, read one by one
pub two_octets : (l : List ℕ) (at : ℕ) → at + 2 ≤ length l → get_or l at 0 ∷ get_or l (at + 1) 0 ∷ [] ≡ part l at 2
two_octets l at h =
    let e : at + 1 ≡ suc at = omega arith in
    let h₀ : at < length l = omega arith in
    let h₁ : suc at < length l = omega arith in
    rw (e, drop-cons l at 0 h₀, drop-cons l (suc at) 0 h₁)

-- ---- stores in a row

-- two stores, the second where the first ends, are one
pub sets_append : (xs ys l : List ℕ) (at e : ℕ) → e ≡ at + length xs → sets (sets l at xs) e ys ≡ sets l at (xs ++ ys)
sets_append [] ys l at e p = let q : e ≡ at = omega arith in rw q
sets_append (x ∷ xs) ys l at e p = sets_append xs ys (set l at x) (suc at) e (omega arith)

-- ---- the loop of `store`: after i turns the first i octets of src are stored

pub stored_more : (s l src : List ℕ) (at i : ℕ) → i < length src → s ≡ sets l at (take i src)
    → set s (at + i) (get_or src i 0) ≡ sets l at (take (i + 1) src)
stored_more s l src at i h e =
    rw (e, add-one i, take-suc src i 0 h)
    (sets_append (take i src) (get_or src i 0 ∷ []) l at (at + i) (omega (arith, length-take-le i src (omega arith))))

pub stored_all_lem : (s l src : List ℕ) (at i : ℕ) → length src ≤ i → s ≡ sets l at (take i src) → s ≡ sets l at src
stored_all_lem s l src at i h e = rw (take_all i src h) at e
