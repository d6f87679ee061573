-- A number that was written is read back, and one that lies apart from it is as it was. Each law is stated once, over
-- the widths. Assumes nothing.
use Rattle.std.specs.Prelude.{ℕ, zero, suc, ◌+◌, ◌*◌, ◌/◌, ◌%◌, ◌^◌, ◌≤◌, ◌<◌, ◌≡◌, refl, List, [], ◌∷◌, ◌++◌, length, get_or, set, take, drop}
use Rattle.std.proofs.Common.{add-one, ◌∙◌, ap, mul_comm, get_or-take, ap₂, sym, pow-suc, arith, length-append, get_or-append-add, get_or-drop}
use Rattle.std.proofs.Math.ListN.{get_or-append}
use Rattle.std.proofs.lemmas.List.Edits.{sets}
use Rattle.std.proofs.Math.Seq.{length-sets, get_or-append_seam}
use Rattle.octets.specs.Store.{part, Apart, octet_same, octet_other}
use Rattle.octets.specs.Number.{get, spelled, put}
use Rattle.std.specs.Int.{w16, w32, byte_at, bytes_high_first, from_be_bytes}
use Rattle.std.proofs.Math.Nat.{div-div-eq-div-mul}

-- one octet more, for every width
get_more : (w : ℕ) (l : List ℕ) (at : ℕ) → get (suc w) l at ≡ get w l at * 256 + get_or l (at + w) 0
unfolding get
get_more zero l at = let e : at + 0 ≡ at = omega arith in rw e (omega arith)
get_more (suc w) l at = refl

-- ---- numbers of octets

-- each is an octet, and not only a number
unfoldable pub Octets : List ℕ → Type 0
Octets l = (k : ℕ) → get_or l k 0 < 256

pub octets_by : (l : List ℕ) → ((k : ℕ) → get_or l k 0 < 256) → Octets l
unfolding Octets
octets_by l h = h

take_octets : (n : ℕ) (l : List ℕ) → ((k : ℕ) → get_or l k 0 < 256) → (k : ℕ) → get_or (take n l) k 0 < 256
take_octets zero l h k = omega arith
take_octets (suc n) [] h k = omega arith
take_octets (suc n) (x ∷ l) h zero = h zero
take_octets (suc n) (x ∷ l) h (suc k) = take_octets n l (λ j. h (suc j)) k

-- a front and a rest of octets are octets
pub octets_take : (n : ℕ) (l : List ℕ) → Octets l → Octets (take n l)
unfolding Octets
octets_take n l o = take_octets n l o

pub octets_drop : (n : ℕ) (l : List ℕ) → Octets l → Octets (drop n l)
unfolding Octets
octets_drop n l o k = rw (get_or-drop n l k 0) (o (n + k))

pub get_small : (w : ℕ) (l : List ℕ) (at : ℕ) → Octets l → get w l at < 256 ^ w
unfolding get Octets
get_small zero l at o = omega arith
get_small (suc w) l at o =
    let ih = get_small w l at o in let z = o (at + w) in omega (arith, get_more w l at, pow-suc 256 w)

-- ---- where octets agree, so do numbers

pub get_by : (w at b : ℕ) (l m : List ℕ) → ((k : ℕ) → k < w → get_or l (at + k) 0 ≡ get_or m (b + k) 0)
    → get w l at ≡ get w m b
unfolding get
get_by zero at b l m s = refl
get_by (suc w) at b l m s =
    get_more w l at
    ∙ ap₂ (λ (p q : ℕ). p * 256 + q) (get_by w at b l m (λ k h. s k (omega arith))) (s w (omega arith))
    ∙ sym (get_more w m b)

-- octets behind, or in front, do not matter
pub get_front : (w : ℕ) (a z : List ℕ) (at : ℕ) → at + w ≤ length a → get w (a ++ z) at ≡ get w a at
get_front w a z at h = get_by w at at (a ++ z) a (λ k p. get_or-append a z 0 (at + k) (omega arith))

pub get_after : (w : ℕ) (a z : List ℕ) (at : ℕ) → at ≡ length a → get w (a ++ z) at ≡ get w z 0
get_after w a z at e =
    get_by w at 0 (a ++ z) z
    (λ k p. let f : at + k ≡ length a + k = omega arith in
    let g : 0 + k ≡ k = omega arith in
    rw (f, g) (get_or-append-add a z k 0))

-- ---- what is spelled reads as the number

pub length_spelled : (w v : ℕ) → length (spelled w v) ≡ w
unfolding spelled
length_spelled zero v = refl
length_spelled (suc w) v =
    length-append (spelled w (v / 256)) (v % 256 ∷ []) ∙ omega (arith, length_spelled w (v / 256))

pub get_spelled : (w v : ℕ) → v < 256 ^ w → get w (spelled w v) 0 ≡ v
unfolding spelled get
get_spelled zero v h = omega arith
get_spelled (suc w) v h =
    let e : 0 + w ≡ length (spelled w (v / 256)) = omega (arith, length_spelled w (v / 256)) in
    let last : get_or (spelled w (v / 256) ++ (v % 256 ∷ [])) (0 + w) 0 ≡ v % 256 = rw e
    (get_or-append_seam (spelled w (v / 256)) (v % 256) [] 0) in
    let rest : get w (spelled w (v / 256) ++ (v % 256 ∷ [])) 0 ≡ v / 256 =
    get_front w (spelled w (v / 256)) (v % 256 ∷ []) 0 (omega (arith, length_spelled w (v / 256)))
    ∙ get_spelled w (v / 256) (omega (arith, pow-suc 256 w)) in
    get_more w (spelled w (v / 256) ++ (v % 256 ∷ [])) 0 ∙ rw (last, rest) (omega arith)

-- ---- what is written

pub length_put : (w : ℕ) (l : List ℕ) (at v : ℕ) → length (put w l at v) ≡ length l
unfolding put
length_put w l at v = length-sets l at (spelled w v)

pub get_put_same : (w : ℕ) (l : List ℕ) (at v : ℕ) → at + w ≤ length l → v < 256 ^ w → get w (put w l at v) at ≡ v
unfolding put
get_put_same w l at v h k =
    get_by w at 0 (sets l at (spelled w v)) (spelled w v)
    (λ i p. let e : 0 + i ≡ i = omega arith in rw e
    (octet_same (spelled w v) l at i (omega (arith, length_spelled w v)) (omega (arith, length_spelled w v))))
    ∙ get_spelled w v k

pub get_put_other : (w n : ℕ) (l : List ℕ) (at b v : ℕ) → Apart b n at w → get n (put w l at v) b ≡ get n l b
unfolding put
get_put_other w n l at b v a =
    get_by n b b (sets l at (spelled w v)) l
    (λ k p. octet_other (spelled w v) l at (b + k)
    (λ q r. a (omega (arith, length_spelled w v)) (omega (arith, length_spelled w v))))

-- ---- the library's conversions

-- the first of the octets that spell a number
spelled_front : (w v : ℕ) → byte_at w v ∷ spelled w v ≡ spelled (suc w) v
unfolding spelled
spelled_front zero v = refl
spelled_front (suc w) v =
    ap₂ (λ (x : ℕ) (l : List ℕ). x ∷ l) (front w) refl
    ∙ ap (λ (l : List ℕ). l ++ (v % 256 ∷ [])) (spelled_front w (v / 256))
  where
    front : (k : ℕ) → byte_at (suc k) v ≡ byte_at k (v / 256)
    front zero = refl
    front (suc k) =
        ap (λ (x : ℕ). x % 256) (ap (λ (m : ℕ). v / m) (pow-suc 256 (suc k) ∙ mul_comm (256 ^ suc k) 256)
        ∙ sym (div-div-eq-div-mul v 256 (256 ^ suc k)))

-- `to_be_bytes` spells the number
pub spelled_bytes : (w v : ℕ) → bytes_high_first w v ≡ spelled w v
unfolding spelled
spelled_bytes zero v = refl
spelled_bytes (suc w) v = ap (λ (l : List ℕ). byte_at w v ∷ l) (spelled_bytes w v) ∙ spelled_front w v

pub put_bytes : (w : ℕ) (l m : List ℕ) (at v : ℕ) (b : List ℕ) → m ≡ sets l at b → b ≡ bytes_high_first w v
    → m ≡ put w l at v
unfolding put
put_bytes w l m at v b p q = rw (p, q, spelled_bytes w v)

-- `from_be_bytes` reads the number
get_part : (w : ℕ) (l : List ℕ) (at : ℕ) → get w (part l at w) 0 ≡ get w l at
get_part w l at =
    get_by w 0 at (part l at w) l
    (λ k h. let e : 0 + k ≡ k = omega arith in rw (e, get_or-take w (drop at l) k 0 h, get_or-drop at l k 0))

pub get_two : (l : List ℕ) (at x : ℕ) (b : List ℕ) → x ≡ from_be_bytes w16 b → b ≡ part l at 2 → x ≡ get 2 l at
unfolding get
get_two l at x b p q = p ∙ rw q (omega (arith, get_part 2 l at))

pub get_four : (l : List ℕ) (at x : ℕ) (b : List ℕ) → x ≡ from_be_bytes w32 b → b ≡ part l at 4 → x ≡ get 4 l at
unfolding get
get_four l at x b p q = p ∙ rw q (omega (arith, get_part 4 l at))

-- ---- octets stored one by one

pub put_two : (l : List ℕ) (at v : ℕ) → set (set l at (v / 256 % 256)) (at + 1) (v % 256) ≡ put 2 l at v
unfolding put spelled
put_two l at v = rw (add-one at)

pub put_four : (l : List ℕ) (at v : ℕ)
    → set (set (set (set l at (v / 256 / 256 / 256 % 256)) (at + 1) (v / 256 / 256 % 256)) (at + 2) (v / 256 % 256))
    (at + 3) (v % 256) ≡ put 4 l at v
unfolding put spelled
put_four l at v =
    let e₁ : at + 1 ≡ suc at = omega arith in
    let e₂ : at + 2 ≡ suc (suc at) = omega arith in
    let e₃ : at + 3 ≡ suc (suc (suc at)) = omega arith in
    rw (e₁, e₂, e₃)
