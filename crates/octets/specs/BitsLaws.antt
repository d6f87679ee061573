-- Bits, the octets that travel as them, and the number of which they are the bits: each gives back the other.
-- Assumes nothing.
use Rattle.std.specs.Prelude.{ℕ, zero, suc, ◌+◌, ◌*◌, ◌/◌, ◌%◌, ◌^◌, ◌-◌, ◌≤◌, ◌<◌, ◌≡◌, refl, Bool, true, false, List, [], ◌∷◌, ◌++◌, eqb, length, get_or, take, drop}
use Rattle.std.proofs.Common.{sym, ◌∙◌, ap, pow-suc, mod-eq_of_lt, mul_comm, not-suc-le-zero, arith, pow_pos, length-append, length-drop, take-append-drop, length-take-le, get_or-append-add}
use Rattle.std.proofs.Math.Nat.{div-div-eq-div-mul, zero-mod, zero-div}
use Rattle.std.proofs.Math.Decide.{dec_lt}
use Rattle.std.proofs.Math.Arith.{mod-mul}
use Rattle.std.proofs.Math.Pow.{pow-lt}
use Rattle.std.proofs.Math.ListN.{get_or-append, get_or-eq_default}
use Rattle.octets.specs.Bits.{low_bits, bits_of, digit, low_first, packed}

pub length_bits : (n x : ℕ) → length (low_bits n x) ≡ n
unfolding low_bits
length_bits zero x = refl
length_bits (suc n) x = ap suc (length_bits n (x / 2))

-- ---- the bit in front is the number's lowest, the others are its half

lowest : (b : Bool) (l : List Bool) → low_first (b ∷ l) % 2 ≡ digit b
unfolding low_first
lowest true l = omega arith
lowest false l = omega arith

half : (b : Bool) (l : List Bool) → low_first (b ∷ l) / 2 ≡ low_first l
unfolding low_first
half true l = omega arith
half false l = omega arith

digit_bit : (b : Bool) → eqb (digit b) 1 ≡ b
digit_bit true = refl
digit_bit false = refl

-- the bits of the number are the bits
pub bits_number : (l : List Bool) → low_bits (length l) (low_first l) ≡ l
unfolding low_bits
bits_number [] = refl
bits_number (b ∷ l) = rw (lowest b l, half b l, digit_bit b) (ap (λ (t : List Bool). b ∷ t) (bits_number l))

-- ---- the first n bits are the number modulo 2 ^ n, the others the rest of it

take_number : (n : ℕ) (l : List Bool) → low_first (take n l) ≡ low_first l % 2 ^ n
unfolding low_first
take_number zero l = omega arith
take_number (suc n) [] = sym (zero-mod (2 ^ suc n))
take_number (suc n) (b ∷ l) =
    rw (pow-suc 2 n, mod-mul (low_first (b ∷ l)) (pow_pos n) (pow_pos 1), half b l, lowest b l, ← take_number n l)
    (omega arith)

drop_number : (n : ℕ) (l : List Bool) → low_first (drop n l) ≡ low_first l / 2 ^ n
unfolding low_first
drop_number zero l = omega arith
drop_number (suc n) [] = sym (zero-div (2 ^ suc n))
drop_number (suc n) (b ∷ l) =
    drop_number n l ∙ ap (λ (x : ℕ). x / 2 ^ n) (sym (half b l)) ∙ div-div-eq-div-mul (low_first (b ∷ l)) 2 (2 ^ n)
    ∙ ap (λ (m : ℕ). low_first (b ∷ l) / m) (mul_comm 2 (2 ^ n) ∙ sym (pow-suc 2 n))

-- the octets of a number, low octet first
abbrev pub low_octets : ℕ → ℕ → List ℕ
low_octets zero x = []
low_octets (suc n) x = x % 256 ∷ low_octets n (x / 256)

-- the octets that travel as the bits of a number are its octets, the low one first
pub packed_number : (n : ℕ) (l : List Bool) → packed n l ≡ low_octets n (low_first l)
unfolding packed
packed_number zero l = refl
packed_number (suc n) l = rw (take_number 8 l, packed_number n (drop 8 l), drop_number 8 l)

-- the bits that the octets travel as
pub bits_packed : (n : ℕ) (l : List Bool) → length l ≡ 8 * n → bits_of (packed n l) ≡ l
unfolding packed bits_of
bits_packed zero [] h = refl
bits_packed zero (b ∷ l) h = absurd (omega arith)
bits_packed (suc n) l h =
    let e : length (take 8 l) ≡ 8 = length-take-le 8 l (omega arith) in
    rw (bits_packed n (drop 8 l) (omega (arith, length-drop 8 l)), rw e at (bits_number (take 8 l)))
    (take-append-drop 8 l)

-- ---- one bit

-- bit j of a number
low_bit : (n x j : ℕ) → j < n → get_or (low_bits n x) j false ≡ eqb (x / 2 ^ j % 2) 1
unfolding low_bits
low_bit zero x j h = absurd (not-suc-le-zero h)
low_bit (suc n) x zero h = let e : x / 2 ^ 0 ≡ x = omega arith in rw e
low_bit (suc n) x (suc j) h =
    low_bit n (x / 2) j (omega arith)
    ∙ ap (λ (y : ℕ). eqb (y % 2) 1)
    (div-div-eq-div-mul x 2 (2 ^ j) ∙ ap (λ (m : ℕ). x / m) (mul_comm 2 (2 ^ j) ∙ sym (pow-suc 2 j)))

-- bit j of octets is bit j % 8 of octet j / 8, and there is none past their end
pub octet_bit : (l : List ℕ) (j : ℕ) → j / 8 < length l
    → get_or (bits_of l) j false ≡ eqb (get_or l (j / 8) 0 / 2 ^ (j % 8) % 2) 1
unfolding bits_of
octet_bit [] j h = absurd (not-suc-le-zero h)
octet_bit (x ∷ l) j h = go (dec_lt j 8) (λ k. octet_bit l (j - 8) k)
  where
    go : Dec (j < 8) → ((j - 8) / 8 < length l → get_or (bits_of l) (j - 8) false ≡ eqb
        (get_or l ((j - 8) / 8) 0 / 2 ^ ((j - 8) % 8) % 2) 1)
        → get_or (low_bits 8 x ++ bits_of l) j false ≡ eqb (get_or (x ∷ l) (j / 8) 0 / 2 ^ (j % 8) % 2) 1
    go (yes p) ih =
        let a : j / 8 ≡ 0 = omega arith in
        let b : j % 8 ≡ j = omega arith in
        get_or-append (low_bits 8 x) (bits_of l) false j (omega (arith, length_bits 8 x)) ∙ low_bit 8 x j p ∙ rw (a, b)
    go (no p) ih =
        let a : j / 8 ≡ suc ((j - 8) / 8) = omega arith in
        let b : j % 8 ≡ (j - 8) % 8 = omega arith in
        let e : j ≡ length (low_bits 8 x) + (j - 8) = omega (arith, length_bits 8 x) in
        ap (λ (i : ℕ). get_or (low_bits 8 x ++ bits_of l) i false) e
        ∙ get_or-append-add (low_bits 8 x) (bits_of l) (j - 8) false ∙ rw (a, b) (ih (omega arith))

pub length_bits_of : (l : List ℕ) → length (bits_of l) ≡ 8 * length l
unfolding bits_of
length_bits_of [] = refl
length_bits_of (x ∷ l) = length-append (low_bits 8 x) (bits_of l) ∙ omega (arith, length_bits 8 x, length_bits_of l)

pub octet_bit_past : (l : List ℕ) (j : ℕ) → length l ≤ j / 8 → get_or (bits_of l) j false ≡ false
octet_bit_past l j h = get_or-eq_default (bits_of l) false (omega (arith, length_bits_of l))

-- ---- powers of two

-- 1 shifted by p places
pub shift_is : (p : ℕ) → p < 32 → 1 * 2 ^ p % 2 ^ 32 ≡ 2 ^ p
shift_is p h = let l : 2 ^ p < 2 ^ 32 = pow-lt h in let e : 1 * 2 ^ p ≡ 2 ^ p = omega arith in rw e (mod-eq_of_lt l)
