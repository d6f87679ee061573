-- The long division, one bit of the frame at a time: a register of 32 bits holds what is to be added to the bits still
-- to come. Its lowest bit stands for the highest power. Assumes nothing.
use Rattle.std.specs.Prelude.{ℕ, zero, suc, ◌+◌, ◌-◌, ◌/◌, ◌%◌, ◌^◌, ◌≤◌, ◌<◌, ◌≡◌, refl, Bool, true, false, not, List, [], ◌∷◌, ◌++◌, map, eqb, length, replicate}
use Rattle.std.proofs.Common.{sym, ◌∙◌, ap, ap₂, pow-suc, arith}
use Rattle.std.proofs.Math.Bool.{xor}
use Rattle.std.specs.Int.{w32, byte_at, bytes_low_first, to_le_bytes}
use Rattle.std.proofs.Math.Nat.{div-div-eq-div-mul}
use Rattle.std.specs.Int.Bits.{bit_xor, xor_add_and}
use Rattle.std.proofs.lemmas.Nat.{xor_mod, xor_shr, xor_lt, and_mask}
use Rattle.std.proofs.lemmas.List.{length-map}
use Rattle.octets.specs.Base.{pick}
use Rattle.octets.specs.Bits.{low_bits, bits_of, digit, low_first, packed}
use Rattle.octets.specs.BitsLaws.{low_octets, packed_number, bits_packed, length_bits}
use Rattle.frame_crc.specs.Crc.{generator, add, complement_first, remainder, dividend}
use Rattle.frame_crc.specs.Crc.{crc_bits, crc_of, check_sequence}

-- ---- sums of coefficients

xor_false : (a : Bool) → xor a false ≡ a
unfolding xor
xor_false true = refl
xor_false false = refl

pub false_xor : (a : Bool) → xor false a ≡ a
unfolding xor
false_xor true = refl
false_xor false = refl

xor_true : (a : Bool) → xor a true ≡ not a
unfolding xor
xor_true true = refl
xor_true false = refl

xor_assoc : (a b c : Bool) → xor (xor a b) c ≡ xor a (xor b c)
unfolding xor
xor_assoc true true true = refl
xor_assoc true true false = refl
xor_assoc true false true = refl
xor_assoc true false false = refl
xor_assoc false true true = refl
xor_assoc false true false = refl
xor_assoc false false true = refl
xor_assoc false false false = refl

-- the lowest bit of an exclusive or
digits_xor : (p q : ℕ) → p < 2 → q < 2 → eqb (bit_xor p q) 1 ≡ xor (eqb p 1) (eqb q 1)
unfolding xor
digits_xor zero zero hp hq = refl
digits_xor zero (suc zero) hp hq = refl
digits_xor (suc zero) zero hp hq = refl
digits_xor (suc zero) (suc zero) hp hq = refl
digits_xor (suc (suc p)) q hp hq = absurd (omega arith)
digits_xor zero (suc (suc q)) hp hq = absurd (omega arith)
digits_xor (suc zero) (suc (suc q)) hp hq = absurd (omega arith)

pub odd_xor : (x y : ℕ) → eqb (bit_xor x y % 2) 1 ≡ xor (eqb (x % 2) 1) (eqb (y % 2) 1)
odd_xor x y = ap (λ (z : ℕ). eqb z 1) (xor_mod x y 1) ∙ digits_xor (x % 2) (y % 2) (omega arith) (omega arith)

-- two additions of a number's bits are one of their exclusive or
add_twice : (n x y : ℕ) (m : List Bool) → add (add m (low_bits n x)) (low_bits n y) ≡ add m (low_bits n (bit_xor x y))
unfolding add low_bits
add_twice zero x y [] = refl
add_twice zero x y (a ∷ m) = refl
add_twice (suc n) x y [] = refl
add_twice (suc n) x y (a ∷ m) =
    ap₂ (λ (b : Bool) (t : List Bool). b ∷ t)
    (xor_assoc a (eqb (x % 2) 1) (eqb (y % 2) 1) ∙ ap (xor a) (sym (odd_xor x y)))
    (add_twice n (x / 2) (y / 2) m ∙ ap (λ (z : ℕ). add m (low_bits n z)) (sym (xor_shr x y 1)))

add_nil : (m : List Bool) → add m [] ≡ m
unfolding add
add_nil [] = refl
add_nil (a ∷ m) = refl

-- a bit above a number's highest is 0, and adding it changes nothing
add_more : (n x : ℕ) (m : List Bool) → x < 2 ^ n → add m (low_bits (suc n) x) ≡ add m (low_bits n x)
unfolding add low_bits
add_more zero x [] h = refl
add_more zero x (a ∷ m) h = let e : x ≡ 0 = omega arith in rw (e, xor_false a, add_nil m)
add_more (suc n) x [] h = refl
add_more (suc n) x (a ∷ m) h =
    ap (λ (t : List Bool). xor a (eqb (x % 2) 1) ∷ t) (add_more n (x / 2) m (omega (arith, pow-suc 2 n)))

-- ---- the register

-- what the bits of G(x) are as a number, lowest bit for the highest power
abbrev pub polynomial : ℕ
polynomial = 0xedb8_8320

generator_is : generator ≡ low_bits 32 polynomial
unfolding generator low_bits
generator_is = refl

-- the register after a shift by which the bit t leaves: P is G(x) in the register's order
abbrev pub shifted : ℕ → Bool → ℕ → ℕ
shifted P t c = pick t (bit_xor (c / 2) P) (c / 2)

-- the register after a bit of the frame
unfoldable pub advance : Bool → ℕ → ℕ
advance b c = shifted polynomial (xor b (eqb (c % 2) 1)) c

-- and after all bits
unfoldable pub register : List Bool → ℕ → ℕ
register [] c = c
register (b ∷ bs) c = register bs (advance b c)

pub shifted_lt : (t : Bool) (c : ℕ) → c < 2 ^ 32 → shifted polynomial t c < 2 ^ 32
shifted_lt true c h = xor_lt 32 (c / 2) polynomial (omega arith) (omega arith)
shifted_lt false c h = omega arith

advance_lt : (b : Bool) (c : ℕ) → c < 2 ^ 32 → advance b c < 2 ^ 32
unfolding advance
advance_lt b c h = shifted_lt (xor b (eqb (c % 2) 1)) c h

pub register_lt : (bs : List Bool) (c : ℕ) → c < 2 ^ 32 → register bs c < 2 ^ 32
unfolding register
register_lt [] c h = h
register_lt (b ∷ bs) c h = register_lt bs (advance b c) (advance_lt b c h)

-- one step of the division: what the register adds before it, and after it
divide_shift : (k P n c : ℕ) (t : Bool) (m : List Bool) → generator ≡ low_bits (suc k) P → c < 2 ^ suc k
    → remainder (suc n) (t ∷ add m (low_bits k (c / 2))) ≡ remainder n (add m (low_bits (suc k) (shifted P t c)))
unfolding remainder
divide_shift k P n c true m g h =
    rw (g, ← add_more k (c / 2) m (omega (arith, pow-suc 2 k))) (ap (remainder n) (add_twice (suc k) (c / 2) P m))
divide_shift k P n c false m g h = ap (remainder n) (sym (add_more k (c / 2) m (omega (arith, pow-suc 2 k))))

first_sum : (k c : ℕ) (b : Bool) (m : List Bool)
    → add (b ∷ m) (low_bits (suc k) c) ≡ xor b (eqb (c % 2) 1) ∷ add m (low_bits k (c / 2))
unfolding add low_bits
first_sum k c b m = refl

divide_bit : (n c : ℕ) (b : Bool) (m : List Bool) → c < 2 ^ 32
    → remainder (suc n) (add (b ∷ m) (low_bits 32 c)) ≡ remainder n (add m (low_bits 32 (advance b c)))
unfolding advance
divide_bit n c b m h =
    ap (remainder (suc n)) (first_sum 31 c b m)
    ∙ divide_shift 31 polynomial n c (xor b (eqb (c % 2) 1)) m generator_is h

-- the whole division
divide_all : (bs z : List Bool) (c : ℕ) → c < 2 ^ 32
    → remainder (length bs) (add (bs ++ z) (low_bits 32 c)) ≡ add z (low_bits 32 (register bs c))
unfolding register remainder
divide_all [] z c h = refl
divide_all (b ∷ bs) z c h = divide_bit (length bs) c b (bs ++ z) h ∙ divide_all bs z (advance b c) (advance_lt b c h)

-- ---- the first 32 bits complemented, and the remainder

complement_sum : (n : ℕ) (m : List Bool) → complement_first n m ≡ add m (replicate n true)
unfolding complement_first add
complement_sum zero m = sym (add_nil m)
complement_sum (suc n) [] = refl
complement_sum (suc n) (a ∷ m) = rw (xor_true a, complement_sum n m)

zeros_sum : (n c : ℕ) → add (replicate n false) (low_bits n c) ≡ low_bits n c
unfolding add low_bits
zeros_sum zero c = refl
zeros_sum (suc n) c = rw (false_xor (eqb (c % 2) 1), zeros_sum n (c / 2))

-- all bits of the register set: what the complement adds
abbrev pub ones : ℕ
ones = 0xffff_ffff

ones_are : replicate 32 true ≡ low_bits 32 ones
unfolding low_bits
ones_are = refl

pub remainder_is : (s : List ℕ) → remainder (length (bits_of s)) (dividend s) ≡ low_bits 32 (register (bits_of s) ones)
unfolding dividend
remainder_is s =
    rw (complement_sum 32 (bits_of s ++ replicate 32 false), ones_are)
    (divide_all (bits_of s) (replicate 32 false) ones (omega arith) ∙ zeros_sum 32 (register (bits_of s) ones))

-- ---- the CRC

not_odd : (x : ℕ) → digit (not (eqb (x % 2) 1)) + x % 2 ≡ 1
not_odd x = go (x % 2) (omega arith)
  where
    go : (d : ℕ) → d < 2 → digit (not (eqb d 1)) + d ≡ 1
    go zero h = refl
    go (suc zero) h = refl
    go (suc (suc d)) h = absurd (omega arith)

-- the complement of n bits is what is left to n ones
complement_number : (n c : ℕ) → c < 2 ^ n → suc (low_first (map not (low_bits n c)) + c) ≡ 2 ^ n
unfolding low_bits low_first
complement_number zero c h = omega arith
complement_number (suc n) c h =
    omega (arith, pow-suc 2 n, not_odd c, complement_number n (c / 2) (omega (arith, pow-suc 2 n)))

complement_xor : (c : ℕ) → c < 2 ^ 32 → bit_xor c ones ≡ ones - c
complement_xor c h = omega (arith, xor_add_and c ones, and_mask c 32)

pub crc_is : (s : List ℕ) (c : ℕ) → c ≡ register (bits_of s) ones → bit_xor c ones ≡ crc_of s
unfolding crc_of crc_bits
crc_is s c p =
    let h : c < 2 ^ 32 = rw p (register_lt (bits_of s) ones (omega arith)) in
    rw (complement_xor c h, remainder_is s, ← p) (omega (arith, complement_number 32 c h))

pub length_crc : (s : List ℕ) → length (crc_bits s) ≡ 32
unfolding crc_bits
length_crc s =
    rw (remainder_is s) (length-map (low_bits 32 (register (bits_of s) ones)) not ∙ length_bits 32
    (register (bits_of s) ones))

-- the four octets of the number, the low one first
bytes_low : (k i v x : ℕ) → x ≡ v / 256 ^ i → bytes_low_first i k v ≡ low_octets k x
bytes_low zero i v x e = refl
bytes_low (suc k) i v x e =
    ap₂ (λ (y : ℕ) (l : List ℕ). y ∷ l) (low i e)
    (bytes_low k (suc i) v (x / 256)
    (ap (λ (y : ℕ). y / 256) e ∙ div-div-eq-div-mul v (256 ^ i) 256 ∙ ap (λ (m : ℕ). v / m) (sym (pow-suc 256 i))))
  where
    low : (i : ℕ) → x ≡ v / 256 ^ i → byte_at i v ≡ x % 256
    low zero e = omega arith
    low (suc i) e = ap (λ (y : ℕ). y % 256) (sym e)

pub sequence_is : (s : List ℕ) (c : ℕ) → c ≡ crc_of s → to_le_bytes w32 c ≡ check_sequence s
unfolding check_sequence crc_of
sequence_is s c p = bytes_low 4 0 c c (omega arith) ∙ rw p (sym (packed_number 4 (crc_bits s)))

pub length_sequence : (s : List ℕ) → length (check_sequence s) ≡ 4
unfolding check_sequence packed
length_sequence s = refl

-- "The bits of the CRC are thus transmitted in the order x^31, x^30, .., x^1, x^0."
pub crc_travels : (s : List ℕ) → bits_of (check_sequence s) ≡ crc_bits s
unfolding check_sequence
crc_travels s = bits_packed 4 (crc_bits s) (length_crc s)

-- of 32 bits or more, the complement touches the frame's own bits alone, as the page says
pub complement_within : (n : ℕ) (m z : List Bool) → n ≤ length m → complement_first n (m ++ z) ≡ complement_first n m ++ z
unfolding complement_first
complement_within zero m z h = refl
complement_within (suc n) [] z h = absurd (omega arith)
complement_within (suc n) (a ∷ m) z h = ap (λ (t : List Bool). not a ∷ t) (complement_within n m z (omega arith))
