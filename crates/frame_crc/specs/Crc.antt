-- The cyclic redundancy check of 802.3, step by step as the standard's page has it (source document 000, 3.2.8).
-- A polynomial modulo 2 is the list of its coefficients, highest power first; a coefficient that is 1 is true.
-- That the table in the code gives the same is shown in Division, Register and Table. Assumes nothing.
use Rattle.std.specs.Prelude.{ℕ, zero, suc, Bool, true, false, not, ◌||◌, List, [], ◌∷◌, ◌++◌, map, eqb, length, replicate}
use Rattle.std.specs.Bool.{xor}
use Rattle.octets.specs.Bits.{bits_of, low_first, packed}

-- the coefficients from x^(n-1) down to x^0 of the sum of these powers of x
abbrev pub among : ℕ → List ℕ → Bool
among k [] = false
among k (p ∷ ps) = eqb k p || among k ps

abbrev pub coefficients : ℕ → List ℕ → List Bool
coefficients zero ps = []
coefficients (suc k) ps = among k ps ∷ coefficients k ps

-- "G(x) = x^32 + x^26 + x^23 + x^22 + x^16 + x^12 + x^11 + x^10 + x^8 + x^7 + x^5 + x^4 + x^2 + x + 1",
-- here without its first term: the coefficients of x^31 to x^0
unfoldable pub generator : List Bool
generator = coefficients 32 (26 ∷ 23 ∷ 22 ∷ 16 ∷ 12 ∷ 11 ∷ 10 ∷ 8 ∷ 7 ∷ 5 ∷ 4 ∷ 2 ∷ 1 ∷ 0 ∷ [])

-- the sum, which modulo 2 is the difference too, of a polynomial and one that is as high and has no more coefficients
unfoldable pub add : List Bool → List Bool → List Bool
add [] g = []
add (a ∷ m) [] = a ∷ m
add (a ∷ m) (b ∷ g) = xor a b ∷ add m g

-- "(1) The first 32 bits of the frame are complemented."
unfoldable pub complement_first : ℕ → List Bool → List Bool
complement_first zero m = m
complement_first (suc n) [] = []
complement_first (suc n) (a ∷ m) = not a ∷ complement_first n m

-- "(3) .. divided by G(x), producing a remainder R(x)": long division of a polynomial that has n coefficients more than
-- the remainder. Where the first is 1, G(x) is subtracted there, which makes it 0; then the first, now 0, is dropped.
unfoldable pub remainder : ℕ → List Bool → List Bool
remainder zero m = m
remainder (suc n) [] = []
remainder (suc n) (false ∷ m) = remainder n m
remainder (suc n) (true ∷ m) = remainder n (add m generator)

-- "(2) The n bits of the frame are then considered to be the coefficients of a polynomial M(x) of degree n-1",
-- the first bit highest; "(3) M(x) is multiplied by x^32": 32 zeros follow. The bits are those that travel, in their
-- order. Of fewer than 32 bits, of which the page does not speak, the complement reaches into these zeros, as in every
-- published CRC-32.
unfoldable pub dividend : List ℕ → List Bool
dividend s = complement_first 32 (bits_of s ++ replicate 32 false)

-- "(4) The coefficients of R(x) are considered to be a 32-bit sequence. (5) The bit sequence is complemented and the
-- result is the CRC."
unfoldable pub crc_bits : List ℕ → List Bool
crc_bits s = map not (remainder (length (bits_of s)) (dividend s))

-- The CRC as a number, as CRC-32 values are published: the coefficient of x^31 is its lowest bit.
unfoldable pub crc_of : List ℕ → ℕ
crc_of s = low_first (crc_bits s)

-- "The bits of the CRC are thus transmitted in the order x^31, x^30, .., x^1, x^0": the four octets that travel so.
unfoldable pub check_sequence : List ℕ → List ℕ
check_sequence s = packed 4 (crc_bits s)
