-- The bits of octets in the order in which they travel: document 01, "Octets travel low bit first". A bit that is 1 is
-- true. The laws are in BitsLaws. Assumes nothing.
use Rattle.std.specs.Prelude.{ℕ, zero, suc, ◌+◌, ◌*◌, ◌/◌, ◌%◌, Bool, true, false, List, [], ◌∷◌, ◌++◌, eqb, take, drop}

-- the n low bits of a number, low bit first
unfoldable pub low_bits : ℕ → ℕ → List Bool
low_bits zero x = []
low_bits (suc n) x = eqb (x % 2) 1 ∷ low_bits n (x / 2)

-- the bits that octets travel as
unfoldable pub bits_of : List ℕ → List Bool
bits_of [] = []
bits_of (x ∷ l) = low_bits 8 x ++ bits_of l

abbrev pub digit : Bool → ℕ
digit true = 1
digit false = 0

-- the number of which these are the bits, low bit first
unfoldable pub low_first : List Bool → ℕ
low_first [] = 0
low_first (b ∷ l) = digit b + 2 * low_first l

-- the n octets that travel as these bits
unfoldable pub packed : ℕ → List Bool → List ℕ
packed zero l = []
packed (suc n) l = low_first (take 8 l) ∷ packed n (drop 8 l)
