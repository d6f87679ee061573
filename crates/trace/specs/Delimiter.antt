-- The delimiter: a receiver's row is the delimiter's exactly when the last eight clean symbols were 10101011, and in a
-- packet this comes first with bit 64. Assumes nothing.
use Rattle.std.specs.Prelude.{ℕ, zero, suc, ◌+◌, ◌*◌, ◌/◌, ◌%◌, ◌^◌, ◌≤◌, ◌<◌, ◌≡◌, refl, Bool, true, false, ltb, eqb, length, take, drop}
use Rattle.std.proofs.Common.{sym, ◌∙◌, ap, arith, pow-suc, pow_pos, pow_mono, length-take, take-append-drop, take_all, length-take-le, lt-ltb, le-ltb}
use mathlib.Core.List.{List, [], ◌∷◌, ◌++◌, reverse, reverse-cons, reverse-append, reverse-reverse}
use Rattle.std.proofs.Math.Nat.{zero-mod}
use Rattle.std.proofs.Math.Arith.{mod-mul}
use Rattle.std.proofs.lemmas.List.{take-append-le}
use Rattle.octets.specs.Base.{pick}
use Rattle.octets.specs.Bits.{low_bits, digit, low_first, bits_of}
use Rattle.octets.specs.BitsLaws.{bits_number}
use Rattle.octets.specs.Table.{entry}
use Rattle.station_symbols.specs.Packet.{preamble, delimiter, packet_bits}
use Rattle.station_spec.specs.Receive.{no_row, next_row, delimiter_row, row_limit}
use Rattle.trace.specs.Basic.{by_le}

-- the row after these clean symbols, in the order in which they came
unfoldable pub row_from : ℕ → List Bool → ℕ
row_from row [] = row
row_from row (b ∷ l) = row_from (next_row row b) l

-- the same, the last symbol first
back : ℕ → List Bool → ℕ
back row [] = row
back row (b ∷ l) = next_row (back row l) b

back_first : (row : ℕ) (l : List Bool) (b : Bool) → back row (l ++ (b ∷ [])) ≡ back (next_row row b) l
unfolding back
back_first row [] b = refl
back_first row (x ∷ l) b = ap (λ (r : ℕ). next_row r x) (back_first row l b)

from_back : (row : ℕ) (l : List Bool) → row_from row l ≡ back row (reverse l)
unfolding row_from back
from_back row [] = refl
from_back row (b ∷ l) =
    from_back (next_row row b) l ∙ sym (back_first row (reverse l) b) ∙ ap (back row) (sym (reverse-cons b l))

-- ---- the row as a number: a 1, then the last eight symbols

digit_small : (b : Bool) → digit b ≤ 1
digit_small true = omega arith
digit_small false = omega arith

low_small : (l : List Bool) → low_first l < 2 ^ length l
unfolding low_first
low_small [] = omega arith
low_small (b ∷ l) = omega (arith, low_small l, digit_small b, pow-suc 2 (length l))

low_take : (n : ℕ) (l : List Bool) → low_first (take n l) ≡ low_first l % 2 ^ n
unfolding low_first
low_take zero l = omega arith
low_take (suc n) [] = sym (zero-mod (2 ^ suc n))
low_take (suc n) (b ∷ l) =
    let x : low_first (b ∷ l) / 2 ≡ low_first l = omega (arith, digit_small b) in
    let y : low_first (b ∷ l) % 2 ≡ digit b = omega (arith, digit_small b) in
    rw (pow-suc 2 n, mod-mul (low_first (b ∷ l)) (pow_pos n) (pow_pos 1), x, y, ← low_take n l) (omega arith)

-- the numbers of nextRow
next_short : (x d : ℕ) → 2 * x + d < row_limit
    → pick (ltb (2 * x + d) row_limit) (2 * x + d) (256 + (2 * x + d) % 256) ≡ 2 * x + d
next_short x d h = rw (lt-ltb (2 * x + d) row_limit h)

next_long : (x d : ℕ) → row_limit ≤ 2 * x + d
    → pick (ltb (2 * x + d) row_limit) (2 * x + d) (256 + (2 * x + d) % 256) ≡ 256 + (2 * x + d) % 256
next_long x d h = rw (le-ltb (2 * x + d) row_limit h)

short_step : (l : List Bool) (b : Bool) → length l < 8
    → next_row (low_first (take 8 l) + 2 ^ length (take 8 l)) b ≡ low_first (b ∷ take 7 l) + 2 ^ length (b ∷ take 7 l)
unfolding next_row low_first
short_step l b h =
    let m : 2 ^ length l ≤ 2 ^ 7 = pow_mono {j = 7} (omega arith) in
    rw (take_all 8 l (omega arith), take_all 7 l (omega arith), pow-suc 2 (length l))
    (next_short (low_first l + 2 ^ length l) (digit b) (omega (arith, low_small l, digit_small b)) ∙ omega arith)

long_step : (l : List Bool) (b : Bool) → 8 ≤ length l
    → next_row (low_first (take 8 l) + 2 ^ length (take 8 l)) b ≡ low_first (b ∷ take 7 l) + 2 ^ length (b ∷ take 7 l)
unfolding next_row low_first
long_step l b h =
    rw (length-take-le 8 l h, length-take-le 7 l (omega arith), low_take 8 l, low_take 7 l)
    (next_long (low_first l % 256 + 256) (digit b) (omega arith) ∙ omega (arith, digit_small b))

row_is : (l : List Bool) → back no_row l ≡ low_first (take 8 l) + 2 ^ length (take 8 l)
unfolding back low_first
row_is [] = refl
row_is (b ∷ l) =
    ap (λ (r : ℕ). next_row r b) (row_is l) ∙ by_le 8 (length l) (λ h. long_step l b h) (λ h. short_step l b h)

-- ---- the delimiter

-- its bits, the last one first
lately : List Bool
lately = true ∷ true ∷ false ∷ true ∷ false ∷ true ∷ false ∷ true ∷ []

-- of at most eight bits, these are told by the number
told : (m : List Bool) → length m ≤ 8 → low_first m + 2 ^ length m ≡ 427 → m ≡ lately
unfolding lately low_bits
told m h e =
    let n : length m ≡ 8 =
    by_le (length m) 7 (λ k. absurd (let z : 2 ^ length m ≤ 2 ^ 7 = pow_mono {j = 7} k in omega (arith, low_small m)))
    (λ k. omega arith) in
    let v : low_first m ≡ 171 = let z : 2 ^ length m ≡ 256 = rw n in omega arith in
    sym (bits_number m) ∙ rw (n, v)

lately_row : (l : List Bool) → back no_row l ≡ delimiter_row → take 8 l ≡ lately
lately_row l e = told (take 8 l) (omega (arith, length-take 8 l)) (sym (row_is l) ∙ e)

-- A row that is the delimiter's: the last eight symbols were the delimiter.
pub row_delimits : (l : List Bool) → row_from no_row l ≡ delimiter_row → (front : List Bool) × (l ≡ front ++ delimiter)
unfolding lately
row_delimits l e =
    let t = lately_row (reverse l) (sym (from_back no_row l) ∙ e) in
    let s : reverse l ≡ lately ++ drop 8 (reverse l) = sym (take-append-drop 8 (reverse l))
    ∙ ap (λ (x : List Bool). x ++ drop 8 (reverse l)) t in
    (reverse (drop 8 (reverse l)), sym (reverse-reverse l) ∙ ap reverse s ∙ reverse-append lately (drop 8 (reverse l)))

-- and the other way round
pub delimits_row : (front : List Bool) → row_from no_row (front ++ delimiter) ≡ delimiter_row
unfolding lately low_first
delimits_row front =
    from_back no_row (front ++ delimiter) ∙ ap (back no_row) (reverse-append front delimiter)
    ∙ row_is (lately ++ reverse front)

-- ---- in a packet

found : ℕ → Bool
found k = eqb (row_from no_row (take k (preamble 7 ++ delimiter))) delimiter_row

place : ℕ → Bool
place k = eqb k 64

in_header : (k : ℕ) → k < 65 → found k ≡ place k
unfolding found place row_from next_row
in_header k h = sym (entry found false 65 k h) ∙ entry place false 65 k h

header_rows : (F : List ℕ) (k : ℕ) → k ≤ 64 → take k (packet_bits F) ≡ take k (preamble 7 ++ delimiter)
unfolding packet_bits
header_rows F k h = take-append-le k (preamble 7 ++ delimiter) (bits_of F) (omega arith)

-- Along a packet the row is first the delimiter's after bit 64.
pub first_delimiter : (F : List ℕ) (k : ℕ) → k ≤ 64
    → eqb (row_from no_row (take k (packet_bits F))) delimiter_row ≡ eqb k 64
unfolding found place
first_delimiter F k h =
    ap (λ (l : List Bool). eqb (row_from no_row l) delimiter_row) (header_rows F k h) ∙ in_header k (omega arith)
