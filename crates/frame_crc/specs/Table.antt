-- The register's table and its rule. Its entries are computed, so that the code's table can be held against them as a
-- whole. Assumes nothing.
use Rattle.std.specs.Prelude.{ℕ, zero, suc, ◌+◌, ◌*◌, ◌/◌, ◌%◌, ◌^◌, ◌<◌, ◌≡◌, refl, List, eqb, get_or}
use Rattle.std.proofs.Common.{sym, ◌∙◌, ap, ap₂, pow-suc, arith}
use Rattle.std.specs.Int.Bits.{bit_xor, differ, xor_step}
use Rattle.octets.specs.Base.{pick}
use Rattle.octets.specs.Table.{tabulated, entry}
use Rattle.frame_crc.specs.Division.{polynomial, shifted_lt}
use Rattle.frame_crc.specs.Register.{shift, shifts, split}

-- ---- shifts, by an exclusive or that computes on numerals

abbrev xor_bits : ℕ → ℕ → ℕ → ℕ
xor_bits zero a b = 0
xor_bits (suc k) a b = xor_bits k (a / 2) (b / 2) * 2 + differ (a % 2) (b % 2)

xor_bits_lem : (k a b : ℕ) → a < 2 ^ k → b < 2 ^ k → xor_bits k a b ≡ bit_xor a b
xor_bits_lem zero a b ha hb = let ea : a ≡ 0 = omega arith in let eb : b ≡ 0 = omega arith in rw (ea, eb)
xor_bits_lem (suc k) a b ha hb =
    ap (λ (x : ℕ). x * 2 + differ (a % 2) (b % 2))
    (xor_bits_lem k (a / 2) (b / 2) (omega (arith, pow-suc 2 k)) (omega (arith, pow-suc 2 k)))
    ∙ sym (xor_step a b)

abbrev pub computed : ℕ → ℕ → ℕ
computed zero c = c
computed (suc n) c = computed n (pick (eqb (c % 2) 1) (xor_bits 32 (c / 2) polynomial) (c / 2))

shift_lt : (c : ℕ) → c < 2 ^ 32 → shift c < 2 ^ 32
unfolding shift
shift_lt c h = shifted_lt (eqb (c % 2) 1) c h

shift_computed : (c : ℕ) → c < 2 ^ 32 → pick (eqb (c % 2) 1) (xor_bits 32 (c / 2) polynomial) (c / 2) ≡ shift c
unfolding shift
shift_computed c h = rw (xor_bits_lem 32 (c / 2) polynomial (omega arith) (omega arith))

shifts_computed : (n c : ℕ) → c < 2 ^ 32 → computed n c ≡ shifts n c
unfolding shifts
shifts_computed zero c h = refl
shifts_computed (suc n) c h = ap (computed n) (shift_computed c h) ∙ shifts_computed n (shift c) (shift_lt c h)

-- ---- the table

-- rows of sixteen: what 4, 8, 12, .. 64 shifts make of each half octet
abbrev placed : ℕ → ℕ
placed p = computed (p / 16 * 4 + 4) (p % 16)

unfoldable pub table : List ℕ
table = tabulated placed 0 256

-- The table's rule.
entry_shifts : (p : ℕ) → p < 256 → get_or table p 0 ≡ shifts (p / 16 * 4 + 4) (p % 16)
unfolding table
entry_shifts p h = entry placed 0 256 p h ∙ shifts_computed (p / 16 * 4 + 4) (p % 16) (omega arith)

-- An octet, the low one of a sum, by its two halves.
pub halves_shifts : (t : List ℕ) (k c x y : ℕ) → t ≡ table → k < 8 → y ≡ x
    → bit_xor (get_or t (32 * k + 16 + bit_xor c y % 16) 0) (get_or t (32 * k + bit_xor c y / 16 % 16) 0) ≡ shifts (8 * k + 8)
    (bit_xor c x % 256)
halves_shifts t k c x y e h f =
    let z : ℕ = bit_xor c x in
    let low : get_or table (32 * k + 16 + z % 16) 0 ≡ shifts (8 * k + 4 + 4) (z % 16) =
    entry_shifts (32 * k + 16 + z % 16) (omega arith) ∙ ap₂ shifts (omega arith) (omega arith) in
    let high : get_or table (32 * k + z / 16 % 16) 0 ≡ shifts (8 * k + 4) (z / 16 % 16) =
    entry_shifts (32 * k + z / 16 % 16) (omega arith) ∙ ap₂ shifts (omega arith) (omega arith) in
    let n : 8 * k + 8 ≡ 8 * k + 4 + 4 = omega arith in
    rw (e, f, low, high, n) (sym (split (8 * k + 4) 4 (z % 256) (z % 16) (z / 16 % 16) (omega arith) (omega arith)))
