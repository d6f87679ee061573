-- The register by octets: eight octets at once are a sum of what each does by itself by the end. Assumes nothing.
use Rattle.std.specs.Prelude.{ℕ, zero, suc, ◌+◌, ◌*◌, ◌/◌, ◌%◌, ◌^◌, ◌≤◌, ◌<◌, ◌≡◌, refl, Bool, true, false, List, [], ◌∷◌, ◌++◌, eqb, length, get_or, take, drop}
use Rattle.std.specs.Simd.{first_chunks}
use Rattle.std.proofs.Common.{sym, ◌∙◌, ap, take_all, not-suc-le-zero, pow-suc, lt_of_lt_of_le, add-one, arith, pow_mono, take-append-drop, length-drop, drop_of_length-le, drop-cons, drop-drop, length-take-le}
use Rattle.std.proofs.Math.Bool.{xor}
use Rattle.std.specs.Int.Bits.{bit_xor, xor_self, xor_zero_l, xor_zero_r, xor_shifted, shifted_half, shifted_even}
use Rattle.std.proofs.lemmas.Nat.{xor_shr, xor_mod, xor_comm}
use Rattle.octets.specs.Bits.{low_bits, bits_of}
use Rattle.octets.specs.BitsLaws.{length_bits_of}
use Rattle.frame_crc.specs.Crc.{crc_of}
use Rattle.frame_crc.specs.Division.{polynomial, shifted, advance, register, odd_xor, false_xor, ones, crc_is}

-- ---- exclusive or of three numbers, which lib.Bits lacks

assoc_digits : (p q r : ℕ) → p < 2 → q < 2 → r < 2 → bit_xor (bit_xor p q) r ≡ bit_xor p (bit_xor q r)
assoc_digits zero q r hp hq hr = refl
assoc_digits (suc zero) zero r hp hq hr = refl
assoc_digits (suc zero) (suc zero) zero hp hq hr = refl
assoc_digits (suc zero) (suc zero) (suc zero) hp hq hr = refl
assoc_digits (suc zero) (suc zero) (suc (suc r)) hp hq hr = absurd (omega arith)
assoc_digits (suc zero) (suc (suc q)) r hp hq hr = absurd (omega arith)
assoc_digits (suc (suc p)) q r hp hq hr = absurd (omega arith)

assoc_below : (k a b c : ℕ) → a < 2 ^ k → b < 2 ^ k → c < 2 ^ k → bit_xor (bit_xor a b) c ≡ bit_xor a (bit_xor b c)
assoc_below zero a b c ha hb hc =
    let ea : a ≡ 0 = omega arith in
    let eb : b ≡ 0 = omega arith in
    rw (ea, eb)
assoc_below (suc k) a b c ha hb hc =
    let half : bit_xor (bit_xor a b) c / 2 ≡ bit_xor a (bit_xor b c) / 2 =
    xor_shr (bit_xor a b) c 1 ∙ ap (λ (x : ℕ). bit_xor x (c / 2)) (xor_shr a b 1)
    ∙ assoc_below k (a / 2) (b / 2) (c / 2) (omega (arith, pow-suc 2 k)) (omega (arith, pow-suc 2 k))
    (omega (arith, pow-suc 2 k))
    ∙ sym (xor_shr a (bit_xor b c) 1 ∙ ap (λ (x : ℕ). bit_xor (a / 2) x) (xor_shr b c 1)) in
    let low : bit_xor (bit_xor a b) c % 2 ≡ bit_xor a (bit_xor b c) % 2 =
    xor_mod (bit_xor a b) c 1 ∙ ap (λ (x : ℕ). bit_xor x (c % 2)) (xor_mod a b 1)
    ∙ assoc_digits (a % 2) (b % 2) (c % 2) (omega arith) (omega arith) (omega arith)
    ∙ sym (xor_mod a (bit_xor b c) 1 ∙ ap (λ (x : ℕ). bit_xor (a % 2) x) (xor_mod b c 1)) in
    omega arith

-- a number is below its own power of two
below_pow : (n : ℕ) → n < 2 ^ n
below_pow zero = omega arith
below_pow (suc n) = omega (arith, below_pow n, pow-suc 2 n)

xor_assoc : (a b c : ℕ) → bit_xor (bit_xor a b) c ≡ bit_xor a (bit_xor b c)
xor_assoc a b c =
    let up : (n : ℕ) → n ≤ a + b + c → n < 2 ^ (a + b + c) = λ n h. lt_of_lt_of_le (below_pow n) (pow_mono h) in
    assoc_below (a + b + c) a b c (up a (omega arith)) (up b (omega arith)) (up c (omega arith))

-- the last of three may come second
xor_swap : (a b c : ℕ) → bit_xor (bit_xor a b) c ≡ bit_xor (bit_xor a c) b
xor_swap a b c = xor_assoc a b c ∙ ap (bit_xor a) (xor_comm b c) ∙ sym (xor_assoc a c b)

-- ---- a shift, of which the register's lowest bit alone says whether G(x) is subtracted

unfoldable pub shift : ℕ → ℕ
shift c = shifted polynomial (eqb (c % 2) 1) c

unfoldable pub shifts : ℕ → ℕ → ℕ
shifts zero c = c
shifts (suc n) c = shifts n (shift c)

-- a number added after the shift might have been added twice as large before; P is a variable, so that nothing computes
-- with it
shifted_sum : (P c x : ℕ) (t : Bool) → shifted P t (bit_xor c x) ≡ bit_xor (shifted P t c) (x / 2)
shifted_sum P c x true = ap (λ (z : ℕ). bit_xor z P) (xor_shr c x 1) ∙ xor_swap (c / 2) (x / 2) P
shifted_sum P c x false = xor_shr c x 1

xor_commutes : (a b : Bool) → xor a b ≡ xor b a
unfolding xor
xor_commutes true true = refl
xor_commutes true false = refl
xor_commutes false true = refl
xor_commutes false false = refl

shift_sum : (c x : ℕ) → shift (bit_xor c x) ≡ bit_xor (advance (eqb (x % 2) 1) c) (x / 2)
unfolding shift advance
shift_sum c x =
    ap (λ (t : Bool). shifted polynomial t (bit_xor c x)) (odd_xor c x ∙ xor_commutes (eqb (c % 2) 1) (eqb (x % 2) 1))
    ∙ shifted_sum polynomial c x (xor (eqb (x % 2) 1) (eqb (c % 2) 1))

-- the bits of x, one by one, do what x added at once and as many shifts do
register_shifts : (n x c : ℕ) → x < 2 ^ n → register (low_bits n x) c ≡ shifts n (bit_xor c x)
unfolding register low_bits shifts
register_shifts zero x c h = let e : x ≡ 0 = omega arith in rw (e, xor_zero_r c)
register_shifts (suc n) x c h =
    register_shifts n (x / 2) (advance (eqb (x % 2) 1) c) (omega (arith, pow-suc 2 n))
    ∙ ap (shifts n) (sym (shift_sum c x))

-- ---- shifts of what stands above the low end

advance_zero : (c : ℕ) → advance false c ≡ shift c
unfolding advance shift
advance_zero c = ap (λ (t : Bool). shifted polynomial t c) (false_xor (eqb (c % 2) 1))

-- what stands n places above the register's low end only moves down
shifts_high : (n c h : ℕ) → shifts n (bit_xor c (h * 2 ^ n)) ≡ bit_xor (shifts n c) h
unfolding shifts
shifts_high zero c h = let e : h * 2 ^ 0 ≡ h = omega arith in rw e
shifts_high (suc n) c h =
    let even : eqb (h * 2 ^ suc n % 2) 1 ≡ false = rw (shifted_even h n) in
    ap (shifts n) (shift_sum c (h * 2 ^ suc n) ∙ rw (even, advance_zero c, shifted_half h n))
    ∙ shifts_high n (shift c) h

-- ---- sums: to add registers and advance is to advance and add

xor_past : (b p q : Bool) → xor b (xor p q) ≡ xor p (xor b q)
unfolding xor
xor_past true true q = refl
xor_past true false true = refl
xor_past true false false = refl
xor_past false true true = refl
xor_past false true false = refl
xor_past false false q = refl

xor_back : (c p : ℕ) → bit_xor (bit_xor c p) p ≡ c
xor_back c p = xor_assoc c p p ∙ ap (bit_xor c) (xor_self p) ∙ xor_zero_r c

shifted_both : (P a c : ℕ) (t u : Bool) → shifted P (xor t u) (bit_xor a c) ≡ bit_xor (shifted P t a) (shifted P u c)
unfolding xor
shifted_both P a c true true =
    xor_shr a c 1
    ∙ sym (xor_swap (a / 2) P (bit_xor (c / 2) P) ∙ xor_assoc (a / 2) (bit_xor (c / 2) P) P ∙ ap (bit_xor (a / 2))
    (xor_back (c / 2) P))
shifted_both P a c true false = ap (λ (z : ℕ). bit_xor z P) (xor_shr a c 1) ∙ xor_swap (a / 2) (c / 2) P
shifted_both P a c false true = ap (λ (z : ℕ). bit_xor z P) (xor_shr a c 1) ∙ xor_assoc (a / 2) (c / 2) P
shifted_both P a c false false = xor_shr a c 1

advance_both : (b : Bool) (a c : ℕ) → advance b (bit_xor a c) ≡ bit_xor (shift a) (advance b c)
unfolding shift advance
advance_both b a c =
    ap (λ (t : Bool). shifted polynomial t (bit_xor a c))
    (ap (xor b) (odd_xor a c) ∙ xor_past b (eqb (a % 2) 1) (eqb (c % 2) 1))
    ∙ shifted_both polynomial a c (eqb (a % 2) 1) (xor b (eqb (c % 2) 1))

register_both : (bs : List Bool) (a c : ℕ) → register bs (bit_xor a c) ≡ bit_xor (shifts (length bs) a) (register bs c)
unfolding register shifts
register_both [] a c = refl
register_both (b ∷ bs) a c = ap (register bs) (advance_both b a c) ∙ register_both bs (shift a) (advance b c)

shifts_both : (n a c : ℕ) → shifts n (bit_xor a c) ≡ bit_xor (shifts n a) (shifts n c)
unfolding shifts
shifts_both zero a c = refl
shifts_both (suc n) a c =
    ap (shifts n) (sym (advance_zero (bit_xor a c)) ∙ advance_both false a c ∙ ap (bit_xor (shift a)) (advance_zero c))
    ∙ shifts_both n (shift a) (shift c)

shifts_add : (k n x : ℕ) → shifts (k + n) x ≡ shifts k (shifts n x)
unfolding shifts
shifts_add k zero x = let e : k + 0 ≡ k = omega arith in rw e
shifts_add k (suc n) x = let e : k + suc n ≡ suc (k + n) = omega arith in rw e (shifts_add k n (shift x))

-- a number's n low bits and the rest h, which these n shifts only move down
pub split : (k n x l h : ℕ) → l < 2 ^ n → x ≡ h * 2 ^ n + l → shifts (k + n) x ≡ bit_xor (shifts (k + n) l) (shifts k h)
split k n x l h b e =
    shifts_add k n x
    ∙ ap (λ (z : ℕ). shifts k (shifts n z)) (e ∙ sym (xor_shifted h n l b) ∙ xor_comm (h * 2 ^ n) l)
    ∙ ap (shifts k) (shifts_high n l h)
    ∙ shifts_both k (shifts n l) h
    ∙ ap (λ (z : ℕ). bit_xor z (shifts k h)) (sym (shifts_add k n l))

-- ---- octets

octet : (x c : ℕ) → x < 256 → register (low_bits 8 x) c ≡ bit_xor (shifts 8 (bit_xor c x % 256)) (c / 256)
unfolding shifts
octet x c h =
    let e : x / 256 ≡ 0 = omega arith in
    register_shifts 8 x c h
    ∙ split 0 8 (bit_xor c x) (bit_xor c x % 256) (bit_xor c x / 256) (omega arith) (omega arith)
    ∙ ap (bit_xor (shifts 8 (bit_xor c x % 256))) (xor_shr c x 8 ∙ ap (bit_xor (c / 256)) e ∙ xor_zero_r (c / 256))

register_append : (a b : List Bool) (c : ℕ) → register (a ++ b) c ≡ register b (register a c)
unfolding register
register_append [] b c = refl
register_append (x ∷ a) b c = register_append a b (advance x c)

-- an octet before others: what the others do to the rest of the register, and what it does with the register's low
-- octet
octet_before : (l : List ℕ) (x c : ℕ) → x < 256
    → register (bits_of (x ∷ l)) c ≡ bit_xor (register (bits_of l) (c / 256))
    (shifts (8 * length l + 8) (bit_xor c x % 256))
unfolding bits_of
octet_before l x c h =
    let m : ℕ = bit_xor c x % 256 in
    register_append (low_bits 8 x) (bits_of l) c
    ∙ ap (register (bits_of l)) (octet x c h)
    ∙ register_both (bits_of l) (shifts 8 m) (c / 256)
    ∙ xor_comm (shifts (length (bits_of l)) (shifts 8 m)) (register (bits_of l) (c / 256))
    ∙ ap (bit_xor (register (bits_of l) (c / 256)))
    (ap (λ (n : ℕ). shifts n (shifts 8 m)) (length_bits_of l) ∙ sym (shifts_add (8 * length l) 8 m))

-- ---- the code

-- the same of an octet of s and the n from j on that follow it, with d and q what the code has for them
octet_of : (s : List ℕ) (i j n c d q : ℕ) → j ≡ suc i → j + n ≤ length s → get_or s i 0 < 256
    → d ≡ shifts (8 * n + 8) (bit_xor c (get_or s i 0) % 256) → q ≡ register (bits_of (take n (drop j s))) (c / 256)
    → bit_xor q d ≡ register (bits_of (take (suc n) (drop i s))) c
octet_of s i j n c d q f h b p e =
    let l : List ℕ = take n (drop (suc i) s) in
    let len : length l ≡ n = length-take-le n (drop (suc i) s) (omega (arith, length-drop (suc i) s)) in
    rw (p, e, f, drop-cons s i 0 (omega arith)) (sym (octet_before l (get_or s i 0) c b ∙ rw len))

-- eight octets, the last first; of the register nothing is left after four
pub eight_is : (s : List ℕ) (c d0 d1 d2 d3 d4 d5 d6 d7 : ℕ) → c < 2 ^ 32 → length s ≡ 8
    → d0 ≡ shifts 8 (bit_xor 0 (get_or s 7 0) % 256) → get_or s 7 0 < 256
    → d1 ≡ shifts 16 (bit_xor 0 (get_or s 6 0) % 256) → get_or s 6 0 < 256
    → d2 ≡ shifts 24 (bit_xor 0 (get_or s 5 0) % 256) → get_or s 5 0 < 256
    → d3 ≡ shifts 32 (bit_xor 0 (get_or s 4 0) % 256) → get_or s 4 0 < 256
    → d4 ≡ shifts 40 (bit_xor (c / 256 / 256 / 256) (get_or s 3 0) % 256) → get_or s 3 0 < 256
    → d5 ≡ shifts 48 (bit_xor (c / 256 / 256) (get_or s 2 0) % 256) → get_or s 2 0 < 256
    → d6 ≡ shifts 56 (bit_xor (c / 256) (get_or s 1 0) % 256) → get_or s 1 0 < 256
    → d7 ≡ shifts 64 (bit_xor c (get_or s 0 0) % 256) → get_or s 0 0 < 256
    → bit_xor (bit_xor (bit_xor (bit_xor (bit_xor (bit_xor (bit_xor d0 d1) d2) d3) d4) d5) d6) d7 ≡ register (bits_of s) c
unfolding register bits_of
eight_is s c d0 d1 d2 d3 d4 d5 d6 d7 hc h p0 b0 p1 b1 p2 b2 p3 b3 p4 b4 p5 b5 p6 b6 p7 b7 =
    let over : 0 ≡ c / 256 / 256 / 256 / 256 = omega arith in
    let last : d0 ≡ register (bits_of (take 1 (drop 7 s))) 0 =
    sym (xor_zero_l d0) ∙ octet_of s 7 8 0 0 d0 0 (omega arith) (omega arith) b0 p0 refl in
    octet_of s 0 1 7 c d7 _ (omega arith) (omega arith) b7 p7
    (octet_of s 1 2 6 (c / 256) d6 _ (omega arith) (omega arith) b6 p6
    (octet_of s 2 3 5 (c / 256 / 256) d5 _ (omega arith) (omega arith) b5 p5
    (octet_of s 3 4 4 (c / 256 / 256 / 256) d4 _ (omega arith) (omega arith) b4 p4
    (octet_of s 4 5 3 0 d3 _ (omega arith) (omega arith) b3 p3
    (octet_of s 5 6 2 0 d2 _ (omega arith) (omega arith) b2 p2
    (octet_of s 6 7 1 0 d1 _ (omega arith) (omega arith) b1 p1 last))
    ∙ ap (register (bits_of (take 4 (drop 4 s)))) over))))
    ∙ ap (λ (l : List ℕ). register (bits_of l) c) (take_all 8 s (omega arith))

registers_append : (a b : List ℕ) (c : ℕ) → register (bits_of (a ++ b)) c ≡ register (bits_of b) (register (bits_of a) c)
unfolding register bits_of
registers_append [] b c = refl
registers_append (x ∷ a) b c =
    register_append (low_bits 8 x) (bits_of (a ++ b)) c
    ∙ registers_append a b (register (low_bits 8 x) c)
    ∙ ap (register (bits_of b)) (sym (register_append (low_bits 8 x) (bits_of a) c))

-- the loop by eight octets: what is left to do gives what all of it gives
chunk_at : (m k : ℕ) (s : List ℕ) → k < m → get_or (first_chunks 8 m s) k [] ≡ take 8 (drop (8 * k) s)
chunk_at zero k s h = absurd (not-suc-le-zero h)
chunk_at (suc m) zero s h = refl
chunk_at (suc m) (suc k) s h =
    let e : 8 * suc k ≡ 8 + 8 * k = omega arith in
    chunk_at m k (drop 8 s) (omega arith) ∙ rw (e, drop-drop (8 * k) 8 s)

pub eight_more : (s : List ℕ) (es : List (List ℕ)) (m k c d r : ℕ) → es ≡ first_chunks 8 m s → length es ≡ m
    → k < length es → d ≡ register (bits_of (get_or es k [])) c
    → register (bits_of (drop (8 * k) s)) c ≡ r → register (bits_of (drop (8 * (k + 1)) s)) d ≡ r
eight_more s es m k c d r f n h p q =
    let e : 8 * (k + 1) ≡ 8 * k + 8 = omega arith in
    rw (p, f, chunk_at m k s (omega arith), e, ← drop-drop 8 (8 * k) s)
    (sym (registers_append (take 8 (drop (8 * k) s)) (drop 8 (drop (8 * k) s)) c)
    ∙ ap (λ (l : List ℕ). register (bits_of l) c) (take-append-drop 8 (drop (8 * k) s)) ∙ q)

-- and the loop over the octets that are left
pub octets_more : (s : List ℕ) (i c d r : ℕ) → i < length s → get_or s i 0 < 256
    → d ≡ shifts 8 (bit_xor c (get_or s i 0) % 256)
    → register (bits_of (drop i s)) c ≡ r → register (bits_of (drop (i + 1) s)) (bit_xor d (c / 256)) ≡ r
unfolding bits_of
octets_more s i c d r h b p q =
    rw (add-one i, p, ← octet (get_or s i 0) c b)
    (sym (register_append (low_bits 8 (get_or s i 0)) (bits_of (drop (suc i) s)) c) ∙ rw (drop-cons s i 0 h) at q)

pub octets_end : (s rest : List ℕ) (i c : ℕ) → length rest ≤ i → register (bits_of (drop i rest)) c ≡ register (bits_of s) ones
    → bit_xor c ones ≡ crc_of s
unfolding register bits_of
octets_end s rest i c h q = crc_is s c (rw (drop_of_length-le rest h) at q)
