-- A law for each way through the writer. Assumes nothing.
use Rattle.std.specs.Prelude.{ℕ, zero, suc, ◌+◌, ◌-◌, ◌*◌, ◌^◌, ◌≤◌, ◌<◌, ◌≡◌, refl, Bool, true, false, List, [], ◌∷◌, ◌++◌, length, get_or, set, take, drop}
use Rattle.std.specs.Int.{bytes_high_first}
use Rattle.std.proofs.Common.{sym, ◌∙◌, ap₂, pow-suc, add-one, length-append}
use Rattle.std.proofs.Math.Path.{ap}
use Rattle.std.proofs.Math.Nat.{pow-le-pow_right}
use native.Mathlib.Omega.{arith}
use Rattle.std.proofs.lemmas.List.Edits.{sets}
use Rattle.std.proofs.lemmas.List.{set_comm}
use Rattle.octets.specs.Base.{pick}
use Rattle.octets.specs.Number.{spelled}
use Rattle.octets.specs.NumberLaws.{length_spelled}
use Rattle.octets.specs.Store.{sets_append}
use Rattle.sheet_layout.specs.declared.Figures.{Figures}
use Rattle.sheet_layout.specs.declared.Tap.{Tap}
use Rattle.sheet_layout.specs.declared.Layout.{Layout}
use Rattle.sheet_layout.specs.Layout.{tap_at}
use Rattle.sheet_layout.specs.Check.{refusal_of}
use Rattle.sheet_layout.specs.CheckLaws.{sound}
use Rattle.sheet_layout.specs.Limits.{max_stations}
use Rattle.sheet_read.specs.Sheet.{field_count, width}
use Rattle.sheet_write.specs.Write.{joined, values_of, is_absent, map_from, field_octets}
use Rattle.sheet_write.specs.Write.{fields_octets, head_octets, tap_octets, taps_octets, written}

-- an octet may be written after those behind it
pub set_past : (vs l : List ℕ) (at b v : ℕ) → at < b → set (sets l b vs) at v ≡ sets (set l at v) b vs
set_past [] l at b v h = refl
set_past (x ∷ vs) l at b v h =
    set_past vs (set l b x) at (suc b) v (omega arith)
    ∙ ap (λ (m : List ℕ). sets m (suc b) vs) (set_comm l b at x v (λ e. omega arith))

-- ---- a field

pub field_length : (v k : ℕ) → length (field_octets v k) ≡ pick (is_absent v k) 0 (width k)
unfolding field_octets
field_length v k = go (is_absent v k)
  where
    go : (b : Bool) → length (pick b [] (spelled (width k) v)) ≡ pick b 0 (width k)
    go true = refl
    go false = length_spelled (width k) v

-- the low octets of a number of four
pub low_octets : (v w : ℕ) → (1 ≤ w) × (w ≤ 2) → take (4 - (4 - w)) (drop (4 - w) (bytes_high_first 4 v)) ≡ spelled w v
unfolding spelled
low_octets v zero h = absurd (omega arith)
low_octets v (suc zero) h = refl
low_octets v (suc (suc zero)) h = refl
low_octets v (suc (suc (suc w))) h = absurd (omega arith)

-- ---- the map

pub map_first : (vs : List ℕ) → 0 ≡ map_from vs 7 (7 - 7)
unfolding map_from
map_first vs = refl

pub bit_low : (b : Bool) → pick b 0 1 ≤ 1
bit_low true = omega arith
bit_low false = omega arith

pub map_small : (vs : List ℕ) (k n : ℕ) → map_from vs k n < 2 ^ n
unfolding map_from
map_small vs k zero = omega arith
map_small vs k (suc n) = omega (arith, map_small vs (suc k) n, bit_low (is_absent (get_or vs k 0) k), pow-suc 2 n)

pub map_more : (vs : List ℕ) (k m b : ℕ) → 0 < k → k ≤ 7 → m ≡ map_from vs k (7 - k)
    → b ≡ pick (is_absent (get_or vs (k - 1) 0) (k - 1)) 0 1 → b + 2 * m ≡ map_from vs (k - 1) (7 - (k - 1))
unfolding map_from
map_more vs zero m b p q r s = absurd (omega arith)
map_more vs (suc k) m b p q r s =
    let z : suc k - 1 ≡ k = omega arith in
    let t : 7 - k ≡ suc (7 - suc k) = omega arith in
    let u : b ≡ pick (is_absent (get_or vs k 0) k) 0 1 = s ∙ rw z in
    rw (z, t) (ap₂ (λ (x y : ℕ). x + 2 * y) u r)

pub map_low : (vs : List ℕ) (k m : ℕ) → k ≤ 7 → m ≡ map_from vs k (7 - k) → m < 128
map_low vs k m h p =
    let e : 2 ^ (7 - k) ≤ 2 ^ 7 = pow-le-pow_right {n = 2} (omega arith) {i = 7 - k} {j = 7} (omega arith) in
    omega (arith, map_small vs k (7 - k), p, e)

pub map_lower : (vs : List ℕ) (k m b : ℕ) → 0 < k → k ≤ 7 → m ≡ map_from vs k (7 - k)
    → b ≡ pick (is_absent (get_or vs (k - 1) 0) (k - 1)) 0 1 → b + 2 * m < 128
map_lower vs k m b p q r s = map_low vs (k - 1) (b + 2 * m) (omega arith) (map_more vs k m b p q r s)

-- ---- the fields

pub fields_size : (vs : List ℕ) (k s n : ℕ) → s ≡ length (fields_octets vs k) → n ≡ length (field_octets (get_or vs k 0) k)
    → s + n ≡ length (fields_octets vs (k + 1))
unfolding joined
fields_size vs k s n p q = rw (add-one k, length-append (fields_octets vs k) (field_octets (get_or vs k 0) k), p, q)

pub fields_at : (vs : List ℕ) → 1 ≡ 1 + length (fields_octets vs 0)
unfolding joined
fields_at vs = refl

pub fields_on : (vs : List ℕ) (k at r : ℕ) → at ≡ 1 + length (fields_octets vs k)
    → r ≡ at + length (field_octets (get_or vs k 0) k) → r ≡ 1 + length (fields_octets vs (k + 1))
fields_on vs k at r p q = q ∙ omega (arith, fields_size vs k _ _ refl refl)

pub fields_more : (vs : List ℕ) (k at : ℕ) (l x z : List ℕ) → at ≡ 1 + length (fields_octets vs k)
    → x ≡ sets l 1 (fields_octets vs k) → z ≡ sets x at (field_octets (get_or vs k 0) k)
    → z ≡ sets l 1 (fields_octets vs (k + 1))
unfolding joined
fields_more vs k at l x z p q r =
    r ∙ rw (q, add-one k) (sets_append (fields_octets vs k) (field_octets (get_or vs k 0) k) l 1 at p)

pub head_length : (f : Figures) → length (head_octets f) ≡ 1 + length (fields_octets (values_of f) field_count)
unfolding head_octets
head_length f =
    length-append (spelled 1 (map_from (values_of f) 0 field_count)) (fields_octets (values_of f) field_count)
    ∙ omega (arith, length_spelled 1 (map_from (values_of f) 0 field_count))

-- ---- the stations

pub tap_size : (t : Tap) → length t.address ≡ 6 → length (tap_octets t) ≡ 7
unfolding tap_octets
tap_size t h =
    length-append (spelled 1 t.position) t.address ∙ omega (arith, length_spelled 1 t.position)

pub taps_size : (y : Layout) (t : Tap) (i s n : ℕ)
    → t ≡ get_or y.stations i (record { position = 0; address = [] }) → s ≡ length (taps_octets y i)
    → length t.address ≡ 6 → n ≡ 7 → s + n ≡ length (taps_octets y (i + 1))
unfolding joined tap_at
taps_size y t i s n e p q r =
    rw (
      add-one i,
      length-append (taps_octets y i) (tap_octets (get_or y.stations i (record {
        position = 0;
        address = [];
      }))),
      ← e,
      tap_size t q,
      p,
      r,
    )

pub taps_length : (y : Layout) (t : Tap) (i : ℕ)
    → t ≡ get_or y.stations i (record { position = 0; address = [] }) → length (taps_octets y i) ≡ 7 * i
    → length t.address ≡ 6 → length (taps_octets y (i + 1)) ≡ 7 * (i + 1)
taps_length y t i e p q = sym (taps_size y t i (7 * i) 7 e (sym p) q refl) ∙ omega arith

pub taps_more : (y : Layout) (t : Tap) (i at : ℕ) (l x z : List ℕ)
    → t ≡ get_or y.stations i (record { position = 0; address = [] }) → length (taps_octets y i) ≡ 7 * i
    → x ≡ sets l at (taps_octets y i) → z ≡ sets x (at + 7 * i) (spelled 1 t.position ++ t.address)
    → z ≡ sets l at (taps_octets y (i + 1))
unfolding joined tap_at tap_octets
taps_more y t i at l x z e p q r =
    r ∙ rw (q, e, add-one i) (sets_append (taps_octets y i) (tap_octets (get_or y.stations i (record {
      position = 0;
      address = [];
    }))) l at (at + 7 * i) (ap (λ (n : ℕ). at + n) (sym p)))

-- ---- the sheet

pub written_length : (y : Layout)
    → length (written y) ≡ length (head_octets y.figures) + 1 + length (taps_octets y y.count)
unfolding written
written_length y =
    length-append (head_octets y.figures) (spelled 1 y.count ++ taps_octets y y.count)
    ∙ omega (
      arith,
      length-append (spelled 1 y.count) (taps_octets y y.count),
      length_spelled 1 y.count,
    )

-- a layout that passes has two stations or more
pub counted : (y : Layout) → 0 ≡ refusal_of y → (2 ≤ y.count) × (y.count ≤ max_stations)
counted y p = (sound y (sym p)).count
