-- What a caller may rely on: what is written reads as the layout and uses just those octets, whatever follows; equal
-- layouts give equal octets, unequal ones unequal octets; a sheet read and written twice stays as after the first
-- writing; no sheet that reads as the layout is shorter. All goes by the table's rows. Assumes nothing.
use Prim.Native.Nat.{ℕ, zero, suc, ◌+◌, ◌-◌, ◌*◌, ◌/◌, ◌%◌, ◌^◌, ◌≤◌, ◌<◌, min}
use Rattle.std.specs.Prelude.{◌≡◌, Bool, true, false, eqb, take, drop}
use Rattle.std.proofs.Math.Path.{refl, sym, ap, ap₂}
use Rattle.std.proofs.Common.{◌∙◌, true≢false, le-ltb, eq-eqb, ne_eqb, eqb-true, take_at, drop_at}
use mathlib.Core.List.{List, [], ◌∷◌, ◌++◌, append_assoc, append-nil}
use Rattle.std.proofs.Math.Nat.{pow-succ', div-div-eq-div-mul}
use native.Mathlib.Omega.{arith}
use Rattle.std.proofs.Math.ListN.{length, get_or, length-append}
use Rattle.std.proofs.Math.Seq.{get_or_at}
use Rattle.octets.specs.Base.{pick, Answer, refused, accepted}
use Rattle.octets.specs.BaseLaws.{by_test}
use Rattle.octets.specs.Filled.{filled_at, filled_same}
use Rattle.octets.specs.Number.{get, spelled}
use Rattle.octets.specs.NumberLaws.{length_spelled, get_spelled, get_after, get_front}
use Rattle.octets.specs.Store.{part}
use Rattle.sheet_layout.specs.declared.Figures.{Figures}
use Rattle.sheet_layout.specs.declared.Layout.{Layout}
use Rattle.sheet_layout.specs.Layout.{blank_tap, places_of, tap_at, position_at, address_at}
use Rattle.sheet_layout.specs.Limits.{max_stations}
use Rattle.sheet_layout.specs.Check.{refusal_of}
use Rattle.sheet_layout.specs.CheckLaws.{Figured, Sound, sound, refusal_same}
use Rattle.sheet_read.specs.Sheet.{map_of, stands, field_count, row, width, field_at, field, figures_in, count_place}
use Rattle.sheet_read.specs.Sheet.{count_in, tap_in, taps_from, layout_in, sheet_size, Reading, read_sheet}
use Rattle.sheet_read.specs.SheetLaws.{width_most}
use Rattle.sheet_read.specs.SheetTheorems.{read_sound, read_passes, read_formed, refused_empty, accepted_size}
use Rattle.sheet_read.specs.SheetTheorems.{sheet_front}
use Rattle.sheet_write.specs.Write.{joined, values_of, is_absent, map_from, field_octets, fields_octets, head_octets}
use Rattle.sheet_write.specs.Write.{tap_octets, taps_octets, written}
use Rattle.sheet_write.specs.WriteLaws.{bit_low, map_small, fields_at, field_length, tap_size, head_length, written_length}

-- ---- parts, one after the other

-- what follows part i, n more parts
unfoldable after : (ℕ → List ℕ) → ℕ → ℕ → List ℕ
after t i zero = []
after t i (suc n) = after t i n ++ t (suc (n + i))

joined_at_lem : (t : ℕ → List ℕ) (i n : ℕ) → joined t (suc (n + i)) ≡ joined t i ++ (t i ++ after t i n)
unfolding joined after
joined_at_lem t i zero =
    let e : 0 + i ≡ i = omega arith in rw e (ap (λ (l : List ℕ). joined t i ++ l) (sym (append-nil (t i))))
joined_at_lem t i (suc n) =
    let e : suc n + i ≡ suc (n + i) = omega arith in
    rw e
    (ap (λ (l : List ℕ). l ++ t (suc (n + i))) (joined_at_lem t i n)
    ∙ append_assoc (joined t i) (t i ++ after t i n) (t (suc (n + i)))
    ∙ ap (λ (l : List ℕ). joined t i ++ l) (append_assoc (t i) (after t i n) (t (suc (n + i)))))

joined_same : (t u : ℕ → List ℕ) (n : ℕ) → ((i : ℕ) → i < n → t i ≡ u i) → joined t n ≡ joined u n
unfolding joined
joined_same t u zero h = refl
joined_same t u (suc n) h =
    ap₂ (λ (a b : List ℕ). a ++ b) (joined_same t u n (λ i g. h i (omega arith))) (h n (omega arith))

-- part i stands in the n parts, with m in front of them and z behind
part_of : (t : ℕ → List ℕ) (i n : ℕ) (m z : List ℕ) → i < n
    → (m ++ joined t n) ++ z ≡ (m ++ joined t i) ++ (t i ++ (after t i (n - suc i) ++ z))
part_of t i n m z h =
    let e : suc (n - suc i + i) ≡ n = omega arith in
    ap (λ (l : List ℕ). (m ++ l) ++ z) (sym (ap (joined t) e) ∙ joined_at_lem t i (n - suc i))
    ∙ append_assoc m (joined t i ++ (t i ++ after t i (n - suc i))) z
    ∙ ap (λ (l : List ℕ). m ++ l)
    (append_assoc (joined t i) (t i ++ after t i (n - suc i)) z
    ∙ ap (λ (l : List ℕ). joined t i ++ l) (append_assoc (t i) (after t i (n - suc i)) z))
    ∙ sym (append_assoc m (joined t i) (t i ++ (after t i (n - suc i) ++ z)))

-- ---- the map

half : (b r u : ℕ) → b ≤ 1 → (b + 2 * r) / (2 * u) ≡ r / u
half b r u h =
    let e : (b + 2 * r) / 2 ≡ r = omega arith in
    sym (div-div-eq-div-mul (b + 2 * r) 2 u) ∙ ap (λ (x : ℕ). x / u) e

map_bit : (vs : List ℕ) (k j n : ℕ) → k < n
    → map_from vs j n / 2 ^ k % 2 ≡ pick (is_absent (get_or vs (j + k) 0) (j + k)) 0 1
unfolding map_from
map_bit vs k j zero h = absurd (omega arith)
map_bit vs zero j (suc n) h =
    let e : j + 0 ≡ j = omega arith in rw e (omega (arith, bit_low (is_absent (get_or vs j 0) j)))
map_bit vs (suc k) j (suc n) h =
    let e : suc j + k ≡ j + suc k = omega arith in
    ap (λ (u : ℕ). (pick (is_absent (get_or vs j 0) j) 0 1 + 2 * map_from vs (suc j) n) / u % 2) (pow-succ' 2 k)
    ∙ ap (λ (x : ℕ). x % 2)
    (half (pick (is_absent (get_or vs j 0) j) 0 1) (map_from vs (suc j) n) (2 ^ k) (bit_low (is_absent (get_or vs j 0) j)))
    ∙ map_bit vs k (suc j) n (omega arith)
    ∙ ap (λ (i : ℕ). pick (is_absent (get_or vs i 0) i) 0 1) e

-- the map of fields that hold vs
abbrev map_for : List ℕ → ℕ
map_for vs = map_from vs 0 field_count

stands_is : (vs : List ℕ) (k : ℕ) → k < field_count
    → stands (map_for vs) k ≡ pick (is_absent (get_or vs k 0) k) false true
stands_is vs k h = ap (λ (x : ℕ). eqb x 1) bit ∙ go (is_absent (get_or vs k 0) k)
  where
    bit : map_from vs 0 field_count / 2 ^ k % 2 ≡ pick (is_absent (get_or vs k 0) k) 0 1
    bit = let z : 0 + k ≡ k = omega arith in rw z at (map_bit vs k 0 field_count h)

    go : (b : Bool) → eqb (pick b 0 1) 1 ≡ pick b false true
    go true = refl
    go false = refl

-- ---- the fields

fields_length : (vs : List ℕ) (k : ℕ)
    → length (fields_octets vs (suc k)) ≡ length (fields_octets vs k) + pick (is_absent (get_or vs k 0) k) 0 (width k)
unfolding joined
fields_length vs k =
    length-append (fields_octets vs k) (field_octets (get_or vs k 0) k)
    ∙ ap (λ (n : ℕ). length (fields_octets vs k) + n) (field_length (get_or vs k 0) k)

fields_most : (vs : List ℕ) (k : ℕ) → length (fields_octets vs k) ≤ 2 * k
fields_most vs zero = omega (arith, fields_at vs)
fields_most vs (suc k) = omega (arith, fields_most vs k, fields_length vs k, most (is_absent (get_or vs k 0) k))
  where
    most : (b : Bool) → pick b 0 (width k) ≤ 2
    most true = omega arith
    most false = width_most k

turned : (b : Bool) (w : ℕ) → pick (pick b false true) w 0 ≡ pick b 0 w
turned true w = refl
turned false w = refl

-- where the field of bit k begins
field_place : (vs : List ℕ) (k : ℕ) → k ≤ field_count → field_at (map_for vs) k ≡ 1 + length (fields_octets vs k)
unfolding field_at
field_place vs zero h = fields_at vs
field_place vs (suc k) h =
    ap₂ (λ (a : ℕ) (b : Bool). a + pick b (width k) 0) (field_place vs k (omega arith)) (stands_is vs k (omega arith))
    ∙ ap (λ (n : ℕ). 1 + length (fields_octets vs k) + n) (turned (is_absent (get_or vs k 0) k) (width k))
    ∙ omega (arith, fields_length vs k)

-- a row's octets have room for its values
pub field_most : (f : Figures) → Figured f → (k : ℕ) → k < field_count → get_or (values_of f) k 0 < 256 ^ width k
field_most f s zero h = omega (arith, s.slot)
field_most f s (suc zero) h = omega (arith, s.gap1)
field_most f s (suc (suc zero)) h = omega (arith, s.gap2)
field_most f s (suc (suc (suc zero))) h = omega (arith, s.jam)
field_most f s (suc (suc (suc (suc zero)))) h = omega (arith, s.limit)
field_most f s (suc (suc (suc (suc (suc zero))))) h = omega (arith, s.backoff)
field_most f s (suc (suc (suc (suc (suc (suc zero)))))) h = omega (arith, s.ends)
field_most f s (suc (suc (suc (suc (suc (suc (suc k))))))) h = absurd (omega arith)

-- ---- reading what is written

-- the layout as a reader gives it: blank after N
abbrev pub trimmed : Layout → Layout
trimmed y = record { figures = y.figures; count = y.count; stations = places_of (tap_at y) y.count }

-- each address has six octets
abbrev pub Formed : Layout → Type 0
Formed y = (i : ℕ) → i < y.count → length (address_at y i) ≡ 6

trimmed_at : (y : Layout) (i : ℕ) → i < y.count → tap_at (trimmed y) i ≡ tap_at y i
unfolding tap_at
trimmed_at y i h =
    filled_at blank_tap (λ j. get_or y.stations j (record { position = 0; address = [] })) y.count i (record {
      position = 0;
      address = [];
    }) h

-- a list that reads as a layout that passes, and is as long as it requires
read_whole : (l : List ℕ) (z : Layout) → sheet_size l ≡ length l → stands (map_of l) 7 ≡ false → layout_in l ≡ z
    → refusal_of z ≡ 0
    → read_sheet l ≡ record { answer = accepted (length l ∷ []); layout = z }
unfolding read_sheet
read_whole l z e t g r =
    rw (e, le-ltb (length l) (length l) (omega arith), t, g, r)

module _ (y : Layout) where
  -- what the fields hold
  abbrev vs : List ℕ
  vs = values_of y.figures

  -- the stations' octets
  stations : ℕ → List ℕ
  stations i = tap_octets (tap_at y i)

  field_in : ℕ → List ℕ
  field_in k = field_octets (get_or vs k 0) k

  tail : List ℕ
  tail = spelled 1 y.count ++ taps_octets y y.count

  map_small_octet : map_for vs % 256 ≡ map_for vs
  map_small_octet = omega (arith, map_small vs 0 field_count)

  map_back : map_of (written y) ≡ map_for vs
  unfolding written head_octets spelled
  map_back = map_small_octet

  map_top : stands (map_of (written y)) 7 ≡ false
  map_top =
      ne_eqb (map_of (written y) / 2 ^ 7 % 2) 1
      (λ e. omega (arith, map_small vs 0 field_count, map_back, e))

  place_back : count_place (written y) ≡ length (head_octets y.figures)
  place_back =
      ap (λ (m : ℕ). field_at m field_count) map_back
      ∙ field_place vs field_count (omega arith)
      ∙ sym (head_length y.figures)

  -- the octets around field k
  field_in_lem : (k : ℕ) → k < field_count
      → written y ≡ (spelled 1 (map_for vs) ++ fields_octets vs k)
      ++ (field_in k ++ (after field_in k (field_count - suc k) ++ tail))
  unfolding written head_octets field_in tail
  field_in_lem k h =
      part_of (λ j. field_octets (get_or vs j 0) j) k field_count (spelled 1 (map_for vs))
      (spelled 1 y.count ++ taps_octets y y.count) h

  module _ (s : Sound y) where
    field_there : (k : ℕ) → k < field_count → is_absent (get_or vs k 0) k ≡ false
        → get (width k) (written y) (1 + length (fields_octets vs k)) ≡ get_or vs k 0
    unfolding field_in field_octets
    field_there k h p =
        ap (λ (l : List ℕ). get (width k) l (1 + length (fields_octets vs k))) (field_in_lem k h)
        ∙ get_after (width k) (spelled 1 (map_for vs) ++ fields_octets vs k) _ _
        (omega (
          arith,
          length-append (spelled 1 (map_for vs)) (fields_octets vs k),
          length_spelled 1 (map_for vs),
        ))
        ∙ rw p
        (get_front (width k) (spelled (width k) (get_or vs k 0)) _ 0
        (omega (arith, length_spelled (width k) (get_or vs k 0)))
        ∙ get_spelled (width k) (get_or vs k 0) (field_most y.figures s.figures k h))

    field_back : (k : ℕ) → k < field_count → field (written y) k ≡ get_or vs k 0
    unfolding field
    field_back k h =
        ap (λ (m : ℕ). pick (stands m k) (get (width k) (written y) (field_at m k)) (row k).absent) map_back
        ∙ ap₂ (λ (b : Bool) (a : ℕ). pick b (get (width k) (written y) a) (row k).absent)
        (stands_is vs k h) (field_place vs k (omega arith))
        ∙ by_test (is_absent (get_or vs k 0) k)
        (λ e. rw e (sym (eqb-true (get_or vs k 0) (row k).absent e)))
        (λ e. rw e (field_there k h e))

    figures_back : figures_in (written y) ≡ y.figures
    unfolding figures_in
    figures_back =
        λ i. record {
          slot = field_back 0 (omega arith) i;
          gap1 = field_back 1 (omega arith) i;
          gap2 = field_back 2 (omega arith) i;
          jam = field_back 3 (omega arith) i;
          limit = field_back 4 (omega arith) i;
          backoff = field_back 5 (omega arith) i;
          ends = field_back 6 (omega arith) i;
        }

    count_back : count_in (written y) ≡ y.count
    unfolding written spelled
    count_back =
        ap (λ (k : ℕ). get_or (head_octets y.figures ++ ((y.count % 256) ∷ taps_octets y y.count)) k 0) place_back
        ∙ get_or_at (head_octets y.figures) (y.count % 256) (taps_octets y y.count) 0 _ refl
        ∙ omega (arith, s.count)

    module _ (f : Formed y) where
      taps_length : (n : ℕ) → n ≤ y.count → length (taps_octets y n) ≡ 7 * n
      unfolding joined
      taps_length zero h = refl
      taps_length (suc n) h =
          length-append (taps_octets y n) (tap_octets (tap_at y n))
          ∙ omega (arith, taps_length n (omega arith), tap_size (tap_at y n) (f n (omega arith)))

      -- The written sheet has as many octets as its map and N require.
      pub length_written : length (written y) ≡ length (head_octets y.figures) + 1 + 7 * y.count
      length_written = omega (arith, written_length y, taps_length y.count (omega arith))

      size_back : sheet_size (written y) ≡ length (written y)
      unfolding sheet_size
      size_back = ap₂ (λ (p n : ℕ). p + 1 + 7 * n) place_back count_back ∙ sym length_written

      -- the octets around station i
      front : ℕ → List ℕ
      front i = (head_octets y.figures ++ spelled 1 y.count) ++ taps_octets y i

      front_length : (i : ℕ) → i ≤ y.count → length (front i) ≡ length (head_octets y.figures) + 1 + 7 * i
      unfolding front
      front_length i h =
          length-append (head_octets y.figures ++ spelled 1 y.count) (taps_octets y i)
          ∙ omega (
            arith,
            length-append (head_octets y.figures) (spelled 1 y.count),
            length_spelled 1 y.count,
            taps_length i h,
          )

      tap_in_lem : (i : ℕ) → i < y.count
          → written y ≡ front i ++ (stations i ++ (after stations i (y.count - suc i) ++ []))
      unfolding written front stations
      tap_in_lem i h =
          sym (append_assoc (head_octets y.figures) (spelled 1 y.count) (taps_octets y y.count))
          ∙ sym (append-nil _)
          ∙ part_of (λ j. tap_octets (tap_at y j)) i y.count (head_octets y.figures ++ spelled 1 y.count) [] h

      -- where station i begins
      abbrev place : ℕ → ℕ
      place i = count_place (written y) + 1 + 7 * i

      behind : ℕ → List ℕ
      behind i = after stations i (y.count - suc i) ++ []

      module _ (i : ℕ) (h : i < y.count) where
        front_ends : length (front i) ≡ place i
        front_ends = front_length i (omega arith) ∙ omega (arith, place_back)

        split : written y ≡ front i ++ ((position_at y i % 256) ∷ (address_at y i ++ behind i))
        unfolding behind stations tap_octets spelled
        split = tap_in_lem i h

        position_back : get_or (written y) (place i) 0 ≡ position_at y i
        position_back =
            ap (λ (l : List ℕ). get_or l (place i) 0) split
            ∙ get_or_at (front i) (position_at y i % 256) (address_at y i ++ behind i) 0 (place i) front_ends
            ∙ omega (arith, s.position i h)

        after_position : drop (place i + 1) (written y) ≡ address_at y i ++ behind i
        after_position =
            ap (drop (place i + 1))
            (split ∙ sym (append_assoc (front i) ((position_at y i % 256) ∷ []) (address_at y i ++ behind i)))
            ∙ drop_at (front i ++ ((position_at y i % 256) ∷ [])) (address_at y i ++ behind i) (place i + 1)
            (length-append (front i) ((position_at y i % 256) ∷ []) ∙ omega (arith, front_ends))

        address_back : part (written y) (place i + 1) 6 ≡ address_at y i
        address_back = ap (take 6) after_position ∙ take_at (address_at y i) (behind i) 6 (f i h)

        tap_back : taps_from (written y) (count_place (written y) + 1) i ≡ tap_at y i
        unfolding tap_in
        tap_back = λ j. record { position = position_back j; address = address_back j }

      layout_back : layout_in (written y) ≡ trimmed y
      unfolding layout_in
      layout_back =
          let few : min (count_in (written y)) max_stations ≡ y.count = omega (arith, count_back, s.count) in
          λ j. record {
            figures = figures_back j;
            count = count_back j;
            stations =
                (ap (places_of (taps_from (written y) (count_place (written y) + 1))) few
                ∙ filled_same blank_tap (taps_from (written y) (count_place (written y) + 1)) (tap_at y) y.count
                tap_back)
                j;
          }

      -- What is written reads as the layout, and uses just those octets, whatever follows.
      pub reads_back : refusal_of y ≡ 0 → (rest : List ℕ)
          → read_sheet (written y ++ rest) ≡ record { answer = accepted (length (written y) ∷ []); layout = trimmed y }
      reads_back r rest = sheet_front (written y) rest (omega (arith, size_back)) ∙ alone
        where
          same : refusal_of (trimmed y) ≡ refusal_of y
          same =
              refusal_same (trimmed y) y refl refl s.count.1 (λ i h. trimmed_at y i h)

          alone : read_sheet (written y) ≡ record { answer = accepted (length (written y) ∷ []); layout = trimmed y }
          alone = read_whole (written y) (trimmed y) size_back map_top layout_back (same ∙ r)

-- ---- equal layouts, equal octets

-- the same figures, N and stations
pub record Alike (y z : Layout) : Type 0 where
  pub figures : y.figures ≡ z.figures
  pub count : y.count ≡ z.count
  pub stations : (i : ℕ) → i < y.count → tap_at y i ≡ tap_at z i

-- "Equal layouts give equal octets."
pub same_octets : (y z : Layout) → Alike y z → written y ≡ written z
unfolding written
same_octets y z a =
    ap₂ (λ (h t : List ℕ). h ++ t) (ap head_octets a.figures)
    (ap₂ (λ (n t : List ℕ). n ++ t) (ap (spelled 1) a.count)
    (joined_same (λ i. tap_octets (tap_at y i)) (λ i. tap_octets (tap_at z i)) y.count
    (λ i h. ap tap_octets (a.stations i h))
    ∙ ap (taps_octets z) a.count))

-- what reading gives tells the layout
alike : (y z : Layout) → trimmed y ≡ trimmed z → Alike y z
alike y z e =
    record {
      figures = ap (λ (x : Layout). x.figures) e;
      count = ap (λ (x : Layout). x.count) e;
      stations =
          λ i h. let n : y.count ≡ z.count = ap (λ (x : Layout). x.count) e in
          sym (trimmed_at y i h)
          ∙ ap (λ (x : Layout). tap_at x i) e
          ∙ trimmed_at z i (omega (arith, n));
    }

-- A layout that can be written: its values pass, and its addresses have six octets.
pub record Writable (y : Layout) : Type 0 where
  pub passes : refusal_of y ≡ 0
  pub formed : Formed y

pub read_written : (y : Layout) → Writable y → (rest : List ℕ)
    → read_sheet (written y ++ rest) ≡ record { answer = accepted (length (written y) ∷ []); layout = trimmed y }
read_written y w rest = reads_back y (sound y w.passes) w.formed w.passes rest

-- It has at most 128 octets.
pub written_most : (y : Layout) → Writable y → length (written y) ≤ 128
written_most y w =
    let s = sound y w.passes in
    omega (
      arith,
      length_written y s w.formed,
      head_length y.figures,
      fields_most (values_of y.figures) field_count,
      s.count,
    )

-- "unequal layouts unequal ones": equal octets come from equal layouts
pub same_layouts : (y z : Layout) → Writable y → Writable z → written y ≡ written z → Alike y z
same_layouts y z u v e =
    alike y z
    (ap (λ (r : Reading). r.layout)
    (sym (read_written y u []) ∙ ap (λ (l : List ℕ). read_sheet (l ++ [])) e ∙ read_written z v []))

-- ---- a sheet that was read

six_of : (y : Layout) (i : ℕ) → length (get_or y.stations i (record { position = 0; address = [] })).address ≡ 6
    → length (address_at y i) ≡ 6
unfolding tap_at
six_of y i p = p

figures_in_lem : (l : List ℕ) → (layout_in l).figures ≡ figures_in l
unfolding layout_in
figures_in_lem l = refl

count_in_lem : (l : List ℕ) → (layout_in l).count ≡ count_in l
unfolding layout_in
count_in_lem l = refl

size_of : (l : List ℕ) → sheet_size l ≡ count_place l + 1 + 7 * count_in l
unfolding sheet_size
size_of l = refl

-- the fields as they are read, by their bits
field_values : (l : List ℕ) (k : ℕ) → k < field_count → get_or (values_of (figures_in l)) k 0 ≡ field l k
unfolding figures_in
field_values l zero h = refl
field_values l (suc zero) h = refl
field_values l (suc (suc zero)) h = refl
field_values l (suc (suc (suc zero))) h = refl
field_values l (suc (suc (suc (suc zero)))) h = refl
field_values l (suc (suc (suc (suc (suc zero))))) h = refl
field_values l (suc (suc (suc (suc (suc (suc zero)))))) h = refl
field_values l (suc (suc (suc (suc (suc (suc (suc k))))))) h = absurd (omega arith)

-- a field whose bit does not stand is absent
field_unwritten : (l : List ℕ) (k : ℕ) → stands (map_of l) k ≡ false → is_absent (field l k) k ≡ true
unfolding field
field_unwritten l k p = rw p (eq-eqb (row k).absent (row k).absent refl)

-- a field that is not its default has its bit in every map: so its place is no lower
places_least : (l : List ℕ) (f : Figures) → figures_in l ≡ f → (k : ℕ) → k ≤ field_count
    → 1 + length (fields_octets (values_of f) k) ≤ field_at (map_of l) k
unfolding field_at
places_least l f e zero h = omega (arith, fields_at (values_of f))
places_least l f e (suc k) h =
    go (stands (map_of l) k) (is_absent (get_or (values_of f) k 0) k) refl refl (places_least l f e k (omega arith))
    (fields_length (values_of f) k)
  where
    held : get_or (values_of f) k 0 ≡ field l k
    held = ap (λ (g : Figures). get_or (values_of g) k 0) (sym e) ∙ field_values l k (omega arith)

    go : (b a : Bool) → stands (map_of l) k ≡ b → is_absent (get_or (values_of f) k 0) k ≡ a
        → 1 + length (fields_octets (values_of f) k) ≤ field_at (map_of l) k
        → length (fields_octets (values_of f) (suc k)) ≡ length (fields_octets (values_of f) k) + pick a 0 (width k)
        → 1 + length (fields_octets (values_of f) (suc k)) ≤ field_at (map_of l) k + pick b (width k) 0
    go true a p q i g = omega (arith, i, g, most a)
      where
        most : (c : Bool) → pick c 0 (width k) ≤ width k
        most true = omega arith
        most false = omega arith
    go false true p q i g = omega (arith, i, g)
    go false false p q i g =
        absurd (true≢false (sym (ap (λ (v : ℕ). is_absent v k) held ∙ field_unwritten l k p) ∙ q))

-- what a reader gives has addresses of six octets, refused or not
pub always_formed : (l : List ℕ) → Formed (read_sheet l).layout
always_formed l i g = six_of (read_sheet l).layout i (go (read_sheet l).answer refl)
  where
    go : (r : Answer) → (read_sheet l).answer ≡ r
        → length (get_or (read_sheet l).layout.stations i (record { position = 0; address = [] })).address ≡ 6
    go (accepted vs) e = read_formed l (sheet_size l) (accepted_size l vs e) i g
    go (refused n) e = absurd (omega (arith, refused_empty l n e))

module _ (l : List ℕ) (n : ℕ) (h : (read_sheet l).answer ≡ accepted (n ∷ [])) where
  -- what was read can be written
  pub read_writable : Writable (read_sheet l).layout
  read_writable = record { passes = read_passes l n h; formed = read_six }
    where
      read_six : (i : ℕ) → i < (read_sheet l).layout.count → length (address_at (read_sheet l).layout i) ≡ 6
      read_six i g = six_of (read_sheet l).layout i (read_formed l n h i g)

  -- "a sheet read and written twice stays as after the first writing"
  pub twice : (rest : List ℕ)
      → written (read_sheet (written (read_sheet l).layout ++ rest)).layout ≡ written (read_sheet l).layout
  twice rest =
      ap (λ (r : Reading). written r.layout) (read_written (read_sheet l).layout read_writable rest)
      ∙ same_octets (trimmed (read_sheet l).layout) (read_sheet l).layout
      (record { figures = refl; count = refl; stations = λ i g. trimmed_at (read_sheet l).layout i g })

  -- "shortest": no sheet that reads as the layout has fewer octets
  pub shortest : (y : Layout) → Writable y → Alike y (read_sheet l).layout → length (written y) ≤ n
  shortest y w a =
      let r = read_sound l n h in
      let e : figures_in l ≡ y.figures =
      sym (a.figures ∙ ap (λ (x : Layout). x.figures) r.layout ∙ figures_in_lem l) in
      let c : count_in l ≡ y.count = sym (a.count ∙ ap (λ (x : Layout). x.count) r.layout ∙ count_in_lem l) in
      let p = places_least l y.figures e field_count (omega arith) in
      omega (
        arith,
        length_written y (sound y w.passes) w.formed,
        head_length y.figures,
        size_of l,
        r.used,
        p,
        c,
      )
