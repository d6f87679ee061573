-- What a caller may rely on: a sheet that is read has values in range, it used the octets that its map and N require,
-- and octets after those do not matter. Assumes nothing.
use Prim.Native.Nat.{ℕ, suc, ◌+◌, ◌*◌, ◌≤◌, ◌<◌, min}
use Rattle.std.specs.Prelude.{◌≡◌, Bool, List, [], ◌∷◌, ◌++◌, ltb, eqb, length, get_or, take, drop}
use Rattle.std.proofs.Math.Path.{refl, ap₂, subst}
use Rattle.std.proofs.Common.{sym, ◌∙◌, ap, take-append-drop, length-drop, length-take-le}
use Rattle.std.proofs.Math.Bool.{true, false}
use native.Mathlib.Omega.{arith}
use borrow.Author.Tests.{ltb-false, le-ltb, eqb-true}
use Rattle.std.proofs.Math.ListN.{length-append, get_or-append}
use Rattle.std.proofs.lemmas.List.{take-append-le, drop-append-le}
use Rattle.octets.specs.BaseLaws.{refused_none}
use Rattle.octets.specs.Base.{pick, Answer, refused, accepted, values_of}
use Rattle.octets.specs.Number.{get}
use Rattle.octets.specs.NumberLaws.{Octets, octets_take, octets_drop, get_front}
use Rattle.octets.specs.Store.{part, length_part}
use Rattle.sheet_layout.specs.declared.Tap.{Tap}
use Rattle.sheet_layout.specs.declared.Layout.{Layout}
use Rattle.sheet_layout.specs.Check.{refusal_of}
use Rattle.octets.specs.Filled.{filled_at, filled_same}
use Rattle.sheet_layout.specs.Layout.{places_of, blank_tap}
use Rattle.sheet_layout.specs.CheckLaws.{Sound, sound}
use Rattle.sheet_read.specs.Sheet.{map_of, stands, field_count, row, width, field_at, field, figures_in, count_place}
use Rattle.sheet_read.specs.Sheet.{count_in, tap_in, taps_from, layout_in, sheet_size, Reading, unread, read_sheet}
use Rattle.sheet_layout.specs.Limits.{max_stations}
use Rattle.sheet_read.specs.SheetLaws.{fields_rise, field_ends}

-- ---- a sheet that is read

pub record Read (l : List ℕ) (n : ℕ) (r : Reading) : Type 0 where
  pub used : n ≡ sheet_size l
  pub within : n ≤ length l
  pub layout : r.layout ≡ layout_in l
  pub sound : Sound r.layout

pub read_sound : (l : List ℕ) (n : ℕ) → (read_sheet l).answer ≡ accepted (n ∷ []) → Read l n (read_sheet l)
unfolding read_sheet
read_sound l n =
    go (ltb (length l) (sheet_size l)) (stands (map_of l) 7)
    (eqb (refusal_of (layout_in l)) 0) refl refl
  where
    go : (s t u : Bool) → ltb (length l) (sheet_size l) ≡ s → eqb (refusal_of (layout_in l)) 0 ≡ u
        → (pick s (unread 3) (pick t (unread 4) (pick u (record {
          answer = accepted (sheet_size l ∷ []);
          layout = layout_in l;
        }) (unread (refusal_of (layout_in l)))))).answer ≡ accepted (n ∷ [])
        → Read l n (pick s (unread 3) (pick t (unread 4) (pick u (record {
          answer = accepted (sheet_size l ∷ []);
          layout = layout_in l;
        }) (unread (refusal_of (layout_in l))))))
    go true t u p q h = refused_none 3 (n ∷ []) h
    go false true u p q h = refused_none 4 (n ∷ []) h
    go false false true p q h =
        let e : sheet_size l ≡ n = ap (λ (r : Answer). get_or (values_of r) 0 0) h in
        record {
          used = sym e;
          within = omega (arith, ltb-false (length l) (sheet_size l) p);
          layout = refl;
          sound = sound (layout_in l) (eqb-true (refusal_of (layout_in l)) 0 q);
        }
    go false false false p q h = refused_none (refusal_of (layout_in l)) (n ∷ []) h

-- its layout passes
pub read_passes : (l : List ℕ) (n : ℕ) → (read_sheet l).answer ≡ accepted (n ∷ []) → refusal_of (read_sheet l).layout ≡ 0
unfolding read_sheet
read_passes l n =
    go (ltb (length l) (sheet_size l)) (stands (map_of l) 7) (eqb (refusal_of (layout_in l)) 0) refl
  where
    go : (s t u : Bool) → eqb (refusal_of (layout_in l)) 0 ≡ u
        → (pick s (unread 3) (pick t (unread 4) (pick u (record {
          answer = accepted (sheet_size l ∷ []);
          layout = layout_in l;
        }) (unread (refusal_of (layout_in l)))))).answer ≡ accepted (n ∷ [])
        → refusal_of (pick s (unread 3) (pick t (unread 4) (pick u (record {
          answer = accepted (sheet_size l ∷ []);
          layout = layout_in l;
        }) (unread (refusal_of (layout_in l)))))).layout ≡ 0
    go true t u q h = refused_none 3 (n ∷ []) h
    go false true u q h = refused_none 4 (n ∷ []) h
    go false false true q h = eqb-true (refusal_of (layout_in l)) 0 q
    go false false false q h = refused_none (refusal_of (layout_in l)) (n ∷ []) h

-- with a refusal the layout has no station, else the answer is the octets used
pub refused_empty : (l : List ℕ) (n : ℕ) → (read_sheet l).answer ≡ refused n → (read_sheet l).layout.count ≡ 0
unfolding read_sheet
refused_empty l n = go (ltb (length l) (sheet_size l)) (stands (map_of l) 7) (eqb (refusal_of (layout_in l)) 0)
  where
    go : (s t u : Bool) → (pick s (unread 3) (pick t (unread 4) (pick u (record {
      answer = accepted (sheet_size l ∷ []);
      layout = layout_in l;
    }) (unread (refusal_of (layout_in l)))))).answer ≡ refused n
        → (pick s (unread 3) (pick t (unread 4) (pick u (record {
          answer = accepted (sheet_size l ∷ []);
          layout = layout_in l;
        }) (unread (refusal_of (layout_in l)))))).layout.count ≡ 0
    go true t u h = refl
    go false true u h = refl
    go false false true h = refused_none n (sheet_size l ∷ []) (sym h)
    go false false false h = refl

pub accepted_size : (l vs : List ℕ) → (read_sheet l).answer ≡ accepted vs
    → (read_sheet l).answer ≡ accepted (sheet_size l ∷ [])
unfolding read_sheet
accepted_size l vs = go (ltb (length l) (sheet_size l)) (stands (map_of l) 7) (eqb (refusal_of (layout_in l)) 0)
  where
    go : (s t u : Bool) → (pick s (unread 3) (pick t (unread 4) (pick u (record {
      answer = accepted (sheet_size l ∷ []);
      layout = layout_in l;
    }) (unread (refusal_of (layout_in l)))))).answer ≡ accepted vs
        → (pick s (unread 3) (pick t (unread 4) (pick u (record {
          answer = accepted (sheet_size l ∷ []);
          layout = layout_in l;
        }) (unread (refusal_of (layout_in l)))))).answer ≡ accepted (sheet_size l ∷ [])
    go true t u h = refused_none 3 vs h
    go false true u h = refused_none 4 vs h
    go false false true h = refl
    go false false false h = refused_none (refusal_of (layout_in l)) vs h

-- ---- its stations

station_is : (l : List ℕ) (i : ℕ) → i < count_in l → i < max_stations
    → get_or (layout_in l).stations i (record { position = 0; address = [] }) ≡ taps_from l (count_place l + 1) i
unfolding layout_in
station_is l i g f =
    filled_at blank_tap (taps_from l (count_place l + 1)) (min (count_in l) max_stations) i (record {
      position = 0;
      address = [];
    }) (omega arith)

-- each address is six octets
pub layout_formed : (l : List ℕ) → sheet_size l ≤ length l → (i : ℕ) → i < (layout_in l).count → i < max_stations
    → length (get_or (layout_in l).stations i (record { position = 0; address = [] })).address ≡ 6
unfolding layout_in sheet_size tap_in
layout_formed l h i g f =
    ap (λ (t : Tap). length t.address) (station_is l i g f)
    ∙ length_part l (count_place l + 1 + 7 * i + 1) 6 (omega arith)

layout_octets : (l : List ℕ) → Octets l → (i : ℕ) → i < (layout_in l).count → i < max_stations
    → Octets (get_or (layout_in l).stations i (record { position = 0; address = [] })).address
unfolding layout_in tap_in
layout_octets l o i g f =
    subst Octets (sym (ap (λ (t : Tap). t.address) (station_is l i g f)))
    (octets_take 6 _ (octets_drop (count_place l + 1 + 7 * i + 1) l o))

-- the same of a sheet that is read
module _ (l : List ℕ) (n : ℕ) (h : (read_sheet l).answer ≡ accepted (n ∷ [])) where
  pub read_formed : (i : ℕ) → i < (read_sheet l).layout.count
      → length (get_or (read_sheet l).layout.stations i (record { position = 0; address = [] })).address ≡ 6
  read_formed i g =
      let r = read_sound l n h in
      let e = r.layout in
      ap (λ (y : Layout). length (get_or y.stations i (record { position = 0; address = [] })).address) e
      ∙ layout_formed l (omega (arith, r.used, r.within)) i (omega (arith, ap (λ (y : Layout). y.count) e))
      (omega (arith, r.sound.count.1))

  pub read_octets : Octets l → (i : ℕ) → i < (read_sheet l).layout.count
      → Octets (get_or (read_sheet l).layout.stations i (record { position = 0; address = [] })).address
  read_octets o i g =
      let r = read_sound l n h in
      let e = r.layout in
      subst (λ (y : Layout). Octets (get_or y.stations i (record { position = 0; address = [] })).address) (sym e)
      (layout_octets l o i (omega (arith, ap (λ (y : Layout). y.count) e)) (omega (arith, r.sound.count.1)))

-- ---- octets after the sheet do not matter: a reader that stays within a reads the same of a and of a with more behind
-- it

module _ (a z : List ℕ) where
  octet_front : (k : ℕ) → k < length a → get_or (a ++ z) k 0 ≡ get_or a k 0
  octet_front k h = get_or-append a z 0 k h

  part_front : (at n : ℕ) → at + n ≤ length a → part (a ++ z) at n ≡ part a at n
  part_front at n h =
      rw (drop-append-le at a z (omega arith)) (take-append-le n (drop at a) z (omega (arith, length-drop at a)))

module _ (a z : List ℕ) (h : sheet_size a ≤ length a) where
  front : count_place a + 1 + 7 * count_in a ≤ length a
  unfolding sheet_size
  front = h

  map_front : map_of (a ++ z) ≡ map_of a
  map_front = octet_front a z 0 (omega (arith, front))

  place_front : count_place (a ++ z) ≡ count_place a
  place_front = ap (λ (m : ℕ). field_at m field_count) map_front

  pub count_front : count_in (a ++ z) ≡ count_in a
  count_front = ap (λ (k : ℕ). get_or (a ++ z) k 0) place_front ∙ octet_front a z (count_place a) (omega (arith, front))

  pub size_front : sheet_size (a ++ z) ≡ sheet_size a
  unfolding sheet_size
  size_front = ap₂ (λ (p n : ℕ). p + 1 + 7 * n) place_front count_front

  field_front : (k d : ℕ) → suc d + k ≡ field_count → field (a ++ z) k ≡ field a k
  unfolding field
  field_front k d e = rw map_front (go (stands (map_of a) k) refl)
    where
      go : (t : Bool) → stands (map_of a) k ≡ t
          → pick t (get (width k) (a ++ z) (field_at (map_of a) k)) (row k).absent ≡ pick t
          (get (width k) a (field_at (map_of a) k)) (row k).absent
      go true p =
          let g : d + suc k ≡ field_count = omega arith in
          let w : field_at (map_of a) (suc k) ≤ field_at
          (map_of a) field_count = subst (λ (n : ℕ). field_at (map_of a) (suc k) ≤ field_at (map_of a) n) g
          (fields_rise (map_of a) (suc k) d) in
          get_front (width k) a z (field_at (map_of a) k) (omega (arith, front, field_ends (map_of a) k p))
      go false p = refl

  figures_front : figures_in (a ++ z) ≡ figures_in a
  unfolding figures_in
  figures_front =
      λ i. record {
        slot = field_front 0 6 refl i;
        gap1 = field_front 1 5 refl i;
        gap2 = field_front 2 4 refl i;
        jam = field_front 3 3 refl i;
        limit = field_front 4 2 refl i;
        backoff = field_front 5 1 refl i;
        ends = field_front 6 0 refl i;
      }

  tap_front : (at : ℕ) → at + 7 ≤ length a → tap_in (a ++ z) at ≡ tap_in a at
  unfolding tap_in
  tap_front at g =
      λ i. record { position = octet_front a z at (omega arith) i; address = part_front a z (at + 1) 6 (omega arith) i }

  places_front : places_of (taps_from (a ++ z) (count_place (a ++ z) + 1)) (min (count_in (a ++ z)) max_stations) ≡ places_of
      (taps_from a (count_place a + 1)) (min (count_in a) max_stations)
  places_front =
      rw (count_front, place_front)
      (filled_same blank_tap (taps_from (a ++ z) (count_place a + 1)) (taps_from a (count_place a + 1))
      (min (count_in a) max_stations)
      (λ i g. tap_front (count_place a + 1 + 7 * i) (omega (arith, front))))

  layout_front : layout_in (a ++ z) ≡ layout_in a
  unfolding layout_in
  layout_front = λ i. record { figures = figures_front i; count = count_front i; stations = places_front i }

  -- a whole sheet reads the same whatever follows it
  pub sheet_front : read_sheet (a ++ z) ≡ read_sheet a
  unfolding read_sheet
  sheet_front =
      rw (
        size_front,
        map_front,
        layout_front,
        le-ltb (length (a ++ z)) (sheet_size a)
            (omega (arith, length-append a z)),
        le-ltb (length a) (sheet_size a) h,
      )

-- the size that a longer list asks for is the front's own, where the front has so many octets
size_whole : (a z : List ℕ) → sheet_size (a ++ z) ≤ length a → sheet_size a ≡ sheet_size (a ++ z)
unfolding sheet_size
size_whole a z h =
    let m : map_of (a ++ z) ≡ map_of a = octet_front a z 0 (omega arith) in
    let p : count_place (a ++ z) ≡ count_place a = ap (λ (x : ℕ). field_at x field_count) m in
    let n : count_in (a ++ z) ≡ count_in a =
    ap (λ (k : ℕ). get_or (a ++ z) k 0) p ∙ octet_front a z (count_place a) (omega arith) in
    sym (ap₂ (λ (q k : ℕ). q + 1 + 7 * k) p n)

-- Octets after those used do not matter.
pub read_again : (l z : List ℕ) (n : ℕ) → (read_sheet l).answer ≡ accepted (n ∷ [])
    → read_sheet (take n l ++ z) ≡ read_sheet l
read_again l z n h =
    let r = read_sound l n h in
    let e : take n l ++ drop n l ≡ l = take-append-drop n l in
    let k : length (take n l) ≡ n = length-take-le n l r.within in
    let s : sheet_size (take n l ++ drop n l) ≡ n = ap sheet_size e ∙ sym r.used in
    let w : sheet_size (take n l) ≤ length (take n l) = omega (arith, size_whole (take n l) (drop n l) (omega arith)) in
    sheet_front (take n l) z w ∙ sym (sheet_front (take n l) (drop n l) w) ∙ ap read_sheet e
