-- "Returning puts back every octet": a return under the name of a mark that was accepted, whatever was done to the area
-- in between, puts back what was marked; and the path is the one that led there, abandoned steps left out. Assumes
-- nothing.
use Prim.Native.Nat.{ℕ, ◌≤◌, ◌<◌}
use Rattle.std.specs.Prelude.{◌≡◌, refl, false, ltb, eqb, drop}
use Rattle.std.proofs.Common.{sym, ◌∙◌, arith, take-append-drop}
use Rattle.std.proofs.Math.Path.{ap}
use mathlib.Core.List.{List, []}
use borrow.Author.Tests.{eq-eqb, ne_eqb, le-ltb, ltb-false, eqb-true, eqb-false}
use Rattle.std.proofs.Math.ListN.{length, take}
use Rattle.std.proofs.lemmas.List.Edits.{sets}
use Rattle.std.proofs.Math.Seq.{length-take-le}
use Rattle.octets.specs.Base.{accepted, outcome}
use Rattle.octets.specs.BaseLaws.{by_test, refused_none}
use Rattle.octets.specs.Store.{take_sets}
use Rattle.area.specs.Offsets.{area_size}
use Rattle.area_check.specs.Valid.{area_wrong, area_refusal}
use Rattle.area_check.specs.AreaCheckLaws.{passes_right}
use Rattle.marks.specs.Marks.{mark_count, name_size, store_size, copy_at, found, place_for, with_mark, marked, returned}
use Rattle.marks.specs.MarkTheorems.{place_most, mark_length, mark_own, mark_found}
use Rattle.area_check.specs.Front.{refusal_front}
use Rattle.paths.specs.Paths.{Known, mark, back, Session, after}

-- what an accepted mark is
record Made (a s name : List ℕ) : Type 0 where
  passes : area_refusal a ≡ 0
  room : store_size ≤ length s
  place : place_for s name < mark_count
  store : (marked a s name).octets ≡ with_mark s (place_for s name) name a

made : (a s name : List ℕ) → (marked a s name).answer ≡ accepted [] → Made a s name
unfolding marked
made a s name =
    by_test (eqb (area_refusal a) 0)
    (λ r. by_test (ltb (length s) store_size)
    (λ l. rw (r, l) (λ h. refused_none 15 [] h))
    (λ l. by_test (eqb (place_for s name) mark_count)
    (λ f. rw (r, l, f) (λ h. refused_none 18 [] h))
    (λ f h. record {
      passes = eqb-true (area_refusal a) 0 r;
      room = ltb-false (length s) store_size l;
      place = omega (arith, place_most s name, eqb-false (place_for s name) mark_count f);
      store = rw (r, l, f);
    })))
    (λ r. rw r (λ h. refused_none (area_refusal a) [] h))

-- check 2 looks at no octet past those that check 1 asks for
front_right : (a : List ℕ) → area_refusal a ≡ 0 → area_wrong (take area_size a) ≡ false
front_right a h =
    let b = take area_size a in
    let l : length b ≡ area_size = length-take-le area_size a (passes_right a h).0 in
    (passes_right b (sym (refusal_front (drop area_size a) b (omega arith)) ∙ ap area_refusal (take-append-drop area_size a)
    ∙ h)).1

module _ (a s name : List ℕ) (eight : length name ≡ name_size) (w : Made a s name) where
  big : area_size ≤ length a
  big = (passes_right a w.passes).0

  again : found (with_mark s (place_for s name) name a) name ≡ place_for s name
  again = mark_found s name a (place_for s name) w.place w.room eight big refl

  back_made : (b : List ℕ) → area_size ≤ length b
      → returned b (with_mark s (place_for s name) name a) name ≡ outcome (accepted []) (sets b 0 (take area_size a))
  unfolding returned
  back_made b long =
      let at = place_for s name in
      let l : length (with_mark s at name a) ≡ length s = mark_length s name a at w.place w.room eight big in
      let c : copy_at (with_mark s at name a) at ≡ take area_size a =
      mark_own s name a at w.place w.room eight big in
      let p = w.place in
      let r = w.room in
      rw (
        le-ltb (length b) area_size long,
        le-ltb (length (with_mark s at name a)) store_size (omega arith),
        again,
        ne_eqb at mark_count (λ z. omega arith),
        c,
        front_right a w.passes,
      )

pub mark_back : (a s name b : List ℕ) → length name ≡ name_size → area_size ≤ length b
    → (marked a s name).answer ≡ accepted []
    → returned b (marked a s name).octets name ≡ outcome (accepted []) (sets b 0 (take area_size a))
mark_back a s name b eight long h =
    let w = made a s name h in
    ap (λ (x : List ℕ). returned b x name) w.store ∙ back_made a s name eight w b long

-- ---- the path

marked_session : (w : Session) (name : List ℕ) → (marked w.area w.store name).answer ≡ accepted []
    → ((after (mark name) w).store ≡ (marked w.area w.store name).octets)
    × ((after (mark name) w).places (place_for w.store name) ≡ w.path)
unfolding after
marked_session w name e =
    let at = place_for w.store name in rw (e, eq-eqb at at refl) (refl, refl)

-- w is marked; v is what came of it, with any area, and the store and the book's places as the mark left them
module _ (w v : Session) (name : List ℕ) (eight : length name ≡ name_size)
    (accept : (marked w.area w.store name).answer ≡ accepted []) (long : area_size ≤ length v.area)
    (stores : v.store ≡ (after (mark name) w).store) (places : v.places ≡ (after (mark name) w).places) where
  d : Made w.area w.store name
  d = made w.area w.store name accept

  store_is : v.store ≡ with_mark w.store (place_for w.store name) name w.area
  store_is = stores ∙ (marked_session w name accept).0 ∙ d.store

  back_is : returned v.area v.store name
      ≡ outcome (accepted []) (sets v.area 0 (take area_size w.area))
  back_is =
      ap (λ (x : List ℕ). returned v.area x name) store_is
      ∙ back_made w.area w.store name eight d v.area long

  pub back_area : take area_size (after (back name) v).area ≡ take area_size w.area
  unfolding after
  back_area =
      let l : length (take area_size w.area) ≡ area_size =
      length-take-le area_size w.area (passes_right w.area d.passes).0 in
      rw back_is (take_sets (take area_size w.area) v.area area_size (sym l) (omega arith))

  pub back_path : (after (back name) v).path ≡ w.path
  unfolding after
  back_path =
      rw back_is
      (ap v.places (ap (λ (x : List ℕ). found x name) store_is ∙ again w.area w.store name eight d)
      ∙ ap (λ (f : ℕ → Known). f (place_for w.store name)) places ∙ (marked_session w name accept).1)
