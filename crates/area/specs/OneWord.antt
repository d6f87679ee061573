-- A record written back as it was, and one that differs in one word from what stood there. Assumes nothing.
use Prim.Native.Nat.{ℕ, zero, suc, ◌+◌, ◌*◌, ◌-◌, ◌/◌, ◌%◌, ◌≤◌, ◌<◌}
use Rattle.std.specs.Prelude.{◌≡◌, ltb, length}
use Rattle.std.proofs.Math.Path.{refl, ap, sym}
use Rattle.std.proofs.Common.{◌∙◌, arith, ext_get_or, ltb-true, ltb-false}
use mathlib.Core.List.{List, [], ◌∷◌, ◌++◌}
use Rattle.std.proofs.Math.Decide.{dec_lt}
use Rattle.std.proofs.Math.ListN.{get_or, get_or-append}
use Rattle.std.proofs.lemmas.List.Edits.{sets}
use Rattle.std.proofs.Math.Seq.{length-sets}
use Rattle.std.proofs.lemmas.List.{get_or_at}
use Rattle.octets.specs.BaseLaws.{by_test, by_eq}
use Rattle.octets.specs.Number.{get, spelled, put}
use Rattle.octets.specs.NumberLaws.{Octets, get_by, length_spelled, length_put, get_put_other}
use Rattle.octets.specs.Region.{Same, put_leaves}
use Rattle.octets.specs.Store.{octet_same, octet_other}
use Rattle.octets.specs.Words.{put_words}
use Rattle.octets.specs.WordsLaws.{word_at}
use Rattle.station_state.specs.declared.Station.{Station}
use Rattle.area_record.specs.Codec.{encoded}
use Rattle.area.specs.Area.{record_at, with_station, with_word}
use Rattle.area.specs.Offsets.{area_size, from, the_station}
use Rattle.sheet_layout.specs.Limits.{max_stations}
use Rattle.area_record.specs.Words.{record_words}

-- ---- a number written over itself

-- the w octets from b on are octets
abbrev Octet : ℕ → List ℕ → ℕ → Type 0
Octet w l b = (j : ℕ) → j < w → get_or l (b + j) 0 < 256

get_more : (w : ℕ) (l : List ℕ) (b : ℕ) → get (suc w) l b ≡ get w l b * 256 + get_or l (b + w) 0
unfolding get
get_more zero l b = let e : b + 0 ≡ b = omega arith in rw e (omega arith)
get_more (suc w) l b = refl

spelled_get : (w : ℕ) (l : List ℕ) (b k : ℕ) → k < w → Octet w l b → get_or (spelled w (get w l b)) k 0 ≡ get_or l (b + k) 0
unfolding spelled
spelled_get zero l b k h o = absurd (omega arith)
spelled_get (suc w) l b k h o =
    let z : get_or l (b + w) 0 < 256 = o w (omega arith) in
    let q : get (suc w) l b / 256 ≡ get w l b = omega (arith, get_more w l b) in
    let r : get (suc w) l b % 256 ≡ get_or l (b + w) 0 = omega (arith, get_more w l b) in
    rw (q, r) (go (dec_lt k w) (λ p. spelled_get w l b k p (λ j g. o j (omega arith))))
  where
    go : Dec (k < w) → (k < w → get_or (spelled w (get w l b)) k 0 ≡ get_or l (b + k) 0)
        → get_or (spelled w (get w l b) ++ (get_or l (b + w) 0 ∷ [])) k 0 ≡ get_or l (b + k) 0
    go (yes p) ih =
        get_or-append (spelled w (get w l b)) (get_or l (b + w) 0 ∷ []) 0 k
        (omega (arith, length_spelled w (get w l b))) ∙ ih p
    go (no p) ih =
        let e : k ≡ w = omega arith in
        rw e (get_or_at (spelled w (get w l b)) (get_or l (b + w) 0) [] 0 w (length_spelled w (get w l b)))

put_get : (w : ℕ) (l : List ℕ) (b : ℕ) → b + w ≤ length l → Octet w l b → put w l b (get w l b) ≡ l
unfolding put
put_get w l b h o =
    ext_get_or 0 (sets l b (spelled w (get w l b))) l (length-sets l b (spelled w (get w l b)))
    (λ i p. by_test (ltb i b)
    (λ c. let q = ltb-true i b c in octet_other (spelled w (get w l b)) l b i (λ x y. omega arith))
    (λ c. let q = ltb-false i b c in
    by_test (ltb i (b + w))
    (λ d. let g = ltb-true i (b + w) d in
    let e : i ≡ b + (i - b) = omega arith in
    rw e (octet_same (spelled w (get w l b)) l b (i - b) (omega (arith, length_spelled w (get w l b)))
    (omega (arith, length_spelled w (get w l b))) ∙ spelled_get w l b (i - b) (omega arith) o))
    (λ d. let g = ltb-false i (b + w) d in octet_other (spelled w (get w l b)) l b i
    (λ x y. omega (arith, length_spelled w (get w l b))))))

-- ---- words written over themselves, and all but one

module _ (l : List ℕ) (b : ℕ) (ws : List ℕ) (o : Octets l) where
  put_back : (n : ℕ) → b + 4 * n ≤ length l → ((j : ℕ) → j < n → get_or ws j 0 ≡ get 4 l (b + 4 * j))
      → put_words n l b ws ≡ l
  unfolding put_words Octets
  put_back zero h e = refl
  put_back (suc n) h e =
      rw (put_back n (omega arith) (λ j g. e j (omega arith)), e n (omega arith))
      (put_get 4 l (b + 4 * n) (omega arith) (λ j g. o (b + 4 * n + j)))

  kept : (n k v : ℕ) → k < n → Octet 4 (put 4 l (b + 4 * k) v) (b + 4 * n)
  unfolding Same Octets
  kept n k v q j r =
      let s : get_or (put 4 l (b + 4 * k) v) (b + 4 * n + j) 0 ≡ get_or l (b + 4 * n + j) 0 =
      put_leaves (b + 4 * n) 4 4 (b + 4 * k) v l (λ x y. omega arith) (b + 4 * n + j) (omega arith) (omega arith) in
      rw s (o (b + 4 * n + j))

  put_one : (n k v : ℕ) → b + 4 * n ≤ length l → k < n → get_or ws k 0 ≡ v
      → ((j : ℕ) → j < n → (j ≡ k → ⊥) → get_or ws j 0 ≡ get 4 l (b + 4 * j))
      → put_words n l b ws ≡ put 4 l (b + 4 * k) v
  unfolding put_words Octets
  put_one zero k v h g ev e = absurd (omega arith)
  put_one (suc n) k v h g ev e =
      by_eq k n
      (λ z. let w : get_or ws n 0 ≡ v = rw z at ev in
      rw (put_back n (omega arith) (λ j q. e j (omega arith) (λ y. omega arith)), z, w))
      (λ z. let q : k < n = omega (arith, z) in
      let m : List ℕ = put 4 l (b + 4 * k) v in
      let ih : put_words n l b ws ≡ m = put_one n k v (omega arith) q ev (λ j r ne. e j (omega arith) ne) in
      let w : get_or ws n 0 ≡ get 4 m (b + 4 * n) = e n (omega arith) (λ y. omega (arith, z))
      ∙ sym (get_put_other 4 4 l (b + 4 * k) (b + 4 * n) v (λ x y. omega arith)) in
      rw (ih, w) (put_get 4 m (b + 4 * n) (omega (arith, length_put 4 l (b + 4 * k) v)) (λ j r. kept n k v q j r)))

  -- all but two
  module _ (k v k' v' : ℕ) (lt : k < k') where
    two : List ℕ
    two = put 4 (put 4 l (b + 4 * k) v) (b + 4 * k') v'

    two_length : length two ≡ length l
    unfolding two
    two_length = length_put 4 (put 4 l (b + 4 * k) v) (b + 4 * k') v' ∙ length_put 4 l (b + 4 * k) v

    two_octet : (n : ℕ) → k' < n → (j : ℕ) → j < 4 → get_or two (b + 4 * n + j) 0 ≡ get_or l (b + 4 * n + j) 0
    unfolding Same two
    two_octet n q j r =
        put_leaves (b + 4 * n) 4 4 (b + 4 * k') v' (put 4 l (b + 4 * k) v) (λ x y. omega arith) (b + 4 * n + j)
        (omega arith) (omega arith)
        ∙ put_leaves (b + 4 * n) 4 4 (b + 4 * k) v l (λ x y. omega arith) (b + 4 * n + j) (omega arith) (omega arith)

    put_two : (n : ℕ) → b + 4 * n ≤ length l → k' < n → get_or ws k 0 ≡ v → get_or ws k' 0 ≡ v'
        → ((j : ℕ) → j < n → (j ≡ k → ⊥) → (j ≡ k' → ⊥) → get_or ws j 0 ≡ get 4 l (b + 4 * j)) → put_words n l b ws ≡ two
    unfolding put_words Octets two
    put_two zero h g ev ew e = absurd (omega arith)
    put_two (suc n) h g ev ew e =
        by_eq k' n
        (λ z. let w : get_or ws n 0 ≡ v' = rw z at ew in
        rw (put_one n k v (omega arith) (omega arith) ev (λ j q ne. e j (omega arith) ne (λ y. omega arith)), z, w))
        (λ z. let q : k' < n = omega (arith, z) in
        let ih : put_words n l b ws ≡ two = put_two n (omega arith) q ev ew (λ j r ne ne'. e j (omega arith) ne ne') in
        let w : get_or ws n 0 ≡ get 4 two (b + 4 * n) = e n (omega arith) (λ y. omega arith) (λ y. omega (arith, z))
        ∙ sym (get_by 4 (b + 4 * n) (b + 4 * n) two l (λ j r. two_octet n q j r)) in
        rw (ih, w) (put_get 4 two (b + 4 * n) (omega (arith, two_length))
        (λ j r. rw (two_octet n q j r) (o (b + 4 * n + j)))))

-- ---- a record

module _ (a : List ℕ) (i : ℕ) (s : Station) (hi : i < max_stations) (room : area_size ≤ length a) (o : Octets a) where
  pub station_back : encoded s ≡ record_at a i → with_station a i s ≡ a
  unfolding with_station record_at
  station_back e =
      put_back a (from (the_station i)) (encoded s) o record_words (omega arith)
      (λ j h. ap (λ (ws : List ℕ). get_or ws j 0) e ∙ word_at record_words a (from (the_station i)) j h)

pub length_word : (a : List ℕ) (i k v : ℕ) → length (with_word a i k v) ≡ length a
unfolding with_word
length_word a i k v = length_put 4 a (from (the_station i) + 4 * k) v
