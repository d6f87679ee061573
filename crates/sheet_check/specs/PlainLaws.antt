-- The checks on plain numbers are those of Check: equal numbers are equal addresses, and the first octet can be read
-- off the number. With the laws of the loops and of the order of the checks. Assumes nothing.
use Rattle.std.specs.Prelude.{ℕ, zero, suc, ◌+◌, ◌-◌, ◌*◌, ◌/◌, ◌%◌, ◌≤◌, ◌<◌, min, ◌≡◌, refl, Bool, true, false, ◌||◌, List, [], ◌∷◌, ltb, length, set}
use Rattle.std.proofs.Common.{sym, ◌∙◌, true≢false, not-suc-le-zero, zero-add, add-one, arith, lt-ltb, le-ltb, le-leb, eq-eqb, ne_eqb, eqb-true, get_or-set_same, get_or-set_other, ext_get_or}
use Rattle.std.proofs.Math.Path.{ap, ap₂}
use Rattle.std.proofs.Math.Decide.{dec_lt}
use Rattle.std.proofs.lemmas.Bool.{lt-leb}
use Rattle.std.proofs.Math.Dec.{leb, eqb}
use Rattle.std.proofs.Math.ListN.{get_or}
use Rattle.octets.specs.Base.{pick, some, outside}
use Rattle.octets.specs.BaseLaws.{by_test, by_eq, within, some_same, some_more, some_hit}
use Rattle.octets.specs.Equal.{equal}
use Rattle.octets.specs.EqualLaws.{equal_refl, equal_true}
use Rattle.octets.specs.Number.{get}
use Rattle.octets.specs.NumberLaws.{Octets}
use Rattle.sheet_layout.specs.declared.Tap.{Tap}
use Rattle.sheet_layout.specs.declared.Layout.{Layout}
use Rattle.sheet_layout.specs.Layout.{tap_at, address_at}
use Rattle.sheet_layout.specs.Check.{figures_out, position_out, falls, is_group, same_address, address_wrong, refusal_of}
use Rattle.sheet_check.specs.Plain.{Spelled, Laid, high_at, drops_at, same_at, wrong_at, plain_refusal}
use Rattle.sheet_layout.specs.Limits.{max_position, max_stations}

-- ---- an address and its number

pub number_is : (a : List ℕ) (x y : ℕ) → x ≡ get 2 a 0 → y ≡ get 4 a 2 → x * 4294967296 + y ≡ get 6 a 0
unfolding get
number_is a x y p q = omega arith

-- numbers that are equal have equal octets
same_octets : (w : ℕ) (a b : List ℕ) → Octets a → Octets b → get w a 0 ≡ get w b 0 → (k : ℕ) → k < w
    → get_or a k 0 ≡ get_or b k 0
unfolding get Octets
same_octets zero a b o p e k h = absurd (not-suc-le-zero h)
same_octets (suc zero) a b o p e k h = let z : k ≡ 0 = omega arith in rw z e
same_octets (suc (suc w)) a b o p e k h =
    let f : get (suc w) a 0 * 256 + get_or a (suc w) 0 ≡ get (suc w) b 0 * 256 + get_or b (suc w) 0 = rw zero-add at e in
    let x = o (suc w) in
    let y = p (suc w) in
    let last : get_or a (suc w) 0 ≡ get_or b (suc w) 0 = omega arith in
    go (dec_lt k (suc w)) (λ j. same_octets (suc w) a b o p (omega arith) k j) last
  where
    go : Dec (k < suc w) → (k < suc w → get_or a k 0 ≡ get_or b k 0) → get_or a (suc w) 0 ≡ get_or b (suc w) 0
        → get_or a k 0 ≡ get_or b k 0
    go (yes j) ih last = ih j
    go (no j) ih last = let z : k ≡ suc w = omega arith in rw z last

-- so two addresses are the same exactly where their numbers are
same_number : (a b : List ℕ) → Octets a → Octets b → length a ≡ 6 → length b ≡ 6
    → eqb (get 6 a 0) (get 6 b 0) ≡ equal a b
same_number a b o p la lb =
    by_eq (get 6 a 0) (get 6 b 0)
    (λ e. eq-eqb (get 6 a 0) (get 6 b 0) e ∙ sym (ap (equal a) (sym (same e)) ∙ equal_refl a))
    (λ n. ne_eqb (get 6 a 0) (get 6 b 0) n ∙ by_test (equal a b)
    (λ t. absurd (n (ap (λ (l : List ℕ). get 6 l 0) (equal_true a b t)))) sym)
  where
    same : get 6 a 0 ≡ get 6 b 0 → a ≡ b
    same e = ext_get_or 0 a b (la ∙ sym lb) (λ i h. same_octets 6 a b o p e i (omega arith))

-- the first octet
group_number : (a : List ℕ) → Octets a → eqb (get 6 a 0 / 1099511627776 % 2) 1 ≡ is_group a
unfolding get Octets
group_number a o =
    let e : get 6 a 0 / 1099511627776 % 2 ≡ get_or a 0 0 % 2 = omega (arith, o 0, o 1, o 2, o 3, o 4, o 5) in
    ap (λ (n : ℕ). eqb n 1) e

-- ---- the stations laid out

pub laid_none : (y : Layout) (ps qs : List ℕ) → Laid y 0 ps qs
unfolding Laid
laid_none y ps qs i h = absurd (not-suc-le-zero h)

pub laid_end : (y : Layout) (n i : ℕ) (ps qs : List ℕ) → i ≤ n → n ≤ i → Laid y i ps qs → Laid y n ps qs
laid_end y n i ps qs p q l = let e : i ≡ n = omega arith in rw e at l

-- one more, where t is the station as the code reads it
pub laid_more : (y : Layout) (i : ℕ) (ps qs : List ℕ) (t : Tap) (q : ℕ) → i < length ps → i < length qs
    → t ≡ get_or y.stations i (record { position = 0; address = [] })
    → q ≡ get 6 t.address 0 → Octets t.address → length t.address ≡ 6
    → Laid y i ps qs → Laid y (i + 1) (set ps i t.position) (set qs i q)
unfolding Laid tap_at
laid_more y i ps qs t q h k e n o s l j b = go (dec_lt j i)
  where
    here : Spelled y i t.position q
    here = record {
      position = ap (λ (u : Tap). u.position) e;
      number = n ∙ ap (λ (u : Tap). get 6 u.address 0) e;
      octets = rw e at o;
      six = ap (λ (u : Tap). length u.address) (sym e) ∙ s;
    }

    go : Dec (j < i) → Spelled y j (get_or (set ps i t.position) j 0) (get_or (set qs i q) j 0)
    go (yes m) =
        let d : j ≡ i → ⊥ = omega arith in
        rw (get_or-set_other ps i j t.position 0 d, get_or-set_other qs i j q 0 d) (l j m)
    go (no m) =
        let z : j ≡ i = omega arith in
        rw (z, get_or-set_same ps i t.position 0 h, get_or-set_same qs i q 0 k) here

-- ---- each check

module _ (y : Layout) (n : ℕ) (ps qs : List ℕ) (l : Laid y n ps qs) where
  laid_high : some (high_at ps) n ≡ some (position_out y) n
  unfolding Laid
  laid_high = some_same (high_at ps) (position_out y) n (λ i h. ap (ltb max_position) (l i h).position)

  laid_drops : some (drops_at ps) (n - 1) ≡ some (falls y) (n - 1)
  unfolding Laid
  laid_drops =
      some_same (drops_at ps) (falls y) (n - 1)
      (λ i h. ap₂ leb (ap (λ (k : ℕ). get_or ps k 0) (add-one i) ∙ (l (suc i) (omega arith)).position)
      (l i (omega arith)).position)

  laid_same : (i j : ℕ) → i < n → j < n → same_at qs i j ≡ same_address y i j
  unfolding Laid
  laid_same i j h k =
      let a = l j k in
      let b = l i h in
      ap₂ eqb a.number b.number
      ∙ same_number (address_at y j) (address_at y i) a.octets b.octets a.six b.six

  laid_wrong : some (wrong_at qs) n ≡ some (address_wrong y) n
  unfolding Laid wrong_at address_wrong
  laid_wrong =
      some_same _ _ n
      (λ i h. ap₂ (λ (a b : Bool). a || b)
      (ap (λ (q : ℕ). eqb (q / 1099511627776 % 2) 1) (l i h).number ∙ group_number (address_at y i) (l i h).octets)
      (some_same (same_at qs i) (same_address y i) i (λ j k. laid_same i j h (omega arith))))

-- ---- the loops

module _ (l : List ℕ) where
  pub high_more : (i : ℕ) → get_or l i 0 ≤ max_position → some (high_at l) i ≡ false → some (high_at l) (i + 1) ≡ false
  high_more i p r = some_more (high_at l) i false (sym (le-ltb max_position (get_or l i 0) p)) refl r

  pub high_hit : (n i : ℕ) → max_position < get_or l i 0 → i < n → true ≡ some (high_at l) n
  high_hit n i p h = some_hit (high_at l) n i true (sym (lt-ltb max_position (get_or l i 0) p)) refl h

  pub drops_more : (i : ℕ) → get_or l i 0 < get_or l (i + 1) 0 → some (drops_at l) i ≡ false
      → some (drops_at l) (i + 1) ≡ false
  drops_more i p r = some_more (drops_at l) i false (sym (lt-leb (get_or l (i + 1) 0) (get_or l i 0) p)) refl r

  pub drops_hit : (n i : ℕ) → get_or l (i + 1) 0 ≤ get_or l i 0 → i < n → true ≡ some (drops_at l) n
  drops_hit n i p h = some_hit (drops_at l) n i true (sym (le-leb (get_or l (i + 1) 0) (get_or l i 0) p)) refl h

  pub same_more : (i j : ℕ) → (get_or l j 0 ≡ get_or l i 0 → ⊥) → some (same_at l i) j ≡ false
      → some (same_at l i) (j + 1) ≡ false
  same_more i j p r = some_more (same_at l i) j false (sym (ne_eqb (get_or l j 0) (get_or l i 0) p)) refl r

  pub same_hit : (i j : ℕ) → get_or l j 0 ≡ get_or l i 0 → j < i → true ≡ some (same_at l i) i
  same_hit i j p h = some_hit (same_at l i) i j true (sym (eq-eqb (get_or l j 0) (get_or l i 0) p)) refl h

  pub wrong_is : (i : ℕ) (q r : Bool) → r ≡ (eqb (get_or l i 0 / 1099511627776 % 2) 1 || q) → q ≡ some (same_at l i) i
      → r ≡ wrong_at l i
  unfolding wrong_at
  wrong_is i q r p e = p ∙ rw e

-- ---- the order of the checks

module _ (count n : ℕ) (ps qs : List ℕ) (b₁ b₂ b₃ b₄ : Bool) where
  pub plain_position : n ≡ min count 16 → b₁ ≡ some (high_at ps) n → b₁ ≡ true → 5 ≡ plain_refusal count ps qs
  unfolding plain_refusal
  plain_position e p q = rw (← e, ← p, q)

  pub plain_count : n ≡ min count 16 → b₁ ≡ some (high_at ps) n → b₁ ≡ false → b₂ ≡ outside count 2 16 → b₂ ≡ true
      → 6 ≡ plain_refusal count ps qs
  unfolding plain_refusal
  plain_count e p q r s = rw (← e, ← p, q, ← r, s)

  pub plain_order : n ≡ min count 16 → b₁ ≡ some (high_at ps) n → b₁ ≡ false → b₂ ≡ outside count 2 16 → b₂ ≡ false
      → b₃ ≡ some (drops_at ps) (count - 1) → b₃ ≡ true → 7 ≡ plain_refusal count ps qs
  unfolding plain_refusal
  plain_order e p q r s t u = rw (← e, ← p, q, ← r, s, ← t, u)

  pub plain_address : n ≡ min count 16 → b₁ ≡ some (high_at ps) n → b₁ ≡ false → b₂ ≡ outside count 2 16 → b₂ ≡ false
      → b₃ ≡ some (drops_at ps) (count - 1) → b₃ ≡ false → b₄ ≡ some (wrong_at qs) count → b₄ ≡ true
      → 8 ≡ plain_refusal count ps qs
  unfolding plain_refusal
  plain_address e p q r s t u v w = rw (← e, ← p, q, ← r, s, ← t, u, ← v, w)

  pub plain_none : n ≡ min count 16 → b₁ ≡ some (high_at ps) n → b₁ ≡ false → b₂ ≡ outside count 2 16 → b₂ ≡ false
      → b₃ ≡ some (drops_at ps) (count - 1) → b₃ ≡ false → b₄ ≡ some (wrong_at qs) count → b₄ ≡ false
      → 0 ≡ plain_refusal count ps qs
  unfolding plain_refusal
  plain_none e p q r s t u v w = rw (← e, ← p, q, ← r, s, ← t, u, ← v, w)

-- the places that the later checks read
pub count_above : (count : ℕ) (b : Bool) → b ≡ outside count 2 16 → b ≡ false → 1 ≤ count
count_above count b p q = let w = within count 2 16 (sym p ∙ q) in omega arith

pub count_below : (count n : ℕ) (b : Bool) → b ≡ outside count 2 16 → b ≡ false → n ≡ 16 → count - 1 < n
count_below count n b p q e = let w = within count 2 16 (sym p ∙ q) in omega arith

pub count_most : (count n : ℕ) (b : Bool) → b ≡ outside count 2 16 → b ≡ false → n ≡ 16 → count ≤ n
count_most count n b p q e = let w = within count 2 16 (sym p ∙ q) in omega arith

pub refusal_figures : (y : Layout) (b : Bool) → b ≡ figures_out y.figures → b ≡ true → 5 ≡ refusal_of y
unfolding refusal_of
refusal_figures y b p q = rw (← p, q)

-- there are places enough where the number of stations passes
pub refusal_plain : (y : Layout) (n : ℕ) (ps qs : List ℕ) (b : Bool) (r : ℕ) → b ≡ figures_out y.figures → b ≡ false
    → n ≡ min y.count 16
    → Laid y n ps qs → r ≡ plain_refusal y.count ps qs → r ≡ refusal_of y
unfolding refusal_of plain_refusal
refusal_plain y n ps qs b r p q e l t =
    t ∙ rw (← p, q, ← e, laid_high y n ps qs l) (ap (λ (k : ℕ). pick (some (position_out y) n) 5 k) later)
  where
    rest : y.count ≤ max_stations
        → ◌≡◌ {A = ℕ} (pick (some (drops_at ps) (y.count - 1)) 7 (pick (some (wrong_at qs) y.count) 8 0))
        (pick (some (falls y) (y.count - 1)) 7 (pick (some (address_wrong y) y.count) 8 0))
    rest h =
        let m : n ≡ y.count = omega arith in
        let k : Laid y y.count ps qs = rw m at l in
        rw (laid_drops y y.count ps qs k, laid_wrong y y.count ps qs k)

    later : ◌≡◌ {A = ℕ} (pick (outside y.count 2 16) 6
        (pick (some (drops_at ps) (y.count - 1)) 7 (pick (some (wrong_at qs) y.count) 8 0)))
        (pick (outside y.count 2 16) 6
        (pick (some (falls y) (y.count - 1)) 7 (pick (some (address_wrong y) y.count) 8 0)))
    later = by_test (outside y.count 2 16) (λ o. rw o) (λ o. rw o (rest (within y.count 2 16 o).1))
