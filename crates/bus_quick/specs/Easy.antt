-- Whether a record is the one that its state is written as, by its words; the turn of a station that rests. Assumes
-- nothing.
use Rattle.std.specs.Prelude.{ℕ, ◌+◌, ◌-◌, ◌*◌, ◌/◌, ◌≤◌, ◌<◌, ◌≡◌, Bool, false, ◌&&◌, List, [], ◌∷◌, eqb, length, get_or}
use Rattle.std.proofs.Math.Path.{refl}
use Rattle.std.proofs.Common.{sym, ◌∙◌, ap, true≢false}
use Rattle.std.proofs.Math.Bool.{true}
use native.Mathlib.Omega.{arith}
use borrow.Author.Tests.{eqb-true, leb-true, eq-eqb, ne_eqb, le-leb, lt-leb}
use Rattle.std.proofs.Math.Dec.{leb}
use Rattle.octets.specs.Base.{pick}
use Rattle.octets.specs.BaseLaws.{by_test, by_eq}
use Rattle.octets.specs.Words.{words_at}
use Rattle.octets.specs.NumberLaws.{Octets}
use Rattle.sheet_layout.specs.declared.Figures.{Figures}
use Rattle.sheet_layout.specs.Layout.{gap_of}
use Rattle.station_state.specs.State.{number_in}
use Rattle.area_record.specs.Codec.{flag, deference_of, deference_code, deference_own, deference_count, transmitter_of}
use Rattle.area_record.specs.Codec.{transmitter_code, receiver_of, receiver_code, receiver_number, receiver_spoiled}
use Rattle.area_record.specs.Codec.{receiver_own, decoded, encoded}
use Rattle.area.specs.Area.{address_at, record_at, station_at, with_word, symbol_at}
use Rattle.bus_spec.specs.declared.Events.{Events}
use Rattle.bus_spec.specs.BitTime.{act_in, turn_in, events_of, no_events}
use Rattle.bus_spec.specs.Ready.{Able}
use Rattle.bus_quick.specs.Quick.{Plain, Taken, rests_in, gaps_in, backs_in, calm_in, counted_down, both_true}
use Rattle.bus_quick.specs.Quick.{rest_taken, gap_taken, back_taken, taken_area, taken_events, left_area}
use Rattle.area.specs.Offsets.{area_size}
use Rattle.sheet_layout.specs.Limits.{max_stations}
use Rattle.area_record.specs.Words.{gap_word, phase_word, phase_number_word}

-- ---- what the code tests

-- the words of deference, transmitter and receiver are those of a state: a number that the state does not use is 0, and
-- a flag too
unfoldable pub deference_in : (c o n : ℕ) → Bool
deference_in c o n = leb c 2 && (leb o 1 && (leb o c && leb n (c / 2 * 4294967295)))

unfoldable pub transmitter_in : (c n : ℕ) → Bool
transmitter_in c n = leb c 5 && leb n (c / 2 * 4294967295)

unfoldable pub receiver_in : (c n s o : ℕ) → Bool
receiver_in c n s o = leb c 3 && (leb n (c * 4294967295) && (leb s (c / 2) && leb o (c / 2)))

unfoldable pub plain_in : List ℕ → Bool
plain_in w =
    deference_in (get_or w 0 0) (get_or w 1 0) (get_or w 2 0)
    && (transmitter_in (get_or w 3 0) (get_or w 4 0)
    && (receiver_in (get_or w 5 0) (get_or w 6 0) (get_or w 7 0) (get_or w 8 0)
    && (leb (get_or w 12 0) 1 && leb (get_or w 13 0) 1)))

-- quiet, no frame, listening or readable, nothing emitted, and the other words those of such a state
unfoldable pub bare_sum : List ℕ → ℕ
bare_sum w = get_or w 0 0 + get_or w 1 0 + get_or w 2 0 + get_or w 3 0 + get_or w 4 0 + get_or w 7 0 + get_or w 8 0 + get_or w 13 0

unfoldable pub bare_in : List ℕ → Bool
bare_in w = leb (2 * bare_sum w + get_or w 12 0) 1 && (leb (get_or w 5 0) 1 && leb (get_or w 6 0) (get_or w 5 0 * 4294967295))

-- ---- what the tests say

flag_one : (v : ℕ) → leb v 1 ≡ true → flag (eqb v 1) ≡ v
flag_one v h =
    by_eq v 1
    (λ e. rw e)
    (λ e. let z : v ≡ 0 = omega (arith, leb-true v 1 h, e) in rw z)

module _ (c o n : ℕ) where
  deference_words : deference_in c o n ≡ true
      → (deference_code (deference_of c (eqb o 1) n) ≡ c) × (flag (deference_own (deference_of c (eqb o 1) n)) ≡ o)
      × (deference_count (deference_of c (eqb o 1) n) ≡ n)
  unfolding deference_in deference_of
  deference_words h =
      let p = both_true (leb c 2) _ h in
      let q = both_true (leb o 1) _ p.1 in
      let r = both_true (leb o c) _ q.1 in
      let hc = leb-true c 2 p.0 in
      let ho = leb-true o c r.0 in
      let hn = leb-true n (c / 2 * 4294967295) r.1 in
      by_eq c 0
      (λ e. let eo : o ≡ 0 = omega arith in
      let en : n ≡ 0 = omega arith in
      rw (e, eo, en) (refl, refl, refl))
      (λ ne. by_eq c 1
      (λ e. let en : n ≡ 0 = omega arith in rw (e, en) (refl, flag_one o q.0, refl))
      (λ ne'. let e : c ≡ 2 = omega (arith, ne, ne') in rw e (refl, flag_one o q.0, refl)))

three : (c : ℕ) → (c ≡ 0 → ⊥) → (c ≡ 1 → ⊥) → (c ≡ 2 → ⊥) → 3 ≤ c
three c p q r = omega (arith, p, q, r)

no_code : (c : ℕ) → 3 ≤ c → c ≤ 5 → (c ≡ 3 → ⊥) → (c ≡ 4 → ⊥) → (c ≡ 5 → ⊥) → ⊥
no_code c h g p q r = omega (arith, p, q, r)

module _ (c n : ℕ) where
  transmitter_words : transmitter_in c n ≡ true
      → (transmitter_code (transmitter_of c n) ≡ c) × (number_in (transmitter_of c n) ≡ n)
  unfolding transmitter_in transmitter_of
  transmitter_words h =
      let p = both_true (leb c 5) _ h in
      let hn = leb-true n (c / 2 * 4294967295) p.1 in
      by_eq c 0
      (λ e. let en : n ≡ 0 = omega arith in rw (e, en) (refl, refl))
      (λ n₀. by_eq c 1
      (λ e. let en : n ≡ 0 = omega arith in rw (e, en) (refl, refl))
      (λ n₁. by_eq c 2
      (λ e. rw e (refl, refl))
      (λ n₂. by_eq c 3
      (λ e. rw e (refl, refl))
      (λ n₃. by_eq c 4
      (λ e. rw e (refl, refl))
      (λ n₄. by_eq c 5
      (λ e. rw e (refl, refl))
      (λ n₅. absurd (no_code c (three c n₀ n₁ n₂) (leb-true c 5 p.0) n₃ n₄ n₅)))))))

module _ (c n s o : ℕ) where
  receiver_words : receiver_in c n s o ≡ true
      → (receiver_code (receiver_of c n (eqb s 1) (eqb o 1)) ≡ c)
      × (receiver_number (receiver_of c n (eqb s 1) (eqb o 1)) ≡ n)
      × (flag (receiver_spoiled (receiver_of c n (eqb s 1) (eqb o 1))) ≡ s)
      × (flag (receiver_own (receiver_of c n (eqb s 1) (eqb o 1))) ≡ o)
  unfolding receiver_in receiver_of
  receiver_words h =
      let p = both_true (leb c 3) _ h in
      let q = both_true (leb n (c * 4294967295)) _ p.1 in
      let r = both_true (leb s (c / 2)) _ q.1 in
      let hc = leb-true c 3 p.0 in
      let hn = leb-true n (c * 4294967295) q.0 in
      let hs = leb-true s (c / 2) r.0 in
      let ho = leb-true o (c / 2) r.1 in
      let ls : leb s 1 ≡ true = le-leb s 1 (omega arith) in
      let lo : leb o 1 ≡ true = le-leb o 1 (omega arith) in
      by_eq c 0
      (λ e. let en : n ≡ 0 = omega arith in
      let es : s ≡ 0 = omega arith in
      let eo : o ≡ 0 = omega arith in
      rw (e, en, es, eo) (refl, refl, refl, refl))
      (λ n₀. by_eq c 1
      (λ e. let es : s ≡ 0 = omega arith in
      let eo : o ≡ 0 = omega arith in
      rw (e, es, eo) (refl, refl, refl, refl))
      (λ n₁. by_eq c 2
      (λ e. rw e (refl, refl, flag_one s ls, flag_one o lo))
      (λ n₂. let e : c ≡ 3 = omega (arith, n₀, n₁, n₂) in rw e (refl, refl, flag_one s ls, flag_one o lo))))

-- the record of a state is these words
module _ (w₀ w₁ w₂ w₃ w₄ w₅ w₆ w₇ w₈ w₉ w₁₀ w₁₁ w₁₂ w₁₃ : ℕ) (ad : List ℕ) where
  row : List ℕ
  row = w₀ ∷ w₁ ∷ w₂ ∷ w₃ ∷ w₄ ∷ w₅ ∷ w₆ ∷ w₇ ∷ w₈ ∷ w₉ ∷ w₁₀ ∷ w₁₁ ∷ w₁₂ ∷ w₁₃ ∷ []

  row_back : plain_in row ≡ true → encoded (decoded row ad) ≡ row
  unfolding plain_in encoded decoded row
  row_back h =
      let p = both_true (deference_in w₀ w₁ w₂) _ h in
      let q = both_true (transmitter_in w₃ w₄) _ p.1 in
      let r = both_true (receiver_in w₅ w₆ w₇ w₈) _ q.1 in
      let u = both_true (leb w₁₂ 1) _ r.1 in
      let d = deference_words w₀ w₁ w₂ p.0 in
      let x = transmitter_words w₃ w₄ q.0 in
      let y = receiver_words w₅ w₆ w₇ w₈ r.0 in
      rw (d.0, d.1, d.2, x.0, x.1, y.0, y.1, y.2, y.3, flag_one w₁₂ u.0, flag_one w₁₃ u.1)

pub plain_found : (a : List ℕ) (i : ℕ) (b : Bool) → b ≡ plain_in (record_at a i) → b ≡ true → Plain a i
unfolding Plain station_at record_at words_at row
plain_found a i b e h = row_back _ _ _ _ _ _ _ _ _ _ _ _ _ _ (address_at a i) (sym e ∙ h)

-- ---- a turn at rest, where nothing arrives

-- each of the words is 0
sum_zero : (s a b c d e g h k : ℕ) → s ≡ a + b + c + d + e + g + h + k → s ≡ 0
    → (a ≡ 0) × (b ≡ 0) × (c ≡ 0) × (d ≡ 0) × (e ≡ 0) × (g ≡ 0) × (h ≡ 0) × (k ≡ 0)
sum_zero s a b c d e g h k p q =
    (omega arith, omega arith, omega arith, omega arith, omega arith, omega arith, omega arith, omega arith)

-- a record with these words is plain, and its station rests
bare_zero : (w : List ℕ) → get_or w 0 0 ≡ 0 → get_or w 1 0 ≡ 0 → get_or w 2 0 ≡ 0 → get_or w 3 0 ≡ 0 → get_or w 4 0 ≡ 0
    → get_or w 7 0 ≡ 0 → get_or w 8 0 ≡ 0 → get_or w 13 0 ≡ 0 → leb (get_or w 12 0) 1 ≡ true
    → leb (get_or w 6 0) (get_or w 5 0 * 4294967295) ≡ true → leb (get_or w 5 0) 1 ≡ true → leb (get_or w 5 0) 3 ≡ true
    → (plain_in w ≡ true) × (rests_in w ≡ true)
unfolding plain_in rests_in deference_in transmitter_in receiver_in
bare_zero w e₀ e₁ e₂ e₃ e₄ e₇ e₈ e₁₃ h₁₂ h₆ h₅ g₅ =
    rw (e₀, e₁, e₂, e₃, e₄, e₇, e₈, e₁₃, h₁₂, h₆, h₅, g₅, le-leb 0 (get_or w 5 0 / 2) (omega arith)) (refl, refl)

bare_rests : (w : List ℕ) → bare_in w ≡ true → (plain_in w ≡ true) × (rests_in w ≡ true)
unfolding bare_in bare_sum
bare_rests w h =
    let p = both_true (leb (2 * bare_sum w + get_or w 12 0) 1) _ h in
    let r = both_true (leb (get_or w 5 0) 1) _ p.1 in
    let m = leb-true (2 * bare_sum w + get_or w 12 0) 1 p.0 in
    let v = sum_zero (bare_sum w) _ _ _ _ _ _ _ _ refl (omega arith) in
    bare_zero w v.0 v.1 v.2 v.3 v.4 v.5 v.6 v.7 (le-leb (get_or w 12 0) 1 (omega arith)) r.1
    r.0 (le-leb (get_or w 5 0) 3 (omega (arith, leb-true (get_or w 5 0) 1 r.0)))

module _ (f : Figures) (d n t i : ℕ) (x : List ℕ) (hi : i < max_stations) (room : area_size ≤ length x)
    (s : symbol_at x i t ≡ 0) where
  rest_now : (b : Bool) → b ≡ bare_in (record_at x i) → b ≡ true → Octets x → Taken f d n t i x x true
  rest_now b e h o =
      let p = bare_rests (record_at x i) (sym e ∙ h) in
      rest_taken f d n t i x hi room o (plain_found x i true (sym p.0) refl) true s (sym p.1) refl

  rest_turn : (b : Bool) → b ≡ bare_in (record_at x i) → b ≡ true → Octets x → x ≡ turn_in f d n t i x
  rest_turn b e h o = taken_area f d n t i x x true (rest_now b e h o) refl

  rest_events : (b : Bool) → b ≡ bare_in (record_at x i) → b ≡ true → Octets x → no_events ≡ events_of (act_in f d t x i)
  rest_events b e h o = sym (taken_events f d n t i x x true (rest_now b e h o) refl)

  -- with the tests as the code has made them
  module _ (o : Octets x) (plain : Plain x i) where
    pub gap_now : (g : Bool) (m c : ℕ) (z y : List ℕ) → gaps_in (record_at x i) ≡ true → y ≡ with_word z i 2 (m + 1)
        → z ≡ counted_down i c (get_or (record_at x i) phase_number_word 0) x
        → g ≡ calm_in (record_at x i) → g ≡ true → c ≡ get_or (record_at x i) phase_word 0 → m < f.gap1 + f.gap2
        → f.gap1 + f.gap2 < 65536 → m ≡ get_or (record_at x i) gap_word 0 → Taken f d n t i x y true
    unfolding gap_of
    gap_now g m c z y hb ey ez eg hg ec below small em =
        gap_taken f d n t i x hi room o plain z y s hb (sym eg ∙ hg) (omega arith) (omega arith) (ez ∙ rw ec)
        (ey ∙ rw em)

    pub back_now : (k : ℕ) (y : List ℕ) → backs_in (record_at x i) ≡ true → y ≡ with_word x i 4 (k - 1) → 1 < k
        → k ≡ get_or (record_at x i) phase_number_word 0 → Taken f d n t i x y true
    back_now k y hb ey more ek = back_taken f d n t i x hi room o plain y s hb (omega arith) (ey ∙ rw ek)

-- ---- what a turn asks for

pub able_gap : (f : Figures) (x : List ℕ) (i : ℕ) → Able f x i → f.gap1 + f.gap2 < 65536
unfolding Able
able_gap f x i v = v.room.gap

pub nothing_here : (x : List ℕ) (i t c : ℕ) → c ≡ symbol_at x i t → c ≡ 0 → symbol_at x i t ≡ 0
nothing_here x i t c e z = sym e ∙ z

-- ---- a station that rests leaves the area as it is

module _ (f : Figures) (d n t i : ℕ) (x : List ℕ) (hi : i < max_stations) (room : area_size ≤ length x) (b : Bool)
    (c : ℕ) where
  pub rests_area : b ≡ bare_in (record_at x i) → b ≡ true → Octets x → c ≡ 0 → c ≡ symbol_at x i t → x ≡ turn_in f d n t i x
  rests_area e h o z s = rest_turn f d n t i x hi room (sym s ∙ z) b e h o

  pub rests_events : (y : Events) → y ≡ no_events → b ≡ bare_in (record_at x i) → b ≡ true → Octets x → c ≡ 0
      → c ≡ symbol_at x i t → y ≡ events_of (act_in f d t x i)
  rests_events y p e h o z s = p ∙ rest_events f d n t i x hi room (sym s ∙ z) b e h o

-- ---- a turn taken, or still to be taken

module _ (f : Figures) (d n t i : ℕ) (x b : List ℕ) (r : Bool) (h : Taken f d n t i x b r) where
  pub no_events_lem : (y : Events) → y ≡ no_events → r ≡ true → y ≡ events_of (act_in f d t x i)
  no_events_lem y p e = p ∙ sym (taken_events f d n t i x b r h e)

  pub still_able : r ≡ false → Able f x i → Able f b i
  still_able e v = rw (left_area f d n t i x b r h e) v

  pub still_turn : (y : List ℕ) → r ≡ false → y ≡ turn_in f d n t i b → y ≡ turn_in f d n t i x
  still_turn y e p = p ∙ ap (turn_in f d n t i) (left_area f d n t i x b r h e)

  pub still_events : (y : Events) → r ≡ false → y ≡ events_of (act_in f d t b i) → y ≡ events_of (act_in f d t x i)
  still_events y e p = p ∙ ap (λ (l : List ℕ). events_of (act_in f d t l i)) (left_area f d n t i x b r h e)

-- ---- the code

pub deference_in_lem : (c o n : ℕ) (b x y : Bool) → b ≡ (leb c 2 && x) → x ≡ (leb o 1 && y)
    → y ≡ (leb o c && leb n (c / 2 * 4294967295)) → b ≡ deference_in c o n
unfolding deference_in
deference_in_lem c o n b x y p q r = p ∙ rw (q, r)

pub transmitter_in_lem : (c n : ℕ) (b : Bool) → b ≡ (leb c 5 && leb n (c / 2 * 4294967295)) → b ≡ transmitter_in c n
unfolding transmitter_in
transmitter_in_lem c n b p = p

pub receiver_in_lem : (c n s o : ℕ) (b x y : Bool) → b ≡ (leb c 3 && x) → x ≡ (leb n (c * 4294967295) && y)
    → y ≡ (leb s (c / 2) && leb o (c / 2)) → b ≡ receiver_in c n s o
unfolding receiver_in
receiver_in_lem c n s o b x y p q r = p ∙ rw (q, r)

pub plain_is : (w : List ℕ) (b x y d q r g : Bool) (w₀ w₁ w₂ w₃ w₄ w₅ w₆ w₇ w₈ w₁₂ w₁₃ : ℕ)
    → b ≡ (d && x) → x ≡ (q && y) → y ≡ (r && g) → g ≡ (leb w₁₂ 1 && leb w₁₃ 1) → w₁₃ ≡ get_or w 13 0 → w₁₂ ≡ get_or w 12 0
    → r ≡ receiver_in w₅ w₆ w₇ w₈ → w₈ ≡ get_or w 8 0 → w₇ ≡ get_or w 7 0 → w₆ ≡ get_or w 6 0 → w₅ ≡ get_or w 5 0
    → q ≡ transmitter_in w₃ w₄ → w₄ ≡ get_or w 4 0 → w₃ ≡ get_or w 3 0
    → d ≡ deference_in w₀ w₁ w₂ → w₂ ≡ get_or w 2 0 → w₁ ≡ get_or w 1 0 → w₀ ≡ get_or w 0 0
    → b ≡ plain_in w
unfolding plain_in
plain_is w b x y d q r g w₀ w₁ w₂ w₃ w₄ w₅ w₆ w₇ w₈ w₁₂ w₁₃ eb ex ey eg e₁₃ e₁₂ er e₈ e₇ e₆ e₅ eq e₄ e₃ ed e₂ e₁ e₀ =
    eb ∙ rw (ex, ey, eg, e₁₃, e₁₂, er, e₈, e₇, e₆, e₅, eq, e₄, e₃, ed, e₂, e₁, e₀)

pub sum_is : (w : List ℕ) (w₀ w₁ w₂ w₃ w₄ w₇ w₈ w₁₃ : ℕ)
    → w₀ ≡ get_or w 0 0 → w₁ ≡ get_or w 1 0 → w₂ ≡ get_or w 2 0 → w₃ ≡ get_or w 3 0 → w₄ ≡ get_or w 4 0 → w₇ ≡ get_or w 7 0
    → w₈ ≡ get_or w 8 0 → w₁₃ ≡ get_or w 13 0
    → w₁₃ + w₈ + w₇ + (w₄ + w₃) + (w₂ + w₁ + w₀) ≡ bare_sum w
unfolding bare_sum
sum_is w w₀ w₁ w₂ w₃ w₄ w₇ w₈ w₁₃ e₀ e₁ e₂ e₃ e₄ e₇ e₈ e₁₃ = omega arith

pub bare_is : (w : List ℕ) (b x : Bool) (s c n v : ℕ) → b ≡ (leb (2 * s + v) 1 && x)
    → x ≡ (leb c 1 && leb n (c * 4294967295)) → n ≡ get_or w 6 0 → c ≡ get_or w 5 0 → v ≡ get_or w 12 0 → s ≡ bare_sum w
    → b ≡ bare_in w
unfolding bare_in
bare_is w b x s c n v p q en ec ev es = p ∙ rw (q, en, ec, ev, es)
