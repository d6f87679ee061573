-- Spoiled symbols: the delimiter is never found; after it they are zeros, so the low bits of an octet stay, and the
-- octets behind it are 0. Assumes nothing.
use Prim.Native.Nat.{ℕ, zero, suc, ◌+◌, ◌-◌, ◌*◌, ◌/◌, ◌%◌, ◌^◌, ◌≤◌, ◌<◌, min}
use Rattle.std.specs.Prelude.{◌≡◌, Bool, false, ◌||◌, ltb, length, get_or, set, Option}
use Rattle.std.proofs.Math.Path.{refl, ap}
use Rattle.std.proofs.Common.{sym, ◌∙◌, ap₂, mod-lt, mod-eq_of_lt, lt-ltb, le-ltb, ltb-true, ltb-false, pow_mono, pow_pos, length-set, get_or-set_same}
use Rattle.std.proofs.Math.Bool.{true, or-true}
use mathlib.Core.List.{List, []}
use native.Mathlib.Omega.{arith}
use Rattle.std.proofs.lemmas.List.{set-get_or}
use Rattle.octets.specs.Base.{pick}
use Rattle.octets.specs.BaseLaws.{by_test, by_eq}
use Rattle.octets.specs.Turns.{turns, length_turns}
use Rattle.station_symbols.specs.declared.Heard.TheVariants.{Spoiled}
use Rattle.station_state.specs.declared.Receiver.TheVariants.{Listening, Readable, Seeking, Collecting}
use Rattle.station_spec.specs.declared.Stored.{Stored}
use Rattle.station_spec.specs.Receive.{stored_bit, receive, hear, seek, collect, collect_bit}
use Rattle.area.specs.Area.{octet_with, with_bit, with_octet}
use Rattle.bus_spec.specs.BitTime.{with_stored}
use Rattle.fast_plan.specs.Goes.{stored_all}
use Rattle.fast_receive.specs.Received.{Taken, taken, step_taken, heard_all, spoils}
use Rattle.fast_receive.specs.ReceivedLaws.{turns_add}
use Rattle.fast_receive.specs.Copy.{or_twice}
use Rattle.area.specs.Offsets.{area_size, from, the_buffer}
use Rattle.frame_build.specs.Limits.{buffer_octets, buffer_bits}
use Rattle.sheet_layout.specs.Limits.{max_stations}

-- octets q + 1 .. q + n of the buffer of station i are 0
unfoldable pub blanks : (i q n : ℕ) → List ℕ → List ℕ
blanks i q n x = turns (λ u y. with_octet y i (q + suc u) 0) n x

-- octet q has its low p bits alone
unfoldable pub low_kept : (i q p : ℕ) → List ℕ → List ℕ
low_kept i q p x = with_octet x i q (get_or x (from (the_buffer i) + q) 0 % 2 ^ p)

-- m zeros from bit c on, m at least 1
unfoldable pub zeroed : (i c m : ℕ) → List ℕ → List ℕ
zeroed i c m x = blanks i (c / 8) ((c + m - 1) / 8 - c / 8) (low_kept i (c / 8) (c % 8) x)

length_low : (i q p : ℕ) (x : List ℕ) → length (low_kept i q p x) ≡ length x
unfolding low_kept with_octet
length_low i q p x = length-set x _ _

length_blanks : (i q n : ℕ) (x : List ℕ) → length (blanks i q n x) ≡ length x
unfolding blanks with_octet
length_blanks i q n x = length_turns _ n x (λ u y. length-set y _ _)

-- one zero
one_zero : (i k : ℕ) (y : List ℕ) → k < buffer_bits
    → with_stored i (stored_bit k false) y ≡ with_octet y i (k / 8) (get_or y (from (the_buffer i) + k / 8) 0 % 2 ^ (k % 8))
unfolding stored_bit with_bit with_octet octet_with
one_zero i k y h =
    let o = get_or y (from (the_buffer i) + k / 8) 0 % 2 ^ (k % 8) in
    let z : o + 0 * 2 ^ (k % 8) ≡ o = omega arith in
    rw (lt-ltb k buffer_bits h) (ap (set y (from (the_buffer i) + k / 8)) z)

-- a zero on an octet that has fewer bits already changes nothing
no_change : (i q p : ℕ) (y : List ℕ) → get_or y (from (the_buffer i) + q) 0 < 2 ^ p
    → with_octet y i q (get_or y (from (the_buffer i) + q) 0 % 2 ^ p) ≡ y
unfolding with_octet
no_change i q p y h = ap (set y (from (the_buffer i) + q)) (mod-eq_of_lt h) ∙ set-get_or y (from (the_buffer i) + q) 0

-- the last octet written
last_low : (i q p s n : ℕ) (x : List ℕ) → i < max_stations → q + n < buffer_octets → area_size ≤ length x → (n ≡ 0 → p ≤ s)
    → get_or (blanks i q n (low_kept i q p x)) (from (the_buffer i) + (q + n)) 0 < 2 ^ s
unfolding blanks low_kept with_octet turns
last_low i q p s zero x hi h room le =
    let e : q + 0 ≡ q = omega arith in
    let v = get_or x (from (the_buffer i) + q) 0 % 2 ^ p in
    let g : get_or (set x (from (the_buffer i) + q) v) (from (the_buffer i) + (q + 0)) 0
    ≡ v = ap (λ (j : ℕ). get_or (set x (from (the_buffer i) + q) v) (from (the_buffer i) + j) 0) e
    ∙ get_or-set_same x (from (the_buffer i) + q) v 0 (omega arith) in
    let b : v < 2 ^ p = mod-lt (get_or x (from (the_buffer i) + q) 0) (pow_pos p) in
    omega (arith, g, b, pow_mono {i = p} {j = s} (le refl))
last_low i q p s (suc n) x hi h room le =
    let y = blanks i q n (low_kept i q p x) in
    let l : area_size ≤ length y = omega (arith, length_blanks i q n (low_kept i q p x), length_low i q p x) in
    omega (arith, get_or-set_same y (from (the_buffer i) + (q + suc n)) 0 0 (omega arith), pow_pos s)

blanks_none : (i q p : ℕ) (x : List ℕ)
    → with_octet x i q (get_or x (from (the_buffer i) + q) 0 % 2 ^ p) ≡ blanks i q 0 (low_kept i q p x)
unfolding blanks low_kept turns
blanks_none i q p x = refl

blanks_more : (i q n : ℕ) (z : List ℕ)
    → with_octet (blanks i q n z) i (q + suc n) (get_or (blanks i q n z) (from (the_buffer i) + (q + suc n)) 0 % 2 ^ 0)
    ≡ blanks i q (suc n) z
unfolding blanks turns
blanks_more i q n z =
    let e : get_or (blanks i q n z) (from (the_buffer i) + (q + suc n)) 0 % 1
    ≡ 0 = omega arith in ap (with_octet (blanks i q n z) i (q + suc n)) e

none_stored : (i : ℕ) (st : ℕ → Option Stored) (x : List ℕ) → stored_all i st 0 x ≡ x
unfolding stored_all turns
none_stored i st x = refl

-- m zeros stored one by one
pub zeros_kept : (i c m : ℕ) (x : List ℕ) → i < max_stations → area_size ≤ length x → c + suc m ≤ buffer_bits
    → stored_all i (λ s. stored_bit (c + s) false) (suc m) x ≡ zeroed i c (suc m) x
unfolding stored_all turns zeroed
zeros_kept i c zero x hi room h =
    let e : c + 0 ≡ c = omega arith in
    let n : (c + 1 - 1) / 8 - c / 8 ≡ 0 = omega arith in
    ap (λ (k : ℕ). with_stored i (stored_bit k false) x) e ∙ one_zero i c x (omega arith)
    ∙ blanks_none i (c / 8) (c % 8) x ∙ ap (λ (k : ℕ). blanks i (c / 8) k (low_kept i (c / 8) (c % 8) x)) (sym n)
zeros_kept i c (suc m) x hi room h =
    let k = c + suc m in
    let q = c / 8 in
    let z = low_kept i q (c % 8) x in
    let n = (c + suc m - 1) / 8 - q in
    let y = blanks i q n z in
    ap (with_stored i (stored_bit k false)) (zeros_kept i c m x hi room (omega arith))
    ∙ one_zero i k y (omega arith)
    ∙ by_eq (k % 8) 0
    (λ e. let a : k / 8 ≡ q + suc n = omega (arith, e) in
    let b : (c + suc (suc m) - 1) / 8 - q ≡ suc n = omega (arith, e) in
    ap₂ (λ (u p : ℕ). with_octet y i u (get_or y (from (the_buffer i) + u) 0 % 2 ^ p)) a e
    ∙ blanks_more i q n z
    ∙ ap (λ (u : ℕ). blanks i q u z) (sym b))
    (λ e. let a : k / 8 ≡ q + n = omega (arith, e) in
    let b : (c + suc (suc m) - 1) / 8 - q ≡ n = omega (arith, e) in
    ap (λ (u : ℕ). with_octet y i u (get_or y (from (the_buffer i) + u) 0 % 2 ^ (k % 8))) a
    ∙ no_change i (q + n) (k % 8) y
    (last_low i q (c % 8) (k % 8) n x hi (omega (arith, a)) room (λ g. omega (arith, g, a, e)))
    ∙ ap (λ (u : ℕ). blanks i q u z) (sym b))

-- past the largest frame nothing is kept
pub past_kept : (i c m : ℕ) (bit : ℕ → Bool) (x : List ℕ) → buffer_bits ≤ c
    → stored_all i (λ s. stored_bit (c + s) (bit s)) m x ≡ x
unfolding stored_all turns stored_bit
past_kept i c zero bit x h = refl
past_kept i c (suc m) bit x h = rw (le-ltb (c + m) buffer_bits (omega arith)) (past_kept i c m bit x h)

-- m zeros, wherever they begin and end
unfoldable pub zeroed_up_to : (i c m : ℕ) → List ℕ → List ℕ
zeroed_up_to i c m x = pick (ltb c buffer_bits) (pick (ltb 0 m) (zeroed i c (min m (buffer_bits - c)) x) x) x

none_past : (i c a b : ℕ) (y : List ℕ) → (0 < b → buffer_bits ≤ c + a)
    → turns (λ s z. with_stored i (stored_bit (c + (a + s)) false) z) b y ≡ y
unfolding turns stored_bit
none_past i c a zero y h = refl
none_past i c a (suc b) y h =
    let g : buffer_bits ≤ c + a = h (omega arith) in rw (le-ltb (c + (a + b)) buffer_bits (omega arith))
    (none_past i c a b y (λ k. g))

all_kept : (i c m : ℕ) (x : List ℕ) → i < max_stations → area_size ≤ length x → c < buffer_bits → 0 < m
    → stored_all i (λ s. stored_bit (c + s) false) m x ≡ zeroed i c (min m (buffer_bits - c)) x
unfolding stored_all
all_kept i c m x hi room h pos =
    let a = min m (buffer_bits - c) in
    let b = m - a in
    let W : ℕ → List ℕ → List ℕ = λ s y. with_stored i (stored_bit (c + s) false) y in
    let e : m ≡ a + b = omega arith in
    let f : a ≡ suc (a - 1) = omega arith in
    ap (λ (k : ℕ). turns W k x) e
    ∙ turns_add W a b x
    ∙ ap (λ (y : List ℕ). turns (λ s z. W (a + s) z) b y)
    (ap (λ (k : ℕ). turns W k x) f ∙ zeros_kept i c (a - 1) x hi room (omega arith) ∙ ap (λ (k : ℕ). zeroed i c k x)
    (sym f))
    ∙ none_past i c a b (zeroed i c a x) (λ g. omega arith)

pub zeros_stored : (i c m : ℕ) (x : List ℕ) → i < max_stations → area_size ≤ length x
    → stored_all i (λ s. stored_bit (c + s) false) m x ≡ zeroed_up_to i c m x
unfolding zeroed_up_to
zeros_stored i c m x hi room =
    by_test (ltb c buffer_bits)
    (λ p. by_test (ltb 0 m)
    (λ q. rw (p, q) (all_kept i c m x hi room (ltb-true c buffer_bits p) (ltb-true 0 m q)))
    (λ q. let z : m ≡ 0 = omega (arith, ltb-false 0 m q) in rw (p, q)
    (ap (λ (k : ℕ). stored_all i (λ s. stored_bit (c + s) false) k x) z ∙ none_stored i
    (λ s. stored_bit (c + s) false) x)))
    (λ p. rw p (past_kept i c m (λ s. false) x (ltb-false c buffer_bits p)))

-- ---- the fold

-- a reception that has no delimiter yet
seek_one : (row : ℕ) (sp own e : Bool) (j : ℕ) (x : List ℕ)
    → step_taken j (receive [] [] (Seeking row sp own) Spoiled e) x ≡ taken (Seeking 1 true (own || e)) x
unfolding step_taken receive hear seek
seek_one row sp own e j x = refl

collect_one : (c : ℕ) (sp own e : Bool) (j : ℕ) (x : List ℕ)
    → step_taken j (receive [] [] (Collecting c sp own) Spoiled e) x ≡ taken (Collecting (c + 1) true (own || e))
    (with_stored j (stored_bit c false) x)
unfolding step_taken receive hear collect collect_bit
collect_one c sp own e j x =
    ap (λ (t : Bool). taken (Collecting (c + 1) t (own || e)) (with_stored j (stored_bit c false) x)) (or-true sp)

module _ (j : ℕ) (e : Bool) (x : List ℕ) where
  sought_more : (own : Bool) (m : ℕ) (p : Taken) → heard_all j e spoils 1 p ≡ taken (Seeking 1 true (own || e)) x
      → heard_all j e spoils (suc m) p ≡ taken (Seeking 1 true (own || e)) x
  unfolding heard_all turns spoils
  sought_more own zero p h = h
  sought_more own (suc m) p h =
      ap (λ (q : Taken). step_taken j (receive [] [] q.receiver Spoiled e) q.octets) (sought_more own m p h)
      ∙ seek_one 1 true (own || e) e j x ∙ ap (λ (o : Bool). taken (Seeking 1 true o) x) (or_twice own e)

  seek_first : (row : ℕ) (sp own : Bool)
      → heard_all j e spoils 1 (taken (Seeking row sp own) x) ≡ taken (Seeking 1 true (own || e)) x
  unfolding heard_all turns spoils
  seek_first row sp own = seek_one row sp own e j x

  listen_first : heard_all j e spoils 1 (taken Listening x) ≡ taken (Seeking 1 true (false || e)) x
  unfolding heard_all turns spoils step_taken receive hear seek
  listen_first = refl

  read_first : (n : ℕ) → heard_all j e spoils 1 (taken (Readable n) x) ≡ taken (Seeking 1 true (false || e)) x
  unfolding heard_all turns spoils step_taken receive hear seek
  read_first n = refl

  pub spoiled_seeking : (row : ℕ) (sp own : Bool) (m : ℕ)
      → heard_all j e spoils (suc m) (taken (Seeking row sp own) x) ≡ taken (Seeking 1 true (own || e)) x
  spoiled_seeking row sp own m = sought_more own m (taken (Seeking row sp own) x) (seek_first row sp own)

  pub spoiled_listening : (m : ℕ) → heard_all j e spoils (suc m) (taken Listening x) ≡ taken (Seeking 1 true e) x
  spoiled_listening m = sought_more false m (taken Listening x) listen_first

  pub spoiled_readable : (n m : ℕ) → heard_all j e spoils (suc m) (taken (Readable n) x) ≡ taken (Seeking 1 true e) x
  spoiled_readable n m = sought_more false m (taken (Readable n) x) (read_first n)

  pub spoiled_collecting : (c : ℕ) (sp own : Bool) (m : ℕ)
      → heard_all j e spoils (suc m) (taken (Collecting c sp own) x) ≡ taken (Collecting (c + suc m) true (own || e))
      (stored_all j (λ s. stored_bit (c + s) false) (suc m) x)
  unfolding heard_all stored_all turns spoils
  spoiled_collecting c sp own zero =
      let z : c + 0 ≡ c = omega arith in
      collect_one c sp own e j x
      ∙ ap (λ (k : ℕ). taken (Collecting (c + 1) true (own || e)) (with_stored j (stored_bit k false) x)) (sym z)
  spoiled_collecting c sp own (suc m) =
      let z : c + suc m + 1 ≡ c + suc (suc m) = omega arith in
      let y = stored_all j (λ s. stored_bit (c + s) false) (suc m) x in
      ap (λ (q : Taken). step_taken j (receive [] [] q.receiver Spoiled e) q.octets)
      (spoiled_collecting c sp own m)
      ∙ collect_one (c + suc m) true (own || e) e j y
      ∙ ap (λ (o : Bool). taken (Collecting (c + suc m + 1) true o) (with_stored j (stored_bit (c + suc m) false) y))
      (or_twice own e)
      ∙ ap (λ (k : ℕ). taken (Collecting k true (own || e)) (with_stored j (stored_bit (c + suc m) false) y)) z
