-- Collected bits: a frame's bits, stored one after the other, leave the frame, whatever the buffer held. Assumes
-- nothing.
use Rattle.std.specs.Prelude.{ℕ, zero, suc, ◌+◌, ◌*◌, ◌/◌, ◌%◌, ◌^◌, ◌≤◌, ◌<◌, ◌≡◌, List, eqb, length, get_or, take}
use Rattle.std.proofs.Common.{◌∙◌, arith, mod-eq_of_lt, get_or-take, ext_get_or, length-take-le}
use Rattle.std.proofs.Math.Path.{ap}
use Rattle.std.proofs.Math.Nat.{mod-mod}
use Rattle.std.proofs.lemmas.Nat.{mod-pow-add}
use Rattle.std.proofs.Math.ListN.{length-set}
use Rattle.std.proofs.Math.Seq.{get_or-set_same, get_or-set_other}
use Rattle.octets.specs.Bits.{digit}
use Rattle.octets.specs.BitsLaws.{octet_bit}
use Rattle.octets.specs.BaseLaws.{by_eq}
use Rattle.octets.specs.NumberLaws.{Octets}
use Rattle.station_symbols.specs.Packet.{frame_bit}
use Rattle.area.specs.Area.{octet_with}
use Rattle.bus_spec.specs.After.{stored_in}
use Rattle.station_spec.specs.Receive.{storing}

-- the buffer b after the first n bits of F
unfoldable pub collected : List ℕ → List ℕ → ℕ → List ℕ
collected b F zero = b
collected b F (suc n) = stored_in (collected b F n) (storing n (frame_bit F n))

-- The first n bits in b are those of F: whole octets, and the low bits of the next one.
pub record Filled (F : List ℕ) (n : ℕ) (b : List ℕ) : Type 0 where
  pub room : length F ≤ length b
  pub whole : (q : ℕ) → q < n / 8 → get_or b q 0 ≡ get_or F q 0
  pub part : get_or b (n / 8) 0 % 2 ^ (n % 8) ≡ get_or F (n / 8) 0 % 2 ^ (n % 8)

-- none
pub filled_none : (F b : List ℕ) → length F ≤ length b → Filled F 0 b
filled_none F b h = record { room = h; whole = λ q l. absurd (omega arith); part = omega arith }

-- ---- one bit more

digit_of : (x : ℕ) → digit (eqb (x % 2) 1) ≡ x % 2
digit_of x = by_eq (x % 2) 1 (λ e. rw e) (λ e. let z : x % 2 ≡ 0 = omega (arith, e) in rw z)

-- the octet f up to its bit p
octet_more : (x f p : ℕ) → x % 2 ^ p ≡ f % 2 ^ p → octet_with x p (eqb (f / 2 ^ p % 2) 1) ≡ f % 2 ^ (1 + p)
unfolding octet_with
octet_more x f p e = rw (e, digit_of (f / 2 ^ p), mod-pow-add f 1 p) (omega arith)

-- bit n of F, by its octet
bit_is : (F : List ℕ) (n : ℕ) → n / 8 < length F → frame_bit F n ≡ eqb (get_or F (n / 8) 0 / 2 ^ (n % 8) % 2) 1
unfolding frame_bit
bit_is F n h = octet_bit F n h

module _ (F : List ℕ) (o : Octets F) (n : ℕ) (b : List ℕ) (v : Filled F n b) (h : n < 8 * length F) where
  next : List ℕ
  next = stored_in b (storing n (frame_bit F n))

  next_octet : get_or next (n / 8) 0 ≡ get_or F (n / 8) 0 % 2 ^ (1 + n % 8)
  unfolding next
  next_octet =
      get_or-set_same b (n / 8) _ 0 (omega (arith, v.room))
      ∙ ap (octet_with (get_or b (n / 8) 0) (n % 8)) (bit_is F n (omega arith))
      ∙ octet_more (get_or b (n / 8) 0) (get_or F (n / 8) 0) (n % 8) v.part

  next_other : (q : ℕ) → (q ≡ n / 8 → ⊥) → get_or next q 0 ≡ get_or b q 0
  unfolding next
  next_other q ne = get_or-set_other b (n / 8) q _ 0 ne

  next_room : length F ≤ length next
  unfolding next
  next_room = omega (arith, v.room, length-set b (n / 8) (octet_with (get_or b (n / 8) 0) (n % 8) (frame_bit F n)))

  small : get_or F (n / 8) 0 < 256
  unfolding Octets
  small = o (n / 8)

  -- it ends an octet
  last_bit : n % 8 ≡ 7 → Filled F (suc n) next
  last_bit e =
      let q : suc n / 8 ≡ suc (n / 8) = omega arith in
      let p : suc n % 8 ≡ 0 = omega arith in
      let w : get_or next (n / 8) 0 ≡ get_or F (n / 8) 0 = next_octet ∙ ap (λ (k : ℕ). get_or F (n / 8) 0 % 2 ^ (1 + k)) e
      ∙ mod-eq_of_lt small in
      record {
        room = next_room;
        whole = λ k l. by_eq k (n / 8) (λ z. rw z w) (λ z. next_other k z ∙ v.whole k (omega (arith, z)));
        part = rw p (omega arith);
      }

  -- it does not
  inner_bit : (n % 8 ≡ 7 → ⊥) → Filled F (suc n) next
  inner_bit ne =
      let q : suc n / 8 ≡ n / 8 = omega (arith, ne) in
      let p : suc n % 8 ≡ 1 + n % 8 = omega (arith, ne) in
      record {
        room = next_room;
        whole = λ k l. next_other k (λ z. omega arith) ∙ v.whole k (omega arith);
        part =
            rw (q, p) (ap (λ (x : ℕ). x % 2 ^ (1 + n % 8)) next_octet ∙ mod-mod (get_or F (n / 8) 0) (2 ^ (1 + n % 8)));
      }

  -- One bit more is stored.
  pub filled_more : Filled F (suc n) (stored_in b (storing n (frame_bit F n)))
  unfolding next
  filled_more = by_eq (n % 8) 7 last_bit inner_bit

-- All of them: the frame.
pub filled_all : (F b : List ℕ) → Filled F (8 * length F) b → take (length F) b ≡ F
filled_all F b v =
    let e : length (take (length F) b) ≡ length F = length-take-le (length F) b v.room in
    ext_get_or 0 (take (length F) b) F e
    (λ i p. let q : i < length F = omega arith in get_or-take (length F) b i 0 q ∙ v.whole i (omega arith))

filled_collected : (F b : List ℕ) → Octets F → length F ≤ length b → (n : ℕ) → n ≤ 8 * length F
    → Filled F n (collected b F n)
unfolding collected
filled_collected F b o h zero l = filled_none F b h
filled_collected F b o h (suc n) l =
    filled_more F o n (collected b F n) (filled_collected F b o h n (omega arith)) (omega arith)

-- A frame's bits, stored in a row into a buffer with room for it, leave the frame in front.
pub collects : (F b : List ℕ) → Octets F → length F ≤ length b → take (length F) (collected b F (8 * length F)) ≡ F
collects F b o h = filled_all F (collected b F (8 * length F)) (filled_collected F b o h (8 * length F) (omega arith))
