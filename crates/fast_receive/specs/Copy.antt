-- Clean bits that are collected: one by one they are the fold; eight from a whole octet on are an octet of the frame.
-- Assumes nothing.
use Prim.Native.Nat.{ℕ, zero, suc, ◌+◌, ◌-◌, ◌*◌, ◌/◌, ◌%◌, ◌^◌, ◌≤◌, ◌<◌}
use Rattle.std.specs.Prelude.{◌≡◌, refl, Bool, true, false, ◌||◌, eqb, length, get_or, Option}
use Rattle.std.proofs.Common.{sym, ◌∙◌, lt-ltb, length-set, get_or-set_same}
use Rattle.std.proofs.Math.Path.{ap}
use Rattle.std.proofs.Math.Bool.{or-false}
use mathlib.Core.List.{List, []}
use native.Mathlib.Omega.{arith}
use Rattle.std.proofs.Math.ListN.{set}
use Rattle.std.proofs.Math.Seq.{set-set}
use Rattle.octets.specs.Bits.{digit}
use Rattle.octets.specs.Turns.{turns, length_turns}
use Rattle.station_symbols.specs.declared.Heard.TheVariants.{Clean}
use Rattle.station_symbols.specs.Packet.{frame_bit, packet_bit}
use Rattle.station_symbols.specs.PacketLaws.{frame_bit_lem, bit_of_frame}
use Rattle.station_state.specs.declared.Receiver.TheVariants.{Collecting}
use Rattle.station_spec.specs.declared.Stored.{Stored}
use Rattle.station_spec.specs.Receive.{stored_bit, receive, hear, collect, collect_bit}
use Rattle.area.specs.Area.{octet_with, with_bit, with_octet}
use Rattle.bus_spec.specs.BitTime.{with_stored}
use Rattle.fast_plan.specs.Goes.{stored_all}
use Rattle.fast_receive.specs.Received.{Taken, taken, step_taken, heard_all, bits_from, copied}
use Rattle.fast_receive.specs.ReceivedLaws.{turns_add}
use Rattle.area.specs.Offsets.{area_size, from, the_buffer}
use Rattle.frame_build.specs.Limits.{buffer_octets, buffer_bits}
use Rattle.sheet_layout.specs.Limits.{max_stations}

-- ---- one octet

digit_is : (w : ℕ) → w < 2 → digit (eqb w 1) ≡ w
digit_is zero h = refl
digit_is (suc zero) h = refl
digit_is (suc (suc w)) h = absurd (omega arith)

-- one bit more of v
grown : (m v : ℕ) → m < 8 → (v % 2 ^ m) % 2 ^ m + (v / 2 ^ m % 2) * 2 ^ m ≡ v % 2 ^ (suc m)
grown zero v h = omega arith
grown (suc zero) v h = omega arith
grown (suc (suc zero)) v h = omega arith
grown (suc (suc (suc zero))) v h = omega arith
grown (suc (suc (suc (suc zero)))) v h = omega arith
grown (suc (suc (suc (suc (suc zero))))) v h = omega arith
grown (suc (suc (suc (suc (suc (suc zero)))))) v h = omega arith
grown (suc (suc (suc (suc (suc (suc (suc zero))))))) v h = omega arith
grown (suc (suc (suc (suc (suc (suc (suc (suc m)))))))) v h = absurd (omega arith)

first_bit : (o v : ℕ) → o % 2 ^ 0 + (v / 2 ^ 0 % 2) * 2 ^ 0 ≡ v % 2 ^ 1
first_bit o v = omega arith

module _ (i q : ℕ) (x : List ℕ) (hi : i < max_stations) (hq : q < buffer_octets) (room : area_size ≤ length x) (v : ℕ)
    (small : v < 256) (bit : ℕ → Bool) (is : (s : ℕ) → s < 8 → bit s ≡ eqb (v / 2 ^ s % 2) 1) where
  abbrev pub st : ℕ → Option Stored
  st s = stored_bit (8 * q + s) (bit s)

  one_bit : (s : ℕ) (y : List ℕ) → s < 8
      → with_stored i (st s) y ≡ with_octet y i q
      (octet_with (get_or y (from (the_buffer i) + q) 0) s (eqb (v / 2 ^ s % 2) 1))
  unfolding stored_bit with_bit with_octet
  one_bit s y h =
      let e : (8 * q + s) / 8 ≡ q = omega arith in
      let m : (8 * q + s) % 8 ≡ s = omega arith in
      rw (lt-ltb (8 * q + s) buffer_bits (omega arith), e, m, is s h)

  low_bits : (m : ℕ) → suc m ≤ 8 → stored_all i st (suc m) x ≡ with_octet x i q (v % 2 ^ (suc m))
  unfolding stored_all turns with_octet octet_with
  low_bits zero h =
      one_bit 0 x h
      ∙ ap (λ (w : ℕ). set x (from (the_buffer i) + q) (get_or x (from (the_buffer i) + q) 0 % 2 ^ 0 + w * 2 ^ 0))
      (digit_is (v / 2 ^ 0 % 2) (omega arith))
      ∙ ap (set x (from (the_buffer i) + q)) (first_bit (get_or x (from (the_buffer i) + q) 0) v)
  low_bits (suc m) h =
      let at = from (the_buffer i) + q in
      let w = v % 2 ^ (suc m) in
      let y = set x at w in
      ap (with_stored i (st (suc m))) (low_bits m (omega arith))
      ∙ one_bit (suc m) y h
      ∙ ap (λ (o : ℕ). set y at (o % 2 ^ (suc m) + digit (eqb (v / 2 ^ (suc m) % 2) 1) * 2 ^ (suc m)))
      (get_or-set_same x at w 0 (omega arith))
      ∙ ap (λ (z : ℕ). set y at (w % 2 ^ (suc m) + z * 2 ^ (suc m))) (digit_is (v / 2 ^ (suc m) % 2) (omega arith))
      ∙ ap (set y at) (grown (suc m) v h)
      ∙ set-set x at w (v % 2 ^ (suc (suc m)))

  pub eight_bits : stored_all i st 8 x ≡ with_octet x i q v
  eight_bits = let e : v % 2 ^ 8 ≡ v = omega arith in low_bits 7 (omega arith) ∙ ap (with_octet x i q) e

-- ---- an octet of a frame, and many

frame_octet : (F : List ℕ) (p s : ℕ) → s < 8 → p < length F
    → packet_bit F (65 + (8 * p + s)) ≡ eqb (get_or F p 0 / 2 ^ s % 2) 1
frame_octet F p s h hp =
    let e : 65 + (8 * p + s) - 65 ≡ 8 * p + s = omega arith in
    let d : (8 * p + s) / 8 ≡ p = omega arith in
    let m : (8 * p + s) % 8 ≡ s = omega arith in
    sym (bit_of_frame F (65 + (8 * p + s)) (frame_bit F (8 * p + s)) (omega arith) (ap (frame_bit F) (sym e)))
    ∙ sym (frame_bit_lem F (8 * p + s) (get_or F p 0) (ap (λ (k : ℕ). get_or F k 0) (sym d)) (omega arith))
    ∙ ap (λ (k : ℕ). eqb (get_or F p 0 / 2 ^ k % 2) 1) m

length_copied : (j q p m : ℕ) (F x : List ℕ) → length (copied j q p m F x) ≡ length x
unfolding copied with_octet
length_copied j q p m F x = length_turns _ m x (λ u y. length-set y _ _)

pub copied_bits : (j q p m : ℕ) (F x : List ℕ) → j < max_stations → area_size ≤ length x → q + m ≤ buffer_octets
    → p + m ≤ length F
    → ((k : ℕ) → get_or F k 0 < 256)
    → stored_all j (λ s. stored_bit (8 * q + s) (packet_bit F (65 + (8 * p + s)))) (8 * m) x ≡ copied j q p m F x
unfolding stored_all turns copied
copied_bits j q p zero F x hj room h g o = refl
copied_bits j q p (suc m) F x hj room h g o =
    let W : ℕ → List ℕ → List ℕ = λ s y. with_stored j (stored_bit (8 * q + s) (packet_bit F (65 + (8 * p + s)))) y in
    let y = copied j q p m F x in
    let e : 8 * suc m ≡ 8 * m + 8 = omega arith in
    ap (λ (k : ℕ). turns W k x) e
    ∙ turns_add W (8 * m) 8 x
    ∙ ap (turns (λ s z. W (8 * m + s) z) 8) (copied_bits j q p m F x hj room (omega arith) (omega arith) o)
    ∙ shifted y
    ∙ eight_bits j (q + m) y hj (omega arith) (omega (arith, length_copied j q p m F x)) (get_or F (p + m) 0) (o (p + m))
    (λ s. packet_bit F (65 + (8 * (p + m) + s))) (λ s l. frame_octet F (p + m) s l (omega arith))
  where
    shifted : (y : List ℕ)
        → turns (λ s z. with_stored j (stored_bit (8 * q + (8 * m + s)) (packet_bit F (65 + (8 * p + (8 * m + s))))) z) 8 y
        ≡ turns (λ s z. with_stored j (stored_bit (8 * (q + m) + s) (packet_bit F (65 + (8 * (p + m) + s)))) z) 8 y
    shifted y =
        let e : (s : ℕ) → 8 * q + (8 * m + s) ≡ 8 * (q + m) + s = λ s. omega arith in
        let d : (s : ℕ) → 8 * p + (8 * m + s) ≡ 8 * (p + m) + s = λ s. omega arith in
        ap (λ (g : ℕ → ℕ). turns (λ s z. with_stored j (stored_bit (g s) (packet_bit F (65 + (8 * p + (8 * m + s))))) z) 8
        y) (λ t s. e s t)
        ∙ ap (λ (g : ℕ → ℕ). turns (λ s z. with_stored j (stored_bit (8 * (q + m) + s) (packet_bit F (65 + g s))) z) 8 y)
        (λ t s. d s t)

-- ---- clean bits after the delimiter

pub or_twice : (a b : Bool) → ((a || b) || b) ≡ (a || b)
or_twice true b = refl
or_twice false true = refl
or_twice false false = refl

collect_one : (c : ℕ) (sp own b e : Bool) (j : ℕ) (x : List ℕ)
    → step_taken j (receive [] [] (Collecting c sp own) (Clean b) e) x ≡ taken (Collecting (c + 1) sp (own || e))
    (with_stored j (stored_bit c b) x)
unfolding step_taken receive hear collect collect_bit
collect_one c sp own b e j x =
    ap (λ (t : Bool). taken (Collecting (c + 1) t (own || e)) (with_stored j (stored_bit c b) x)) (or-false sp)

module _ (j : ℕ) (e : Bool) (bit : ℕ → Bool) (c : ℕ) (sp own : Bool) (x : List ℕ) where
  pub collect_clean : (m : ℕ)
      → heard_all j e (λ s. Clean (bit s)) (suc m) (taken (Collecting c sp own) x) ≡ taken
      (Collecting (c + suc m) sp (own || e)) (stored_all j (λ s. stored_bit (c + s) (bit s)) (suc m) x)
  unfolding heard_all stored_all turns
  collect_clean zero =
      let z : c + 0 ≡ c = omega arith in
      collect_one c sp own (bit 0) e j x
      ∙ ap (λ (k : ℕ). taken (Collecting (c + 1) sp (own || e)) (with_stored j (stored_bit k (bit 0)) x)) (sym z)
  collect_clean (suc m) =
      let z : c + suc m + 1 ≡ c + suc (suc m) = omega arith in
      let y = stored_all j (λ s. stored_bit (c + s) (bit s)) (suc m) x in
      ap (λ (q : Taken). step_taken j (receive [] [] q.receiver (Clean (bit (suc m))) e) q.octets)
      (collect_clean m)
      ∙ collect_one (c + suc m) sp (own || e) (bit (suc m)) e j y
      ∙ ap (λ (o : Bool). taken (Collecting (c + suc m + 1) sp o)
      (with_stored j (stored_bit (c + suc m) (bit (suc m))) y)) (or_twice own e)
      ∙ ap (λ (k : ℕ). taken (Collecting k sp (own || e)) (with_stored j (stored_bit (c + suc m) (bit (suc m))) y)) z

-- whole octets of a packet: collected bit c and packet bit a both begin one
pub octets_copied : (j : ℕ) (e : Bool) (F : List ℕ) (c a q p n : ℕ) (sp own : Bool) (x : List ℕ) → j < max_stations
    → area_size ≤ length x → ((k : ℕ) → get_or F k 0 < 256) → c ≡ 8 * q → a ≡ 65 + 8 * p → 0 < n → q + n ≤ buffer_octets
    → p + n ≤ length F
    → heard_all j e (bits_from F a) (8 * n) (taken (Collecting c sp own) x) ≡ taken (Collecting (c + 8 * n) sp (own || e))
    (copied j q p n F x)
unfolding bits_from
octets_copied j e F c a q p n sp own x hj room o u v pos h g =
    let z : 8 * n ≡ suc (8 * n - 1) = omega arith in
    let w : (s : ℕ) → a + s ≡ 65 + (8 * p + s) = λ s. omega (arith, v) in
    ap (λ (k : ℕ). heard_all j e (λ s. Clean (packet_bit F (a + s))) k (taken (Collecting c sp own) x)) z
    ∙ collect_clean j e (λ s. packet_bit F (a + s)) c sp own x (8 * n - 1)
    ∙ ap (λ (k : ℕ). taken (Collecting (c + k) sp (own || e))
    (stored_all j (λ s. stored_bit (c + s) (packet_bit F (a + s))) k x)) (sym z)
    ∙ ap (λ (f : ℕ → ℕ). taken (Collecting (c + 8 * n) sp (own || e))
    (stored_all j (λ s. stored_bit (c + s) (packet_bit F (f s))) (8 * n) x)) (λ t s. w s t)
    ∙ ap (λ (k : ℕ). taken (Collecting (c + 8 * n) sp (own || e))
    (stored_all j (λ s. stored_bit (k + s) (packet_bit F (65 + (8 * p + s)))) (8 * n) x)) u
    ∙ ap (taken (Collecting (c + 8 * n) sp (own || e))) (copied_bits j q p n F x hj room h g o)
