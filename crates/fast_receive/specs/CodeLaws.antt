-- A law for each way through the code. Assumes nothing.
use Prim.Native.Nat.{ℕ, zero, suc, ◌+◌, ◌-◌, ◌*◌, ◌/◌, ◌%◌, ◌^◌, ◌≤◌, ◌<◌, min}
use Rattle.std.specs.Prelude.{◌≡◌, refl, Bool, false, ◌||◌, eqb, leb, ltb, length, get_or, set, take, drop, replicate}
use Rattle.std.proofs.Math.Path.{sym, ap}
use Rattle.std.proofs.Common.{◌∙◌, subst, true≢false, add-one, get_or-take, get_or-drop}
use Rattle.std.proofs.Math.Bool.{true}
use Rattle.std.proofs.lemmas.List.{length-replicate}
use Rattle.std.proofs.lemmas.List.Edits.{paste_none, paste_more, fill_from_more}
use Rattle.std.proofs.lemmas.Slice.{put_mid-paste}
use borrow.Rule.Slice.PartMut.{put_mid}
use lib.Seq.{paste}
use mathlib.Core.List.{List, []}
use mathlib.Core.Logic.{◌⊎◌, inl, inr}
use native.Mathlib.Omega.{arith}
use borrow.Author.Tests.{ne_eqb, ltb-true, lt-ltb, le-ltb, lt-leb}
use Rattle.octets.specs.BaseLaws.{by_test}
use Rattle.octets.specs.Store.{part, length_part}
use Rattle.octets.specs.Turns.{turns_none, turns_more}
use Rattle.station_symbols.specs.declared.Heard.{Heard}
use Rattle.station_symbols.specs.declared.Heard.TheVariants.{Clean}
use Rattle.station_symbols.specs.Packet.{hears_any, packet_bit}
use Rattle.station_state.specs.declared.Receiver.{Receiver}
use Rattle.station_state.specs.declared.Receiver.TheVariants.{Listening, Readable, Seeking, Collecting}
use Rattle.station_spec.specs.declared.Received.{Received}
use Rattle.station_spec.specs.Receive.{row_in, bits_in, stored_bit, seek, seek_bit, collect, collect_bit, hear, receive}
use Rattle.station_spec.specs.Receive.{row_limit}
use Rattle.area.specs.Places.{place}
use Rattle.area.specs.Area.{buffer_at, heard_of, symbol_at, arrival_at, with_octet}
use Rattle.area.specs.AreaLaws.{symbol_by}
use Rattle.bus_spec.specs.BitTime.{with_stored}
use Rattle.bus_spec.specs.InPlace.{Kept}
use Rattle.fast_plan.specs.Goes.{stored_all}
use Rattle.fast_receive.specs.Received.{Taken, taken, step_taken, heard_all, spoils, line_from, bits_from, AllHeard}
use Rattle.fast_receive.specs.Received.{copied}
use Rattle.fast_receive.specs.ReceivedLaws.{hear_range, heard_split, heard_keeps}
use Rattle.fast_receive.specs.Copy.{octets_copied}
use Rattle.fast_receive.specs.Zeros.{low_kept, blanks, zeroed, zeroed_up_to, zeros_stored, spoiled_seeking}
use Rattle.fast_receive.specs.Zeros.{spoiled_listening, spoiled_readable, spoiled_collecting}
use Rattle.area.specs.Offsets.{area_size, from, the_buffer}
use Rattle.frame_build.specs.Limits.{buffer_octets, buffer_bits}
use Rattle.sheet_layout.specs.Limits.{max_stations}

-- ---- one step

stored_kept : (n : ℕ) (b : Bool) → Kept (stored_bit n b)
unfolding stored_bit
stored_kept n b = by_test (ltb n buffer_bits) (λ c. rw c (ltb-true n buffer_bits c)) (λ c. rw c tt)

hear_kept : (r : Receiver) (clean b e : Bool) → Kept (hear r clean b e).stored
unfolding hear seek seek_bit collect collect_bit
hear_kept Listening true b e = tt
hear_kept Listening false b e = tt
hear_kept (Readable n) true b e = tt
hear_kept (Readable n) false b e = tt
hear_kept (Seeking row sp own) true b e = tt
hear_kept (Seeking row sp own) false b e = tt
hear_kept (Collecting n sp own) clean b e = stored_kept n b

module _ (r : Receiver) (clean b e : Bool) (o : Received) (p : o ≡ hear r clean b e) where
  pub one_kept : Kept o.stored
  one_kept = subst (λ (q : Received). Kept q.stored) (sym p) (hear_kept r clean b e)

  pub one_heard : (j : ℕ) (x y : List ℕ) → y ≡ with_stored j o.stored x
      → taken o.receiver y ≡ step_taken j (hear r clean b e) x
  unfolding step_taken
  one_heard j x y q =
      ap (taken o.receiver) q ∙ ap (λ (t : Received). taken t.receiver (with_stored j t.stored x)) p

  pub one_range : (row_in o.receiver < row_limit) × (bits_in o.receiver ≤ bits_in r + 1)
  one_range =
      subst (λ (q : Received). (row_in q.receiver < row_limit) × (bits_in q.receiver ≤ bits_in r + 1)) (sym p)
      (hear_range r clean b e)

-- ---- one step after the other

module _ (j : ℕ) (e : Bool) (H : ℕ → Heard) (r : Receiver) (x : List ℕ) where
  pub all_none : taken r x ≡ heard_all j e H 0 (taken r x)
  unfolding heard_all
  all_none = turns_none _ (taken r x)

  all_more : (s : ℕ) (q q' : Receiver) (y y' : List ℕ) → taken q y ≡ heard_all j e H s (taken r x)
      → taken q' y' ≡ step_taken j (receive [] [] q (H s) e) y → taken q' y' ≡ heard_all j e H (s + 1) (taken r x)
  unfolding heard_all
  all_more s q q' y y' p h = turns_more _ s (taken r x) (taken q y) (taken q' y') h p

  pub all_end : (m s : ℕ) (q : Receiver) (y : List ℕ) → s ≤ m → m ≤ s → taken q y ≡ heard_all j e H s (taken r x)
      → taken q y ≡ heard_all j e H m (taken r x)
  all_end m s q y h g p = let z : s ≡ m = omega arith in p ∙ ap (λ (k : ℕ). heard_all j e H k (taken r x)) z

-- a symbol of the line, by its code
code_heard : (c : ℕ) (q : Receiver) (e : Bool) → hears_any (heard_of c) ≡ true
    → hear q (leb c 2) (eqb c 2) e ≡ receive [] [] q (heard_of c) e
unfolding heard_of receive
code_heard zero q e h = absurd (true≢false (sym h))
code_heard (suc zero) q e h = refl
code_heard (suc (suc zero)) q e h = refl
code_heard (suc (suc (suc n))) q e h =
    let c = suc (suc (suc n)) in
    rw (
      lt-leb c 2 (omega arith),
      ne_eqb c 0 (λ z. omega arith),
      ne_eqb c 1 (λ z. omega arith),
      ne_eqb c 2
          (λ z. omega arith),
    )

module _ (j : ℕ) (e : Bool) (r q q' : Receiver) (x y y' : List ℕ) where
  pub line_more : (u m s c : ℕ) → AllHeard (line_from x j u) m → s < m → j < max_stations → c ≡ symbol_at y j (u + s)
      → taken q y ≡ heard_all j e (line_from x j u) s (taken r x)
      → taken q' y' ≡ step_taken j (hear q (leb c 2) (eqb c 2) e) y
      → taken q' y' ≡ heard_all j e (line_from x j u) (s + 1) (taken r x)
  unfolding AllHeard line_from arrival_at
  line_more u m s c a hs hj p t h =
      let w : y ≡ (heard_all j e (line_from x j u) s (taken r x)).octets = ap (λ (k : Taken). k.octets) t in
      let z : c ≡ symbol_at x j (u + s) =
      p ∙ ap (λ (l : List ℕ). symbol_at l j (u + s)) w
      ∙ symbol_by (heard_all j e (line_from x j u) s (taken r x)).octets x j (u + s)
      (heard_keeps (place j (u + s)) j e (line_from x j u) s (taken r x) (λ b d. omega arith)) in
      all_more j e (line_from x j u) r x s q q' y y' t
      (h ∙ ap (λ (o : Received). step_taken j o y)
      (code_heard c q e (ap (λ (k : ℕ). hears_any (heard_of k)) z ∙ a s hs)
      ∙ ap (λ (k : ℕ). receive [] [] q (heard_of k) e) z))

  pub bits_more : (F : List ℕ) (a s : ℕ) (one : Bool) → one ≡ packet_bit F (a + s)
      → taken q y ≡ heard_all j e (bits_from F a) s (taken r x)
      → taken q' y' ≡ step_taken j (hear q true one e) y → taken q' y' ≡ heard_all j e (bits_from F a) (s + 1) (taken r x)
  unfolding bits_from receive
  bits_more F a s one p t h =
      all_more j e (bits_from F a) r x s q q' y y' t (h ∙ ap (λ (b : Bool). step_taken j (hear q true b e) y) p)

-- ---- whole octets

pub part_long : (x : List ℕ) (at n k : ℕ) → at + n ≤ length x → k ≡ n → length (take k (drop at x)) ≡ n
part_long x at n k room ek = ap (λ (i : ℕ). length (take i (drop at x))) ek ∙ length_part x at n room

module _ (j q p : ℕ) (F x : List ℕ) where
  pub copied_none : x ≡ copied j q p 0 F x
  unfolding copied
  copied_none = turns_none _ x

  copied_more : (k v : ℕ) (y z : List ℕ) → z ≡ with_octet y j (q + k) v → v ≡ get_or F (p + k) 0
      → y ≡ copied j q p k F x → z ≡ copied j q p (k + 1) F x
  unfolding copied
  copied_more k v y z h g e = turns_more _ k x y z (h ∙ ap (with_octet y j (q + k)) g) e

  -- as the library's `copy_from_slice` leaves them
  octets_pasted : (at m n : ℕ) → at ≡ from (the_buffer j) + q → n ≤ m → at + m ≤ length x → p + m ≤ length F
      → paste x at (part F p m) n ≡ copied j q p n F x
  unfolding with_octet
  octets_pasted at m zero ea le room long = sym (paste_none x at (part F p m)) ∙ copied_none
  octets_pasted at m (suc n) ea le room long =
      let s = part F p m in
      let y = paste x at s n in
      let l : n < length s = omega (arith, length_part F p m long) in
      let k : at + n ≡ from (the_buffer j) + (q + n) = omega arith in
      subst (λ (i : ℕ). paste x at s i ≡ copied j q p i F x) (add-one n)
      (sym (paste_more x at s n 0 (omega arith) l)
      ∙ copied_more n (get_or s n 0) y (set y (at + n) (get_or s n 0)) (ap (λ (i : ℕ). set y i (get_or s n 0)) k)
      (get_or-take m (drop p F) n 0 (omega arith) ∙ get_or-drop p F n 0)
      (octets_pasted at m n ea (omega arith) room long))

  pub copied_row : (n at k i : ℕ) (z : List ℕ) → at ≡ from (the_buffer j) + q → at + n ≤ length x → p + n ≤ length F
      → k ≡ n → i ≡ n → z ≡ take i (drop p F) → put_mid at k x z ≡ copied j q p n F x
  copied_row n at k i z ea room long ek ei ez =
      put_mid-paste at k x z (part F p n) n (ez ∙ ap (λ (v : ℕ). take v (drop p F)) ei) (sym ek)
      (sym (length_part F p n long))
      ∙ octets_pasted at n n ea (omega arith) room long

pub octets_heard : (j : ℕ) (e : Bool) (F : List ℕ) (a bits m n : ℕ) (sp own : Bool) (r : Receiver) (x y : List ℕ)
    → r ≡ Collecting bits sp own → j < max_stations → area_size ≤ length x → ((k : ℕ) → get_or F k 0 < 256) → 65 ≤ a
    → a % 8 ≡ 1 → bits % 8 ≡ 0 → (8 * n ≤ m) × (n ≤ length F - (a - 65) / 8) × (n ≤ buffer_octets - bits / 8)
    → (n ≡ 0 → ⊥) → y ≡ copied j (bits / 8) ((a - 65) / 8) n F x
    → taken (Collecting (bits + 8 * n) sp (own || e)) y ≡ heard_all j e (bits_from F a) (8 * n) (taken r x)
octets_heard j e F a bits m n sp own r x y er hj room small ha u v b ne g =
    ap (taken (Collecting (bits + 8 * n) sp (own || e))) g
    ∙ sym (octets_copied j e F bits a (bits / 8) ((a - 65) / 8) n sp own x hj room small (omega arith) (omega (arith, u))
    (omega (arith, ne)) (omega (arith, b, ne)) (omega (arith, b, ne)))
    ∙ ap (λ (q : Receiver). heard_all j e (bits_from F a) (8 * n) (taken q x)) (sym er)

-- ---- in parts

module _ (j : ℕ) (e : Bool) (F : List ℕ) (r : Receiver) (x : List ℕ) where
  pub join : (a k n : ℕ) (q t : Receiver) (y z : List ℕ) → taken q y ≡ heard_all j e (bits_from F a) k (taken r x)
      → taken t z ≡ heard_all j e (bits_from F (a + k)) n (taken q y)
      → taken t z ≡ heard_all j e (bits_from F a) (k + n) (taken r x)
  unfolding bits_from
  join a k n q t y z p h =
      let w : (s : ℕ) → a + k + s ≡ a + (k + s) = λ s. omega arith in
      h ∙ ap (heard_all j e (λ s. Clean (packet_bit F (a + k + s))) n) p
      ∙ ap (λ (f : ℕ → ℕ). heard_all j e (λ s. Clean (packet_bit F (f s))) n
      (heard_all j e (λ s. Clean (packet_bit F (a + s))) k (taken r x))) (λ i s. w s i)
      ∙ sym (heard_split j e (λ s. Clean (packet_bit F (a + s))) k n (taken r x))

-- ---- spoiled symbols

pub buffer_long : (x b : List ℕ) (j : ℕ) → b ≡ buffer_at x j → j < max_stations → area_size ≤ length x
    → length b ≡ buffer_octets
unfolding buffer_at
buffer_long x b j e hj room = ap length e ∙ length_part x (from (the_buffer j)) buffer_octets (omega arith)

pub low_kept_lem : (j q p old unit low : ℕ) (x y b : List ℕ) → q < buffer_octets → y ≡ with_octet x j q low → low ≡ old % unit
    → unit ≡ 2 ^ p → old ≡ get_or b q 0 → b ≡ buffer_at x j → y ≡ low_kept j q p x
unfolding low_kept buffer_at
low_kept_lem j q p old unit low x y b h e l u o w =
    let at = from (the_buffer j) in
    let g : get_or (part x at buffer_octets) q 0 ≡ get_or x (at + q) 0 = get_or-take buffer_octets (drop at x) q 0 h
    ∙ get_or-drop at x q 0 in
    e ∙ ap (with_octet x j q) (l ∙ ap (λ (k : ℕ). old % k) u ∙ ap (λ (k : ℕ). k % 2 ^ p)
    (o ∙ ap (λ (k : List ℕ). get_or k q 0) w ∙ g))

module _ (j q : ℕ) (x : List ℕ) where
  pub blanks_none : x ≡ blanks j q 0 x
  unfolding blanks
  blanks_none = turns_none _ x

  blanks_more : (k : ℕ) (y z : List ℕ) → z ≡ with_octet y j (q + (k + 1)) 0 → y ≡ blanks j q k x
      → z ≡ blanks j q (k + 1) x
  unfolding blanks
  blanks_more k y z h e = turns_more _ k x y z (h ∙ ap (λ (i : ℕ). with_octet y j (q + i) 0) (add-one k)) e

  -- as the library's `fill` leaves them
  blanks_pasted : (at m n : ℕ) → at ≡ from (the_buffer j) + (q + 1) → n ≤ m → at + m ≤ length x
      → paste x at (replicate n 0) n ≡ blanks j q n x
  unfolding with_octet
  blanks_pasted at m zero ea le room = sym (paste_none x at (replicate 0 0)) ∙ blanks_none
  blanks_pasted at m (suc n) ea le room =
      let y = paste x at (replicate n 0) n in
      let k : at + n ≡ from (the_buffer j) + (q + (n + 1)) = omega arith in
      subst (λ (i : ℕ). paste x at (replicate i 0) i ≡ blanks j q i x) (add-one n)
      (sym (fill_from_more x at n 0 (omega arith))
      ∙ blanks_more n y (set y (at + n) 0) (ap (λ (i : ℕ). set y i 0) k) (blanks_pasted at m n ea (omega arith) room))

  pub blanks_row : (n at k : ℕ) (z : List ℕ) → at ≡ from (the_buffer j) + (q + 1) → at + n ≤ length x → k ≡ n
      → z ≡ replicate (length (take k (drop at x))) 0 → put_mid at k x z ≡ blanks j q n x
  blanks_row n at k z ea room ek ez =
      put_mid-paste at k x z (replicate n 0) n (ez ∙ ap (λ (i : ℕ). replicate i 0) (part_long x at n k room ek)) (sym ek)
      (sym (length-replicate n 0))
      ∙ blanks_pasted at n n ea (omega arith) room

module _ (j c m : ℕ) (x : List ℕ) where
  pub zeros_past : buffer_bits ≤ c → x ≡ zeroed_up_to j c m x
  unfolding zeroed_up_to
  zeros_past h = rw (le-ltb c buffer_bits h)

  pub zeros_in : (n : ℕ) (y z : List ℕ) → c < buffer_bits → 0 < m → n ≡ min m (buffer_bits - c)
      → y ≡ low_kept j (c / 8) (c % 8) x
      → z ≡ blanks j (c / 8) ((c + n - 1) / 8 - c / 8) y → z ≡ zeroed_up_to j c m x
  unfolding zeroed_up_to zeroed
  zeros_in n y z h g e p q =
      rw (lt-ltb c buffer_bits h, lt-ltb 0 m g)
      (q ∙ ap (blanks j (c / 8) ((c + n - 1) / 8 - c / 8)) p
      ∙ ap (λ (k : ℕ). blanks j (c / 8) ((c + k - 1) / 8 - c / 8) (low_kept j (c / 8) (c % 8) x)) e)

module _ (j : ℕ) (e : Bool) (m : ℕ) (r : Receiver) (x : List ℕ) where
  pub spoiled_none : m ≡ 0 → taken r x ≡ heard_all j e spoils m (taken r x)
  spoiled_none z = all_none j e spoils r x ∙ ap (λ (k : ℕ). heard_all j e spoils k (taken r x)) (sym z)

  some : (m ≡ 0 → ⊥) → suc (m - 1) ≡ m
  some z = omega (arith, z)

  heard_by_lem : (z : m ≡ 0 → ⊥) (t : Taken) (g : Receiver) → r ≡ g → heard_all j e spoils (suc (m - 1)) (taken g x) ≡ t
      → t ≡ heard_all j e spoils m (taken r x)
  heard_by_lem z t g p h =
      sym h ∙ ap (λ (k : ℕ). heard_all j e spoils k (taken g x)) (some z)
      ∙ ap (λ (q : Receiver). heard_all j e spoils m (taken q x)) (sym p)

  pub spoiled_idles : (r ≡ Listening) ⊎ ((n : ℕ) × (r ≡ Readable n)) → (m ≡ 0 → ⊥)
      → taken (Seeking 1 true e) x ≡ heard_all j e spoils m (taken r x)
  spoiled_idles (inl p) z = heard_by_lem z (taken (Seeking 1 true e) x) Listening p (spoiled_listening j e x (m - 1))
  spoiled_idles (inr q) z =
      heard_by_lem z (taken (Seeking 1 true e) x) (Readable q.0) q.1 (spoiled_readable j e x q.0 (m - 1))

  pub spoiled_seeks : (row : ℕ) (sp own : Bool) → r ≡ Seeking row sp own → (m ≡ 0 → ⊥)
      → taken (Seeking 1 true (own || e)) x ≡ heard_all j e spoils m (taken r x)
  spoiled_seeks row sp own p z =
      heard_by_lem z (taken (Seeking 1 true (own || e)) x) (Seeking row sp own) p
      (spoiled_seeking j e x row sp own (m - 1))

  pub spoiled_collects : (c : ℕ) (sp own : Bool) (y : List ℕ) → r ≡ Collecting c sp own → (m ≡ 0 → ⊥)
      → j < max_stations → area_size ≤ length x → y ≡ zeroed_up_to j c m x
      → taken (Collecting (c + m) true (own || e)) y ≡ heard_all j e spoils m (taken r x)
  spoiled_collects c sp own y p z hj room h =
      let k : suc (m - 1) ≡ m = some z in
      ap (taken (Collecting (c + m) true (own || e))) (h ∙ sym (zeros_stored j c m x hj room))
      ∙ ap (λ (i : ℕ). taken (Collecting (c + i) true (own || e)) (stored_all j (λ s. stored_bit (c + s) false) i x))
      (sym k)
      ∙ heard_by_lem z _ (Collecting c sp own) p (spoiled_collecting j e x c sp own (m - 1))

-- a receiver that collects
module _ (r : Receiver) (c : ℕ) (sp own : Bool) (p : r ≡ Collecting c sp own) where
  pub collecting_room : (m : ℕ) → bits_in r + m < 4294967296 → c + m < 4294967296
  collecting_room m h = omega (arith, ap bits_in p)

  pub collecting_most : (b s : ℕ) → b ≤ c + s → b ≤ bits_in r + s
  collecting_most b s h = omega (arith, ap bits_in p)
