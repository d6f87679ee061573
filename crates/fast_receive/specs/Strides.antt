-- Many bits at once: those of a preamble, of which only the last eight matter, and eight clean bits of a line as an
-- octet. Assumes nothing.
use Prim.Native.Nat.{ℕ, zero, suc, ◌+◌, ◌-◌, ◌*◌, ◌/◌, ◌%◌, ◌^◌, ◌≤◌, ◌<◌}
use Rattle.std.specs.Prelude.{◌≡◌, refl, Bool, true, false, ◌||◌, eqb, leb, ltb, length, Option, is_some, unwrap_or}
use Rattle.std.specs.Bool.{then_some}
use Rattle.std.proofs.Common.{sym, ◌∙◌, ap₂, true≢false}
use Rattle.std.proofs.Math.Path.{ap}
use mathlib.Core.List.{List, []}
use native.Mathlib.Omega.{arith}
use borrow.Author.Tests.{leb-false, ne_eqb, ltb-true, ltb-false}
use Rattle.octets.specs.BaseLaws.{by_test, by_eq}
use Rattle.octets.specs.Turns.{turns}
use Rattle.station_symbols.specs.declared.Heard.{Heard}
use Rattle.station_symbols.specs.declared.Heard.TheVariants.{Clean}
use Rattle.station_symbols.specs.Packet.{hears_any, packet_bit}
use Rattle.station_symbols.specs.PacketLaws.{bit_alternates}
use Rattle.station_state.specs.declared.Receiver.{Receiver}
use Rattle.station_state.specs.declared.Receiver.TheVariants.{Seeking, Collecting}
use Rattle.station_spec.specs.Receive.{next_row, stored_bit, seek, seek_bit, hear, receive}
use Rattle.area.specs.Places.{place}
use Rattle.area.specs.Area.{heard_of, symbol_at, arrival_at, with_octet}
use Rattle.area.specs.AreaLaws.{symbol_by}
use Rattle.fast_plan.specs.Goes.{stored_all}
use Rattle.fast_receive.specs.Received.{Taken, taken, step_taken, heard_all, line_from, bits_from, AllHeard}
use Rattle.fast_receive.specs.ReceivedLaws.{heard_split, heard_keeps, heard_same}
use Rattle.fast_receive.specs.Copy.{or_twice, collect_clean, eight_bits}
use Rattle.fast_receive.specs.CodeLaws.{all_none, line_more, bits_more}
use Rattle.area.specs.Offsets.{area_size}
use Rattle.sheet_layout.specs.Limits.{max_stations}
use Rattle.frame_build.specs.Limits.{buffer_bits}

-- ---- a preamble

-- the row of the eight bits before packet bit a, where all of them are of the preamble
abbrev pub row_before : ℕ → ℕ
row_before a = 341 + 85 * (a % 2)

-- from packet bit a on n bits of any packet make the receiver q of r, and store nothing
unfoldable pub Passes : (a : ℕ) (e : Bool) (r q : Receiver) (n : ℕ) → Type 0
Passes a e r q n = (j : ℕ) (F x : List ℕ) → taken q x ≡ heard_all j e (bits_from F a) n (taken r x)

row_even : (a : ℕ) → a % 2 ≡ 0 → next_row (row_before a) (eqb (a % 2) 1) ≡ row_before (a + 1)
unfolding next_row
row_even a h = let g : (a + 1) % 2 ≡ 1 = omega arith in rw (h, g)

row_odd : (a : ℕ) → a % 2 ≡ 1 → next_row (row_before a) (eqb (a % 2) 1) ≡ row_before (a + 1)
unfolding next_row
row_odd a h = let g : (a + 1) % 2 ≡ 0 = omega arith in rw (h, g)

row_on_lem : (F : List ℕ) (a : ℕ) → a ≤ 62 → next_row (row_before a) (packet_bit F a) ≡ row_before (a + 1)
row_on_lem F a h =
    ap (next_row (row_before a)) (sym (bit_alternates F a h))
    ∙ by_eq (a % 2) 0 (λ z. row_even a z) (λ z. row_odd a (omega (arith, z)))

module _ (j : ℕ) (e : Bool) (F x : List ℕ) (sp : Bool) where
  seek_on : (row k : ℕ) (own b : Bool) → next_row row b ≡ k → (k ≡ 427 → ⊥)
      → step_taken j (receive [] [] (Seeking row sp own) (Clean b) e) x ≡ taken (Seeking k sp (own || e)) x
  unfolding step_taken receive hear seek seek_bit
  seek_on row k own b p ne = rw (p, ne_eqb k 427 ne)

  seek_next : (a : ℕ) (own : Bool) → a ≤ 62
      → step_taken j (receive [] [] (Seeking (row_before a) sp own) (Clean (packet_bit F a)) e) x ≡ taken
      (Seeking (row_before (a + 1)) sp (own || e)) x
  seek_next a own h = seek_on (row_before a) (row_before (a + 1)) own (packet_bit F a) (row_on_lem F a h) (λ z. omega arith)

  passed : (a : ℕ) (own : Bool) (n : ℕ) → a + n ≤ 62
      → heard_all j e (bits_from F a) (suc n) (taken (Seeking (row_before a) sp own) x) ≡ taken
      (Seeking (row_before (a + suc n)) sp (own || e)) x
  unfolding heard_all turns bits_from
  passed a own zero h =
      let z : a + 0 ≡ a = omega arith in
      ap (λ (k : ℕ). step_taken j (receive [] [] (Seeking (row_before a) sp own) (Clean (packet_bit F k)) e) x) z
      ∙ seek_next a own (omega arith)
  passed a own (suc n) h =
      let z : a + suc n + 1 ≡ a + suc (suc n) = omega arith in
      ap (λ (q : Taken). step_taken j (receive [] [] q.receiver (Clean (packet_bit F (a + suc n))) e) q.octets)
      (passed a own n (omega arith))
      ∙ seek_next (a + suc n) (own || e) h
      ∙ ap (λ (o : Bool). taken (Seeking (row_before (a + suc n + 1)) sp o) x) (or_twice own e)
      ∙ ap (λ (k : ℕ). taken (Seeking (row_before k) sp (own || e)) x) z

-- the rest of a preamble is passed
pub pass_some : (r : Receiver) (a n row : ℕ) (e sp own : Bool) → r ≡ Seeking row sp own → row ≡ row_before a → 0 < n
    → a + n ≤ 63 → Passes a e r (Seeking (row_before (a + n)) sp (own || e)) n
unfolding Passes
pass_some r a n row e sp own er ew pos up j F x =
    let z : suc (n - 1) ≡ n = omega arith in
    ap (λ (k : ℕ). taken (Seeking (row_before (a + k)) sp (own || e)) x) (sym z)
    ∙ sym (passed j e F x sp a own (n - 1) (omega arith))
    ∙ ap (λ (k : ℕ). heard_all j e (bits_from F a) k (taken (Seeking (row_before a) sp own) x)) z
    ∙ ap (λ (q : Receiver). heard_all j e (bits_from F a) n (taken q x))
    (ap (λ (k : ℕ). Seeking k sp own) (sym ew) ∙ sym er)

-- ---- one part after the other

module _ (j : ℕ) (e : Bool) (r q t : Receiver) (x y z : List ℕ) where
  -- the line is as it was
  same_line : (u s : ℕ) → j < max_stations → taken q y ≡ heard_all j e (line_from x j u) s (taken r x) → (v : ℕ)
      → arrival_at y j v ≡ arrival_at x j v
  unfolding arrival_at
  same_line u s hj p v =
      let w : y ≡ (heard_all j e (line_from x j u) s (taken r x)).octets = ap (λ (k : Taken). k.octets) p in
      ap heard_of
      (ap (λ (l : List ℕ). symbol_at l j v) w
      ∙ symbol_by (heard_all j e (line_from x j u) s (taken r x)).octets x j v
      (heard_keeps (place j v) j e (line_from x j u) s (taken r x) (λ b d. omega arith)))

  line_shift : (u s : ℕ) → j < max_stations → taken q y ≡ heard_all j e (line_from x j u) s (taken r x) → (v : ℕ)
      → line_from y j (u + s) v ≡ line_from x j u (s + v)
  unfolding line_from
  line_shift u s hj p v =
      let w : u + s + v ≡ u + (s + v) = omega arith in
      same_line u s hj p (u + s + v) ∙ ap (arrival_at x j) w

  pub line_on : (u s n : ℕ) → j < max_stations → taken q y ≡ heard_all j e (line_from x j u) s (taken r x)
      → taken t z ≡ heard_all j e (line_from y j (u + s)) n (taken q y)
      → taken t z ≡ heard_all j e (line_from x j u) (s + n) (taken r x)
  line_on u s n hj p h =
      h ∙ ap (heard_all j e (line_from y j (u + s)) n) p
      ∙ ap (λ (H : ℕ → Heard). heard_all j e H n (heard_all j e (line_from x j u) s (taken r x)))
      (λ i v. line_shift u s hj p v i)
      ∙ sym (heard_split j e (line_from x j u) s n (taken r x))

  pub line_left : (u s m : ℕ) → j < max_stations → s < m → AllHeard (line_from x j u) m
      → taken q y ≡ heard_all j e (line_from x j u) s (taken r x)
      → AllHeard (line_from y j (u + s)) (m - s)
  unfolding AllHeard
  line_left u s m hj hs a p v hv = ap hears_any (line_shift u s hj p v) ∙ a (s + v) (omega arith)

-- ---- an octet of a line

-- n symbols of the line of station j from step u on are the low bits of v, the lowest first
unfoldable pub CleanBits : List ℕ → (j u n v : ℕ) → Type 0
CleanBits x j u n v = (s : ℕ) → s < n → arrival_at x j (u + s) ≡ Clean (eqb (v / 2 ^ s % 2) 1)

by_four : (C : ℕ → Type 0) → C 0 → C 1 → C 2 → C 3 → (s : ℕ) → s < 4 → C s
by_four C a b c d zero h = a
by_four C a b c d (suc zero) h = b
by_four C a b c d (suc (suc zero)) h = c
by_four C a b c d (suc (suc (suc zero))) h = d
by_four C a b c d (suc (suc (suc (suc s)))) h = absurd (omega arith)

-- a clean bit, by its code
code_clean : (c w : ℕ) → hears_any (heard_of c) ≡ true → c ≤ 2 → w ≡ c / 2 → heard_of c ≡ Clean (eqb w 1)
unfolding heard_of
code_clean zero w h g e = absurd (true≢false (sym h))
code_clean (suc zero) w h g e = let z : w ≡ 0 = omega arith in rw z
code_clean (suc (suc zero)) w h g e = let z : w ≡ 1 = omega arith in rw z
code_clean (suc (suc (suc c))) w h g e = absurd (omega arith)

-- the bits of a number below 16
module _ (p q r s v : ℕ) (hp : p < 2) (hq : q < 2) (hr : r < 2) (hs : s < 2) (e : v ≡ p + q * 2 + r * 4 + s * 8) where
  bit_0 : v / 2 ^ 0 % 2 ≡ p
  bit_0 = omega arith

  bit_1 : v / 2 ^ 1 % 2 ≡ q
  bit_1 = omega arith

  bit_2 : v / 2 ^ 2 % 2 ≡ r
  bit_2 = omega arith

  bit_3 : v / 2 ^ 3 % 2 ≡ s
  bit_3 = omega arith

clean_code : (a : ℕ) → (a + 1) / 4 ≡ 0 → a ≤ 2
clean_code a h = omega arith

half_small : (a : ℕ) → a ≤ 2 → a / 2 < 2
half_small a h = omega arith

module _ (p q r s : ℕ) (e : p + q + r + s ≡ 0) where
  none_each : (p ≡ 0) × (q ≡ 0) × (r ≡ 0) × (s ≡ 0)
  none_each = (omega arith, omega arith, omega arith, omega arith)

module _ (x : List ℕ) (j u : ℕ) where
  place_clean : (s c w : ℕ) → c ≡ symbol_at x j (u + s) → AllHeard (line_from x j u) 4 → s < 4 → c ≤ 2 → w ≡ c / 2
      → arrival_at x j (u + s) ≡ Clean (eqb w 1)
  unfolding AllHeard line_from arrival_at
  place_clean s c w e a h g k =
      ap heard_of (sym e) ∙ code_clean c w (ap (λ (v : ℕ). hears_any (heard_of v)) e ∙ a s h) g k

  pub four_clean : (a b c d v : ℕ) → a ≡ symbol_at x j u → b ≡ symbol_at x j (u + 1) → c ≡ symbol_at x j (u + 2)
      → d ≡ symbol_at x j (u + 3) → (a + 1) / 4 + (b + 1) / 4 + (c + 1) / 4 + (d + 1) / 4 ≡ 0
      → v ≡ a / 2 + b / 2 * 2 + c / 2 * 4 + d / 2 * 8 → AllHeard (line_from x j u) 4 → (v < 16) × CleanBits x j u 4 v
  unfolding CleanBits
  four_clean a b c d v ea eb ec ed es w al =
      let z : u ≡ u + 0 = omega arith in
      let n = none_each ((a + 1) / 4) ((b + 1) / 4) ((c + 1) / 4) ((d + 1) / 4) es in
      let pa = clean_code a n.0 in
      let pb = clean_code b n.1 in
      let pc = clean_code c n.2 in
      let pd = clean_code d n.3 in
      let ha = half_small a pa in
      let hb = half_small b pb in
      let hc = half_small c pc in
      let hd = half_small d pd in (
        omega arith,
        by_four (λ s. arrival_at x j (u + s) ≡ Clean (eqb (v / 2 ^ s % 2) 1))
            (place_clean 0 a (v / 2 ^ 0 % 2) (ea ∙ ap (symbol_at x j) z) al (omega arith) pa
            (bit_0 (a / 2) (b / 2) (c / 2) (d / 2) v ha hb hc hd w))
            (place_clean 1 b (v / 2 ^ 1 % 2) eb al (omega arith) pb
            (bit_1 (a / 2) (b / 2) (c / 2) (d / 2) v ha hb hc hd w))
            (place_clean 2 c (v / 2 ^ 2 % 2) ec al (omega arith) pc
            (bit_2 (a / 2) (b / 2) (c / 2) (d / 2) v ha hb hc hd w))
            (place_clean 3 d (v / 2 ^ 3 % 2) ed al (omega arith) pd
            (bit_3 (a / 2) (b / 2) (c / 2) (d / 2) v ha hb hc hd w)),
      )

  pub four_heard : AllHeard (line_from x j u) 8 → AllHeard (line_from x j u) 4
  unfolding AllHeard
  four_heard a s h = a s (omega arith)

  pub next_heard : AllHeard (line_from x j u) 8 → AllHeard (line_from x j (u + 4)) 4
  unfolding AllHeard line_from
  next_heard a s h =
      let z : u + 4 + s ≡ u + (4 + s) = omega arith in ap (λ (v : ℕ). hears_any (arrival_at x j v)) z
      ∙ a (4 + s) (omega arith)

  low_same : (a b : ℕ) → a < 16 → (s : ℕ) → s < 4 → a / 2 ^ s % 2 ≡ (a + 16 * b) / 2 ^ s % 2
  low_same a b h =
      by_four (λ s. a / 2 ^ s % 2 ≡ (a + 16 * b) / 2 ^ s % 2) (omega arith) (omega arith) (omega arith) (omega arith)

  high_same : (a b : ℕ) → a < 16 → (s : ℕ) → s < 4 → b / 2 ^ s % 2 ≡ (a + 16 * b) / 2 ^ (4 + s) % 2
  high_same a b h =
      by_four (λ s. b / 2 ^ s % 2 ≡ (a + 16 * b) / 2 ^ (4 + s) % 2) (omega arith) (omega arith) (omega arith)
      (omega arith)

  -- two halves of an octet
  pub octet_clean : (a b : ℕ) → (a < 16) × CleanBits x j u 4 a → (b < 16) × CleanBits x j (u + 4) 4 b
      → CleanBits x j u 8 (a + 16 * b)
  unfolding CleanBits
  octet_clean a b p q s h =
      by_test (ltb s 4)
      (λ c. let l = ltb-true s 4 c in p.1 s l ∙ ap (λ (w : ℕ). Clean (eqb w 1)) (low_same a b p.0 s l))
      (λ c. let l = ltb-false s 4 c in
      let z : u + s ≡ u + 4 + (s - 4) = omega arith in
      let y : 4 + (s - 4) ≡ s = omega arith in
      ap (arrival_at x j) z ∙ q.1 (s - 4) (omega arith)
      ∙ ap (λ (w : ℕ). Clean (eqb w 1)) (high_same a b p.0 (s - 4) (omega arith))
      ∙ ap (λ (k : ℕ). Clean (eqb ((a + 16 * b) / 2 ^ k % 2) 1)) y)

-- eight bits collected from where an octet begins
pub octet_heard : (j u : ℕ) (e : Bool) (c v : ℕ) (sp own : Bool) (r : Receiver) (x y : List ℕ) → r ≡ Collecting c sp own
    → j < max_stations → area_size ≤ length x → c % 8 ≡ 0 → c ≤ buffer_bits - 8 → v < 256
    → CleanBits x j u 8 v → y ≡ with_octet x j (c / 8) v
    → taken (Collecting (c + 8) sp (own || e)) y ≡ heard_all j e (line_from x j u) 8 (taken r x)
unfolding CleanBits line_from
octet_heard j u e c v sp own r x y er hj room al hc hv k ey =
    let bit : ℕ → Bool = λ s. eqb (v / 2 ^ s % 2) 1 in
    let z : c ≡ 8 * (c / 8) = omega arith in
    ap (taken (Collecting (c + 8) sp (own || e)))
    (ey ∙ sym (eight_bits j (c / 8) x hj (omega arith) room v (omega arith) bit (λ s h. refl)))
    ∙ ap (λ (b : ℕ). taken (Collecting (c + 8) sp (own || e)) (stored_all j (λ s. stored_bit (b + s) (bit s)) 8 x))
    (sym z)
    ∙ sym (collect_clean j e bit c sp own x 7)
    ∙ sym (heard_same j e (λ s. arrival_at x j (u + s)) (λ s. Clean (bit s)) 8 (taken (Collecting c sp own) x)
    (λ s h. k s h))
    ∙ ap (λ (q : Receiver). heard_all j e (λ s. arrival_at x j (u + s)) 8 (taken q x)) (sym er)

pub eight_heard : (H : ℕ → Heard) (m : ℕ) → AllHeard H m → 8 ≤ m → AllHeard H 8
unfolding AllHeard
eight_heard H m a h s l = a s (omega arith)

-- the clean bit of a symbol by its code
bit_of_code : (c : ℕ) → unwrap_or (then_some (leb c 2) (eqb c 2)) false ≡ eqb c 2
bit_of_code c = by_test (leb c 2) (λ h. rw h) (λ h. rw (h, ne_eqb c 2 (λ e. omega (arith, leb-false c 2 h))))

is_clean_code : (b c : Bool) → is_some (then_some b c) ≡ b
is_clean_code true c = refl
is_clean_code false c = refl

pub some_one : (j : ℕ) (e : Bool) (r t : Receiver) (x y z : List ℕ) (u m c : ℕ) (s : Option Bool)
    → AllHeard (line_from x j u) m → 0 < m → j < max_stations → y ≡ x → c ≡ symbol_at y j u
    → s ≡ then_some (leb c 2) (eqb c 2) → taken t z ≡ step_taken j (hear r (is_some s) (unwrap_or s false) e) y
    → taken t z ≡ heard_all j e (line_from x j u) 1 (taken r x)
some_one j e r t x y z u m c s a h hj ey ec p g =
    let w : u ≡ u + 0 = omega arith in
    line_more j e r r t x y z u m 0 c a h hj (ec ∙ ap (symbol_at y j) w)
    (ap (taken r) ey ∙ all_none j e (line_from x j u) r x)
    (g
    ∙ ap (λ (q : Option Bool). step_taken j (hear r (is_some q) (unwrap_or q false) e) y) p
    ∙ ap₂ (λ (b d : Bool). step_taken j (hear r b d e) y) (is_clean_code (leb c 2) (eqb c 2)) (bit_of_code c))

pub next_one : (j : ℕ) (e : Bool) (r t : Receiver) (x y z F : List ℕ) (a : ℕ) (one : Bool) → y ≡ x → one ≡ packet_bit F a
    → taken t z ≡ step_taken j (hear r true one e) y → taken t z ≡ heard_all j e (bits_from F a) 1 (taken r x)
next_one j e r t x y z F a one ey p g =
    let w : a ≡ a + 0 = omega arith in
    bits_more j e r r t x y z F a 0 one (p ∙ ap (packet_bit F) w) (ap (taken r) ey ∙ all_none j e (bits_from F a) r x) g

pub next_passed : (j : ℕ) (e : Bool) (r q : Receiver) (x y F : List ℕ) (a n : ℕ) → y ≡ x → Passes a e r q n
    → taken q y ≡ heard_all j e (bits_from F a) n (taken r x)
unfolding Passes
next_passed j e r q x y F a n ey h = ap (taken q) ey ∙ h j F x
