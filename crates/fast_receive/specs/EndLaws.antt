-- A reception that may not report reports nothing when it ends, and still may not while it goes on. Assumes nothing.
use Prim.Native.Nat.{ℕ, zero, suc, ◌+◌, ◌-◌, ◌/◌, ◌≤◌, ◌<◌}
use Rattle.std.specs.Prelude.{◌≡◌, Bool, true, ◌||◌, ◌&&◌, eqb, leb, ltb, get_or, drop, replicate, Option, None, Some}
use Rattle.std.proofs.Math.Path.{refl, sym, ap}
use Rattle.std.proofs.Common.{◌∙◌, ap₂, true≢false, arith, get_or-set_other}
use Rattle.std.proofs.Math.Bool.{false, not, or-true}
use mathlib.Core.List.{List, []}
use borrow.Author.Tests.{ltb-false, le-ltb, leb-false, le-leb, lt-leb}
use Rattle.std.proofs.Math.ListN.{length}
use Rattle.std.proofs.Math.Seq.{get_or-take, get_or-drop}
use Rattle.octets.specs.BaseLaws.{by_test}
use Rattle.octets.specs.Equal.{equal}
use Rattle.octets.specs.Region.{Same, part_goes_by}
use Rattle.octets.specs.Store.{part, length_part}
use Rattle.octets.specs.Turns.{turns}
use Rattle.frame_open.specs.Open.{destination_of}
use Rattle.station_symbols.specs.declared.Heard.{Heard}
use Rattle.station_symbols.specs.declared.Heard.TheVariants.{Nothing, Clean, Spoiled}
use Rattle.station_symbols.specs.Packet.{hears_any}
use Rattle.station_state.specs.declared.Receiver.{Receiver}
use Rattle.station_state.specs.declared.Receiver.TheVariants.{Listening, Readable, Seeking, Collecting}
use Rattle.station_spec.specs.declared.Stored.{Stored}
use Rattle.station_spec.specs.Receive.{row_in, bits_in, next_row, stored_bit, seek, seek_bit, collect, collect_bit, hear}
use Rattle.station_spec.specs.Receive.{addressed, deciding, decide, ended, receive, row_limit}
use Rattle.area.specs.Area.{buffer_at, with_bit, address_at}
use Rattle.bus_spec.specs.BitTime.{with_stored}
use Rattle.fast_plan.specs.Goes.{stored_all, length_all}
use Rattle.fast_receive.specs.Received.{received_by, kept_by, AllHeard, may_report, calmed}
use Rattle.fast_receive.specs.ReceivedLaws.{received_range}
use Rattle.area.specs.Offsets.{area_size, from, the_buffer}
use Rattle.frame_build.specs.Limits.{buffer_octets, buffer_bits, shortest_frame}
use Rattle.sheet_layout.specs.Limits.{max_stations}

-- ---- its first six octets stay

-- a reception that has its destination
abbrev Far : Receiver → Type 0
Far Listening = ⊥
Far (Readable n) = ⊥
Far (Seeking row sp own) = ⊥
Far (Collecting n sp own) = 48 ≤ n

abbrev Past : Option Stored → Type 0
Past None = Unit {0}
Past (Some s) = 48 ≤ s.bit

stored_past : (n : ℕ) (b : Bool) → 48 ≤ n → Past (stored_bit n b)
unfolding stored_bit
stored_past n b h = by_test (ltb n buffer_bits) (λ c. rw c h) (λ c. rw c tt)

far_step : (q : Receiver) (h : Heard) (e : Bool) → hears_any h ≡ true → Far q
    → Far (receive [] [] q h e).receiver × Past (receive [] [] q h e).stored
unfolding receive hear collect collect_bit
far_step Listening h e p v = absurd v
far_step (Readable n) h e p v = absurd v
far_step (Seeking row sp own) h e p v = absurd v
far_step (Collecting n sp own) Nothing e p v = absurd (true≢false (sym p))
far_step (Collecting n sp own) (Clean b) e p v = (omega arith, stored_past n b v)
far_step (Collecting n sp own) Spoiled e p v = (omega arith, stored_past n false v)

past_kept : (j k : ℕ) (o : Option Stored) (x : List ℕ) → Past o → k < 6
    → get_or (with_stored j o x) (from (the_buffer j) + k) 0 ≡ get_or x (from (the_buffer j) + k) 0
unfolding with_bit
past_kept j k None x p h = refl
past_kept j k (Some s) x p h =
    get_or-set_other x (from (the_buffer j) + s.bit / 8) (from (the_buffer j) + k) _ 0 (λ z. omega arith)

module _ (e : Bool) (H : ℕ → Heard) (r : Receiver) (v : Far r) where
  far_all : (m : ℕ) → AllHeard H m → Far (received_by e H m r)
  unfolding received_by turns AllHeard
  far_all zero a = v
  far_all (suc m) a =
      (far_step (received_by e H m r) (H m) e (a m (omega arith)) (far_all m (λ s l. a s (omega arith)))).0

  first_six : (j k m : ℕ) (x : List ℕ) → AllHeard H m → k < 6
      → get_or (stored_all j (kept_by e H r) m x) (from (the_buffer j) + k) 0 ≡ get_or x (from (the_buffer j) + k) 0
  unfolding stored_all turns kept_by AllHeard
  first_six j k zero x a h = refl
  first_six j k (suc m) x a h =
      past_kept j k (kept_by e H r m) (stored_all j (kept_by e H r) m x)
      (far_step (received_by e H m r) (H m) e (a m (omega arith)) (far_all m (λ s l. a s (omega arith)))).1 h
      ∙ first_six j k m x (λ s l. a s (omega arith)) h

  destination_stays : (address : List ℕ) (j m : ℕ) (x : List ℕ) → j < max_stations → area_size ≤ length x → AllHeard H m
      → addressed address (buffer_at (stored_all j (kept_by e H r) m x) j) ≡ addressed address (buffer_at x j)
  unfolding addressed destination_of buffer_at Same
  destination_stays address j m x hj room a =
      let y = stored_all j (kept_by e H r) m x in
      let ly : length y ≡ length x = length_all j (kept_by e H r) m x in
      let at = from (the_buffer j) in
      let lb : length (part y at buffer_octets) ≡ buffer_octets = length_part y at buffer_octets (omega arith) in
      let lc : length (part x at buffer_octets) ≡ buffer_octets = length_part x at buffer_octets (omega arith) in
      ap (λ (d : List ℕ). equal d address || equal d (replicate 6 255))
      (part_goes_by 6 0 (part y at buffer_octets) (part x at buffer_octets) (omega arith) (omega arith)
      (λ k lo up. get_or-take buffer_octets (drop at y) k 0 (omega arith) ∙ get_or-drop at y k 0 ∙ first_six j k m x a
      (omega arith)
      ∙ sym (get_or-take buffer_octets (drop at x) k 0 (omega arith) ∙ get_or-drop at x k 0)))

-- ---- the station's own emission stays known

-- a reception during which the station emitted
abbrev pub Owns : Receiver → Type 0
Owns Listening = ⊥
Owns (Readable n) = ⊥
Owns (Seeking row sp own) = own ≡ true
Owns (Collecting n sp own) = own ≡ true

seek_owns : (row : ℕ) (sp own clean b : Bool) → own ≡ true → Owns (seek row sp own clean b).receiver
unfolding seek seek_bit
seek_owns row sp own true b h = by_test (eqb (next_row row b) 427) (λ c. rw c h) (λ c. rw c h)
seek_owns row sp own false b h = h

or_owns : (own e : Bool) → own ≡ true → (own || e) ≡ true
or_owns own e h = rw h

hear_owns : (q : Receiver) (clean b e : Bool) → Owns q → Owns (hear q clean b e).receiver
unfolding hear collect collect_bit
hear_owns Listening clean b e v = absurd v
hear_owns (Readable n) clean b e v = absurd v
hear_owns (Seeking row sp own) clean b e v = seek_owns row sp (own || e) clean b (or_owns own e v)
hear_owns (Collecting n sp own) clean b e v = or_owns own e v

owns_step : (q : Receiver) (h : Heard) (e : Bool) → hears_any h ≡ true → Owns q → Owns (receive [] [] q h e).receiver
unfolding receive
owns_step q Nothing e p v = absurd (true≢false (sym p))
owns_step q (Clean b) e p v = hear_owns q true b e v
owns_step q Spoiled e p v = hear_owns q false false e v

pub owns_all : (e : Bool) (H : ℕ → Heard) (r : Receiver) (m : ℕ) → AllHeard H m → Owns r → Owns (received_by e H m r)
unfolding received_by turns AllHeard
owns_all e H r zero a v = v
owns_all e H r (suc m) a v =
    owns_step (received_by e H m r) (H m) e (a m (omega arith)) (owns_all e H r m (λ s l. a s (omega arith)) v)

-- one step in which it hears others and emits is enough
seek_emits : (row : ℕ) (sp clean b : Bool) → Owns (seek row sp true clean b).receiver
seek_emits row sp clean b = seek_owns row sp true clean b refl

hear_emits : (q : Receiver) (clean b : Bool) → Owns (hear q clean b true).receiver
unfolding hear collect collect_bit
hear_emits Listening clean b = seek_emits 1 false clean b
hear_emits (Readable n) clean b = seek_emits 1 false clean b
hear_emits (Seeking row sp own) clean b = seek_owns row sp (own || true) clean b (or-true own)
hear_emits (Collecting n sp own) clean b = or-true own

receive_emits : (q : Receiver) (h : Heard) → hears_any h ≡ true → Owns (receive [] [] q h true).receiver
unfolding receive
receive_emits q Nothing p = absurd (true≢false (sym p))
receive_emits q (Clean b) p = hear_emits q true b
receive_emits q Spoiled p = hear_emits q false false

pub emits_owns : (H : ℕ → Heard) (r : Receiver) (m : ℕ) → AllHeard H (suc m) → Owns (received_by true H (suc m) r)
unfolding received_by turns AllHeard
emits_owns H r m a = receive_emits (received_by true H m r) (H m) (a m (omega arith))

-- ---- nothing is reported

module _ (address buf : List ℕ) (more : ℕ) where
  -- fewer than 512 bits come together
  pub may_few : (q : Receiver) → bits_in q + more < shortest_frame → may_report address buf more q ≡ false
  unfolding may_report
  may_few Listening h = lt-leb shortest_frame more (omega arith)
  may_few (Readable n) h = lt-leb shortest_frame more (omega arith)
  may_few (Seeking row sp own) h = rw (lt-leb shortest_frame more (omega arith))
  may_few (Collecting n sp own) h = rw (lt-leb shortest_frame (n + more) h)

  may_owned : (q : Receiver) → Owns q → may_report address buf more q ≡ false
  unfolding may_report
  may_owned Listening v = absurd v
  may_owned (Readable n) v = absurd v
  may_owned (Seeking row sp own) v = by_test (leb shortest_frame more) (λ c. rw (c, v)) (λ c. rw c)
  may_owned (Collecting n sp own) v = by_test (leb shortest_frame (n + more)) (λ c. rw (c, v)) (λ c. rw c)

  may_other : (q : Receiver) → Far q → addressed address buf ≡ false → may_report address buf more q ≡ false
  unfolding may_report
  may_other Listening v h = absurd v
  may_other (Readable n) v h = absurd v
  may_other (Seeking row sp own) v h = absurd v
  may_other (Collecting n sp own) v h =
      by_test (leb shortest_frame (n + more))
      (λ c. by_test own (λ o. rw (c, o)) (λ o. rw (c, o, le-ltb n 48 v, h)))
      (λ c. rw c)

  -- a reception that may not report ends and reports nothing
  pub silent_ends : (q : Receiver) → may_report address buf more q ≡ false
      → ended address buf q ≡ deciding (calmed 1 q) None
  unfolding may_report ended calmed decide
  silent_ends Listening h = refl
  silent_ends (Readable n) h = refl
  silent_ends (Seeking row sp own) h = refl
  silent_ends (Collecting n sp own) h =
      by_test (ltb n shortest_frame)
      (λ c. rw c)
      (λ c. let g = ltb-false n shortest_frame c in
      by_test own
      (λ o. rw (c, o))
      (λ o. by_test (addressed address buf)
      (λ p. absurd (true≢false (rw (le-leb shortest_frame (n + more) (omega arith), o, le-ltb n 48 (omega arith), p) at
      h)))
      (λ p. rw (c, o, p))))

not_both : (a b : Bool) → (a && b) ≡ false → a ≡ true → b ≡ false
not_both true b h e = h
not_both false b h e = absurd (true≢false (sym e))

not_first : (a b : Bool) → (a || b) ≡ false → (a ≡ false) × (b ≡ false)
not_first true b h = absurd (true≢false h)
not_first false b h = (refl, h)

not_not : (a : Bool) → not a ≡ false → a ≡ true
not_not true h = refl
not_not false h = absurd (true≢false h)

-- it still may not after m steps in which others are heard
module _ (address : List ℕ) (j : ℕ) (e : Bool) (H : ℕ → Heard) (m more : ℕ) (x : List ℕ) (hj : j < max_stations)
    (room : area_size ≤ length x) (a : AllHeard H m) (few : m ≤ more) where
  short : (r : Receiver) → row_in r < row_limit → bits_in r + more < shortest_frame
      → may_report address (buffer_at (stored_all j (kept_by e H r) m x) j) (more - m) (received_by e H m r) ≡ false
  short r w h =
      may_few address (buffer_at (stored_all j (kept_by e H r) m x) j) (more - m) (received_by e H m r)
      (omega (arith, (received_range e H m r a w).1))

  pub silent_still : (r : Receiver) → row_in r < row_limit → may_report address (buffer_at x j) more r ≡ false
      → may_report address (buffer_at (stored_all j (kept_by e H r) m x) j) (more - m) (received_by e H m r) ≡ false
  unfolding may_report
  silent_still Listening w h = short Listening w (omega (arith, leb-false shortest_frame more h))
  silent_still (Readable n) w h = short (Readable n) w (omega (arith, leb-false shortest_frame more h))
  silent_still (Seeking row sp own) w h =
      let r : Receiver = Seeking row sp own in
      by_test (leb shortest_frame more)
      (λ c. may_owned address (buffer_at (stored_all j (kept_by e H r) m x) j) (more - m) (received_by e H m r)
      (owns_all e H r m a (not_not own (not_both (leb shortest_frame more) (not own) h c))))
      (λ c. short r w (omega (arith, leb-false shortest_frame more c)))
  silent_still (Collecting n sp own) w h =
      let r : Receiver = Collecting n sp own in
      let b = buffer_at (stored_all j (kept_by e H r) m x) j in
      by_test (leb shortest_frame (n + more))
      (λ c. let rest : (not own && (ltb n 48 || addressed address (buffer_at x j))) ≡ false = not_both
      (leb shortest_frame (n + more)) (not own && (ltb n 48 || addressed address (buffer_at x j))) h c in
      by_test own
      (λ o. may_owned address b (more - m) (received_by e H m r) (owns_all e H r m a o))
      (λ o. let p = not_first (ltb n 48) (addressed address (buffer_at x j))
      (not_both (not own) (ltb n 48 || addressed address (buffer_at x j)) rest (ap not o)) in
      let far = ltb-false n 48 p.0 in
      may_other address b (more - m) (received_by e H m r) (far_all e H r far m a)
      (destination_stays e H r far address j m x hj room a ∙ p.1)))
      (λ c. short r w (omega (arith, leb-false shortest_frame (n + more) c)))

-- ---- the code's own

pub six_long : (x b : List ℕ) (j : ℕ) → b ≡ buffer_at x j → j < max_stations → area_size ≤ length x → 6 ≤ length b
unfolding buffer_at
six_long x b j e hj room = omega (arith, ap length e, length_part x (from (the_buffer j)) buffer_octets (omega arith))

pub destination_is : (x address b : List ℕ) (j : ℕ) (r : Bool) → r ≡ addressed address b → address ≡ address_at x j
    → b ≡ buffer_at x j → r ≡ addressed (address_at x j) (buffer_at x j)
destination_is x address b j r p q e = p ∙ ap₂ addressed q e
