-- The fold: a step of it is a step of the receiver, whatever the buffer holds; it falls into parts; its numbers stay in
-- range. Assumes nothing.
use Rattle.std.specs.Prelude.{ℕ, zero, suc, ◌+◌, ◌-◌, ◌*◌, ◌^◌, ◌≤◌, ◌<◌, ◌≡◌, Bool, true, false, ◌||◌, eqb, ltb, length}
use Rattle.std.proofs.Math.Path.{refl, ap}
use Rattle.std.proofs.Common.{sym, ◌∙◌, ap₂, true≢false, arith, ltb-true}
use mathlib.Core.List.{List, []}
use Rattle.octets.specs.BaseLaws.{by_test}
use Rattle.octets.specs.Bits.{digit}
use Rattle.octets.specs.Turns.{turns}
use Rattle.station_symbols.specs.declared.Heard.{Heard}
use Rattle.station_symbols.specs.declared.Heard.TheVariants.{Nothing, Clean, Spoiled}
use Rattle.station_symbols.specs.Packet.{hears_any}
use Rattle.station_state.specs.declared.Receiver.{Receiver}
use Rattle.station_state.specs.declared.Receiver.TheVariants.{Listening, Readable, Seeking, Collecting}
use Rattle.station_spec.specs.Receive.{row_in, bits_in, next_row, hearing, seek_bit, seek, collect, collect_bit, hear}
use Rattle.station_spec.specs.Receive.{receive, row_limit}
use Rattle.area_record.specs.Codec.{receiver_number}
use Rattle.area.specs.Places.{Part, buffer, Off, Keeps}
use Rattle.area.specs.AreaLaws.{keeps_refl, keeps_trans}
use Rattle.bus_spec.specs.InPlace.{Kept, length_stored, stored_keeps}
use Rattle.bus_spec.specs.Ready.{receive_kept}
use Rattle.fast_plan.specs.Goes.{stored_all}
use Rattle.fast_receive.specs.Received.{Taken, taken, step_taken, heard_all, received_by, kept_by, spoils, bits_from}
use Rattle.fast_receive.specs.Received.{AllHeard}
use Rattle.frame_build.specs.Limits.{shortest_frame}

-- ---- a step in which others are heard looks at no address and no octets, and has no event

seek_is : (row : ℕ) (sp own clean b : Bool)
    → hearing (seek row sp own clean b).receiver (seek row sp own clean b).stored ≡ seek row sp own clean b
unfolding seek seek_bit
seek_is row sp own true b = refl
seek_is row sp own false b = refl

hear_is : (r : Receiver) (clean b e : Bool)
    → hear r clean b e ≡ hearing (hear r clean b e).receiver (hear r clean b e).stored
unfolding hear collect collect_bit
hear_is Listening clean b e = sym (seek_is 1 false e clean b)
hear_is (Readable n) clean b e = sym (seek_is 1 false e clean b)
hear_is (Seeking row sp own) clean b e = sym (seek_is row sp (own || e) clean b)
hear_is (Collecting n sp own) clean b e = refl

pub heard_alone : (address buf : List ℕ) (r : Receiver) (h : Heard) (e : Bool) → hears_any h ≡ true
    → receive address buf r h e ≡ hearing (receive [] [] r h e).receiver (receive [] [] r h e).stored
unfolding receive
heard_alone address buf r Nothing e p = absurd (true≢false (sym p))
heard_alone address buf r (Clean b) e p = hear_is r true b e
heard_alone address buf r Spoiled e p = hear_is r false false e

-- ---- the fold

module _ (e : Bool) (H : ℕ → Heard) (r : Receiver) where
  pub received_none : received_by e H 0 r ≡ r
  unfolding received_by turns
  received_none = refl

  pub received_more : (m : ℕ) → received_by e H (suc m) r ≡ (receive [] [] (received_by e H m r) (H m) e).receiver
  unfolding received_by turns
  received_more m = refl

  -- one more step is a step of the receiver
  pub received_step : (m : ℕ) (address buf : List ℕ) → hears_any (H m) ≡ true
      → receive address buf (received_by e H m r) (H m) e ≡ hearing (received_by e H (suc m) r) (kept_by e H r m)
  unfolding kept_by
  received_step m address buf p =
      heard_alone address buf (received_by e H m r) (H m) e p
      ∙ ap (λ (q : Receiver). hearing q (receive [] [] (received_by e H m r) (H m) e).stored) (sym (received_more m))

  pub kept_by_lem : (m : ℕ) → Kept (kept_by e H r m)
  unfolding kept_by
  kept_by_lem m = receive_kept [] [] (received_by e H m r) (H m) e

-- both at once
pub heard_all_lem : (j : ℕ) (e : Bool) (H : ℕ → Heard) (m : ℕ) (r : Receiver) (x : List ℕ)
    → heard_all j e H m (taken r x) ≡ taken (received_by e H m r) (stored_all j (kept_by e H r) m x)
unfolding heard_all step_taken received_by kept_by stored_all turns
heard_all_lem j e H zero r x = refl
heard_all_lem j e H (suc m) r x =
    ap (λ (q : Taken). step_taken j (receive [] [] q.receiver (H m) e) q.octets) (heard_all_lem j e H m r x)

module _ (j : ℕ) (e : Bool) (H : ℕ → Heard) (m : ℕ) (r q : Receiver) (x y : List ℕ)
    (p : taken q y ≡ heard_all j e H m (taken r x)) where
  pub heard_receiver : q ≡ received_by e H m r
  heard_receiver = ap (λ (t : Taken). t.receiver) (p ∙ heard_all_lem j e H m r x)

  pub heard_octets : y ≡ stored_all j (kept_by e H r) m x
  heard_octets = ap (λ (t : Taken). t.octets) (p ∙ heard_all_lem j e H m r x)

-- only what is heard in these steps matters
pub heard_same : (j : ℕ) (e : Bool) (H G : ℕ → Heard) (m : ℕ) (p : Taken) → ((s : ℕ) → s < m → H s ≡ G s)
    → heard_all j e H m p ≡ heard_all j e G m p
unfolding heard_all turns
heard_same j e H G zero p h = refl
heard_same j e H G (suc m) p h =
    ap₂ (λ (k : Heard) (q : Taken). step_taken j (receive [] [] q.receiver k e) q.octets) (h m (omega arith))
    (heard_same j e H G m p (λ s l. h s (omega arith)))

-- some steps, and then others
pub turns_add : {A : Type 0} (f : ℕ → A → A) (a b : ℕ) (x : A)
    → turns f (a + b) x ≡ turns (λ s y. f (a + s) y) b (turns f a x)
unfolding turns
turns_add f a zero x = let e : a + 0 ≡ a = omega arith in ap (λ (k : ℕ). turns f k x) e
turns_add f a (suc b) x =
    let e : a + suc b ≡ suc (a + b) = omega arith in ap (λ (k : ℕ). turns f k x) e ∙ ap (f (a + b)) (turns_add f a b x)

pub heard_split : (j : ℕ) (e : Bool) (H : ℕ → Heard) (a b : ℕ) (p : Taken)
    → heard_all j e H (a + b) p ≡ heard_all j e (λ s. H (a + s)) b (heard_all j e H a p)
unfolding heard_all
heard_split j e H a b p = turns_add (λ s q. step_taken j (receive [] [] q.receiver (H s) e) q.octets) a b p

-- ---- lengths, and what is kept

pub length_heard : (j : ℕ) (e : Bool) (H : ℕ → Heard) (m : ℕ) (p : Taken)
    → length (heard_all j e H m p).octets ≡ length p.octets
unfolding heard_all turns step_taken
length_heard j e H zero p = refl
length_heard j e H (suc m) p =
    let y = heard_all j e H m p in length_stored j (receive [] [] y.receiver (H m) e).stored y.octets
    ∙ length_heard j e H m p

pub heard_keeps : (u : Part) (j : ℕ) (e : Bool) (H : ℕ → Heard) (m : ℕ) (p : Taken) → Off u (buffer j)
    → Keeps u (heard_all j e H m p).octets p.octets
unfolding heard_all turns step_taken
heard_keeps u j e H zero p o = keeps_refl u p.octets
heard_keeps u j e H (suc m) p o =
    let y = heard_all j e H m p in
    keeps_trans u _ y.octets p.octets
    (stored_keeps u j (receive [] [] y.receiver (H m) e).stored y.octets
    (receive_kept [] [] y.receiver (H m) e) o) (heard_keeps u j e H m p o)

-- ---- what is always heard

pub spoils_heard : (m : ℕ) → AllHeard spoils m
unfolding AllHeard spoils
spoils_heard m s h = refl

pub bits_heard : (F : List ℕ) (a m : ℕ) → AllHeard (bits_from F a) m
unfolding AllHeard bits_from
bits_heard F a m s h = refl

-- ---- ranges

row_next : (row : ℕ) (b : Bool) → next_row row b < row_limit
unfolding next_row
row_next row b =
    by_test (ltb (2 * row + digit b) row_limit) (λ c. rw c (ltb-true (2 * row + digit b) row_limit c))
    (λ c. rw c (omega arith))

seek_range : (row n : ℕ) (sp own clean b : Bool)
    → (row_in (seek row sp own clean b).receiver < row_limit) × (bits_in (seek row sp own clean b).receiver ≤ n)
unfolding seek seek_bit
seek_range row n sp own true b =
    by_test (eqb (next_row row b) 427) (λ c. rw c (omega arith, omega arith)) (λ c. rw c (row_next row b, omega arith))
seek_range row n sp own false b = (omega arith, omega arith)

-- a row is below 512, and there is at most one bit more
pub hear_range : (r : Receiver) (clean b e : Bool)
    → (row_in (hear r clean b e).receiver < row_limit) × (bits_in (hear r clean b e).receiver ≤ bits_in r + 1)
unfolding hear collect collect_bit
hear_range Listening clean b e = seek_range 1 1 false e clean b
hear_range (Readable n) clean b e = seek_range 1 1 false e clean b
hear_range (Seeking row sp own) clean b e = seek_range row 1 sp (own || e) clean b
hear_range (Collecting n sp own) clean b e = (omega arith, omega arith)

receive_range : (r : Receiver) (h : Heard) (e : Bool) → hears_any h ≡ true
    → (row_in (receive [] [] r h e).receiver < row_limit) × (bits_in (receive [] [] r h e).receiver ≤ bits_in r + 1)
unfolding receive
receive_range r Nothing e p = absurd (true≢false (sym p))
receive_range r (Clean b) e p = hear_range r true b e
receive_range r Spoiled e p = hear_range r false false e

pub received_range : (e : Bool) (H : ℕ → Heard) (m : ℕ) (r : Receiver) → AllHeard H m → row_in r < row_limit
    → (row_in (received_by e H m r) < row_limit) × (bits_in (received_by e H m r) ≤ bits_in r + m)
unfolding received_by turns AllHeard
received_range e H zero r a h = (h, omega arith)
received_range e H (suc m) r a h =
    let p = received_range e H m r (λ s l. a s (omega arith)) h in
    let q = receive_range (received_by e H m r) (H m) e (a m (omega arith)) in
    (q.0, omega (arith, p.1, q.1))

-- so the receiver's number fits its word
seek_number : (row : ℕ) (sp own clean b : Bool) → receiver_number (seek row sp own clean b).receiver < shortest_frame
unfolding seek seek_bit
seek_number row sp own true b = by_test (eqb (next_row row b) 427) (λ c. rw c (omega arith)) (λ c. rw c (row_next row b))
seek_number row sp own false b = omega arith

hear_number : (r : Receiver) (n : ℕ) (clean b e : Bool) → bits_in r < n → shortest_frame ≤ n
    → receiver_number (hear r clean b e).receiver ≤ n
unfolding hear collect collect_bit
hear_number Listening n clean b e h g = omega (arith, seek_number 1 false e clean b)
hear_number (Readable k) n clean b e h g = omega (arith, seek_number 1 false e clean b)
hear_number (Seeking row sp own) n clean b e h g = omega (arith, seek_number row sp (own || e) clean b)
hear_number (Collecting k sp own) n clean b e h g = omega arith

receive_number : (r : Receiver) (n : ℕ) (h : Heard) (e : Bool) → hears_any h ≡ true → bits_in r < n → shortest_frame ≤ n
    → receiver_number (receive [] [] r h e).receiver ≤ n
unfolding receive
receive_number r n Nothing e p = absurd (true≢false (sym p))
receive_number r n (Clean b) e p = hear_number r n true b e
receive_number r n Spoiled e p = hear_number r n false false e

pub received_fits : (e : Bool) (H : ℕ → Heard) (m : ℕ) (r : Receiver) → AllHeard H m → row_in r < row_limit
    → bits_in r + m < 256 ^ 4 → receiver_number r < 256 ^ 4 → receiver_number (received_by e H m r) < 256 ^ 4
unfolding received_by turns AllHeard
received_fits e H zero r a h n w = w
received_fits e H (suc m) r a h n w =
    let p = received_range e H m r (λ s l. a s (omega arith)) h in
    let q = receive_number (received_by e H m r) (256 ^ 4 - 1) (H m) e (a m (omega arith)) (omega (arith, p.1))
    (omega arith) in
    omega (arith, q)
