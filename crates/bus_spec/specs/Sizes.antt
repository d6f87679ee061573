-- The sizes that check 2 looks at by value (N3): a frame that is held, and one that can be read, is no longer than the
-- value in its octets allows; and a step keeps it so. Assumes nothing.
use Rattle.std.specs.Prelude.{ℕ, ◌+◌, ◌/◌, ◌%◌, ◌≤◌, ◌≡◌, refl, Bool, true, false, ◌||◌, List, ltb, eqb, length, get_or, take}
use Rattle.std.proofs.Common.{sym, ◌∙◌, true≢false, get_or-take}
use native.Mathlib.Omega.{arith}
use borrow.Author.Tests.{ltb-false, le-ltb, eqb-true, ne_eqb}
use Rattle.std.proofs.Math.Seq.{length-take-le}
use Rattle.octets.specs.Base.{pick, values_of}
use Rattle.octets.specs.BaseLaws.{by_test}
use Rattle.octets.specs.NumberLaws.{get_by}
use Rattle.frame_build.specs.Limits.{min_frame, max_frame, buffer_octets, shortest_frame}
use Rattle.frame_open.specs.Open.{value_of, opened}
use Rattle.station_symbols.specs.declared.Heard.{Heard}
use Rattle.station_symbols.specs.declared.Heard.TheVariants.{Nothing, Clean, Spoiled}
use Rattle.sheet_layout.specs.declared.Figures.{Figures}
use Rattle.station_state.specs.declared.Transmitter.{Transmitter}
use Rattle.station_state.specs.declared.Transmitter.TheVariants.{NoFrame, Waiting, BackingOff, Sending, Heading}
use Rattle.station_state.specs.declared.Transmitter.TheVariants.{Jamming}
use Rattle.station_state.specs.declared.Receiver.{Receiver}
use Rattle.station_state.specs.declared.Receiver.TheVariants.{Listening, Readable, Seeking, Collecting}
use Rattle.station_state.specs.declared.Station.{Station}
use Rattle.station_spec.specs.Transmit.{octets_held, transmit, wait_bit, backoff_bit, send_bit, head_bit, jam_bit}
use Rattle.station_spec.specs.Receive.{next_row, seek_bit, seek, collect_bit, collect, hear, addressed, open_answer}
use Rattle.station_spec.specs.Receive.{readable_after, opening, decide, ended, receive, delimiter_row}
use Rattle.station_symbols.specs.Packet.{hears_any}
use Rattle.station_spec.specs.Step.{tries_after, deferring, next_station, stepped}
use Rattle.station_spec.specs.Count.{octets_in}
use Rattle.area_record.specs.Codec.{transmitter_of, receiver_of, decoded}
use Rattle.area_record.specs.Words.{phase_word, phase_number_word, frame_word, receiver_word, receiver_number_word}
use Rattle.area.specs.Area.{record_at, station_at, frame_at, buffer_at}
use Rattle.area_check.specs.Valid.{held_wrong, readable_wrong}
use Rattle.bus_spec.specs.After.{stored_in}

-- the value stands in the first fourteen octets
pub value_front : (n : ℕ) (l : List ℕ) → 14 ≤ n → value_of (take n l) ≡ value_of l
unfolding value_of
value_front n l h = get_by 2 12 12 (take n l) l (λ k g. get_or-take n l (12 + k) 0 (omega arith))

-- of a station whose frame, held or not, begins with these octets, and which has collected those
pub record Sized (held collected : List ℕ) (s : Station) : Type 0 where
  pub sends : octets_held s.transmitter s.frame ≤ max_frame (value_of held)
  pub reads : octets_in s.receiver ≤ max_frame (value_of collected)

-- ---- check 2 says so of the record's words

held_octets : (c n z : ℕ) → octets_held (transmitter_of c n) z ≡ pick (eqb c 0) 0 z
unfolding transmitter_of
held_octets c n z =
    by_test (eqb c 0) (λ p. rw p)
    (λ p. by_test (eqb c 1) (λ q. rw (p, q))
    (λ q. by_test (eqb c 2) (λ r. rw (p, q, r))
    (λ r. by_test (eqb c 3) (λ t. rw (p, q, r, t))
    (λ t. by_test (eqb c 4) (λ u. rw (p, q, r, t, u)) (λ u. rw (p, q, r, t, u))))))

read_octets : (c n : ℕ) (spoiled own : Bool) → octets_in (receiver_of c n spoiled own) ≡ pick (eqb c 1) n 0
unfolding receiver_of
read_octets c n spoiled own =
    by_test (eqb c 0) (λ p. let e = eqb-true c 0 p in rw (p, ne_eqb c 1 (λ q. omega arith)))
    (λ p. by_test (eqb c 1) (λ q. rw (p, q))
    (λ q. by_test (eqb c 2) (λ r. rw (p, q, r)) (λ r. rw (p, q, r))))

none_long : (m z : ℕ) (b : Bool) → pick b false (ltb m z) ≡ ltb m (pick b 0 z)
none_long m z true = sym (le-ltb m 0 (omega arith))
none_long m z false = refl

some_long : (m z : ℕ) (b : Bool) → pick b (ltb m z) false ≡ ltb m (pick b z 0)
some_long m z true = refl
some_long m z false = sym (le-ltb m 0 (omega arith))

module _ (a : List ℕ) (i : ℕ) where
  held_wrong_lem : held_wrong a i
      ≡ ltb (max_frame (value_of (frame_at a i min_frame))) (octets_held (station_at a i).transmitter (station_at a i).frame)
  unfolding held_wrong station_at decoded
  held_wrong_lem =
      let w = record_at a i in
      rw (held_octets (get_or w phase_word 0) (get_or w phase_number_word 0) (get_or w frame_word 0))
      (none_long (max_frame (value_of (frame_at a i min_frame))) (get_or w frame_word 0) (eqb (get_or w phase_word 0) 0))

  readable_wrong_lem : readable_wrong a i ≡ ltb (max_frame (value_of (buffer_at a i))) (octets_in (station_at a i).receiver)
  unfolding readable_wrong station_at decoded
  readable_wrong_lem =
      let w = record_at a i in
      rw (read_octets (get_or w receiver_word 0) (get_or w receiver_number_word 0) _ _)
      (some_long (max_frame (value_of (buffer_at a i))) (get_or w receiver_number_word 0) (eqb (get_or w receiver_word 0) 1))

  pub sized_passes : held_wrong a i ≡ false → readable_wrong a i ≡ false
      → Sized (frame_at a i min_frame) (buffer_at a i) (station_at a i)
  sized_passes p q =
      record {
        sends = ltb-false (max_frame (value_of (frame_at a i min_frame))) _ (rw held_wrong_lem at p);
        reads = ltb-false (max_frame (value_of (buffer_at a i))) _ (rw readable_wrong_lem at q);
      }

  pub sized_right : Sized (frame_at a i min_frame) (buffer_at a i) (station_at a i)
      → (held_wrong a i ≡ false) × (readable_wrong a i ≡ false)
  sized_right v = (held_wrong_lem ∙ le-ltb _ _ v.sends, readable_wrong_lem ∙ le-ltb _ _ v.reads)

-- ---- a step

held_most : (x : Transmitter) (z : ℕ) → octets_held x z ≤ z
held_most NoFrame z = omega arith
held_most Waiting z = omega arith
held_most (BackingOff w) z = omega arith
held_most (Sending k) z = omega arith
held_most (Heading k) z = omega arith
held_most (Jamming n ends) z = omega arith

-- a step takes no frame
held_step : (f : Figures) (x : Transmitter) (z n draw : ℕ) (start hears : Bool)
    → octets_held (transmit f x z n draw start hears).phase z ≤ octets_held x z
unfolding transmit
held_step f NoFrame z n draw start hears = omega arith
held_step f Waiting z n draw start hears = held_most (wait_bit f z n start hears).phase z
held_step f (BackingOff w) z n draw start hears = held_most (backoff_bit w).phase z
held_step f (Sending k) z n draw start hears = held_most (send_bit f z n k hears).phase z
held_step f (Heading k) z n draw start hears = held_most (head_bit f k).phase z
held_step f (Jamming left ends) z n draw start hears = held_most (jam_bit f n draw left ends).phase z

-- a frame that opens is not too long
open_within : (sp : Bool) (f : List ℕ) (e : ℕ) → eqb (get_or (values_of (opened sp f e).status) 0 0) 5 ≡ true
    → length f ≤ max_frame (value_of f)
unfolding opened
open_within sp f e h =
    by_test (ltb 7 e)
    (λ p. absurd (true≢false (sym (rw p at h))))
    (λ p. by_test (ltb (length f) min_frame)
    (λ q. absurd (true≢false (sym (rw (p, q) at h))))
    (λ q. by_test (ltb (max_frame (value_of f)) (length f))
    (λ r. absurd (true≢false (sym (rw (p, q, r) at h))))
    (λ r. ltb-false (max_frame (value_of f)) (length f) r)))

module _ (buffer : List ℕ) (long : buffer_octets ≤ length buffer) where
  opening_sized : (n : ℕ) (sp : Bool) → shortest_frame ≤ n
      → octets_in (opening buffer n sp).receiver ≤ max_frame (value_of buffer)
  unfolding opening readable_after open_answer
  opening_sized n sp big =
      by_test (ltb buffer_octets (n / 8))
      (λ c. rw c (omega arith))
      (λ c. let h = ltb-false buffer_octets (n / 8) c in
      by_test (eqb (get_or (values_of (opened sp (take (n / 8) buffer) (n % 8)).status) 0 0) 5)
      (λ b. rw (c, b) (rw (
        length-take-le (n / 8) buffer (omega arith),
        value_front (n / 8) buffer (omega arith),
      ) at (open_within sp (take (n / 8) buffer) (n % 8) b)))
      (λ b. rw (c, b) (omega arith)))

  decide_sized : (address : List ℕ) (n : ℕ) (sp own : Bool)
      → octets_in (decide address buffer n sp own).receiver
      ≤ max_frame (value_of (stored_in buffer (decide address buffer n sp own).stored))
  unfolding decide opening
  decide_sized address n sp own =
      by_test (ltb n shortest_frame)
      (λ c. rw c (omega arith))
      (λ c. by_test own (λ o. rw (c, o) (omega arith))
      (λ o. by_test (addressed address buffer)
      (λ b. rw (c, o, b) (opening_sized n sp (ltb-false n shortest_frame c)))
      (λ b. rw (c, o, b) (omega arith))))

  ended_sized : (address : List ℕ) (x : Receiver) → octets_in x ≤ max_frame (value_of buffer)
      → octets_in (ended address buffer x).receiver
      ≤ max_frame (value_of (stored_in buffer (ended address buffer x).stored))
  unfolding ended
  ended_sized address Listening h = omega arith
  ended_sized address (Readable n) h = h
  ended_sized address (Seeking row sp own) h = omega arith
  ended_sized address (Collecting n sp own) h = decide_sized address n sp own

-- while something is heard no frame can be read
seek_none : (row : ℕ) (sp own clean b : Bool) → octets_in (seek row sp own clean b).receiver ≡ 0
unfolding seek seek_bit
seek_none row sp own false b = refl
seek_none row sp own true b = by_test (eqb (next_row row b) delimiter_row) (λ c. rw c) (λ c. rw c)

hear_none : (x : Receiver) (clean b e : Bool) → octets_in (hear x clean b e).receiver ≡ 0
unfolding hear collect collect_bit
hear_none Listening clean b e = seek_none 1 false e clean b
hear_none (Readable n) clean b e = seek_none 1 false e clean b
hear_none (Seeking row sp own) clean b e = seek_none row sp (own || e) clean b
hear_none (Collecting n sp own) clean b e = refl

receive_sized : (address buffer : List ℕ) (x : Receiver) (h : Heard) (e : Bool) → buffer_octets ≤ length buffer
    → octets_in x ≤ max_frame (value_of buffer)
    → octets_in (receive address buffer x h e).receiver
    ≤ max_frame (value_of (stored_in buffer (receive address buffer x h e).stored))
unfolding receive
receive_sized address buffer x Nothing e long h = ended_sized buffer long address x h
receive_sized address buffer x (Clean b) e long h = omega (arith, hear_none x true b e)
receive_sized address buffer x Spoiled e long h = omega (arith, hear_none x false false e)

pub sized_stepped : (f : Figures) (s : Station) (d draw : ℕ) (held buffer : List ℕ) (h : Heard)
    → buffer_octets ≤ length buffer → Sized held buffer s
    → Sized held (stored_in buffer (stepped f s d draw buffer h).stored) (stepped f s d draw buffer h).station
unfolding stepped next_station
sized_stepped f s d draw held buffer h long v =
    record {
      sends =
          let p = held_step f s.transmitter s.frame (tries_after s.attempts (deferring f s h).start) draw
          (deferring f s h).start (hears_any h) in omega (arith, p, v.sends);
      reads = receive_sized s.address buffer s.receiver h _ long v.reads;
    }
