-- The ranges of a station's fields, as check 2 lists them: kept by every step, and small enough for the code's sums and
-- for the words of a record. Assumes nothing.
use Prim.Native.Nat.{ℕ, suc, ◌+◌, ◌*◌, ◌/◌, ◌%◌, ◌^◌, ◌≤◌, ◌<◌, min}
use Rattle.std.specs.Prelude.{◌≡◌, refl, Bool, ◌||◌, List, ltb, leb, eqb, get_or, take}
use Rattle.std.proofs.Common.{sym, ◌∙◌, ap, true≢false, pow_pos}
use Rattle.std.proofs.Math.Bool.{true, false}
use Rattle.std.proofs.Math.Nat.{mod-lt, mul-le-mul_left}
use native.Mathlib.Omega.{arith}
use Rattle.std.proofs.Math.Pow.{pow_mono}
use borrow.Author.Tests.{ltb-true, ltb-false, leb-false, eqb-true, eqb-false}
use Rattle.octets.specs.Base.{values_of}
use Rattle.octets.specs.BaseLaws.{by_test}
use Rattle.octets.specs.Bits.{digit}
use Rattle.frame_open.specs.Open.{opened}
use Rattle.sheet_layout.specs.declared.Figures.{Figures}
use Rattle.sheet_layout.specs.Layout.{gap_of}
use Rattle.sheet_layout.specs.CheckLaws.{Figured}
use Rattle.station_symbols.specs.declared.Heard.{Heard}
use Rattle.station_symbols.specs.declared.Heard.TheVariants.{Nothing, Clean, Spoiled}
use Rattle.station_symbols.specs.Packet.{hears_any, is_emission}
use Rattle.station_state.specs.declared.Deference.{Deference}
use Rattle.station_state.specs.declared.Deference.TheVariants.{Quiet, Busy, Gap}
use Rattle.station_spec.specs.Defer.{defer, quiet_rule, busy_rule, gap_rule, gap_over, goes_back}
use Rattle.station_state.specs.declared.Transmitter.{Transmitter}
use Rattle.station_state.specs.declared.Transmitter.TheVariants.{NoFrame, Waiting, BackingOff, Sending, Heading}
use Rattle.station_state.specs.declared.Transmitter.TheVariants.{Jamming}
use Rattle.station_spec.specs.Transmit.{closes_frame, waits, octets_held, packet_length, after_bit, collision, send_bit}
use Rattle.station_spec.specs.Transmit.{head_bit}
use Rattle.station_spec.specs.Transmit.{backoff_range, back_off, last_jam, jam_bit, backoff_bit, wait_bit, transmit}
use Rattle.station_state.specs.State.{number_in}
use Rattle.station_state.specs.declared.Receiver.{Receiver}
use Rattle.station_state.specs.declared.Receiver.TheVariants.{Listening, Readable, Seeking, Collecting}
use Rattle.station_spec.specs.Receive.{next_row, seek_bit, collect_bit, seek, collect, hear, addressed, open_answer}
use Rattle.station_spec.specs.Receive.{readable_after, opening, decide, ended, receive, row_in, bits_in, row_limit}
use Rattle.station_state.specs.declared.Station.{Station}
use Rattle.station_spec.specs.Step.{Roomy, tries_after, draw_after, deferring, sending, next_station, stepped}
use Rattle.station_spec.specs.StepLaws.{tries_more, tries_same}
use Rattle.area_record.specs.Codec.{deference_count, receiver_number}
use Rattle.area_record.specs.CodecLaws.{Fit}
use Rattle.frame_build.specs.Limits.{buffer_octets, shortest_frame}
use Rattle.sheet_layout.specs.Limits.{max_draws, max_attempts}

-- ---- the ranges

-- "gap 1..G"
abbrev pub GapIn : ℕ → Deference → Type 0
GapIn g Quiet = Unit {0}
GapIn g (Busy own) = Unit {0}
GapIn g (Gap n own) = (1 ≤ n) × (n ≤ g)

-- "packet bit 1..64 + 8 × frame, jam left 1..jam, wait 1..slot × 1023"
abbrev pub NumberIn : Figures → ℕ → Transmitter → Type 0
NumberIn f z NoFrame = Unit {0}
NumberIn f z Waiting = Unit {0}
NumberIn f z (BackingOff w) = (1 ≤ w) × (w ≤ f.slot * 1023)
NumberIn f z (Sending k) = (1 ≤ k) × (k ≤ packet_length z)
NumberIn f z (Heading k) = (1 ≤ k) × (k ≤ packet_length z)
NumberIn f z (Jamming n ends) = (1 ≤ n) × (n ≤ f.jam) × (ends ≡ true → f.ends ≡ 1)

-- "attempts 0..limit (below it while a frame waits, 1 or more while one goes out)"
abbrev pub AttemptsIn : ℕ → Transmitter → ℕ → Type 0
AttemptsIn limit NoFrame n = n ≤ limit
AttemptsIn limit Waiting n = n < limit
AttemptsIn limit (BackingOff w) n = n < limit
AttemptsIn limit (Sending k) n = (1 ≤ n) × (n ≤ limit)
AttemptsIn limit (Heading k) n = (1 ≤ n) × (n ≤ limit)
AttemptsIn limit (Jamming m ends) n = (1 ≤ n) × (n ≤ limit)

-- "frame 64..1518", with N3 up to 1522, while one is held
abbrev pub FrameIn : Transmitter → ℕ → Type 0
FrameIn NoFrame z = Unit {0}
FrameIn Waiting z = (64 ≤ z) × (z ≤ buffer_octets)
FrameIn (BackingOff w) z = (64 ≤ z) × (z ≤ buffer_octets)
FrameIn (Sending k) z = (64 ≤ z) × (z ≤ buffer_octets)
FrameIn (Heading k) z = (64 ≤ z) × (z ≤ buffer_octets)
FrameIn (Jamming n ends) z = (64 ≤ z) × (z ≤ buffer_octets)

-- "collected bits up to the clock"; a readable frame is a frame; a row is 1..511
abbrev pub ReceiverIn : ℕ → Receiver → Type 0
ReceiverIn t Listening = Unit {0}
ReceiverIn t (Readable n) = (64 ≤ n) × (n ≤ buffer_octets)
ReceiverIn t (Seeking row spoiled own) = (1 ≤ row) × (row ≤ 511)
ReceiverIn t (Collecting n spoiled own) = n ≤ t

-- a station with these figures, d draws, at clock t. The octets of a frame that is not held are not in use, but fit
-- their word
pub record Fine (f : Figures) (d t : ℕ) (s : Station) : Type 0 where
  pub gap : GapIn (gap_of f) s.deference
  pub number : NumberIn f s.frame s.transmitter
  pub attempts : AttemptsIn f.limit s.transmitter s.attempts
  pub frame : FrameIn s.transmitter s.frame
  pub receiver : ReceiverIn t s.receiver
  pub draw : s.draw < d
  pub wide : s.frame < 256 ^ 4

-- ---- deference

quiet_gap : (g : ℕ) (h e w : Bool) → GapIn g (quiet_rule h e w).phase
unfolding quiet_rule
quiet_gap g true e w = tt
quiet_gap g false true w = tt
quiet_gap g false false w = tt

busy_gap : (g : ℕ) (own h e : Bool) → 1 ≤ g → GapIn g (busy_rule own h e).phase
unfolding busy_rule
busy_gap g own true e p = tt
busy_gap g own false true p = tt
busy_gap g own false false p = (omega arith, p)

over_gap : (g : ℕ) (h e w : Bool) → GapIn g (gap_over h e w).phase
unfolding gap_over
over_gap g h e true = tt
over_gap g h e false = quiet_gap g h e false

gap_gap : (f : Figures) (n : ℕ) (own h e w : Bool) → 1 ≤ n → GapIn (gap_of f) (gap_rule f n own h e w).phase
unfolding gap_rule
gap_gap f n own h e w p =
    by_test (leb (gap_of f) n)
    (λ c. rw c (over_gap (gap_of f) h e w))
    (λ c. by_test (goes_back f.gap1 n own h) (λ b. rw (c, b) tt)
    (λ b. let q = leb-false (gap_of f) n c in rw (c, b) (omega arith, omega arith)))

gap_step : (f : Figures) (d : Deference) (h e w : Bool) → 1 ≤ gap_of f → GapIn (gap_of f) d
    → GapIn (gap_of f) (defer f d h e w).phase
unfolding defer
gap_step f Quiet h e w p v = quiet_gap (gap_of f) h e w
gap_step f (Busy own) h e w p v = busy_gap (gap_of f) own h e p
gap_step f (Gap n own) h e w p v = gap_gap f n own h e w v.0

some_gap : (f : Figures) → Figured f → 1 ≤ gap_of f
unfolding gap_of
some_gap f g = omega (arith, g.gap2)

-- only a waiting frame starts
quiet_start : (h e : Bool) → (quiet_rule h e false).start ≡ false
unfolding quiet_rule
quiet_start true e = refl
quiet_start false true = refl
quiet_start false false = refl

busy_start : (own h e : Bool) → (busy_rule own h e).start ≡ false
unfolding busy_rule
busy_start own true e = refl
busy_start own false true = refl
busy_start own false false = refl

gap_start : (f : Figures) (n : ℕ) (own h e : Bool) → (gap_rule f n own h e false).start ≡ false
unfolding gap_rule gap_over
gap_start f n own h e =
    by_test (leb (gap_of f) n)
    (λ c. rw c (quiet_start h e))
    (λ c. by_test (goes_back f.gap1 n own h) (λ b. rw (c, b)) (λ b. rw (c, b)))

pub no_start : (f : Figures) (d : Deference) (h e : Bool) → (defer f d h e false).start ≡ false
unfolding defer
no_start f Quiet h e = quiet_start h e
no_start f (Busy own) h e = busy_start own h e
no_start f (Gap n own) h e = gap_start f n own h e

-- ---- transmitter: z octets, n attempts with the one that starts now

-- what a step makes of a phase: its number, the attempts, the frame
record Sends (f : Figures) (z n : ℕ) (x : Transmitter) : Type 0 where
  number : NumberIn f z x
  attempts : AttemptsIn f.limit x n
  frame : FrameIn x z

module _ (f : Figures) (g : Figured f) (z n : ℕ) (fz : (64 ≤ z) × (z ≤ buffer_octets)) where
  after_sends : (k : ℕ) (ends : Bool) → (ends ≡ true → f.ends ≡ 1) → 1 ≤ n → n ≤ f.limit
      → Sends f z n (after_bit f.jam k ends)
  unfolding after_bit
  after_sends k ends en p q =
      by_test (ltb k 64)
      (λ c. let h = ltb-true k 64 c in rw c (record {
        number = (omega arith, omega arith);
        attempts = (p, q);
        frame = fz;
      }))
      (λ c. rw c (record { number = (g.jam.0, omega arith, en); attempts = (p, q); frame = fz }))

  bit_sends : (k : ℕ) (h : Bool) → 1 ≤ n → n ≤ f.limit → 1 ≤ k → k ≤ packet_length z
      → Sends f z n (send_bit f z n k h).phase
  unfolding send_bit collision
  bit_sends k true p q l u =
      by_test (ltb f.slot k)
      (λ c. rw c (after_sends k (closes_frame f) (λ e. eqb-true f.ends 1 e) p q))
      (λ c. rw c (after_sends k false (λ e. absurd (true≢false (sym e))) p q))
  bit_sends k false p q l u =
      by_test (eqb k (packet_length z))
      (λ c. rw c (record { number = tt; attempts = q; frame = tt }))
      (λ c. let h = eqb-false k (packet_length z) c in rw c (record {
        number = (omega arith, omega (arith, h));
        attempts = (p, q);
        frame = fz;
      }))

  range_low : (draw : ℕ) → draw % backoff_range n f.backoff ≤ 1023
  unfolding backoff_range
  range_low draw =
      let m : draw % 2 ^ min n f.backoff < 2 ^ min n f.backoff = mod-lt draw (pow_pos (min n f.backoff)) in
      let u : 2 ^ min n f.backoff ≤ 2 ^ 10 = pow_mono {j = 10} (omega (arith, g.backoff)) in
      omega (arith, m, u)

  back_sends : (draw : ℕ) → n < f.limit → Sends f z n (back_off f n draw)
  unfolding back_off
  back_sends draw q =
      by_test (eqb (f.slot * (draw % backoff_range n f.backoff)) 0)
      (λ c. rw c (record { number = tt; attempts = q; frame = fz }))
      (λ c. let h = eqb-false (f.slot * (draw % backoff_range n f.backoff)) 0 c in
      rw c (record {
        number = (omega (arith, h), mul-le-mul_left f.slot (range_low draw));
        attempts = q;
        frame = fz;
      }))

  jam_sends : (draw left : ℕ) (ends : Bool) → (ends ≡ true → f.ends ≡ 1) → 1 ≤ n → n ≤ f.limit → left ≤ f.jam
      → Sends f z n (jam_bit f n draw left ends).phase
  unfolding jam_bit last_jam
  jam_sends draw left ends en p q u =
      by_test (leb left 1)
      (λ c. by_test ends
      (λ d. rw (c, d) (record { number = tt; attempts = q; frame = tt }))
      (λ d. by_test (eqb n f.limit)
      (λ b. rw (c, d, b) (record { number = tt; attempts = q; frame = tt }))
      (λ b. let h = eqb-false n f.limit b in rw (c, d, b) (back_sends draw (omega (arith, h))))))
      (λ c. let h = leb-false left 1 c in rw c (record {
        number = (omega arith, omega arith, en);
        attempts = (p, q);
        frame = fz;
      }))

  wait_sends : (left : ℕ) → n < f.limit → left ≤ f.slot * 1023 → Sends f z n (backoff_bit left).phase
  unfolding backoff_bit
  wait_sends left q u =
      by_test (leb left 1)
      (λ c. rw c (record { number = tt; attempts = q; frame = fz }))
      (λ c. let h = leb-false left 1 c in rw c (record {
        number = (omega arith, omega arith);
        attempts = q;
        frame = fz;
      }))

-- a frame's attempts, with one that starts now; start is false where no frame waits
send_step : (f : Figures) → Figured f → (x : Transmitter) (z m draw : ℕ) (start h : Bool)
    → (waits x ≡ false → start ≡ false)
    → NumberIn f z x → AttemptsIn f.limit x m → FrameIn x z
    → Sends f z (tries_after m start) (transmit f x z (tries_after m start) draw start h).phase
unfolding transmit wait_bit head_bit
send_step f g NoFrame z m draw start h w p q r =
    rw (← tries_same m start (w refl)) (record { number = tt; attempts = q; frame = tt })
send_step f g Waiting z m draw true h w p q r =
    rw (← tries_more m true refl) (bit_sends f g z (m + 1) r 1 h (omega arith) (omega arith) (omega arith)
    (omega arith))
send_step f g Waiting z m draw false h w p q r =
    rw (← tries_same m false refl) (record { number = tt; attempts = q; frame = r })
send_step f g (BackingOff k) z m draw start h w p q r =
    rw (← tries_same m start (w refl)) (wait_sends f g z m r k q p.1)
send_step f g (Sending k) z m draw start h w p q r =
    rw (← tries_same m start (w refl)) (bit_sends f g z m r k h q.0 q.1 p.0 p.1)
send_step f g (Heading k) z m draw start h w p q r =
    rw (← tries_same m start (w refl)) (after_sends f g z m r k false (λ e. absurd (true≢false (sym e))) q.0 q.1)
send_step f g (Jamming k ends) z m draw start h w p q r =
    rw (← tries_same m start (w refl)) (jam_sends f g z m r draw k ends p.2 q.0 q.1 p.1)

-- ---- receiver

row_range : (row : ℕ) (b : Bool) → 1 ≤ row → (1 ≤ next_row row b) × (next_row row b ≤ 511)
unfolding next_row
row_range row b p =
    by_test (ltb (2 * row + digit b) row_limit)
    (λ c. let h = ltb-true (2 * row + digit b) row_limit c in rw c (omega arith, omega arith))
    (λ c. rw c (omega arith, omega arith))

seek_range : (t row : ℕ) (sp own clean b : Bool) → 1 ≤ row → ReceiverIn (suc t) (seek row sp own clean b).receiver
unfolding seek seek_bit
seek_range t row sp own false b p = (omega arith, omega arith)
seek_range t row sp own true b p =
    by_test (eqb (next_row row b) 427) (λ c. rw c (omega arith)) (λ c. rw c (row_range row b p))

hear_range : (t : ℕ) (x : Receiver) (clean b e : Bool) → ReceiverIn t x
    → ReceiverIn (suc t) (hear x clean b e).receiver
unfolding hear collect collect_bit
hear_range t Listening clean b e v = seek_range t 1 false e clean b (omega arith)
hear_range t (Readable n) clean b e v = seek_range t 1 false e clean b (omega arith)
hear_range t (Seeking row sp own) clean b e v = seek_range t row sp (own || e) clean b v.0
hear_range t (Collecting n sp own) clean b e v = omega arith

opening_range : (t n : ℕ) (buffer : List ℕ) (sp : Bool) → shortest_frame ≤ n
    → ReceiverIn t (opening buffer n sp).receiver
unfolding opening readable_after open_answer
opening_range t n buffer sp p =
    by_test (ltb buffer_octets (n / 8))
    (λ c. rw c tt)
    (λ c. let h = ltb-false buffer_octets (n / 8) c in
    by_test (eqb (get_or (values_of (opened sp (take (n / 8) buffer) (n % 8)).status) 0 0) 5)
    (λ b. rw (c, b) (omega arith, omega arith)) (λ b. rw (c, b) tt))

decide_range : (t n : ℕ) (address buffer : List ℕ) (sp own : Bool)
    → ReceiverIn t (decide address buffer n sp own).receiver
unfolding decide
decide_range t n address buffer sp own =
    by_test (ltb n shortest_frame)
    (λ c. rw c tt)
    (λ c. by_test own (λ o. rw (c, o) tt)
    (λ o. by_test (addressed address buffer)
    (λ b. rw (c, o, b) (opening_range t n buffer sp (ltb-false n shortest_frame c))) (λ b. rw (c, o, b) tt)))

ended_range : (t : ℕ) (x : Receiver) (address buffer : List ℕ) → ReceiverIn t x
    → ReceiverIn (suc t) (ended address buffer x).receiver
unfolding ended
ended_range t Listening address buffer v = tt
ended_range t (Readable n) address buffer v = v
ended_range t (Seeking row sp own) address buffer v = tt
ended_range t (Collecting n sp own) address buffer v = decide_range (suc t) n address buffer sp own

receive_range : (t : ℕ) (x : Receiver) (address buffer : List ℕ) (h : Heard) (e : Bool) → ReceiverIn t x
    → ReceiverIn (suc t) (receive address buffer x h e).receiver
unfolding receive
receive_range t x address buffer Nothing e v = ended_range t x address buffer v
receive_range t x address buffer (Clean b) e v = hear_range t x true b e v
receive_range t x address buffer Spoiled e v = hear_range t x false false e v

-- ---- the step

draw_range : (p d : ℕ) (drew : Bool) → p < d → draw_after p d drew < d
unfolding draw_after
draw_range p d true h =
    by_test (eqb (p + 1) d) (λ c. rw c (omega arith)) (λ c. let q = eqb-false (p + 1) d c in rw c (omega (arith, q)))
draw_range p d false h = h

pub fine_stepped : (f : Figures) → Figured f → (d t : ℕ) (s : Station) (draw : ℕ) (buffer : List ℕ) (h : Heard)
    → Fine f d t s
    → Fine f d (suc t) (stepped f s d draw buffer h).station
unfolding stepped next_station
fine_stepped f g d t s draw buffer h v =
    let m : Sends f s.frame (tries_after s.attempts (deferring f s h).start) (sending f s draw h).phase =
    send_step f g s.transmitter s.frame s.attempts draw (deferring f s h).start (hears_any h) start v.number
    v.attempts v.frame in
    record {
      gap = gap_step f s.deference (hears_any h) s.emitted (waits s.transmitter) (some_gap f g) v.gap;
      number = m.number;
      attempts = m.attempts;
      frame = m.frame;
      receiver =
          receive_range t s.receiver s.address buffer h (is_emission (sending f s draw h).emission) v.receiver;
      draw = draw_range s.draw d (sending f s draw h).drew v.draw;
      wide = v.wide;
    }
  where
    start : waits s.transmitter ≡ false → (deferring f s h).start ≡ false
    start e =
        ap (λ (w : Bool). (defer f s.deference (hears_any h) s.emitted w).start) e
        ∙ no_start f s.deference (hears_any h) s.emitted

-- ---- what the ranges give

number_small : (f : Figures) → Figured f → (z : ℕ) (x : Transmitter) → FrameIn x z → NumberIn f z x
    → number_in x < 4294967295
number_small f g z NoFrame r v = omega arith
number_small f g z Waiting r v = omega arith
number_small f g z (BackingOff w) r v = let u : f.slot * 1023 ≤ 523776 = omega (arith, g.slot) in omega (arith, v.1)
number_small f g z (Sending k) r v = omega (arith, v.1, r.1)
number_small f g z (Heading k) r v = omega (arith, v.1, r.1)
number_small f g z (Jamming n ends) r v = omega (arith, v.1, g.jam)

attempts_small : (l n : ℕ) (x : Transmitter) → l ≤ max_attempts → AttemptsIn l x n → n ≤ max_attempts
attempts_small l n NoFrame h v = omega arith
attempts_small l n Waiting h v = omega arith
attempts_small l n (BackingOff w) h v = omega arith
attempts_small l n (Sending k) h v = omega (arith, v.1)
attempts_small l n (Heading k) h v = omega (arith, v.1)
attempts_small l n (Jamming m ends) h v = omega (arith, v.1)

pub held_small : (z : ℕ) (x : Transmitter) → FrameIn x z → octets_held x z ≤ buffer_octets
held_small z NoFrame r = omega arith
held_small z Waiting r = r.1
held_small z (BackingOff w) r = r.1
held_small z (Sending k) r = r.1
held_small z (Heading k) r = r.1
held_small z (Jamming n ends) r = r.1

row_small : (t : ℕ) (x : Receiver) → ReceiverIn t x → row_in x < row_limit
row_small t Listening v = omega arith
row_small t (Readable n) v = omega arith
row_small t (Seeking row sp own) v = omega (arith, v.1)
row_small t (Collecting n sp own) v = omega arith

received_small : (t : ℕ) (x : Receiver) → t < 4294967295 → ReceiverIn t x → receiver_number x < 4294967295
received_small t Listening h v = omega arith
received_small t (Readable n) h v = omega (arith, v.1)
received_small t (Seeking row sp own) h v = omega (arith, v.1)
received_small t (Collecting n sp own) h v = omega arith

bits_small : (t : ℕ) (x : Receiver) → t < 4294967295 → ReceiverIn t x → bits_in x < 4294967295
bits_small t Listening h v = omega arith
bits_small t (Readable n) h v = omega arith
bits_small t (Seeking row sp own) h v = omega arith
bits_small t (Collecting n sp own) h v = omega arith

count_small : (g : ℕ) (x : Deference) → g < 65536 → GapIn g x → deference_count x < 65536
count_small g Quiet h v = omega arith
count_small g (Busy own) h v = omega arith
count_small g (Gap n own) h v = omega (arith, v.1)

module _ (f : Figures) (g : Figured f) (d t : ℕ) (s : Station) (few : d ≤ max_draws) (early : t < 4294967295)
    (v : Fine f d t s) where
  pub fine_room : (n : ℕ) → buffer_octets ≤ n → Roomy f s n
  fine_room n h =
      record {
        gap = omega (arith, g.gap1, g.gap2);
        slot = omega (arith, g.slot);
        backoff = omega (arith, g.backoff);
        frame = omega (arith, held_small s.frame s.transmitter v.frame);
        number = number_small f g s.frame s.transmitter v.frame v.number;
        attempts = omega (arith, attempts_small f.limit s.attempts s.transmitter g.limit.1 v.attempts);
        draw = omega (arith, v.draw);
        row = row_small t s.receiver v.receiver;
        bits = bits_small t s.receiver early v.receiver;
        buffer = h;
      }

  pub fine_fit : Fit s
  unfolding gap_of
  fine_fit =
      record {
        count = omega (arith, count_small (gap_of f) s.deference (omega (arith, g.gap1, g.gap2)) v.gap);
        number = omega (arith, number_small f g s.frame s.transmitter v.frame v.number);
        received = omega (arith, received_small t s.receiver early v.receiver);
        frame = v.wide;
        attempts = omega (arith, attempts_small f.limit s.attempts s.transmitter g.limit.1 v.attempts);
        draw = omega (arith, v.draw);
      }
