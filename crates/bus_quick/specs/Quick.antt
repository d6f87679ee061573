-- Turns that change little: a station that rests, one in the middle of its frame, one whose reception goes on, one
-- whose gap or backoff goes on. They are found by a few words of the record, and write only what changes; the code that
-- takes them is in `heard`, `collecting`, `sending` and `silence`. Assumes nothing.
use Rattle.std.specs.Prelude.{ℕ, ◌+◌, ◌-◌, ◌*◌, ◌%◌, ◌≤◌, ◌<◌, min, ◌≡◌, Bool, ◌||◌, ◌&&◌, leb, ltb, length, Option, None, Some}
use Rattle.std.proofs.Math.Path.{refl, sym, ap, subst}
use Rattle.std.proofs.Common.{◌∙◌, true≢false, get_or-set_other}
use Rattle.std.proofs.Math.Bool.{true, false, not}
use mathlib.Core.List.{List}
use native.Mathlib.Omega.{arith}
use borrow.Author.Tests.{eqb-true, eqb-false, eq-eqb, ne_eqb, leb-true, ltb-true, lt-ltb, le-ltb, le-leb, lt-leb}
use Rattle.std.proofs.Math.Dec.{eqb}
use Rattle.std.proofs.Math.ListN.{get_or, set}
use Rattle.octets.specs.Base.{pick}
use Rattle.octets.specs.Bits.{digit}
use Rattle.octets.specs.BaseLaws.{by_test, by_eq}
use Rattle.octets.specs.NumberLaws.{Octets}
use Rattle.sheet_layout.specs.declared.Figures.{Figures}
use Rattle.sheet_layout.specs.Layout.{gap_of}
use Rattle.station_symbols.specs.declared.Heard.{Heard}
use Rattle.station_symbols.specs.declared.Heard.TheVariants.{Nothing}
use Rattle.station_symbols.specs.declared.Symbol.{Symbol}
use Rattle.station_symbols.specs.declared.Symbol.TheVariants.{Bit}
use Rattle.station_symbols.specs.declared.Emission.{Emission}
use Rattle.station_symbols.specs.declared.Emission.TheVariants.{Rest, PacketBit}
use Rattle.station_symbols.specs.Packet.{hears_any, symbol_of, packet_bit}
use Rattle.station_state.specs.declared.Deference.{Deference}
use Rattle.station_state.specs.declared.Deference.TheVariants.{Quiet, Busy, Gap}
use Rattle.station_spec.specs.Defer.{defer, quiet_rule, busy_rule, gap_rule, goes_back}
use Rattle.station_state.specs.declared.Transmitter.{Transmitter}
use Rattle.station_state.specs.declared.Transmitter.TheVariants.{NoFrame, Waiting, BackingOff, Sending, Heading}
use Rattle.station_state.specs.declared.Transmitter.TheVariants.{Jamming}
use Rattle.station_spec.specs.Transmit.{waits, transmit, wait_bit, backoff_bit, send_bit, octets_held}
use Rattle.station_state.specs.declared.Receiver.{Receiver}
use Rattle.station_state.specs.declared.Receiver.TheVariants.{Listening, Readable, Seeking, Collecting}
use Rattle.station_spec.specs.declared.Stored.{Stored}
use Rattle.station_spec.specs.Receive.{next_row, hearing, receive, ended, hear, seek, seek_bit, collect, collect_bit}
use Rattle.station_spec.specs.Receive.{stored_bit, row_limit}
use Rattle.station_state.specs.declared.Station.{Station}
use Rattle.station_spec.specs.declared.Stepped.{Stepped}
use Rattle.station_spec.specs.Step.{stepped, next_station, tries_after, draw_after, deferred_after}
use Rattle.area_record.specs.Codec.{flag, deference_of, deference_code, deference_own, transmitter_of, transmitter_code}
use Rattle.area_record.specs.Codec.{receiver_of, receiver_code, decoded, encoded}
use Rattle.area.specs.Places.{station, place}
use Rattle.area.specs.Area.{draw_at, address_at, record_at, station_at, with_station, with_word, frame_at, buffer_at, with_bit}
use Rattle.area.specs.Area.{heard_of, symbol_at, arrival_at, with_arrival}
use Rattle.area.specs.AreaLaws.{record_by, symbol_by, station_keeps, arrival_keeps, length_arrival}
use Rattle.area.specs.Written.{Wrote, wrote_none, wrote_word, wrote_station, arrival_back, station_arrival, bit_arrival}
use Rattle.area.specs.Written.{octets_arrival, word_small}
use Rattle.area.specs.OneWord.{station_back}
use Rattle.bus_spec.specs.BitTime.{outcome_in, act_in, with_stored, happened, with_counted, placed, settled, turn_in}
use Rattle.bus_spec.specs.BitTime.{events_of, no_events}
use Rattle.bus_spec.specs.Medium.{pushed}
use Rattle.bus_spec.specs.Ready.{CanAct, Able}
use Rattle.area.specs.Offsets.{area_size}
use Rattle.frame_build.specs.Limits.{buffer_bits}
use Rattle.sheet_layout.specs.Limits.{max_stations}
use Rattle.area_record.specs.Words.{deference_word, stretch_word, gap_word, phase_word, deferred_word, emitted_word}
use Rattle.area_record.specs.Words.{reception_word, frame_word, attempts_word, draw_word}
use Rattle.area_record.specs.Words.{phase_number_word, receiver_word, receiver_number_word, spoiled_word}

-- ---- what the code tests, and what it then does

-- the record of station i is the one that its state is written as, as every step leaves it
unfoldable pub Plain : List ℕ → ℕ → Type 0
Plain a i = encoded (station_at a i) ≡ record_at a i

-- b is what the turn of station i leaves of x, and nothing happened in it; or the turn is still to be taken
unfoldable pub Taken : Figures → (d n t i : ℕ) → (x b : List ℕ) → Bool → Type 0
Taken f d n t i x b true = (b ≡ turn_in f d n t i x) × (events_of (act_in f d t x i) ≡ no_events)
Taken f d n t i x b false = b ≡ x

-- quiet, no frame, listening or readable, nothing emitted
unfoldable pub rests_in : List ℕ → Bool
rests_in w = eqb (get_or w 0 0) 0 && (eqb (get_or w 3 0) 0 && (eqb (get_or w 13 0) 0 && leb (get_or w 5 0) 1))

-- in a reception, busy, nothing emitted
unfoldable pub hears_in : List ℕ → Bool
hears_in w = ltb 1 (get_or w 5 0) && (eqb (get_or w 0 0) 1 && eqb (get_or w 13 0) 0)

-- in a gap, listening or readable, nothing emitted
unfoldable pub gaps_in : List ℕ → Bool
gaps_in w = eqb (get_or w 0 0) 2 && (eqb (get_or w 13 0) 0 && leb (get_or w 5 0) 1)

-- quiet, in backoff, listening or readable, nothing emitted
unfoldable pub backs_in : List ℕ → Bool
backs_in w = eqb (get_or w 0 0) 0 && (eqb (get_or w 3 0) 2 && (eqb (get_or w 13 0) 0 && leb (get_or w 5 0) 1))

-- no frame; one that waits, and is deferred already or was tried; or a backoff that goes on
unfoldable pub calm_in : List ℕ → Bool
calm_in w =
    pick (eqb (get_or w 3 0) 0) true
    (pick (eqb (get_or w 3 0) 1) (eqb (get_or w 12 0) 1 || not (eqb (get_or w 10 0) 0))
    (pick (eqb (get_or w 3 0) 2) (ltb 1 (get_or w 4 0)) false))

-- a step of backoff, where c is its code and k the steps left
unfoldable pub counted_down : (i c k : ℕ) → List ℕ → List ℕ
counted_down i c k x = pick (eqb c 2) (with_word x i 4 (k - 1)) x

-- code c spoils the reception, unless it is a clean bit's
unfoldable pub spoiled_on : (i c : ℕ) → List ℕ → List ℕ
spoiled_on i c x = pick (leb c 2) x (with_word x i 7 1)

-- a symbol, by its code c, after k collected bits
unfoldable pub collected_on : (i k c : ℕ) → List ℕ → List ℕ
collected_on i k c x = with_stored i (stored_bit k (eqb c 2)) (spoiled_on i c (with_word x i 6 (k + 1)))

-- the next row, which may be the delimiter; and a symbol after a row
unfoldable pub row_on : (i next : ℕ) → List ℕ → List ℕ
row_on i next x = pick (eqb next 427) (with_word (with_word x i 5 3) i 6 0) (with_word x i 6 next)

unfoldable pub sought_on : (i row c : ℕ) → List ℕ → List ℕ
sought_on i row c x = pick (leb c 2) (row_on i (next_row row (eqb c 2)) x) (with_word (with_word x i 6 1) i 7 1)

-- a symbol of a reception, where r is the receiver's code and k its number
unfoldable pub received_on : (i r k c : ℕ) → List ℕ → List ℕ
received_on i r k c x = pick (eqb r 2) (sought_on i k c x) (collected_on i k c x)

-- bit k of a frame of z octets goes out
unfoldable pub sent_on : (n t i k z : ℕ) → List ℕ → List ℕ
sent_on n t i k z x = pushed n t i (Bit (packet_bit (frame_at x i z) k)) (with_word x i 4 (k + 1))

-- ---- tests

pub both_true : (a b : Bool) → (a && b) ≡ true → (a ≡ true) × (b ≡ true)
both_true true b h = (refl, h)
both_true false b h = absurd (true≢false (sym h))

pub or_false : (b : Bool) → (b || false) ≡ b
or_false true = refl
or_false false = refl

or_true : (b : Bool) → (b || true) ≡ true
or_true true = refl
or_true false = refl

-- ---- a station by value

unfoldable pub mk : (address : List ℕ) → Deference → Transmitter → Receiver → (frame attempts draw : ℕ)
    → (deferred emitted : Bool) → Station
mk a d x r z n p df e =
    record {
      address = a;
      deference = d;
      transmitter = x;
      receiver = r;
      frame = z;
      attempts = n;
      draw = p;
      deferred = df;
      emitted = e;
    }

-- a step in which nothing happens
unfoldable pub quietly : Station → Emission → Option Stored → Stepped
quietly s e st = record { station = s; emission = e; start = false; sent = None; got = None; stored = st }

unfoldable pub Still : Receiver → Type 0
Still r = leb (receiver_code r) 1 ≡ true

module _ (f : Figures) (a : List ℕ) (z n p : ℕ) (df : Bool) (d w : ℕ) (buffer : List ℕ) where
  pub rest_step : (r : Receiver) → Still r
      → stepped f (mk a Quiet NoFrame r z n p df false) d w buffer Nothing ≡ quietly
      (mk a Quiet NoFrame r z n p df false) Rest None
  unfolding stepped next_station tries_after draw_after deferred_after defer quiet_rule transmit receive ended mk quietly Still
  rest_step Listening h = rw (or_false df)
  rest_step (Readable k) h = rw (or_false df)
  rest_step (Seeking row sp own) h = absurd (true≢false (sym h))
  rest_step (Collecting k sp own) h = absurd (true≢false (sym h))

  pub send_step : (r : Receiver) (k : ℕ) → Still r → (k ≡ 64 + 8 * z → ⊥)
      → stepped f (mk a (Busy true) (Sending k) r z n p df true) d w buffer Nothing ≡ quietly
      (mk a (Busy true) (Sending (k + 1)) r z n p df true) (PacketBit k) None
  unfolding stepped next_station tries_after draw_after deferred_after defer busy_rule transmit send_bit receive ended mk quietly Still
  send_step Listening k h ne = rw (ne_eqb k (64 + 8 * z) ne, or_false df)
  send_step (Readable m) k h ne = rw (ne_eqb k (64 + 8 * z) ne, or_false df)
  send_step (Seeking row sp own) k h ne = absurd (true≢false (sym h))
  send_step (Collecting m sp own) k h ne = absurd (true≢false (sym h))

  pub back_step : (r : Receiver) (k : ℕ) → Still r → leb k 1 ≡ false
      → stepped f (mk a Quiet (BackingOff k) r z n p df false) d w buffer Nothing ≡ quietly
      (mk a Quiet (BackingOff (k - 1)) r z n p df false) Rest None
  unfolding stepped next_station tries_after draw_after deferred_after defer quiet_rule transmit backoff_bit receive ended mk quietly Still
  back_step Listening k h g = rw (g, or_false df)
  back_step (Readable m) k h g = rw (g, or_false df)
  back_step (Seeking row sp own) k h g = absurd (true≢false (sym h))
  back_step (Collecting m sp own) k h g = absurd (true≢false (sym h))

-- a transmitter that goes on as it is, but for a step of backoff
unfoldable pub later : Transmitter → Transmitter
later NoFrame = NoFrame
later Waiting = Waiting
later (BackingOff k) = BackingOff (k - 1)
later (Sending k) = Sending k
later (Heading k) = Heading k
later (Jamming k ends) = Jamming k ends

unfoldable pub Calm : Transmitter → Bool → ℕ → Type 0
Calm NoFrame df n = Unit {0}
Calm Waiting df n = deferred_after df true n false ≡ df
Calm (BackingOff k) df n = leb k 1 ≡ false
Calm (Sending k) df n = ⊥
Calm (Heading k) df n = ⊥
Calm (Jamming k ends) df n = ⊥

calm_tx : (f : Figures) (x : Transmitter) (z n w : ℕ) (h df : Bool) → Calm x df n
    → transmit f x z n w false h ≡ record { phase = later x; emission = Rest; event = None; drew = false }
unfolding transmit wait_bit backoff_bit later Calm
calm_tx f NoFrame z n w h df c = refl
calm_tx f Waiting z n w h df c = refl
calm_tx f (BackingOff k) z n w h df c = rw c
calm_tx f (Sending k) z n w h df c = absurd c
calm_tx f (Heading k) z n w h df c = absurd c
calm_tx f (Jamming k ends) z n w h df c = absurd c

calm_df : (x : Transmitter) (df : Bool) (n : ℕ) → Calm x df n → deferred_after df (waits x) n false ≡ df
unfolding deferred_after Calm
calm_df NoFrame df n c = or_false df
calm_df Waiting df n c = c
calm_df (BackingOff k) df n c = or_false df
calm_df (Sending k) df n c = absurd c
calm_df (Heading k) df n c = absurd c
calm_df (Jamming k ends) df n c = absurd c

module _ (f : Figures) (a : List ℕ) (x : Transmitter) (z n p : ℕ) (df : Bool) (d w : ℕ) (buffer : List ℕ)
    (c : Calm x df n) where
  pub heard_step : (own : Bool) (r r' : Receiver) (st : Option Stored) (h : Heard) → hears_any h ≡ true
      → receive a buffer r h false ≡ hearing r' st
      → stepped f (mk a (Busy own) x r z n p df false) d w buffer h ≡ quietly
      (mk a (Busy own) (later x) r' z n p df false) Rest st
  unfolding stepped next_station tries_after draw_after defer busy_rule mk quietly
  heard_step own r r' st h eh er = rw (eh, calm_tx f x z n w true df c, calm_df x df n c, er) (simp or_false)

  pub gap_step : (m : ℕ) (own : Bool) (r : Receiver) → leb (gap_of f) m ≡ false → Still r
      → stepped f (mk a (Gap m own) x r z n p df false) d w buffer Nothing ≡ quietly
      (mk a (Gap (m + 1) own) (later x) r z n p df false) Rest None
  unfolding stepped next_station tries_after draw_after defer gap_rule goes_back receive ended mk quietly Still
  gap_step m own Listening g h = rw (g, calm_tx f x z n w false df c, calm_df x df n c)
  gap_step m own (Readable k) g h = rw (g, calm_tx f x z n w false df c, calm_df x df n c)
  gap_step m own (Seeking row sp ow) g h = absurd (true≢false (sym h))
  gap_step m own (Collecting k sp ow) g h = absurd (true≢false (sym h))

-- ---- a symbol of a reception

-- the receiver, by its code r and number k
unfoldable pub within : (r k : ℕ) → (sp ow : Bool) → Receiver
within r k sp ow = pick (eqb r 2) (Seeking k sp ow) (Collecting k sp ow)

-- and after a symbol of code c, with what is stored of it
onward : (r k c : ℕ) → (sp ow : Bool) → Receiver
onward r k c sp ow =
    pick (eqb r 2)
    (pick (leb c 2)
    (pick (eqb (next_row k (eqb c 2)) 427) (Collecting 0 sp ow) (Seeking (next_row k (eqb c 2)) sp ow))
    (Seeking 1 true ow))
    (Collecting (k + 1) (sp || not (leb c 2)) ow)

keeping : (r k c : ℕ) → Option Stored
keeping r k c = pick (eqb r 2) None (stored_bit k (eqb c 2))

heard_any : (c : ℕ) → (c ≡ 0 → ⊥) → hears_any (heard_of c) ≡ true
unfolding heard_of
heard_any c ne =
    by_test (eqb c 1)
    (λ p. rw (ne_eqb c 0 ne, p))
    (λ p. by_test (eqb c 2)
    (λ q. rw (ne_eqb c 0 ne, p, q))
    (λ q. rw (ne_eqb c 0 ne, p, q)))

past_two : (c : ℕ) → (c ≡ 0 → ⊥) → (c ≡ 1 → ⊥) → (c ≡ 2 → ⊥) → 2 < c
past_two c p q r = omega (arith, p, q, r)

heard_as : (a buffer : List ℕ) (r : Receiver) (c : ℕ) → (c ≡ 0 → ⊥)
    → receive a buffer r (heard_of c) false ≡ hear r (leb c 2) (eqb c 2) false
unfolding heard_of receive
heard_as a buffer r c ne =
    by_eq c 1
    (λ p. rw p)
    (λ p. by_eq c 2
    (λ q. rw q)
    (λ q. rw (ne_eqb c 0 ne, ne_eqb c 1 p, ne_eqb c 2 q, lt-leb c 2 (past_two c ne p q))))

heard_on : (a buffer : List ℕ) (r k c : ℕ) (sp ow : Bool) → (c ≡ 0 → ⊥)
    → receive a buffer (within r k sp ow) (heard_of c) false ≡ hearing (onward r k c sp ow) (keeping r k c)
unfolding within onward keeping hear seek seek_bit collect collect_bit
heard_on a buffer r k c sp ow ne =
    heard_as a buffer (within r k sp ow) c ne
    ∙ by_test (eqb r 2)
    (λ e. by_test (leb c 2) (λ p. rw (e, p, or_false ow)) (λ p. rw (e, p, or_false ow)))
    (λ e. rw (e, or_false ow))

row_small : (k : ℕ) (b : Bool) → next_row k b < 4294967296
unfolding next_row
row_small k b =
    by_test (ltb (2 * k + digit b) row_limit) (λ e. rw e (omega (arith, ltb-true (2 * k + digit b) row_limit e)))
    (λ e. rw e (omega arith))

-- ---- the words of a record

module _ (w a : List ℕ) where
  pub rest_state : rests_in w ≡ true
      → (decoded w a ≡ mk a Quiet NoFrame
      (receiver_of (get_or w 5 0) (get_or w 6 0) (eqb (get_or w 7 0) 1) (eqb (get_or w 8 0) 1)) (get_or w 9 0) (get_or w 10 0)
      (get_or w 11 0) (eqb (get_or w 12 0) 1) false)
      × (leb (get_or w 5 0) 1 ≡ true)
  unfolding rests_in decoded deference_of transmitter_of mk
  rest_state h =
      let p = both_true (eqb (get_or w 0 0) 0) _ h in
      let q = both_true (eqb (get_or w 3 0) 0) _ p.1 in
      let r = both_true (eqb (get_or w 13 0) 0) _ q.1 in
      let e : get_or w 13 0 ≡ 0 = eqb-true (get_or w 13 0) 0 r.0 in
      (rw (p.0, q.0, e), r.1)

  pub hear_state : hears_in w ≡ true
      → decoded w a ≡ mk a (Busy (eqb (get_or w 1 0) 1)) (transmitter_of (get_or w 3 0) (get_or w 4 0))
      (within (get_or w 5 0) (get_or w 6 0) (eqb (get_or w 7 0) 1) (eqb (get_or w 8 0) 1)) (get_or w 9 0) (get_or w 10 0)
      (get_or w 11 0) (eqb (get_or w 12 0) 1) false
  unfolding hears_in decoded deference_of receiver_of within mk
  hear_state h =
      let p = both_true (ltb 1 (get_or w 5 0)) _ h in
      let q = both_true (eqb (get_or w 0 0) 1) _ p.1 in
      let g = ltb-true 1 (get_or w 5 0) p.0 in
      let e₀ : get_or w 0 0 ≡ 1 = eqb-true (get_or w 0 0) 1 q.0 in
      let e₁₃ : get_or w 13 0 ≡ 0 = eqb-true (get_or w 13 0) 0 q.1 in
      rw (ne_eqb (get_or w 5 0) 0 (λ z. omega arith), ne_eqb (get_or w 5 0) 1 (λ z. omega arith), e₀, e₁₃)

  pub gap_state : gaps_in w ≡ true
      → (decoded w a ≡ mk a (Gap (get_or w 2 0) (eqb (get_or w 1 0) 1)) (transmitter_of (get_or w 3 0) (get_or w 4 0))
      (receiver_of (get_or w 5 0) (get_or w 6 0) (eqb (get_or w 7 0) 1) (eqb (get_or w 8 0) 1)) (get_or w 9 0) (get_or w 10 0)
      (get_or w 11 0) (eqb (get_or w 12 0) 1) false)
      × (leb (get_or w 5 0) 1 ≡ true)
  unfolding gaps_in decoded deference_of mk
  gap_state h =
      let p = both_true (eqb (get_or w 0 0) 2) _ h in
      let q = both_true (eqb (get_or w 13 0) 0) _ p.1 in
      let e₀ : get_or w 0 0 ≡ 2 = eqb-true (get_or w 0 0) 2 p.0 in
      let e₁₃ : get_or w 13 0 ≡ 0 = eqb-true (get_or w 13 0) 0 q.0 in
      (rw (e₀, e₁₃), q.1)

  pub back_state : backs_in w ≡ true
      → (decoded w a ≡ mk a Quiet (BackingOff (get_or w 4 0))
      (receiver_of (get_or w 5 0) (get_or w 6 0) (eqb (get_or w 7 0) 1) (eqb (get_or w 8 0) 1)) (get_or w 9 0) (get_or w 10 0)
      (get_or w 11 0) (eqb (get_or w 12 0) 1) false)
      × (leb (get_or w 5 0) 1 ≡ true)
  unfolding backs_in decoded deference_of transmitter_of mk
  back_state h =
      let p = both_true (eqb (get_or w 0 0) 0) _ h in
      let q = both_true (eqb (get_or w 3 0) 2) _ p.1 in
      let r = both_true (eqb (get_or w 13 0) 0) _ q.1 in
      let e₃ : get_or w 3 0 ≡ 2 = eqb-true (get_or w 3 0) 2 q.0 in
      let e₁₃ : get_or w 13 0 ≡ 0 = eqb-true (get_or w 13 0) 0 r.0 in
      (rw (p.0, e₃, e₁₃), r.1)

  -- the transmitter of such a record is calm; its words after the step
  pub calm_state : calm_in w ≡ true → Calm (transmitter_of (get_or w 3 0) (get_or w 4 0)) (eqb (get_or w 12 0) 1) (get_or w 10 0)
  unfolding calm_in transmitter_of Calm deferred_after
  calm_state h =
      by_test (eqb (get_or w 3 0) 0)
      (λ c. rw c tt)
      (λ c. by_test (eqb (get_or w 3 0) 1)
      (λ e. rw (c, e) (held (eqb (get_or w 12 0) 1) (eqb (get_or w 10 0) 0) (rw (c, e) at h)))
      (λ e. by_test (eqb (get_or w 3 0) 2)
      (λ u. let g = ltb-true 1 (get_or w 4 0) (rw (c, e, u) at h) in rw (c, e, u) (lt-leb (get_or w 4 0) 1 (omega arith)))
      (λ u. absurd (true≢false (sym (rw (c, e, u) at h))))))
    where
      held : (x y : Bool) → (x || not y) ≡ true → (x || (y && true)) ≡ x
      held true y g = refl
      held false true g = absurd (true≢false (sym g))
      held false false g = refl

  code_back : get_or w 3 0 ≡ 2 → transmitter_of (get_or w 3 0) (get_or w 4 0) ≡ BackingOff (get_or w 4 0)
  unfolding transmitter_of
  code_back e = rw e

  later_back : get_or w 3 0 ≡ 2 → later (transmitter_of (get_or w 3 0) (get_or w 4 0)) ≡ BackingOff (get_or w 4 0 - 1)
  unfolding transmitter_of later
  later_back e = rw e

  later_same : calm_in w ≡ true → (get_or w 3 0 ≡ 2 → ⊥)
      → later (transmitter_of (get_or w 3 0) (get_or w 4 0)) ≡ transmitter_of (get_or w 3 0) (get_or w 4 0)
  unfolding calm_in transmitter_of later
  later_same h ne =
      by_test (eqb (get_or w 3 0) 0)
      (λ c. rw c)
      (λ c. by_test (eqb (get_or w 3 0) 1)
      (λ e. rw (c, e))
      (λ e. absurd (true≢false (sym (rw (c, e, ne_eqb (get_or w 3 0) 2 ne) at h)))))

pub still_code : (c k : ℕ) (sp own : Bool) → leb c 1 ≡ true → Still (receiver_of c k sp own)
unfolding receiver_of Still
still_code c k sp own h =
    by_test (eqb c 0)
    (λ e. rw e)
    (λ e. let g : c ≡ 1 = omega (arith, leb-true c 1 h, eqb-false c 0 e) in rw (e, eq-eqb c 1 g))

-- ---- the line

pub hears_nothing : (x : List ℕ) (i t : ℕ) → symbol_at x i t ≡ 0 → arrival_at x i t ≡ Nothing
unfolding arrival_at heard_of
hears_nothing x i t e = rw e

pub stored_arrival : (i t : ℕ) (st : Option Stored) (x : List ℕ) → i < max_stations
    → with_stored i st (with_arrival x i t Nothing) ≡ with_arrival (with_stored i st x) i t Nothing
stored_arrival i t None x hi = refl
stored_arrival i t (Some s) x hi = bit_arrival x i t Nothing hi s.bit s.one

heard_code_lem : (x : List ℕ) (i t c : ℕ) → c ≡ symbol_at x i t → arrival_at x i t ≡ heard_of c
unfolding arrival_at
heard_code_lem x i t c e = rw e

pub record_arrival : (i t : ℕ) (x : List ℕ) → i < max_stations → record_at (with_arrival x i t Nothing) i ≡ record_at x i
record_arrival i t x hi =
    record_by (with_arrival x i t Nothing) x i (arrival_keeps (station i) x i t Nothing (λ a b. omega arith))

-- a step of backoff leaves the receiver's number
pub count_number : (t i : ℕ) (x : List ℕ) → i < max_stations → area_size ≤ length x → Octets x → (u : ℕ) (v x₀ : List ℕ)
    → v ≡ counted_down i u (get_or (record_at x₀ i) phase_number_word 0) x₀ → x₀ ≡ with_arrival x i t Nothing
    → get_or (record_at v i) receiver_number_word 0 ≡ get_or (record_at x i) receiver_number_word 0
unfolding counted_down
count_number t i x hi room o u v x₀ ev ex =
    let w = record_at x i in
    let m = get_or w 4 0 in
    let y : List ℕ = with_arrival x i t Nothing in
    let long : area_size ≤ length y = omega (arith, length_arrival x i t Nothing) in
    let none : Wrote i y y w = wrote_none i y hi long w (octets_arrival x i t Nothing hi o) (record_arrival i t x hi) in
    let one : Wrote i y (with_word y i 4 (m - 1)) (set w 4 (m - 1)) = wrote_word i y hi long y w 4 (m - 1) none
    (omega arith) (omega (arith, word_small x i 4 o (omega arith))) in
    let ev' : v ≡ pick (eqb u 2) (with_word y i 4 (m - 1)) y = ev ∙ rw (ex, record_arrival i t x hi) in
    by_test (eqb u 2)
    (λ z. let e : v ≡ with_word y i 4 (m - 1) = ev' ∙ rw z in rw (e, one.words)
    (get_or-set_other w 4 6 (m - 1) 0 (λ q. omega arith)))
    (λ z. let e : v ≡ y = ev' ∙ rw z in rw (e, none.words))

-- ---- turns

module _ (f : Figures) (d n t i : ℕ) (x : List ℕ) where
  act_by : (O : Stepped)
      → stepped f (station_at x i) d (draw_at x i (station_at x i).draw) (buffer_at x i) (arrival_at x i t) ≡ O
      → act_in f d t x i ≡ record {
        outcome = O;
        symbol = symbol_of (frame_at x i (octets_held (station_at x i).transmitter (station_at x i).frame)) O.emission;
      }
  unfolding act_in outcome_in
  act_by O e = rw e

  pub taken_by : (s : Station) (e : Emission) (st : Option Stored) (b : List ℕ)
      → stepped f (station_at x i) d (draw_at x i (station_at x i).draw) (buffer_at x i) (arrival_at x i t) ≡ quietly s e st
      → b ≡ pushed n t i (symbol_of (frame_at x i (octets_held (station_at x i).transmitter (station_at x i).frame)) e)
      (with_arrival (with_stored i st (with_station x i s)) i t Nothing)
      → Taken f d n t i x b true
  unfolding Taken turn_in settled placed with_counted happened quietly
  taken_by s e st b p q = rw (act_by (quietly s e st) p) (q, refl)

  pub not_taken : Taken f d n t i x x false
  unfolding Taken
  not_taken = refl

module _ (f : Figures) (d n t i : ℕ) (x : List ℕ) (hi : i < max_stations) (room : area_size ≤ length x) (o : Octets x)
    (plain : Plain x i) where
  -- the record is that of the state, also where the state is written out
  plain_as : (s : Station) → station_at x i ≡ s → encoded s ≡ record_at x i
  unfolding Plain
  plain_as s e = ap encoded (sym e) ∙ plain

  pub rest_taken : (c : Bool) → symbol_at x i t ≡ 0 → c ≡ rests_in (record_at x i) → c ≡ true → Taken f d n t i x x true
  unfolding station_at mk pushed
  rest_taken c hs e h =
      let w = record_at x i in
      let q = rest_state w (address_at x i) (sym e ∙ h) in
      let r = receiver_of (get_or w 5 0) (get_or w 6 0) (eqb (get_or w 7 0) 1) (eqb (get_or w 8 0) 1) in
      let s = mk (address_at x i) Quiet NoFrame r (get_or w 9 0) (get_or w 10 0) (get_or w 11 0) (eqb (get_or w 12 0) 1) false in
      let es : station_at x i ≡ s = q.0 in
      taken_by f d n t i x s Rest None x
      (rw (es, hears_nothing x i t hs)
      (rest_step f (address_at x i) (get_or w 9 0) (get_or w 10 0) (get_or w 11 0) (eqb (get_or w 12 0) 1) d
      (draw_at x i (get_or w 11 0)) (buffer_at x i) r
      (still_code (get_or w 5 0) (get_or w 6 0) (eqb (get_or w 7 0) 1) (eqb (get_or w 8 0) 1) q.1)))
      (rw (station_back x i s hi room o (plain_as s es)) (sym (arrival_back x i t Nothing hs)))

  -- the state, with a transmitter q, and with the one after it
  such : Deference → Transmitter → Receiver → Station
  such dp q r =
      mk (address_at x i) dp q r (get_or (record_at x i) frame_word 0) (get_or (record_at x i) attempts_word 0)
      (get_or (record_at x i) draw_word 0)
      (eqb (get_or (record_at x i) deferred_word 0) 1) false

  now : Transmitter
  now = transmitter_of (get_or (record_at x i) phase_word 0) (get_or (record_at x i) phase_number_word 0)

  back_four : (dp : Deference) (r : Receiver) (j : ℕ)
      → encoded (such dp (BackingOff (j - 1)) r) ≡ set (encoded (such dp (BackingOff j) r)) 4 (j - 1)
  unfolding encoded such mk
  back_four dp r j = refl

  -- the words of a step of backoff, in an area z with this record
  count_writes : (z : List ℕ) → area_size ≤ length z → Octets z → record_at z i ≡ record_at x i
      → (dp : Deference) (r : Receiver) → calm_in (record_at x i) ≡ true → station_at x i ≡ such dp now r
      → Wrote i z (counted_down i (get_or (record_at x i) phase_word 0) (get_or (record_at x i) phase_number_word 0) z)
      (encoded (such dp (later now) r))
  unfolding counted_down now
  count_writes z zr zo ze dp r calm es =
      let w = record_at x i in
      let ad = address_at x i in
      let j = get_or w 4 0 in
      let none : Wrote i z z w = wrote_none i z hi zr w zo ze in
      by_eq (get_or w 3 0) 2
      (λ q. let e : encoded (such dp (later now) r) ≡ set w 4 (j - 1) =
      ap (λ (y : Transmitter). encoded (such dp y r)) (later_back w ad q)
      ∙ back_four dp r j
      ∙ ap (λ (l : List ℕ). set l 4 (j - 1))
      (plain_as (such dp (BackingOff j) r) (es ∙ ap (λ (y : Transmitter). such dp y r) (code_back w ad q))) in
      rw (eq-eqb (get_or w 3 0) 2 q, e)
      (wrote_word i z hi zr z w 4 (j - 1) none (omega arith) (omega (arith, word_small x i 4 o (omega arith)))))
      (λ q. let e : encoded (such dp (later now) r) ≡ w =
      ap (λ (y : Transmitter). encoded (such dp y r)) (later_same w ad calm q) ∙ plain_as (such dp now r) es in
      rw (ne_eqb (get_or w 3 0) 2 q, e) none)

  -- a turn that hears nothing and writes the state's words
  silent_by : (s : Station) (y : List ℕ) → symbol_at x i t ≡ 0 → Wrote i x y (encoded s)
      → y ≡ with_arrival (with_station x i s) i t Nothing
  silent_by s y hs v =
      let e : with_station x i s ≡ y = wrote_station i x hi room y s v in
      let k : symbol_at (with_station x i s) i t ≡ symbol_at x i t =
      symbol_by (with_station x i s) x i t (station_keeps (place i t) x i s (λ a b. omega arith)) in
      sym (arrival_back y i t Nothing (ap (λ (z : List ℕ). symbol_at z i t) (sym e) ∙ k ∙ hs)) ∙ rw e

  -- a turn that hears nothing, emits nothing and writes the state's words
  quiet_taken : (s : Station) (y : List ℕ) → symbol_at x i t ≡ 0
      → stepped f (station_at x i) d (draw_at x i (station_at x i).draw) (buffer_at x i) Nothing ≡ quietly s Rest None
      → Wrote i x y (encoded s) → Taken f d n t i x y true
  unfolding pushed
  quiet_taken s y hs e v = taken_by f d n t i x s Rest None y (rw (hears_nothing x i t hs) e) (silent_by s y hs v)

  gap_two : (m : ℕ) (own : Bool) (q : Transmitter) (r : Receiver)
      → encoded (such (Gap (m + 1) own) q r) ≡ set (encoded (such (Gap m own) q r)) 2 (m + 1)
  unfolding encoded such mk
  gap_two m own q r = refl

  -- a gap that goes on
  pub gap_taken : (z y : List ℕ) → symbol_at x i t ≡ 0 → gaps_in (record_at x i) ≡ true → calm_in (record_at x i) ≡ true
      → get_or (record_at x i) gap_word 0 < gap_of f → get_or (record_at x i) gap_word 0 < 4294967295
      → z ≡ counted_down i (get_or (record_at x i) phase_word 0) (get_or (record_at x i) phase_number_word 0) x
      → y ≡ with_word z i 2 (get_or (record_at x i) gap_word 0 + 1) → Taken f d n t i x y true
  unfolding station_at such mk now
  gap_taken z y hs hg calm below small ez ey =
      let w = record_at x i in
      let ad = address_at x i in
      let m = get_or w 2 0 in
      let own = eqb (get_or w 1 0) 1 in
      let r = receiver_of (get_or w 5 0) (get_or w 6 0) (eqb (get_or w 7 0) 1) (eqb (get_or w 8 0) 1) in
      let q = gap_state w ad hg in
      let es : station_at x i ≡ such (Gap m own) now r = q.0 in
      let v : Wrote i x z (encoded (such (Gap m own) (later now) r)) = rw ez
      (count_writes x room o refl (Gap m own) r calm es) in
      let v₁ : Wrote i x y (encoded (such (Gap (m + 1) own) (later now) r)) =
      rw (ey, gap_two m own (later now) r)
      (wrote_word i x hi room z (encoded (such (Gap m own) (later now) r)) 2 (m + 1) v (omega arith) (omega arith)) in
      quiet_taken (such (Gap (m + 1) own) (later now) r) y hs
      (rw es (gap_step f ad now (get_or w 9 0) (get_or w 10 0) (get_or w 11 0) (eqb (get_or w 12 0) 1) d
      (draw_at x i (get_or w 11 0)) (buffer_at x i) (calm_state w ad calm) m own r (lt-leb (gap_of f) m below)
      (still_code (get_or w 5 0) (get_or w 6 0) (eqb (get_or w 7 0) 1) (eqb (get_or w 8 0) 1) q.1)))
      v₁

  -- a backoff that goes on
  pub back_taken : (y : List ℕ) → symbol_at x i t ≡ 0 → backs_in (record_at x i) ≡ true
      → 1 < get_or (record_at x i) phase_number_word 0
      → y ≡ with_word x i 4 (get_or (record_at x i) phase_number_word 0 - 1) → Taken f d n t i x y true
  unfolding station_at such mk
  back_taken y hs hb more ey =
      let w = record_at x i in
      let ad = address_at x i in
      let k = get_or w 4 0 in
      let r = receiver_of (get_or w 5 0) (get_or w 6 0) (eqb (get_or w 7 0) 1) (eqb (get_or w 8 0) 1) in
      let q = back_state w ad hb in
      let es : station_at x i ≡ such Quiet (BackingOff k) r = q.0 in
      let v : Wrote i x x w = wrote_none i x hi room w o refl in
      let e : encoded (such Quiet (BackingOff (k - 1)) r) ≡ set w 4 (k - 1) =
      back_four Quiet r k ∙ ap (λ (l : List ℕ). set l 4 (k - 1)) (plain_as (such Quiet (BackingOff k) r) es) in
      quiet_taken (such Quiet (BackingOff (k - 1)) r) y hs
      (rw es (back_step f ad (get_or w 9 0) (get_or w 10 0) (get_or w 11 0) (eqb (get_or w 12 0) 1) d (draw_at x i (get_or w 11 0))
      (buffer_at x i) r k (still_code (get_or w 5 0) (get_or w 6 0) (eqb (get_or w 7 0) 1) (eqb (get_or w 8 0) 1) q.1)
      (lt-leb k 1 (omega arith))))
      (rw (ey, e) (wrote_word i x hi room x w 4 (k - 1) v (omega arith)
      (omega (arith, word_small x i 4 o (omega arith)))))

  -- the area with the symbol taken from the line
  cleared : List ℕ
  cleared = with_arrival x i t Nothing

  cleared_room : area_size ≤ length cleared
  unfolding cleared
  cleared_room = omega (arith, length_arrival x i t Nothing)

  Writes : List ℕ → Station → Type 0
  Writes y s = Wrote i cleared y (encoded s)

  -- the words of a reception that goes on
  heard_writes : (dp : Deference) (q : Transmitter) (r k c : ℕ) (sp ow : Bool) (y : List ℕ) → k < 4294967295
      → Writes y (such dp q (within r k sp ow))
      → Writes (pick (eqb r 2) (sought_on i k c y) (spoiled_on i c (with_word y i 6 (k + 1))))
      (such dp q (onward r k c sp ow))
  unfolding within onward sought_on row_on spoiled_on Writes such mk encoded
  heard_writes dp q r k c sp ow y small v =
      by_test (eqb r 2)
      (λ e. let v₁ : Wrote i cleared y (encoded (such dp q (Seeking k sp ow))) = rw e at v in
      by_test (leb c 2)
      (λ p. by_test (eqb (next_row k (eqb c 2)) 427)
      (λ z. rw (e, p, z) (wrote_word i cleared hi cleared_room (with_word y i 5 3)
      (set (encoded (such dp q (Seeking k sp ow))) 5 3) 6 0
      (wrote_word i cleared hi cleared_room y _ 5 3 v₁ (omega arith) (omega arith)) (omega arith) (omega arith)))
      (λ z. rw (e, p, z) (wrote_word i cleared hi cleared_room y (encoded (such dp q (Seeking k sp ow))) 6
      (next_row k (eqb c 2)) v₁ (omega arith) (row_small k (eqb c 2)))))
      (λ p. rw (e, p) (wrote_word i cleared hi cleared_room (with_word y i 6 1)
      (set (encoded (such dp q (Seeking k sp ow))) 6 1) 7 1
      (wrote_word i cleared hi cleared_room y _ 6 1 v₁ (omega arith) (omega arith)) (omega arith) (omega arith))))
      (λ e. let v₁ : Wrote i cleared y (encoded (such dp q (Collecting k sp ow))) = rw e at v in
      let v₂ : Wrote i cleared (with_word y i 6 (k + 1))
      (set (encoded (such dp q (Collecting k sp ow))) 6 (k + 1)) = wrote_word i cleared hi cleared_room y
      (encoded (such dp q (Collecting k sp ow))) 6 (k + 1) v₁ (omega arith) (omega arith) in
      by_test (leb c 2)
      (λ p. rw (e, p, or_false sp) v₂)
      (λ p. rw (e, p, or_true sp) (wrote_word i cleared hi cleared_room (with_word y i 6 (k + 1)) _ 7 1 v₂ (omega arith)
      (omega arith))))

  -- a turn that takes the symbol first, then writes the state's words, then keeps a bit
  heard_by_lem : (s : Station) (st : Option Stored) (y b : List ℕ) → Writes y s → b ≡ with_stored i st y
      → b ≡ with_arrival (with_stored i st (with_station x i s)) i t Nothing
  unfolding Writes cleared
  heard_by_lem s st y b v e =
      e
      ∙ ap (with_stored i st) (sym (wrote_station i cleared hi cleared_room y s v) ∙ station_arrival x i t Nothing hi s)
      ∙ stored_arrival i t st (with_station x i s) hi

  pub heard_taken : (c r u : ℕ) (hs e : Bool) (y v x₀ : List ℕ)
      → y ≡ received_on i r (get_or (record_at v i) receiver_number_word 0) c v
      → v ≡ counted_down i u (get_or (record_at x₀ i) phase_number_word 0) x₀ → x₀ ≡ with_arrival x i t Nothing
      → get_or (record_at x i) receiver_number_word 0 < 4294967295 → r ≡ get_or (record_at x i) receiver_word 0
      → u ≡ get_or (record_at x i) phase_word 0
      → c ≡ symbol_at x i t → (c ≡ 0 → ⊥) → hs ≡ hears_in (record_at x i) → hs ≡ true → e ≡ calm_in (record_at x i)
      → e ≡ true → Taken f d n t i x y true
  unfolding station_at pushed received_on collected_on keeping such now mk cleared Writes
  heard_taken c r u hs e y v x₀ ey ev ex small er eu ec ne eh hh ee he =
      let w = record_at x i in
      let k = get_or w 6 0 in
      let sp = eqb (get_or w 7 0) 1 in
      let ow = eqb (get_or w 8 0) 1 in
      let own = eqb (get_or w 1 0) 1 in
      let calm : calm_in w ≡ true = sym ee ∙ he in
      let es : station_at x i ≡ such (Busy own) now (within r k sp ow) = hear_state w (address_at x i) (sym eh ∙ hh)
      ∙ rw er in
      let ev' : v ≡ counted_down i (get_or w 3 0) (get_or w 4 0) cleared = ev ∙ rw (eu, ex, record_arrival i t x hi) in
      let v₁ : Writes v (such (Busy own) (later now) (within r k sp ow)) =
      rw ev' (count_writes cleared cleared_room (octets_arrival x i t Nothing hi o) (record_arrival i t x hi) (Busy own)
      (within r k sp ow) calm es) in
      let ek : get_or (record_at v i) receiver_number_word 0 ≡ k = count_number t i x hi room o u v x₀ ev ex in
      let eb : y ≡ with_stored i (keeping r k c)
      (pick (eqb r 2) (sought_on i k c v) (spoiled_on i c (with_word v i 6 (k + 1)))) =
      ey ∙ rw ek (by_test (eqb r 2) (λ z. rw z) (λ z. rw z)) in
      let ea : arrival_at x i t ≡ heard_of c = heard_code_lem x i t c ec in
      taken_by f d n t i x (such (Busy own) (later now) (onward r k c sp ow)) Rest (keeping r k c) y
      (rw (es, ea) (heard_step f (address_at x i) now (get_or w 9 0) (get_or w 10 0) (get_or w 11 0) (eqb (get_or w 12 0) 1) d
      (draw_at x i (get_or w 11 0)) (buffer_at x i) (calm_state w (address_at x i) calm) own
      (within r k sp ow) (onward r k c sp ow) (keeping r k c) (heard_of c) (heard_any c ne)
      (heard_on (address_at x i) (buffer_at x i) r k c sp ow ne)))
      (heard_by_lem (such (Busy own) (later now) (onward r k c sp ow)) (keeping r k c) _ y
      (heard_writes (Busy own) (later now) r k c sp ow v small v₁) eb)

-- ---- the code

-- the codes and flags of a plain record are their low octets
pub plain_codes : (a : List ℕ) (i : ℕ) → Plain a i
    → (get_or (record_at a i) deference_word 0 < 256) × (get_or (record_at a i) stretch_word 0 < 256)
    × (get_or (record_at a i) phase_word 0 < 256)
    × (get_or (record_at a i) receiver_word 0 < 256) × (get_or (record_at a i) deferred_word 0 < 256)
    × (get_or (record_at a i) emitted_word 0 < 256)
unfolding Plain encoded
plain_codes a i p =
    let s = station_at a i in
    rw (← p) (
      of_d s.deference,
      of_f (deference_own s.deference),
      of_t s.transmitter,
      of_r s.receiver,
      of_f
          s.deferred,
      of_f s.emitted,
    )
  where
    of_f : (b : Bool) → flag b < 256
    of_f true = omega arith
    of_f false = omega arith

    of_d : (x : Deference) → deference_code x < 256
    of_d Quiet = omega arith
    of_d (Busy own) = omega arith
    of_d (Gap n own) = omega arith

    of_t : (x : Transmitter) → transmitter_code x < 256
    of_t NoFrame = omega arith
    of_t Waiting = omega arith
    of_t (BackingOff k) = omega arith
    of_t (Sending k) = omega arith
    of_t (Heading k) = omega arith
    of_t (Jamming k true) = omega arith
    of_t (Jamming k false) = omega arith

    of_r : (x : Receiver) → receiver_code x < 256
    of_r Listening = omega arith
    of_r (Readable k) = omega arith
    of_r (Seeking row sp own) = omega arith
    of_r (Collecting k sp own) = omega arith

-- two tests by one sum
and_false : (b : Bool) → (b && false) ≡ false
and_false true = refl
and_false false = refl

sum_one : (d e : ℕ) → eqb (d + 2 * e) 1 ≡ (eqb d 1 && eqb e 0)
sum_one d e =
    by_eq e 0
    (λ z. by_eq d 1
    (λ y. rw (z, y))
    (λ y. rw (ne_eqb d 1 y, ne_eqb (d + 2 * e) 1 (λ q. y (omega arith)))))
    (λ z. rw (ne_eqb (d + 2 * e) 1 (λ q. z (omega arith)), ne_eqb e 0 z) (sym (and_false (eqb d 1))))

sum_low : (e r : ℕ) → leb (2 * e + r) 1 ≡ (eqb e 0 && leb r 1)
sum_low e r =
    by_eq e 0
    (λ z. let g : 2 * e + r ≡ r = omega arith in rw (g, z))
    (λ z. rw (ne_eqb e 0 z, lt-leb (2 * e + r) 1 (omega (arith, z))))

sum_three : (b : Bool) (d e r : ℕ) → (b && leb (2 * d + 2 * e + r) 1) ≡ (eqb d 0 && (b && (eqb e 0 && leb r 1)))
sum_three b d e r =
    by_eq d 0
    (λ z. let g : 2 * d + 2 * e + r ≡ 2 * e + r = omega arith in rw (g, sum_low e r, z))
    (λ z. rw (ne_eqb d 0 z, lt-leb (2 * d + 2 * e + r) 1 (omega (arith, z))) (and_false b))

low : (c v : ℕ) → v < 256 → c ≡ v % 256 → c ≡ v
low c v h e = omega arith

module _ (a : List ℕ) (i : ℕ) (p : Plain a i) where
  pub rests_is : (d x e r : ℕ) (b₁ b₂ b₃ : Bool) → b₁ ≡ (eqb d 0 && b₂) → b₂ ≡ (eqb x 0 && b₃)
      → b₃ ≡ (eqb e 0 && leb r 1)
      → r ≡ get_or (record_at a i) receiver_word 0 % 256 → e ≡ get_or (record_at a i) emitted_word 0 % 256
      → x ≡ get_or (record_at a i) phase_word 0 % 256
      → d ≡ get_or (record_at a i) deference_word 0 % 256 → b₁ ≡ rests_in (record_at a i)
  unfolding rests_in
  rests_is d x e r b₁ b₂ b₃ q s u er ee ex ed =
      let k = plain_codes a i p in
      q ∙ rw (s, u, low r _ k.3 er, low e _ k.5 ee, low x _ k.2 ex, low d _ k.0 ed)

  pub hears_is : (r d e : ℕ) (b₁ : Bool) → b₁ ≡ (ltb 1 r && eqb (d + 2 * e) 1)
      → e ≡ get_or (record_at a i) emitted_word 0 → d ≡ get_or (record_at a i) deference_word 0
      → r ≡ get_or (record_at a i) receiver_word 0
      → b₁ ≡ hears_in (record_at a i)
  unfolding hears_in
  hears_is r d e b₁ q ee ed er = q ∙ rw (sum_one d e) (rw (ee, ed, er))

  pub gaps_is : (d e r : ℕ) (b₁ : Bool) → b₁ ≡ (eqb d 2 && leb (2 * e + r) 1)
      → r ≡ get_or (record_at a i) receiver_word 0 → e ≡ get_or (record_at a i) emitted_word 0
      → d ≡ get_or (record_at a i) deference_word 0
      → b₁ ≡ gaps_in (record_at a i)
  unfolding gaps_in
  gaps_is d e r b₁ q er ee ed = q ∙ rw (sum_low e r) (rw (er, ee, ed))

  pub backs_is : (d x e r : ℕ) (b₁ : Bool) → b₁ ≡ (eqb x 2 && leb (2 * d + 2 * e + r) 1)
      → r ≡ get_or (record_at a i) receiver_word 0 → e ≡ get_or (record_at a i) emitted_word 0
      → x ≡ get_or (record_at a i) phase_word 0
      → d ≡ get_or (record_at a i) deference_word 0 → b₁ ≡ backs_in (record_at a i)
  unfolding backs_in
  backs_is d x e r b₁ q er ee ex ed = q ∙ sum_three (eqb x 2) d e r ∙ rw (er, ee, ex, ed)

module _ (w : List ℕ) (c : ℕ) (ec : c ≡ get_or w 3 0) where
  pub calm_none : c ≡ 0 → true ≡ calm_in w
  unfolding calm_in
  calm_none e = rw (← ec, eq-eqb c 0 e)

  pub calm_waits : (b : Bool) (h n : ℕ) → (c ≡ 0 → ⊥) → c ≡ 1 → b ≡ (eqb h 1 || not (eqb n 0)) → h ≡ get_or w 12 0
      → n ≡ get_or w 10 0 → b ≡ calm_in w
  unfolding calm_in
  calm_waits b h n ne e p eh en = p ∙ rw (← ec, ne_eqb c 0 ne, eq-eqb c 1 e, eh, en)

  pub calm_backs : (k : ℕ) → (c ≡ 0 → ⊥) → (c ≡ 1 → ⊥) → c ≡ 2 → k ≡ get_or w 4 0 → ltb 1 k ≡ calm_in w
  unfolding calm_in
  calm_backs k ne ne' e p = rw (← ec, ne_eqb c 0 ne, ne_eqb c 1 ne', eq-eqb c 2 e, p)

  pub calm_not : (c ≡ 0 → ⊥) → (c ≡ 1 → ⊥) → (c ≡ 2 → ⊥) → false ≡ calm_in w
  unfolding calm_in
  calm_not ne ne' ne'' = rw (← ec, ne_eqb c 0 ne, ne_eqb c 1 ne', ne_eqb c 2 ne'')

  -- a backoff that goes on has more than a step left
  pub calm_more : (b : Bool) → b ≡ calm_in w → b ≡ true → c ≡ 2 → 1 ≤ get_or w 4 0
  unfolding calm_in
  calm_more b p q z =
      let h : calm_in w ≡ true = sym p ∙ q in
      let y : get_or w 3 0 ≡ 2 = sym ec ∙ z in
      omega (arith, ltb-true 1 (get_or w 4 0) (rw y at h))

-- also where the symbol is taken from the line
pub calm_cleared : (t i c : ℕ) (x x₀ : List ℕ) (b : Bool) → i < max_stations → c ≡ get_or (record_at x i) phase_word 0
    → x₀ ≡ with_arrival x i t Nothing → b ≡ calm_in (record_at x i) → b ≡ true → c ≡ 2
    → 1 ≤ get_or (record_at x₀ i) phase_number_word 0
calm_cleared t i c x x₀ b hi ec ex p q z = rw (ex, record_arrival i t x hi) (calm_more (record_at x i) c ec b p q z)

module _ (i c : ℕ) (x : List ℕ) where
  pub down_one : (k : ℕ) (y : List ℕ) → c ≡ 2 → y ≡ with_word x i 4 (k - 1) → k ≡ get_or (record_at x i) phase_number_word 0
      → y ≡ counted_down i c (get_or (record_at x i) phase_number_word 0) x
  unfolding counted_down
  down_one k y e p q = p ∙ rw (eq-eqb c 2 e, q)

  pub down_none : (c ≡ 2 → ⊥) → x ≡ counted_down i c (get_or (record_at x i) phase_number_word 0) x
  unfolding counted_down
  down_none e = rw (ne_eqb c 2 e)

module _ (i k : ℕ) (b : Bool) (a : List ℕ) where
  -- m is k, capped far above the buffer
  pub one_kept : (m l : ℕ) (y : List ℕ) → m < buffer_bits → m ≡ min k l → area_size ≤ l → y ≡ with_bit a i m b
      → y ≡ with_stored i (stored_bit k b) a
  unfolding stored_bit
  one_kept m l y h q g e =
      let z : m ≡ k = omega arith in
      rw (lt-ltb k buffer_bits (omega arith)) (rw z at e)

  pub one_dropped : (m l : ℕ) → buffer_bits ≤ m → m ≡ min k l → a ≡ with_stored i (stored_bit k b) a
  unfolding stored_bit
  one_dropped m l h q = rw (le-ltb k buffer_bits (omega arith))

module _ (i c : ℕ) (x : List ℕ) where
  pub spoiled_not : c ≤ 2 → x ≡ spoiled_on i c x
  unfolding spoiled_on
  spoiled_not h = rw (le-leb c 2 h)

  pub spoiled_is : (y : List ℕ) → 2 < c → y ≡ with_word x i 7 1 → y ≡ spoiled_on i c x
  unfolding spoiled_on
  spoiled_is y h p = p ∙ rw (lt-leb c 2 h)

pub collected_is : (i k c : ℕ) (b : Bool) (a x₁ x₂ y : List ℕ) → y ≡ with_stored i (stored_bit k b) x₂
    → x₂ ≡ spoiled_on i c x₁ → x₁ ≡ with_word a i 6 (k + 1) → b ≡ eqb c 2 → k ≡ get_or (record_at a i) receiver_number_word 0
    → y ≡ collected_on i (get_or (record_at a i) receiver_number_word 0) c a
unfolding collected_on
collected_is i k c b a x₁ x₂ y p q r e g = p ∙ rw (q, r, e, ← g)

module _ (i row next : ℕ) (b : Bool) (x : List ℕ) (g : next ≡ next_row row b)
    (h : row ≡ get_or (record_at x i) receiver_number_word 0) where
  pub row_delimiter : (y z : List ℕ) → next ≡ 427 → y ≡ with_word z i 6 0 → z ≡ with_word x i 5 3
      → y ≡ row_on i (next_row (get_or (record_at x i) receiver_number_word 0) b) x
  unfolding row_on
  row_delimiter y z e p q = p ∙ rw (q, ← h, ← g, eq-eqb next 427 e)

  pub row_longer : (y : List ℕ) → (next ≡ 427 → ⊥) → y ≡ with_word x i 6 next
      → y ≡ row_on i (next_row (get_or (record_at x i) receiver_number_word 0) b) x
  unfolding row_on
  row_longer y e p = p ∙ rw (← h, ← g, ne_eqb next 427 e)

module _ (i row c : ℕ) (x : List ℕ) where
  pub sought_bit : (b : Bool) (y : List ℕ) → c ≤ 2 → b ≡ eqb c 2 → y ≡ row_on i (next_row row b) x
      → y ≡ sought_on i row c x
  unfolding sought_on
  sought_bit b y h e p = p ∙ rw (le-leb c 2 h, e)

  pub sought_spoiled : (y z : List ℕ) → 2 < c → y ≡ with_word z i 7 1 → z ≡ with_word x i 6 1 → y ≡ sought_on i row c x
  unfolding sought_on
  sought_spoiled y z h p q = p ∙ rw (q, lt-leb c 2 h)

module _ (i r k c : ℕ) (x y : List ℕ) where
  pub received_seeks : r ≡ 2 → y ≡ sought_on i k c x → y ≡ received_on i r k c x
  unfolding received_on
  received_seeks e p = p ∙ rw (eq-eqb r 2 e)

  pub received_collects : (r ≡ 2 → ⊥) → y ≡ collected_on i k c x → y ≡ received_on i r k c x
  unfolding received_on
  received_collects e p = p ∙ rw (ne_eqb r 2 e)

pub sent_is : (n t i k z : ℕ) (s : Symbol) (a x y : List ℕ) → y ≡ pushed n t i s x → x ≡ with_word a i 4 (k + 1)
    → s ≡ symbol_of (frame_at a i z) (PacketBit k) → y ≡ sent_on n t i k z a
unfolding sent_on
sent_is n t i k z s a x y p q r = p ∙ rw (q, r)

module _ (f : Figures) (x : List ℕ) (i : ℕ) (v : Able f x i) where
  -- the number of a receiver in a reception: bits, or a row
  module _ (c : Bool) (k : ℕ) (ek : k ≡ get_or (record_at x i) receiver_number_word 0) (e : c ≡ hears_in (record_at x i))
      (h : c ≡ true) where
    in_reception : CanAct f (mk (address_at x i) (Busy (eqb (get_or (record_at x i) stretch_word 0) 1))
        (transmitter_of (get_or (record_at x i) phase_word 0) (get_or (record_at x i) phase_number_word 0))
        (within (get_or (record_at x i) receiver_word 0) k (eqb (get_or (record_at x i) spoiled_word 0) 1)
        (eqb (get_or (record_at x i) reception_word 0) 1))
        (get_or (record_at x i) frame_word 0) (get_or (record_at x i) attempts_word 0) (get_or (record_at x i) draw_word 0)
        (eqb (get_or (record_at x i) deferred_word 0) 1) false)
    unfolding Able station_at
    in_reception = rw ek (subst (CanAct f) (hear_state (record_at x i) (address_at x i) (sym e ∙ h)) v)

    pub hears_row : (r : ℕ) → r ≡ get_or (record_at x i) receiver_word 0 → r ≡ 2 → k < 65536
    unfolding mk within
    hears_row r er z =
        let g : get_or (record_at x i) receiver_word 0 ≡ 2 = sym er ∙ z in
        let u = in_reception.room.row in
        omega (arith, rw g at u)

    pub hears_room : k < 4294967295
    unfolding mk within
    hears_room =
        by_test (eqb (get_or (record_at x i) receiver_word 0) 2)
        (λ z. omega (
          arith,
          hears_row (get_or (record_at x i) receiver_word 0) refl
              (eqb-true (get_or (record_at x i) receiver_word 0) 2 z),
        ))
        (λ z. let u = in_reception.room.bits in omega (arith, rw z at u))

pub found : (b c : Bool) → b ≡ c → b ≡ true → c ≡ true
found b c p q = sym p ∙ q

-- ---- in its turn, and after a step

module _ (f : Figures) (d n t i : ℕ) (x b : List ℕ) (r : Bool) (h : Taken f d n t i x b r) where
  pub taken_area : r ≡ true → b ≡ turn_in f d n t i x
  unfolding Taken
  taken_area e = (subst (Taken f d n t i x b) e h).0

  pub taken_events : r ≡ true → events_of (act_in f d t x i) ≡ no_events
  unfolding Taken
  taken_events e = (subst (Taken f d n t i x b) e h).1

  pub left_area : r ≡ false → b ≡ x
  unfolding Taken
  left_area e = subst (Taken f d n t i x b) e h
