-- "From a fresh start, offered equals sent plus excessive plus frames still held." On any layout, fitting or not.
-- Assumes nothing.
use Rattle.std.specs.Prelude.{ℕ, ◌+◌, ◌*◌, ◌%◌, ◌≤◌, ◌<◌, min, ◌≡◌, Bool, true, false, List, [], ltb, leb, eqb, length, get_or, Option, None, Some}
use Rattle.std.proofs.Math.Path.{refl}
use Rattle.std.proofs.Common.{◌∙◌, ap, eq-eqb, leb-false, length-set, get_or-set_same, get_or-set_other}
use native.Mathlib.Omega.{arith}
use Rattle.octets.specs.Base.{accepted}
use Rattle.octets.specs.BaseLaws.{by_test, by_eq}
use Rattle.octets.specs.Bits.{digit}
use Rattle.octets.specs.Number.{get}
use Rattle.octets.specs.Words.{words_at}
use Rattle.octets.specs.WordsLaws.{length_words, word_at}
use Rattle.frame_build.specs.Limits.{refuses_data, buffer_octets}
use Rattle.frame_build.specs.Build.{frame_of}
use Rattle.sheet_layout.specs.declared.Figures.{Figures}
use Rattle.sheet_layout.specs.declared.Layout.{Layout}
use Rattle.sheet_layout.specs.Layout as lay
use Rattle.sheet_layout.specs.Check.{refusal_of}
use Rattle.station_state.specs.declared.Transmitter.{Transmitter}
use Rattle.station_state.specs.declared.Transmitter.TheVariants.{NoFrame, Waiting, BackingOff, Sending, Heading}
use Rattle.station_state.specs.declared.Transmitter.TheVariants.{Jamming}
use Rattle.station_spec.specs.declared.TransmitEvent.{TransmitEvent}
use Rattle.station_spec.specs.declared.TransmitEvent.TheVariants.{Collision, Late, Sent, GivenUp}
use Rattle.station_spec.specs.declared.TransmitEvent.TheVariants.{LateEnded}
use Rattle.station_spec.specs.Transmit.{after_bit, collision, send_bit, head_bit, backoff_range, back_off, last_jam}
use Rattle.station_spec.specs.Transmit.{closes_frame}
use Rattle.station_spec.specs.Transmit.{jam_bit, backoff_bit, wait_bit, packet_length, transmit}
use Rattle.station_spec.specs.declared.ReceiveEvent.{ReceiveEvent}
use Rattle.station_spec.specs.declared.ReceiveEvent.TheVariants.{GotOk, GotTooLong, GotAlignment}
use Rattle.station_spec.specs.declared.ReceiveEvent.TheVariants.{GotCheck, GotLength}
use Rattle.station_state.specs.declared.Station.{Station}
use Rattle.station_spec.specs.declared.Stepped.{Stepped}
use Rattle.station_spec.specs.Step.{stepped, next_station}
use Rattle.station_spec.specs.Count.{offered, sent, excessive, added, added_if, count_sent, count_transmit, count_receive}
use Rattle.station_spec.specs.Count.{late_ended}
use Rattle.station_spec.specs.Count.{counted}
use Rattle.area.specs.Area.{clock_at, count_at, address_at, counters_at, station_at, figures_at}
use Rattle.area.specs.AreaLaws.{count_by}
use Rattle.bus_start.specs.Fresh.{fresh}
use Rattle.bus_start.specs.FreshLaws.{Formed, fresh_counters, fresh_count}
use Rattle.sheet_layout.specs.CheckLaws.{sound}
use Rattle.area_check.specs.Valid.{area_refusal}
use Rattle.bus_spec.specs.BitTime.{outcome_in, act_in, act_at, step_area}
use Rattle.bus_spec.specs.Ready.{Readiness}
use Rattle.bus_spec.specs.Passes.{Passing, ready_passes}
use Rattle.bus_spec.proofs.Stays.{step_layout, step_clock, step_station, step_counters}
use Rattle.bus_offer.specs.Offer as offers
use Rattle.bus_offer.specs.OfferLaws.{address_six}
use Rattle.bus_start.specs.Start.{started}
use Rattle.bus_step.specs.Step.{stepped_once}
use Rattle.delivery.specs.Passing.{by_start, fresh_station, start_station, holding, offer_layout, offer_clock}
use Rattle.delivery.specs.Passing.{offer_own, offer_other, offer_counters, offer_counters_other, frame_range}
use Rattle.sheet_layout.specs.Limits.{last_clock, max_stations, max_draws}
use Rattle.area.specs.Offsets.{area_size, from, the_counters}
use Rattle.station_state.specs.State.{counter_count}

-- a frame still held counts one
held : Transmitter → ℕ
held t = digit (offers.holds t)

-- what an event ends
sent_in : Option TransmitEvent → ℕ
sent_in None = 0
sent_in (Some (Collision k)) = 0
sent_in (Some (Late k closes)) = 0
sent_in (Some (Sent n)) = 1
sent_in (Some (GivenUp n)) = 0
sent_in (Some (LateEnded n)) = 0

given_in : Option TransmitEvent → ℕ
given_in None = 0
given_in (Some (Collision k)) = 0
given_in (Some (Late k closes)) = 0
given_in (Some (Sent n)) = 0
given_in (Some (GivenUp n)) = 1
given_in (Some (LateEnded n)) = 0

closed_in : Option TransmitEvent → ℕ
closed_in None = 0
closed_in (Some (Collision k)) = 0
closed_in (Some (Late k closes)) = 0
closed_in (Some (Sent n)) = 0
closed_in (Some (GivenUp n)) = 0
closed_in (Some (LateEnded n)) = 1

-- ---- a step of the transmitter ends a frame just where it reports so

after_held : (jam k : ℕ) (ends : Bool) → held (after_bit jam k ends) ≡ 1
unfolding after_bit held
after_held jam k ends = by_test (ltb k 64) (λ e. rw e) (λ e. rw e)

collision_ends : (f : Figures) (k : ℕ)
    → held (collision f k).phase + sent_in (collision f k).event + given_in (collision f k).event + closed_in
    (collision f k).event ≡ 1
unfolding collision sent_in given_in closed_in
collision_ends f k =
    by_test (ltb f.slot k) (λ e. rw (e, after_held f.jam k (closes_frame f)))
    (λ e. rw (e, after_held f.jam k false))

bit_ends : (f : Figures) (z n k : ℕ) (h : Bool)
    → held (send_bit f z n k h).phase + sent_in (send_bit f z n k h).event + given_in (send_bit f z n k h).event
    + closed_in (send_bit f z n k h).event ≡ 1
unfolding send_bit held sent_in given_in closed_in
bit_ends f z n k true = collision_ends f k
bit_ends f z n k false = by_test (eqb k (packet_length z)) (λ e. rw e) (λ e. rw e)

back_held : (f : Figures) (n draw : ℕ) → held (back_off f n draw) ≡ 1
unfolding back_off held
back_held f n draw = by_test (eqb (f.slot * (draw % backoff_range n f.backoff)) 0) (λ e. rw e) (λ e. rw e)

jam_ends : (f : Figures) (n draw left : ℕ) (ends : Bool)
    → held (jam_bit f n draw left ends).phase + sent_in (jam_bit f n draw left ends).event
    + given_in (jam_bit f n draw left ends).event + closed_in (jam_bit f n draw left ends).event ≡ 1
unfolding jam_bit last_jam held sent_in given_in closed_in
jam_ends f n draw left ends =
    by_test (leb left 1)
    (λ e. by_test ends (λ d. rw (e, d))
    (λ d. by_test (eqb n f.limit) (λ c. rw (e, d, c)) (λ c. rw (e, d, c, back_held f n draw))))
    (λ e. rw e)

back_ends : (left : ℕ)
    → held (backoff_bit left).phase + sent_in (backoff_bit left).event + given_in (backoff_bit left).event + closed_in
    (backoff_bit left).event ≡ 1
unfolding backoff_bit held sent_in given_in closed_in
back_ends left = by_test (leb left 1) (λ e. rw e) (λ e. rw e)

transmit_ends : (f : Figures) (x : Transmitter) (z n draw : ℕ) (start h : Bool)
    → held (transmit f x z n draw start h).phase + sent_in (transmit f x z n draw start h).event + given_in
    (transmit f x z n draw start h).event + closed_in (transmit f x z n draw start h).event ≡ held x
unfolding transmit wait_bit head_bit held sent_in given_in closed_in
transmit_ends f NoFrame z n draw start h = refl
transmit_ends f Waiting z n draw true h = bit_ends f z n 1 h
transmit_ends f Waiting z n draw false h = refl
transmit_ends f (BackingOff w) z n draw start h = back_ends w
transmit_ends f (Sending k) z n draw start h = bit_ends f z n k h
transmit_ends f (Heading k) z n draw start h = rw (after_held f.jam k false)
transmit_ends f (Jamming left ends) z n draw start h = jam_ends f n draw left ends

-- ---- what a step counts

untouched : (cs : List ℕ) (k n j : ℕ) → (j ≡ k → ⊥) → get_or (added cs k n) j 0 ≡ get_or cs j 0
unfolding added
untouched cs k n j ne = get_or-set_other cs k j _ 0 ne

untouched_if : (cs : List ℕ) (b : Bool) (k j : ℕ) → (j ≡ k → ⊥) → get_or (added_if b cs k) j 0 ≡ get_or cs j 0
unfolding added_if
untouched_if cs true k j ne = untouched cs k 1 j ne
untouched_if cs false k j ne = refl

one_more_lem : (cs : List ℕ) (k : ℕ) → k < length cs → get_or cs k 0 < 4294967295 → get_or (added cs k 1) k 0 ≡ get_or cs k 0 + 1
unfolding added
one_more_lem cs k h g = get_or-set_same cs k (min (get_or cs k 0 + 1) 4294967295) 0 h ∙ omega arith

-- a counter that is not one of those that a receive event adds to
received_none : (cs : List ℕ) (e : Option ReceiveEvent) (z j : ℕ)
    → ((k : ℕ) → 10 ≤ k → k ≤ 15 → j ≡ k → ⊥) → get_or (count_receive cs e z) j 0 ≡ get_or cs j 0
unfolding count_receive
received_none cs None z j h = refl
received_none cs (Some (GotOk n)) z j h =
    untouched _ 11 _ j (h 11 (omega arith) (omega arith)) ∙ untouched cs 10 1 j (h 10 (omega arith) (omega arith))
received_none cs (Some (GotTooLong n)) z j h = untouched cs 12 1 j (h 12 (omega arith) (omega arith))
received_none cs (Some (GotAlignment n)) z j h = untouched cs 14 1 j (h 14 (omega arith) (omega arith))
received_none cs (Some (GotCheck n)) z j h = untouched cs 13 1 j (h 13 (omega arith) (omega arith))
received_none cs (Some (GotLength n)) z j h = untouched cs 15 1 j (h 15 (omega arith) (omega arith))

-- a sent frame moves none of 0 and 9, and one of 4
sent_none : (cs : List ℕ) (n z : ℕ) (d : Bool) (j : ℕ) → ((k : ℕ) → 4 ≤ k → k ≤ 8 → j ≡ k → ⊥)
    → get_or (count_sent cs n z d) j 0 ≡ get_or cs j 0
unfolding count_sent
sent_none cs n z d j far =
    untouched_if _ _ 8 j (far 8 (omega arith) (omega arith)) ∙ untouched_if _ _ 6 j (far 6 (omega arith) (omega arith))
    ∙ untouched_if _ _ 5 j (far 5 (omega arith) (omega arith)) ∙ untouched _ 7 _ j (far 7 (omega arith) (omega arith))
    ∙ untouched cs 4 1 j (far 4 (omega arith) (omega arith))

sent_one : (cs : List ℕ) (n z : ℕ) (d : Bool) → 4 < length cs → get_or cs 4 0 < 4294967295
    → get_or (count_sent cs n z d) 4 0 ≡ get_or cs 4 0 + 1
unfolding count_sent
sent_one cs n z d h g =
    untouched_if _ _ 8 4 (λ e. omega arith) ∙ untouched_if _ _ 6 4 (λ e. omega arith)
    ∙ untouched_if _ _ 5 4 (λ e. omega arith)
    ∙ untouched _ 7 _ 4 (λ e. omega arith) ∙ one_more_lem cs 4 h g

module _ (cs : List ℕ) (z : ℕ) (d : Bool) (n : length cs ≡ counter_count) where
  counts_offered : (e : Option TransmitEvent) → get_or (count_transmit cs e z d) 0 0 ≡ get_or cs 0 0
  unfolding count_transmit
  counts_offered None = refl
  counts_offered (Some (Collision k)) = untouched cs 2 1 0 (λ e. omega arith)
  counts_offered (Some (Late k closes)) = untouched _ 3 1 0 (λ e. omega arith) ∙ untouched cs 2 1 0 (λ e. omega arith)
  counts_offered (Some (Sent m)) = sent_none cs m z d 0 (λ k p q e. omega arith)
  counts_offered (Some (GivenUp m)) = untouched cs 9 1 0 (λ e. omega arith)
  counts_offered (Some (LateEnded m)) = untouched cs 16 1 0 (λ e. omega arith)

  counts_sent : (e : Option TransmitEvent) → get_or cs 4 0 < 4294967295
      → get_or (count_transmit cs e z d) 4 0 ≡ get_or cs 4 0 + sent_in e
  unfolding count_transmit sent_in
  counts_sent None g = omega arith
  counts_sent (Some (Collision k)) g = untouched cs 2 1 4 (λ e. omega arith) ∙ omega arith
  counts_sent (Some (Late k closes)) g =
      untouched _ 3 1 4 (λ e. omega arith) ∙ untouched cs 2 1 4 (λ e. omega arith) ∙ omega arith
  counts_sent (Some (Sent m)) g = sent_one cs m z d (omega arith) g
  counts_sent (Some (GivenUp m)) g = untouched cs 9 1 4 (λ e. omega arith) ∙ omega arith
  counts_sent (Some (LateEnded m)) g = untouched cs 16 1 4 (λ e. omega arith) ∙ omega arith

  counts_given : (e : Option TransmitEvent) → get_or cs 9 0 < 4294967295
      → get_or (count_transmit cs e z d) 9 0 ≡ get_or cs 9 0 + given_in e
  unfolding count_transmit given_in
  counts_given None g = omega arith
  counts_given (Some (Collision k)) g = untouched cs 2 1 9 (λ e. omega arith) ∙ omega arith
  counts_given (Some (Late k closes)) g =
      untouched _ 3 1 9 (λ e. omega arith) ∙ untouched cs 2 1 9 (λ e. omega arith) ∙ omega arith
  counts_given (Some (Sent m)) g = sent_none cs m z d 9 (λ k p q e. omega arith) ∙ omega arith
  counts_given (Some (GivenUp m)) g = one_more_lem cs 9 (omega arith) g
  counts_given (Some (LateEnded m)) g = untouched cs 16 1 9 (λ e. omega arith) ∙ omega arith

  counts_closed : (e : Option TransmitEvent) → get_or cs 16 0 < 4294967295
      → get_or (count_transmit cs e z d) 16 0 ≡ get_or cs 16 0 + closed_in e
  unfolding count_transmit closed_in
  counts_closed None g = omega arith
  counts_closed (Some (Collision k)) g = untouched cs 2 1 16 (λ e. omega arith) ∙ omega arith
  counts_closed (Some (Late k closes)) g =
      untouched _ 3 1 16 (λ e. omega arith) ∙ untouched cs 2 1 16 (λ e. omega arith) ∙ omega arith
  counts_closed (Some (Sent m)) g = sent_none cs m z d 16 (λ k p q e. omega arith) ∙ omega arith
  counts_closed (Some (GivenUp m)) g = untouched cs 9 1 16 (λ e. omega arith) ∙ omega arith
  counts_closed (Some (LateEnded m)) g = one_more_lem cs 16 (omega arith) g

if_length : (cs : List ℕ) (b : Bool) (k : ℕ) → length (added_if b cs k) ≡ length cs
unfolding added_if added
if_length cs true k = length-set cs k _
if_length cs false k = refl

record Counts (cs ds : List ℕ) (e : Option TransmitEvent) : Type 0 where
  all : get_or ds offered 0 ≡ get_or cs offered 0
  gone : get_or ds sent 0 ≡ get_or cs sent 0 + sent_in e
  lost : get_or ds excessive 0 ≡ get_or cs excessive 0 + given_in e
  shut : get_or ds late_ended 0 ≡ get_or cs late_ended 0 + closed_in e

step_counts : (cs : List ℕ) (o : Stepped) → length cs ≡ counter_count → get_or cs sent 0 < 4294967295
    → get_or cs excessive 0 < 4294967295 → get_or cs late_ended 0 < 4294967295 → Counts cs (counted cs o) o.sent
unfolding counted
step_counts cs o n p q s =
    let es = added_if o.start cs 1 in
    let m : length es ≡ counter_count = if_length cs o.start 1 ∙ n in
    let p' : get_or es 4 0 ≡ get_or cs 4 0 = untouched_if cs o.start 1 4 (λ e. omega arith) in
    let q' : get_or es 9 0 ≡ get_or cs 9 0 = untouched_if cs o.start 1 9 (λ e. omega arith) in
    let s' : get_or es 16 0 ≡ get_or cs 16 0 = untouched_if cs o.start 1 16 (λ e. omega arith) in
    record {
      all =
          received_none _ o.got _ 0 (λ k p q e. omega arith) ∙ counts_offered es _ _ m o.sent
          ∙ untouched_if cs o.start 1 0 (λ e. omega arith);
      gone =
          received_none _ o.got _ 4 (λ k p q e. omega arith) ∙ counts_sent es _ _ m o.sent (omega arith)
          ∙ ap (λ (x : ℕ). x + sent_in o.sent) p';
      lost =
          received_none _ o.got _ 9 (λ k p q e. omega arith) ∙ counts_given es _ _ m o.sent (omega arith)
          ∙ ap (λ (x : ℕ). x + given_in o.sent) q';
      shut =
          received_none _ o.got _ 16 (λ k p q e. omega arith) ∙ counts_closed es _ _ m o.sent (omega arith)
          ∙ ap (λ (x : ℕ). x + closed_in o.sent) s';
    }

-- ---- the balance of a station

-- that no more frames have ended than there were steps keeps the counters from their top
pub record Balanced (a : List ℕ) (i : ℕ) : Type 0 where
  pub even : get_or (counters_at a i) offered 0
      ≡ get_or (counters_at a i) sent 0 + get_or (counters_at a i) excessive 0 + get_or (counters_at a i) late_ended 0
      + digit (offers.holds (station_at a i).transmitter)
  pub ended : get_or (counters_at a i) sent 0 + get_or (counters_at a i) excessive 0 + get_or (counters_at a i) late_ended 0
      ≤ clock_at a

abbrev pub AllBalanced : List ℕ → Type 0
AllBalanced a = (i : ℕ) → i < count_at a → Balanced a i

event_one : (e : Option TransmitEvent) → sent_in e + given_in e + closed_in e ≤ 1
unfolding sent_in given_in closed_in
event_one None = omega arith
event_one (Some (Collision k)) = omega arith
event_one (Some (Late k closes)) = omega arith
event_one (Some (Sent n)) = omega arith
event_one (Some (GivenUp n)) = omega arith
event_one (Some (LateEnded n)) = omega arith

act_ends : (a : List ℕ) (i : ℕ)
    → digit (offers.holds (act_at a i).outcome.station.transmitter) + sent_in (act_at a i).outcome.sent
    + given_in (act_at a i).outcome.sent + closed_in (act_at a i).outcome.sent
    ≡ digit (offers.holds (station_at a i).transmitter)
unfolding act_at act_in outcome_in stepped next_station held
act_ends a i = transmit_ends (figures_at a) (station_at a i).transmitter (station_at a i).frame _ _ _ _

counters_all : (a : List ℕ) (i : ℕ) → length (counters_at a i) ≡ counter_count
unfolding counters_at
counters_all a i = length_words counter_count a (from (the_counters i))

step_balanced : (a : List ℕ) (r : Readiness a) (i : ℕ) → i < count_at a → Balanced a i → Balanced (step_area a) i
step_balanced a r i h v =
    let cs = counters_at a i in
    let o = (act_at a i).outcome in
    let k : Counts cs (counted cs o) o.sent = step_counts cs o (counters_all a i)
    (omega (arith, v.ended, r.clock)) (omega (arith, v.ended, r.clock)) (omega (arith, v.ended, r.clock)) in
    let e = act_ends a i in
    let one = event_one o.sent in
    record {
      even =
          rw (step_counters a r i h, step_station a r i h) (omega (arith, k.all, k.gone, k.lost, k.shut, v.even));
      ended = rw (step_counters a r i h, step_clock a r) (omega (arith, k.gone, k.lost, k.shut, v.ended));
    }

pub area_balanced : (a : List ℕ) → Passing a → AllBalanced a → AllBalanced (step_area a)
area_balanced a p v i h =
    let k : i < count_at a = omega (arith, count_by (step_area a) a (step_layout a p.ready)) in step_balanced a
    p.ready i k (v i k)

pub stepped_balanced : (a : List ℕ) → Passing a → AllBalanced a → AllBalanced (stepped_once a).octets
unfolding stepped_once
stepped_balanced a p v =
    rw (eq-eqb (area_refusal a) 0 (ready_passes a p))
    (by_test (ltb last_clock (clock_at a + 1)) (λ c. rw c v)
    (λ c. rw c (area_balanced a p v)))

-- ---- an offer

waits : (s : Station) (n : ℕ) → (offers.offered_station s n).transmitter ≡ Waiting
unfolding offers.offered_station
waits s n = refl

module _ (a f : List ℕ) (i : ℕ) (p : Passing a) (hi : i < count_at a) (low : 64 ≤ length f)
    (high : length f ≤ buffer_octets) (free : offers.holds (station_at a i).transmitter ≡ false) where
  own_balanced : Balanced a i → Balanced (holding a f i) i
  own_balanced v =
      let cs = counters_at a i in
      let z : get_or cs offered 0 ≡ get_or cs sent 0 + get_or cs excessive 0 + get_or cs late_ended 0 + 0 = v.even
      ∙ ap (λ (b : Bool). get_or cs sent 0 + get_or cs excessive 0 + get_or cs late_ended 0 + digit b) free in
      let n = counters_all a i in
      let m : get_or (added cs 0 1) 0 0 ≡ get_or cs 0 0 + 1 = one_more_lem cs 0 (omega arith)
      (omega (arith, v.ended, p.ready.clock)) in
      let u : get_or (added cs 0 1) 4 0 ≡ get_or cs 4 0 = untouched cs 0 1 4 (λ e. omega arith) in
      let w : get_or (added cs 0 1) 9 0 ≡ get_or cs 9 0 = untouched cs 0 1 9 (λ e. omega arith) in
      let y : get_or (added cs 0 1) 16 0 ≡ get_or cs 16 0 = untouched cs 0 1 16 (λ e. omega arith) in
      record {
        even =
            rw (offer_counters a f i p hi low high, offer_own a f i p hi low high, waits (station_at a i) (length f))
            (omega arith);
        ended = rw (offer_counters a f i p hi low high, offer_clock a f i p hi low high) (omega (arith, v.ended));
      }

  other_balanced : (j : ℕ) → j < max_stations → (j ≡ i → ⊥) → Balanced a j → Balanced (holding a f i) j
  other_balanced j h ne v =
      record {
        even = rw (offer_counters_other a f i p hi low high j h ne, offer_other a f i p hi low high j h ne) v.even;
        ended = rw (offer_counters_other a f i p hi low high j h ne, offer_clock a f i p hi low high) v.ended;
      }

  all_balanced : AllBalanced a → AllBalanced (holding a f i)
  all_balanced v j h =
      let few = p.ready.spread.few in
      let k : j < count_at a = omega (arith, count_by (holding a f i) a (offer_layout a f i p hi low high)) in
      by_eq j i (λ e. rw e (own_balanced (v i hi))) (λ ne. other_balanced j (omega arith) ne (v j k))

pub offered_balanced : (a : List ℕ) (i : ℕ) (d : List ℕ) (v : ℕ) (x : List ℕ) → length d ≡ 6 → Passing a → AllBalanced a
    → AllBalanced (offers.offered a i d v x).octets
unfolding offers.offered offers.with_offer
offered_balanced a i d v x six p b =
    let few = p.ready.spread.few in
    rw (eq-eqb (area_refusal a) 0 (ready_passes a p))
    (by_test (leb (count_at a) i)
    (λ c. rw c b)
    (λ c. by_test (refuses_data v (length x))
    (λ e. rw (c, e) b)
    (λ e. by_test (offers.holds (station_at a i).transmitter)
    (λ h. rw (c, e, h) b)
    (λ h. let hi = leb-false (count_at a) i c in
    let z = frame_range d (address_at a i) v x six (address_six a i (omega arith) p.ready.long) e in
    rw (c, e, h) (all_balanced a (frame_of d (address_at a i) v x) i p hi z.0 z.1 h b)))))

-- ---- a fresh start

no_word : (k : ℕ) → get 4 [] k ≡ 0
unfolding get
no_word k = refl

nothing_held : (address : List ℕ) → (fresh_station address).transmitter ≡ NoFrame
unfolding fresh_station
nothing_held address = refl

zero_counter : (at k : ℕ) → k < counter_count → get_or (words_at counter_count [] at) k 0 ≡ 0
zero_counter at k h = word_at counter_count [] at k h ∙ no_word (at + 4 * k)

module _ (y : Layout) (d : ℕ) (ds : List (List ℕ)) (a : List ℕ) (big : area_size ≤ length a) (ok : refusal_of y ≡ 0)
    (low : 1 ≤ d) (high : d ≤ max_draws)
    (formed : Formed y.stations y.count) where
  pub start_balanced : AllBalanced (fresh y d ds a)
  start_balanced i h =
      let few = (sound y ok).count.1 in
      let n : i < y.count = omega (arith, fresh_count y d ds a big few high formed (omega arith)) in
      let e = fresh_counters y d ds a big few high formed i (omega arith) in
      let z : (k : ℕ) → k < counter_count
      → get_or (words_at counter_count [] (from (the_counters i))) k 0 ≡ 0 = zero_counter (from (the_counters i)) in
      record {
        even =
            rw (
              e,
              start_station y d ds a big ok low high formed i n,
              nothing_held (lay.address_at y i),
              z 0
                  (omega arith),
              z 4 (omega arith),
              z 9 (omega arith),
              z 16 (omega arith),
            ) refl;
        ended = rw (e, z 4 (omega arith), z 9 (omega arith), z 16 (omega arith)) (omega arith);
      }

pub started_balanced : (a : List ℕ) (y : Layout) (d : ℕ) (ds : List (List ℕ)) → Formed y.stations y.count
    → (started a y d ds).answer ≡ accepted []
    → AllBalanced (started a y d ds).octets
started_balanced a y d ds w h =
    by_start a y d ds AllBalanced h (λ big ok low high. start_balanced y d ds a big ok low high w)
