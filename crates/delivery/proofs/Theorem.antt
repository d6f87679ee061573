-- Demand 3 holds over every list of calls, on every layout with 2·S ≤ slot, 2·S ≤ 576 and G ≤ 64 + jam; a layout that
-- fits is one. Assumes nothing.
use Prim.Native.Nat.{ℕ, zero, suc, ◌+◌, ◌*◌, ◌-◌, ◌≤◌, ◌<◌, max}
use Rattle.std.specs.Prelude.{◌≡◌, refl, Bool, true, false, ◌&&◌, ◌⊎◌, ltb, leb, eqb, get_or, replicate, Option, None, Some}
use Rattle.std.proofs.Math.Path.{sym, ap, ap₂, subst}
use Rattle.std.proofs.Common.{◌∙◌, true≢false, inl, inr}
use mathlib.Core.List.{List, [], ◌∷◌, ◌++◌}
use native.Mathlib.Omega.{arith}
use borrow.Author.Tests.{eq-eqb, lt-leb, leb-true, leb-false, eqb-true, le-ltb, ltb-false}
use Rattle.std.proofs.Math.ListN.{length, take, length-append}
use Rattle.std.proofs.lemmas.List.Edits.{sets}
use Rattle.std.proofs.Math.Seq.{get_or-append_seam}
use Rattle.octets.specs.Base.{pick, Answer, refused, accepted, outcome, number_of, values_of}
use Rattle.octets.specs.BaseLaws.{by_test, by_eq, below_none, refused_none}
use Rattle.octets.specs.Filled.{filled_past}
use Rattle.octets.specs.NumberLaws.{Octets}
use Rattle.frame_build.specs.Limits.{refuses_data}
use Rattle.sheet_layout.specs.declared.Figures.{Figures}
use Rattle.sheet_layout.specs.declared.Layout.{Layout}
use Rattle.sheet_layout.specs.Layout as lay
use Rattle.sheet_layout.specs.Fit.{fit_of}
use Rattle.sheet_layout.specs.Check.{refusal_of}
use Rattle.sheet_layout.specs.CheckLaws.{sound}
use Rattle.station_symbols.specs.declared.Heard.TheVariants.{Nothing}
use Rattle.station_spec.specs.declared.TransmitEvent.{TransmitEvent}
use Rattle.station_spec.specs.declared.TransmitEvent.TheVariants.{Collision, Late, Sent, GivenUp}
use Rattle.station_spec.specs.declared.TransmitEvent.TheVariants.{LateEnded}
use Rattle.station_state.specs.declared.Receiver.{Receiver}
use Rattle.station_state.specs.declared.Receiver.TheVariants.{Listening, Readable, Seeking, Collecting}
use Rattle.station_spec.specs.declared.ReceiveEvent.TheVariants.{GotOk}
use Rattle.station_spec.specs.Receive.{addressed}
use Rattle.station_state.specs.declared.Station.{Station}
use Rattle.station_spec.specs.declared.Stepped.{Stepped}
use Rattle.area.specs.Area.{clock_at, figures_at, count_at, station_at, buffer_at, arrival_at}
use Rattle.bus_start.specs.Fresh.{fresh}
use Rattle.area_check.specs.Valid.{area_refusal}
use Rattle.bus_spec.specs.declared.Events.{Events}
use Rattle.bus_spec.specs.BitTime.{act_at, events_of, no_events, events_at, step_area, event_at}
use Rattle.bus_spec.specs.Passes.{Passing, ready_passes}
use Rattle.bus_offer.specs.Offer.{holds, offered}
use Rattle.bus_start.specs.Start.{started}
use Rattle.bus_step.specs.Step.{stepped_once}
use Rattle.bus_spec.specs.Run.{tallied, late_at, run_of, ran, stops}
use Rattle.sheet_read.specs.Sheet.{read_sheet}
use Rattle.sheet_read.specs.SheetTheorems.{read_formed, read_octets}
use Rattle.station_spec.specs.Count.{octets_in}
use Rattle.bus_read.specs.Read.{is_readable, frame_read}
use Rattle.trace.specs.Basic.{either, by_le, clash}
use Rattle.bus_meeting.specs.Net.{Net}
use Rattle.trace.specs.World.{Offer, ready}
use Rattle.trace.specs.Run as exec
use Rattle.trace.specs.Run.{out_at, sees, frame_in, ready_clock, sees_is}
use Rattle.trace.proofs.Late as collisions
use Rattle.trace.proofs.Closed as closings
use Rattle.trace.specs.Attempts as tries
use Rattle.trace.specs.Sent as sends
use Rattle.trace.specs.Received as reports
use Rattle.trace.proofs.Received as gets
use Rattle.trace.proofs.Readable as reads
use Rattle.delivery.specs.Calls.{Call, offer, step, run, read, Fair, AllFair, Moment, next, accept, late, run_made}
use Rattle.delivery.specs.Calls.{run_end, made, leaves, log, end, begin, moment_at, sent_at, got_at, Ends, hears_at}
use Rattle.delivery.specs.Calls.{QuietSince}
use Rattle.delivery.specs.Encode.{same_outcome}
use Rattle.delivery.specs.Net.{net_of, span_at, Proper, net_sound, start_octets, start_span, start_laid}
use Rattle.delivery.specs.Net.{start_encodes}
use Rattle.delivery.specs.Passing.{by_start, start_passing}
use Rattle.delivery.specs.Balance.{AllBalanced, area_balanced, stepped_balanced, offered_balanced, start_balanced}
use Rattle.delivery.specs.Traced.{Traced, event_is, tries_count, end_none, end_late, end_on, run_early, run_room}
use Rattle.delivery.specs.Traced.{run_fits, clock_is, traced_step, traced_call, traced_all, traced_begin}
use Rattle.delivery.specs.Demand3.{called, counted, apart, Sender, offer_sent, read_as, ReadFrom, Demand3For}
use Rattle.sheet_layout.specs.Limits.{last_clock, max_draws}
use Rattle.area.specs.Offsets.{area_size}
use Rattle.station_spec.specs.Transmit.{shortest_packet}
use Rattle.station_tally.specs.Words.{ends_run, word_count}
use Rattle.delivery.specs.Theorem.{Always, Fresh}

-- ---- from a step made to the step of the execution

module _ (P : Net) (span : ℕ) (L : exec.Sound P span) (m : Moment) (T : List Moment) (v : Traced P m T) where
  inp : ℕ → List (Offer P)
  inp = v.inp

  counts : (u i : ℕ) → u < length T → i < P.n → i < count_at (moment_at T u).area
  counts u i hu hi = omega (arith, (v.rows u hu).coded.plan.count)

  acts : (u i : ℕ) → u < length T → i < P.n → (act_at (moment_at T u).area i).outcome ≡ out_at P v.inp i u
  unfolding out_at
  acts u i hu hi =
      let r = v.rows u hu in same_outcome P (moment_at T u).area (ready P v.inp u) r.coded
      r.passing.ready i hi

  sent_is : (u i : ℕ) → u < length T → i < P.n → sent_at T u i ≡ (out_at P v.inp i u).sent
  sent_is u i hu hi =
      ap (λ (e : Events). e.sent) (event_is (moment_at T u).area i (counts u i hu hi))
      ∙ ap (λ (o : Stepped). o.sent) (acts u i hu hi)

  got_is : (u j : ℕ) → u < length T → j < P.n → got_at T u j ≡ (out_at P v.inp j u).got
  got_is u j hu hj =
      ap (λ (e : Events). e.got) (event_is (moment_at T u).area j (counts u j hu hj))
      ∙ ap (λ (o : Stepped). o.got) (acts u j hu hj)

  hears_is : (u j : ℕ) → u < length T → j < P.n → hears_at T u j ≡ sees P v.inp j u
  hears_is u j hu hj =
      let r = v.rows u hu in
      ap (arrival_at (moment_at T u).area j) r.coded.time
      ∙ r.coded.line j (ready P v.inp u).clock hj (omega arith) (omega arith)
      ∙ sees_is P v.inp span L j hj u

  pub step_clock : (u : ℕ) → u < length T → clock_at (moment_at T u).area ≡ u
  step_clock u hu = (v.rows u hu).coded.time ∙ ready_clock P v.inp u

  -- ---- no late collision, attempts

  module _ (g : lay.gap_of P.fig ≤ 64 + P.fig.jam) (slot : 2 * span ≤ P.fig.slot) where
    pub not_late : (u i k : ℕ) (closes : Bool) → u < length T → i < P.n → sent_at T u i ≡ Some (Late k closes) → ⊥
    not_late u i k closes hu hi e =
        collisions.never_late P v.inp span L g slot i u k closes hi (sym (sent_is u i hu hi) ∙ e)

    pub not_ended : (u i n : ℕ) → u < length T → i < P.n → sent_at T u i ≡ Some (LateEnded n) → ⊥
    not_ended u i n hu hi e = closings.never_ended P v.inp span L g slot i hi u n (sym (sent_is u i hu hi) ∙ e)

  -- "the largest collision bit is at most 2·S": one collision, late or not
  module _ (g : lay.gap_of P.fig ≤ 64 + P.fig.jam) where
    pub collision_bit : (u i k : ℕ) (closes : Bool) → u < length T → i < P.n
        → (sent_at T u i ≡ Some (Collision k)) ⊎ (sent_at T u i ≡ Some (Late k closes)) → k ≤ max 1 (2 * span)
    collision_bit u i k closes hu hi (inl e) =
        collisions.collides_within P v.inp span L g i u k closes hi (inl (sym (sent_is u i hu hi) ∙ e))
    collision_bit u i k closes hu hi (inr e) =
        collisions.collides_within P v.inp span L g i u k closes hi (inr (sym (sent_is u i hu hi) ∙ e))

  -- "receiveOK means sent", on every layout, fitting or not
  pub ok_sent : (u j k : ℕ) → u < length T → j < P.n → got_at T u j ≡ Some (GotOk k)
      → (i : ℕ) × (e : ℕ) × (n : ℕ) × (i < P.n) × ((i ≡ j → ⊥) × (u ≡ suc (e + P.d i j)) × (sent_at T e i ≡ Some (Sent n)))
  ok_sent u j k hu hj e =
      let c = reports.got_came P v.inp span L j u k hj (sym (got_is u j hu hj) ∙ e) in (
        c.from,
        c.at,
        c.whole.attempts,
        c.station,
        (c.other, c.delay, sent_is c.at c.from (omega (arith, c.delay)) c.station ∙ c.whole.sent),
      )

  ends_is : (w x : Option TransmitEvent) (n : ℕ) → w ≡ x → Ends w n → sends.Ends x n
  ends_is w x n e (inl p) = inl (sym e ∙ p)
  ends_is w x n e (inr (inl p)) = inr (inl (sym e ∙ p))
  ends_is w x n e (inr (inr p)) = inr (inr (sym e ∙ p))

  pub attempts_are : (u i n : ℕ) → u < length T → i < P.n → Ends (sent_at T u i) n
      → (n ≤ P.fig.limit) × (n ≡ (moment_at T u).starts i + pick (act_at (moment_at T u).area i).outcome.start 1 0)
  attempts_are u i n hu hi e =
      let f : sends.Ends (out_at P v.inp i u).sent n = ends_is (sent_at T u i) (out_at P v.inp i u).sent n
      (sent_is u i hu hi) e in
      let k = sends.end_next P v.inp span L i u n hi f in (
        tries.within_limit P v.inp span L i hi u n f,
        k.1 ∙ tries_count (exec.state P v.inp u i).attempts (exec.defer_at P v.inp i u).start
            ∙ ap₂ (λ (x : ℕ) (b : Bool). x + pick b 1 0) ((v.rows u hu).tries i hi)
            (sym (exec.out_start P v.inp span L i hi u) ∙ sym (ap (λ (o : Stepped). o.start) (acts u i hu hi))),
      )

  pub tried_are : (u i : ℕ) → u < length T → i < P.n → (moment_at T u).starts i ≤ P.fig.limit
  tried_are u i hu hi = omega (arith, (v.rows u hu).tries i hi, tries.tried_within P v.inp span L i hi u)

  pub tries_are : (i : ℕ) → i < P.n → m.starts i ≤ P.fig.limit
  tries_are i hi = omega (arith, v.here.tries i hi, tries.tried_within P v.inp span L i hi (length T))

  -- ---- offers: one that ends was held, and each ends once

  held_then : (u i n : ℕ) → u < length T → i < P.n → Ends (sent_at T u i) n
      → holds (exec.state P v.inp u i).transmitter ≡ true
  held_then u i n hu hi e =
      (sends.end_next P v.inp span L i u n hi
      (ends_is (sent_at T u i) (out_at P v.inp i u).sent n (sent_is u i hu hi) e)).2

  pub offer_behind : (u i n : ℕ) → u < length T → i < P.n → Ends (sent_at T u i) n → 0 < (moment_at T u).offers i
  offer_behind u i n hu hi e = (v.rows u hu).behind i hi (held_then u i n hu hi e)

  pub offer_apiece : (u x i n k : ℕ) → u < x → x < length T → i < P.n → Ends (sent_at T u i) n → Ends (sent_at T x i) k
      → (moment_at T u).offers i < (moment_at T x).offers i
  offer_apiece u x i n k l hx hi e f =
      either (v.overs x hx u i n l hi e) (λ h. h) (λ h. clash (held_then x i k hx hi f) h.1)

  -- two steps in which station i reports sent, of the same offer, are one
  pub sent_once : (i u x n k : ℕ) → i < P.n → u < length T → x < length T → sent_at T u i ≡ Some (Sent n)
      → sent_at T x i ≡ Some (Sent k)
      → (moment_at T u).offers i ≡ (moment_at T x).offers i → u ≡ x
  sent_once i u x n k hi hu hx e f o =
      by_eq u x (λ z. z)
      (λ ne. by_le x u
      (λ l. absurd (let h = offer_apiece x u i k n (omega (arith, ne)) hu hi (inl f) (inl e) in omega arith))
      (λ l. absurd (let h = offer_apiece u x i n k l hx hi (inl e) (inl f) in omega arith)))

  -- ---- received exactly when sent

  module _ (g : lay.gap_of P.fig ≤ 64 + P.fig.jam) (fits : 2 * span ≤ shortest_packet P.fig) where
    record From (u j : ℕ) : Type 0 where
      from : ℕ
      at : ℕ
      attempts : ℕ
      station : from < P.n
      other : from ≡ j → ⊥
      delay : u ≡ suc (at + P.d from j)
      sent : sent_at T at from ≡ Some (Sent attempts)
      for : addressed (P.address j) ((moment_at T at).frame from) ≡ true

    frame_is : (u i : ℕ) → u < length T → i < P.n → (moment_at T u).frame i ≡ frame_in P v.inp i u
    frame_is u i hu hi = (v.rows u hu).frames i hi

    from_sender : (u j : ℕ) → u < length T → reports.Sender P v.inp j u → From u j
    from_sender u j hu s =
        let h : s.at < length T = omega (arith, s.delay) in
        record {
          from = s.from;
          at = s.at;
          attempts = s.attempts;
          station = s.station;
          other = s.other;
          delay = s.delay;
          sent = sent_is s.at s.from h s.station ∙ s.sent;
          for = ap (addressed (P.address j)) (frame_is s.at s.from h s.station) ∙ s.for;
        }

    to_sender : (u j : ℕ) → u < length T → From u j → reports.Sender P v.inp j u
    to_sender u j hu s =
        let h : s.at < length T = omega (arith, s.delay) in
        record {
          from = s.from;
          at = s.at;
          attempts = s.attempts;
          station = s.station;
          other = s.other;
          delay = s.delay;
          sent = sym (sent_is s.at s.from h s.station) ∙ s.sent;
          for = sym (ap (addressed (P.address j)) (frame_is s.at s.from h s.station)) ∙ s.for;
        }

    received_from : (u j k : ℕ) → u < length T → j < P.n → got_at T u j ≡ Some (GotOk k) → From u j
    received_from u j k hu hj e =
        from_sender u j hu (gets.received P v.inp span L g fits j u k hj (sym (got_is u j hu hj) ∙ e)).0

    delivered_to : (u j : ℕ) → u < length T → j < P.n → From u j → (k : ℕ) × (got_at T u j ≡ Some (GotOk k))
    delivered_to u j hu hj s =
        (_, got_is u j hu hj ∙ gets.delivered P v.inp span L g fits j u hj (to_sender u j hu s))

    one_from : (u j : ℕ) → u < length T → j < P.n → (s r : From u j) → s.from ≡ r.from
    unfolding to_sender
    one_from u j hu hj s r = gets.sender_one P v.inp span L g fits j u hj (to_sender u j hu s) (to_sender u j hu r)

    -- ---- readings

    silent_then : (u j k : ℕ) → u < length T → j < P.n → got_at T u j ≡ Some (GotOk k) → sees P v.inp j u ≡ Nothing
    silent_then u j k hu hj e = reports.got_silent P v.inp span L j u k hj (sym (got_is u j hu hj) ∙ e)

    -- a station that reports receiveOK hears nothing in that step
    quiet_from : (u j k : ℕ) → u < length T → j < P.n → got_at T u j ≡ Some (GotOk k) → QuietSince T u j
        → (x : ℕ) → u ≤ x → x < length T → sees P v.inp j x ≡ Nothing
    quiet_from u j k hu hj e quiet x lo up =
        by_eq x u (λ z. rw z (silent_then u j k hu hj e))
        (λ ne. sym (hears_is x j up hj) ∙ quiet x (omega (arith, ne)) up)

    readable_now : (u j k : ℕ) → u < length T → j < P.n → got_at T u j ≡ Some (GotOk k) → (s : From u j) → QuietSince T u j
        → ((station_at m.area j).receiver ≡ Readable (length ((moment_at T s.at).frame s.from)))
        × (take (length ((moment_at T s.at).frame s.from)) (buffer_at m.area j) ≡ (moment_at T s.at).frame
        s.from)
    unfolding to_sender
    readable_now u j k hu hj e s quiet =
        let h : s.at < length T = omega (arith, s.delay) in
        let r = reads.sent_readable P v.inp span L g fits j hj u (length T) (to_sender u j hu s) hu
        (quiet_from u j k hu hj e quiet) in
        let f = frame_is s.at s.from h s.station in
        let c = v.here.coded in (
          ap (λ (x : Station). x.receiver) (c.state j hj) ∙ r.receiver
              ∙ ap (λ (F : List ℕ). Readable (length F)) (sym f),
          ap₂ (λ (F b : List ℕ). take (length F) b) f (c.buffers j hj) ∙ r.octets ∙ sym f,
        )

    read_is : (a : List ℕ) (j : ℕ) (F out : List ℕ) → area_refusal a ≡ 0 → j < count_at a
        → (station_at a j).receiver ≡ Readable (length F) → take (length F) (buffer_at a j) ≡ F
        → frame_read a j out ≡ read_as F out
    unfolding frame_read
    read_is a j F out ok hj e t = rw (eq-eqb (area_refusal a) 0 ok, lt-leb (count_at a) j hj, e, t)

    reading_is : (u j k : ℕ) → u < length T → j < P.n → got_at T u j ≡ Some (GotOk k) → (s : From u j) → QuietSince T u j
        → (out : List ℕ)
        → frame_read m.area j out ≡ read_as ((moment_at T s.at).frame s.from) out
    reading_is u j k hu hj e s quiet out =
        let r = readable_now u j k hu hj e s quiet in
        read_is m.area j ((moment_at T s.at).frame s.from) out (ready_passes m.area v.here.passing)
        (omega (arith, v.here.coded.plan.count)) r.0 r.1

    -- what an accepted reading gave, and where it came from
    record Gave (j : ℕ) (out : List ℕ) : Type 0 where
      at : ℕ
      size : ℕ
      step : at < length T
      got : got_at T at j ≡ Some (GotOk size)
      quiet : QuietSince T at j
      sender : From at j
      gives : frame_read m.area j out ≡ outcome
          (accepted (length ((moment_at T sender.at).frame sender.from) ∷ []))
          (sets out 0 ((moment_at T sender.at).frame sender.from))

    gave : (j n : ℕ) (out : List ℕ) → j < P.n → (station_at m.area j).receiver ≡ Readable n → n ≤ length out
        → Gave j out
    unfolding from_sender
    gave j n out hj e room =
        let c = v.here.coded in
        let r = reads.read P v.inp span L g fits j hj (length T) n
        (ap (λ (x : Station). x.receiver) (sym (c.state j hj)) ∙ e) in
        let q = reads.read_sender P v.inp span L g fits j hj (length T) n r in
        let s : From r.at j = from_sender r.at j r.past q.0 in
        let F = (moment_at T s.at).frame s.from in
        let f : F ≡ r.came.whole.frame = frame_is s.at s.from (omega (arith, s.delay, r.past)) s.station
        ∙ q.1 in
        let z : n ≡ length F = r.octets ∙ ap length (sym f) in
        record {
          at = r.at;
          size = r.size;
          step = r.past;
          got = got_is r.at j r.past hj ∙ r.got;
          quiet = λ x lo up. hears_is x j up hj ∙ r.quiet x (omega arith) up;
          sender = s;
          gives = read_is m.area j F out (ready_passes m.area v.here.passing) (omega (arith, c.plan.count))
              (e ∙ ap Readable z)
              (ap (λ (k : ℕ). take k (buffer_at m.area j)) (sym z) ∙ ap (take n) (c.buffers j hj) ∙ r.buffer
              ∙ sym f)
              ∙ rw (le-ltb (length out) (length F) (omega arith));
        }

-- a reading that is accepted is of a station that has a readable frame, into an output with room for it
read_taken : (a : List ℕ) (j : ℕ) (out vs : List ℕ) → area_refusal a ≡ 0 → (frame_read a j out).answer ≡ accepted vs
    → (j < count_at a) × (n : ℕ) × ((station_at a j).receiver ≡ Readable n) × (n ≤ length out)
unfolding frame_read
read_taken a j out vs ok =
    by_test (leb (count_at a) j)
    (λ c. rw (eq-eqb (area_refusal a) 0 ok, c) (λ h. refused_none 10 vs h))
    (λ c. rw (eq-eqb (area_refusal a) 0 ok, c) (go (station_at a j).receiver refl (leb-false (count_at a) j c)))
  where
    go : (r : Receiver) → (station_at a j).receiver ≡ r → j < count_at a
        → (pick (is_readable r) (pick (ltb (length out) (octets_in r)) (outcome (refused 15) out)
        (outcome (accepted (octets_in r ∷ [])) (sets out 0 (take (octets_in r) (buffer_at a j)))))
        (outcome (refused 14) out)).answer ≡ accepted vs
        → (j < count_at a) × (n : ℕ) × ((station_at a j).receiver ≡ Readable n) × (n ≤ length out)
    go Listening e hj h = refused_none 14 vs h
    go (Seeking row spoiled own) e hj h = refused_none 14 vs h
    go (Collecting n spoiled own) e hj h = refused_none 14 vs h
    go (Readable n) e hj h =
        by_test (ltb (length out) n)
        (λ b. refused_none 15 vs (rw b at h))
        (λ b. (hj, n, e, ltb-false (length out) n b))

-- ---- a run

run_steps : (k t : ℕ) (ws : List ℕ) (m : Moment) → (run_of k t ws m.area).steps ≡ t + length (run_made k m)
unfolding run_of run_made next late
run_steps zero t ws m = omega arith
run_steps (suc k) t ws m =
    by_test (stops (events_at m.area))
    (λ e. rw e)
    (λ e. rw e (run_steps k (t + 1) (tallied (events_at m.area) 16 ws) (next m) ∙ omega arith))

run_words : (k t : ℕ) (ws : List ℕ) (m : Moment) → (run_of k t ws m.area).words ≡ counted (run_made k m) ws
unfolding run_of run_made next late
run_words zero t ws m = refl
run_words (suc k) t ws m =
    by_test (stops (events_at m.area))
    (λ e. rw e)
    (λ e. rw e (run_words k (t + 1) (tallied (events_at m.area) 16 ws) (next m)))

run_octets : (k t : ℕ) (ws : List ℕ) (m : Moment) → (run_of k t ws m.area).octets ≡ (run_end k m).area
unfolding run_of run_end next late
run_octets zero t ws m = refl
run_octets (suc k) t ws m =
    by_test (stops (events_at m.area))
    (λ e. rw e)
    (λ e. rw e (run_octets k (t + 1) (tallied (events_at m.area) 16 ws) (next m)))

run_answer : (k t : ℕ) (ws : List ℕ) (a : List ℕ) → (run_of k t ws a).answer ≡ accepted []
unfolding run_of
run_answer zero t ws a = refl
run_answer (suc k) t ws a =
    by_test (stops (events_at a)) (λ e. rw e)
    (λ e. rw e (run_answer k (t + 1) (tallied (events_at a) 16 ws) (step_area a)))

module _ (m : Moment) (n : ℕ) (ok : area_refusal m.area ≡ 0) where
  number_none : number_of (run_of n 0 (replicate word_count 0) m.area).answer ≡ 0
  number_none = ap number_of (run_answer n 0 (replicate word_count 0) m.area)

  ran_steps : (ran m.area n).steps ≡ length (made (run n) m)
  unfolding ran made
  ran_steps =
      by_test (ltb last_clock (clock_at m.area + n))
      (λ c. rw (eq-eqb (area_refusal m.area) 0 ok, c))
      (λ c. rw (
        eq-eqb (area_refusal m.area) 0 ok,
        c,
        eq-eqb
            (number_of (run_of n 0 (replicate word_count 0) m.area).answer) 0 number_none,
      )
      (run_steps n 0 (replicate word_count 0) m ∙ omega arith))

  ran_words : (ran m.area n).words ≡ counted (made (run n) m) (replicate word_count 0)
  unfolding ran made
  ran_words =
      by_test (ltb last_clock (clock_at m.area + n))
      (λ c. rw (eq-eqb (area_refusal m.area) 0 ok, c))
      (λ c. rw (
        eq-eqb (area_refusal m.area) 0 ok,
        c,
        eq-eqb
            (number_of (run_of n 0 (replicate word_count 0) m.area).answer) 0 number_none,
      )
      (run_words n 0 (replicate word_count 0) m))

  ran_octets : (leaves (run n) m).area ≡ (ran m.area n).octets
  unfolding ran leaves
  ran_octets =
      by_test (ltb last_clock (clock_at m.area + n))
      (λ c. rw (eq-eqb (area_refusal m.area) 0 ok, c))
      (λ c. rw (
        eq-eqb (area_refusal m.area) 0 ok,
        c,
        eq-eqb
            (number_of (run_of n 0 (replicate word_count 0) m.area).answer) 0 number_none,
      )
      (sym (run_octets n 0 (replicate word_count 0) m)))

-- ---- no run ends early

-- an event that is no late collision
not_late_event : (w : Option TransmitEvent) → ((k : ℕ) (closes : Bool) → w ≡ Some (Late k closes) → ⊥) → ends_run w ≡ false
not_late_event None h = refl
not_late_event (Some (Collision k)) h = refl
not_late_event (Some (Late k closes)) h = absurd (h k closes refl)
not_late_event (Some (Sent n)) h = refl
not_late_event (Some (GivenUp n)) h = refl
not_late_event (Some (LateEnded n)) h = refl

pub no_station : (a : List ℕ) (i : ℕ) → count_at a ≤ i → event_at (events_at a) i ≡ no_events
unfolding events_at
no_station a i h =
    let e : count_at a + (i - count_at a) ≡ i = omega arith in
    subst (λ (k : ℕ). event_at (events_at a) k ≡ no_events) e
    (filled_past no_events (λ j. events_of (act_at a j)) (count_at a) (i - count_at a))

module _ (P : Net) (span : ℕ) (L : exec.Sound P span) (g : lay.gap_of P.fig ≤ 64 + P.fig.jam)
    (slot : 2 * span ≤ P.fig.slot) where
  last_moment : (T : List Moment) (m : Moment) (i : ℕ)
      → sent_at (T ++ (m ∷ [])) (length T) i ≡ (event_at (events_at m.area) i).sent
  last_moment T m i = ap (λ (x : Moment). (event_at (events_at x.area) i).sent) (get_or-append_seam T m [] (begin []))

  timely : (m : Moment) (T : List Moment) → Traced P m T → clock_at m.area < last_clock → late m ≡ false
  unfolding late late_at
  timely m T v early =
      let t : Traced P (next m) (T ++ (m ∷ [])) = traced_step P m T v early in
      let n = v.here.coded.plan.count in
      below_none (late_at (events_at m.area)) 16
      (λ i hi. by_le (count_at m.area) i
      (λ c. ap (λ (e : Events). ends_run e.sent) (no_station m.area i c))
      (λ c. not_late_event (event_at (events_at m.area) i).sent
      (λ k closes e. not_late P span L (next m) (T ++ (m ∷ [])) t g slot (length T) i k closes
      (omega (arith, length-append T (m ∷ []))) (omega arith) (last_moment T m i ∙ e))))

  run_ends : (k t : ℕ) (ws : List ℕ) (m : Moment) (T : List Moment) → Traced P m T → length T + k ≤ last_clock
      → ((run_of k t ws m.area).ended ≡ None) × ((run_of k t ws m.area).steps ≡ t + k)
  unfolding run_of late next
  run_ends zero t ws m T v h = (refl, omega arith)
  run_ends (suc k) t ws m T v h =
      let early = run_early P k m T v h in
      let s : Traced P (next m) (T ++ (m ∷ [])) = traced_step P m T v early in
      let r = run_ends k (t + 1) (tallied (events_at m.area) 16 ws) (next m) (T ++ (m ∷ [])) s (run_room k m T h) in
      rw (timely m T v early) (r.0, r.1 ∙ omega arith)

  ran_ends : (m : Moment) (T : List Moment) → Traced P m T → (n : ℕ)
      → ((ran m.area n).ended ≡ None) × ((ran m.area n).answer ≡ accepted [] → (ran m.area n).steps ≡ n)
  unfolding ran
  ran_ends m T v n =
      let ok = ready_passes m.area v.here.passing in
      let c = clock_is P m T v in
      by_test (ltb last_clock (clock_at m.area + n))
      (λ o. rw (eq-eqb (area_refusal m.area) 0 ok, o) (refl, λ h. refused_none 13 [] h))
      (λ o. let l = ltb-false last_clock (clock_at m.area + n) o in
      let r = run_ends n 0 (replicate word_count 0) m T v (omega arith) in
      rw (eq-eqb (area_refusal m.area) 0 ok, o) (r.0, λ h. r.1 ∙ omega arith))

-- a step that is not refused answers the events of its moment
step_answers : (m : Moment) → area_refusal m.area ≡ 0 → (stepped_once m.area).answer ≡ accepted []
    → (made step m ≡ m ∷ []) × ((stepped_once m.area).events ≡ events_at m.area)
unfolding stepped_once made
step_answers m ok =
    by_test (ltb last_clock (clock_at m.area + 1))
    (λ c. rw (eq-eqb (area_refusal m.area) 0 ok, c) (λ h. refused_none 13 [] h))
    (λ c. rw (eq-eqb (area_refusal m.area) 0 ok, c) (λ h. (refl, refl)))

-- ---- what each call leaves is what its promise says

step_octets : (m : Moment) → area_refusal m.area ≡ 0 → (leaves step m).area ≡ (stepped_once m.area).octets
unfolding leaves stepped_once next
step_octets m ok =
    by_test (ltb last_clock (clock_at m.area + 1))
    (λ c. rw (eq-eqb (area_refusal m.area) 0 ok, c))
    (λ c. rw (eq-eqb (area_refusal m.area) 0 ok, c))

offer_octets : (m : Moment) (i : ℕ) (d : List ℕ) (v : ℕ) (x : List ℕ) → area_refusal m.area ≡ 0
    → (leaves (offer i d v x) m).area ≡ (offered m.area i d v x).octets
unfolding leaves offered accept
offer_octets m i d v x ok =
    by_test (leb (count_at m.area) i)
    (λ c. rw (eq-eqb (area_refusal m.area) 0 ok, c))
    (λ c. by_test (refuses_data v (length x))
    (λ e. rw (eq-eqb (area_refusal m.area) 0 ok, c, e))
    (λ e. by_test (holds (station_at m.area i).transmitter)
    (λ h. rw (eq-eqb (area_refusal m.area) 0 ok, c, e, h))
    (λ h. rw (eq-eqb (area_refusal m.area) 0 ok, c, e, h))))

pub call_octets : (c : Call) (m : Moment) → area_refusal m.area ≡ 0 → (leaves c m).area ≡ called c m.area
unfolding leaves
call_octets (offer i d v x) m ok = offer_octets m i d v x ok
call_octets step m ok = step_octets m ok
call_octets (run n) m ok = ran_octets m n ok
call_octets (read i out) m ok = refl

-- ---- the balance, on any layout

next_balanced : (m : Moment) → Passing m.area → AllBalanced m.area → AllBalanced (next m).area
unfolding next
next_balanced m p b = area_balanced m.area p b

run_balanced : (P : Net) (k : ℕ) (m : Moment) (T : List Moment) → Traced P m T → length T + k ≤ last_clock
    → AllBalanced m.area → AllBalanced (run_end k m).area
run_balanced P zero m T t h b = subst (λ (x : Moment). AllBalanced x.area) (sym (end_none m)) b
run_balanced P (suc k) m T t h b =
    let s : Traced P (next m) (T ++ (m ∷ [])) = traced_step P m T t (run_early P k m T t h) in
    let n : AllBalanced (next m).area = next_balanced m t.here.passing b in
    by_test (late m)
    (λ e. subst (λ (x : Moment). AllBalanced x.area) (sym (end_late k m e)) n)
    (λ e. subst (λ (x : Moment). AllBalanced x.area) (sym (end_on k m e))
    (run_balanced P k (next m) (T ++ (m ∷ [])) s (run_room k m T h) n))

ran_balanced : (P : Net) (n : ℕ) (m : Moment) (T : List Moment) → Traced P m T → AllBalanced m.area
    → AllBalanced (leaves (run n) m).area
unfolding leaves
ran_balanced P n m T t b =
    by_test (eqb (number_of (ran m.area n).answer) 0)
    (λ e. rw e (run_balanced P n m T t (run_fits P n m T t (eqb-true (number_of (ran m.area n).answer) 0 e)) b))
    (λ e. rw e b)

read_balanced : (i : ℕ) (out : List ℕ) (m : Moment) → AllBalanced m.area → AllBalanced (leaves (read i out) m).area
unfolding leaves
read_balanced i out m b = b

call_balanced : (P : Net) (c : Call) (m : Moment) (T : List Moment) → Fair c → Traced P m T → AllBalanced m.area
    → AllBalanced (leaves c m).area
call_balanced P (offer i d v x) m T q t b =
    subst AllBalanced (sym (offer_octets m i d v x (ready_passes m.area t.here.passing)))
    (offered_balanced m.area i d v x q.six t.here.passing b)
call_balanced P step m T q t b =
    subst AllBalanced (sym (step_octets m (ready_passes m.area t.here.passing)))
    (stepped_balanced m.area t.here.passing b)
call_balanced P (run n) m T q t b = ran_balanced P n m T t b
call_balanced P (read i out) m T q t b = read_balanced i out m b

all_balanced : (P : Net) (cs : List Call) (m : Moment) (T : List Moment) → AllFair cs → Traced P m T
    → AllBalanced m.area → AllBalanced (end cs m).area
unfolding end
all_balanced P [] m T q t b = b
all_balanced P (c ∷ cs) m T q t b =
    all_balanced P cs (leaves c m) (T ++ made c m) q.1 (traced_call P c m T q.0 t)
    (call_balanced P c m T q.0 t b)

-- ---- on any layout, fitting or not: no refusal under 1 or 2, the balance, and "receiveOK means sent"

module _ (y : Layout) (b : List ℕ) (f : Fresh y b) (cs : List Call) (fair : AllFair cs) where
  T : List Moment
  T = log cs (begin b)

  m : Moment
  m = end cs (begin b)

  traced : Traced (net_of b) m T
  unfolding m T
  traced = traced_all (net_of b) cs (begin b) [] fair (traced_begin (net_of b) b f.encodes f.passing)

  L : exec.Sound (net_of b) (span_at b)
  L = net_sound b f.passing f.octets

  ok : area_refusal (end cs (begin b)).area ≡ 0
  unfolding m T
  ok = ready_passes (end cs (begin b)).area traced.here.passing

  balanced : AllBalanced (end cs (begin b)).area
  balanced = all_balanced (net_of b) cs (begin b) [] fair (traced_begin (net_of b) b f.encodes f.passing) f.even

  inside : (i : ℕ) → i < y.count → i < count_at b
  inside i h = omega (arith, f.laid.count)

  limit_is : (figures_at b).limit ≡ y.figures.limit
  limit_is = ap (λ (x : Figures). x.limit) f.laid.figures

  pub always_fresh : Always y b cs
  unfolding m T
  always_fresh =
      record {
        passes = ok;
        balance = balanced;
        sent = λ u j k hu hj h.
            let r = ok_sent (net_of b) (span_at b) L m T traced u j k hu (inside j hj) h in
            let hi : r.0 < y.count = omega (arith, r.3, f.laid.count) in (
              r.0,
              r.1,
              r.2,
              hi,
              (
                r.4.0,
                r.4.1 ∙ ap (λ (d : ℕ). suc (r.1 + d))
                    (f.laid.space r.0 j hi hj),
                r.4.2,
              ),
            );
      }

  module _ (gap : lay.gap_of (figures_at b) ≤ 64 + (figures_at b).jam) where
    -- "the largest collision bit is at most 2·S" (S is at least 1: no two stations stand at one place)
    pub collisions_within : (u i k : ℕ) (closes : Bool) → u < length (log cs (begin b)) → i < y.count
        → (sent_at (log cs (begin b)) u i ≡ Some (Collision k)) ⊎ (sent_at (log cs (begin b)) u i ≡ Some (Late k closes))
        → k ≤ max 1 (2 * lay.span_of y)
    unfolding m T
    collisions_within u i k closes hu hi h =
        subst (λ (s : ℕ). k ≤ max 1 (2 * s)) f.span
        (collision_bit (net_of b) (span_at b) L m T traced gap u i k closes hu (inside i hi) h)

    module _ (fits : 2 * span_at b ≤ shortest_packet (figures_at b)) where
      sender : (u j : ℕ) → j < y.count → From (net_of b) (span_at b) L m T traced gap fits u j → Sender y T u j
      sender u j hj s =
          let hi : s.from < y.count = omega (arith, s.station, f.laid.count) in
          record {
            from = s.from;
            at = s.at;
            attempts = s.attempts;
            station = hi;
            other = s.other;
            delay = omega (arith, s.delay, f.laid.space s.from j hi hj);
            sent = s.sent;
            for = ap (λ (x : List ℕ). addressed x ((moment_at T s.at).frame s.from)) (sym (f.laid.address j hj))
                ∙ s.for;
          }

      back : (u j : ℕ) → j < y.count → Sender y T u j → From (net_of b) (span_at b) L m T traced gap fits u j
      back u j hj s =
          record {
            from = s.from;
            at = s.at;
            attempts = s.attempts;
            station = inside s.from s.station;
            other = s.other;
            delay = omega (arith, s.delay, f.laid.space s.from j s.station hj);
            sent = s.sent;
            for = ap (λ (x : List ℕ). addressed x ((moment_at T s.at).frame s.from)) (f.laid.address j hj)
                ∙ s.for;
          }

      one_report : (u v j : ℕ) → u < length T → v < length T → (s : Sender y T u j) (r : Sender y T v j)
          → s.from ≡ r.from → offer_sent T s ≡ offer_sent T r → u ≡ v
      one_report u v j hu hv s r e o =
          let z : s.at ≡ r.at =
          sent_once (net_of b) (span_at b) L m T traced s.from s.at r.at s.attempts r.attempts
          (inside s.from s.station)
          (omega (arith, s.delay)) (omega (arith, r.delay)) s.sent (ap (sent_at T r.at) e ∙ r.sent)
          (o ∙ ap (moment_at T r.at).offers (sym e)) in
          s.delay ∙ ap₂ (λ (a i : ℕ). suc (a + apart y i j)) z e ∙ sym r.delay

      read_from : (j : ℕ) (out vs : List ℕ) → (frame_read m.area j out).answer ≡ accepted vs → ReadFrom y T m j out
      unfolding m T sender
      read_from j out vs h =
          let t = read_taken m.area j out vs ok h in
          let hb : j < count_at b = omega (arith, t.0, traced.here.coded.plan.count) in
          let hj : j < y.count = omega (arith, f.laid.count) in
          let g = gave (net_of b) (span_at b) L m T traced gap fits j t.1 out hb t.2 t.3 in
          record {
            station = hj;
            at = g.at;
            step = omega (arith, g.step);
            size = g.size;
            got = g.got;
            quiet = g.quiet;
            sender = sender g.at j hj g.sender;
            gives = g.gives;
          }

      -- the theorem, from three hypotheses
      pub demand_three : 2 * span_at b ≤ (figures_at b).slot → Demand3For y b cs
      unfolding m T back
      demand_three slot =
          record {
            areas = λ c. call_octets c (end cs (begin b)) ok;
            passes = ok;
            clocks = λ u hu. step_clock (net_of b) (span_at b) L m T traced u hu;
            steps = step_answers (end cs (begin b)) ok;
            runs = λ n. (ran_steps (end cs (begin b)) n ok, ran_words (end cs (begin b)) n ok);
            ends = λ n. ran_ends (net_of b) (span_at b) L gap slot m T traced n;
            never_late = λ u i k closes hu hi.
                not_late (net_of b) (span_at b) L m T traced gap slot u i k closes hu (inside i hi);
            never_ended = λ u i n hu hi.
                not_ended (net_of b) (span_at b) L m T traced gap slot u i n hu (inside i hi);
            tries = λ i hi. omega (arith, limit_is, tries_are (net_of b) (span_at b) L m T traced i (inside i hi));
            tried = λ u i hu hi. omega (
              arith,
              limit_is,
              tried_are (net_of b) (span_at b) L m T traced u i hu
                  (inside i hi),
            );
            attempts = λ u i n hu hi h.
                let r = attempts_are (net_of b) (span_at b) L m T traced u i n hu
                (inside i hi) h in (omega (arith, limit_is, r.0), r.1);
            offered = λ u i n hu hi h. offer_behind (net_of b) (span_at b) L m T traced u i n hu (inside i hi) h;
            apiece = λ u v i n k l hv hi e h. offer_apiece (net_of b) (span_at b) L m T traced u v i n k l hv
                (inside i hi) e h;
            received = λ u j k hu hj h. sender u j hj
                (received_from (net_of b) (span_at b) L m T traced gap fits u j k hu (inside j hj) h);
            delivered = λ u j hu hj s. delivered_to (net_of b) (span_at b) L m T traced gap fits u j hu (inside j hj)
                (back u j hj s);
            one = λ u j hu hj s r. one_from (net_of b) (span_at b) L m T traced gap fits u j hu (inside j hj)
                (back u j hj s) (back u j hj r);
            once = λ u v j k l hu hv hj e h s r. one_report u v j hu hv s r;
            reading = λ u j k hu hj h quiet s out. reading_is (net_of b) (span_at b) L m T traced gap fits u j k hu
                (inside j hj) h (back u j hj s) quiet out;
            readings = λ j out vs h. read_from j out vs h;
            balance = λ i hi. (balanced i (omega (arith, traced.here.coded.plan.count, inside i hi))).even;
          }

-- ---- from the sheet

both : (x y : Bool) → (x && y) ≡ true → (x ≡ true) × (y ≡ true)
both true y e = (refl, e)
both false y e = absurd (true≢false (sym e))

fit_says : (y : Layout) → lay.fits_well y ≡ true
    → (2 * lay.span_of y + lay.gap_of y.figures ≤ y.figures.slot) × (lay.gap_of y.figures ≤ 64 + y.figures.jam)
unfolding lay.fits_well
fit_says y e =
    let q = both (leb (2 * lay.span_of y + lay.gap_of y.figures) y.figures.slot)
    (leb (lay.gap_of y.figures) (64 + y.figures.jam)) e in
    (leb-true _ _ q.0, leb-true _ _ q.1)

-- "fits" as the call answers it
fit_yes_lem : (y : Layout) → fit_of y ≡ accepted (1 ∷ []) → lay.fits_well y ≡ true
unfolding fit_of
fit_yes_lem y h =
    by_test (eqb (refusal_of y) 0)
    (λ c. by_test (lay.fits_well y) (λ e. e)
    (λ e. absurd (let z : ◌≡◌ {A = ℕ} 0 1 = ap (λ (r : Answer). get_or (values_of r) 0 0)
    (rw (c, e) at h) in omega arith)))
    (λ c. refused_none (refusal_of y) (1 ∷ []) (rw c at h))

module _ (y : Layout) (d : ℕ) (ds : List (List ℕ)) (a : List ℕ) (proper : Proper y) (big : area_size ≤ length a)
    (ok : refusal_of y ≡ 0) (low : 1 ≤ d) (high : d ≤ max_draws) where
  fresh_known : Fresh y (fresh y d ds a)
  fresh_known =
      record {
        laid = start_laid y d ds a big ok low high proper;
        passing = start_passing y d ds a big ok low high proper.six;
        octets = start_octets y d ds a big ok low high proper;
        encodes = start_encodes y d ds a big ok low high proper;
        even = start_balanced y d ds a big ok low high proper.six;
        span = start_span y d ds a big ok low high proper;
      }

  -- 2·S ≤ 576 holds of every layout with 2·S ≤ slot, since slot ≤ 512
  fresh_fits : 2 * lay.span_of y ≤ y.figures.slot → lay.gap_of y.figures ≤ 64 + y.figures.jam → (cs : List Call)
      → AllFair cs → Demand3For y (fresh y d ds a) cs
  fresh_fits slot gap cs fair =
      let k = fresh_known in
      let w = sound y ok in
      demand_three y (fresh y d ds a) k cs fair (rw k.laid.figures gap)
      (rw k.span (omega (arith, w.figures.slot))) (rw (k.span, k.laid.figures) slot)

-- A sheet s that is read, and a fresh start on its layout, with any D and draws, on any area.
module _ (s : List ℕ) (octets : Octets s) (n : ℕ) (sheet : (read_sheet s).answer ≡ accepted (n ∷ [])) (a : List ℕ) (d : ℕ)
    (ds : List (List ℕ))
    (start : (started a (read_sheet s).layout d ds).answer ≡ accepted []) (cs : List Call) (fair : AllFair cs) where
  proper : Proper (read_sheet s).layout
  proper = record { six = read_formed s n sheet; octets = read_octets s n sheet octets }

  -- from two inequalities
  pub three : 2 * lay.span_of (read_sheet s).layout ≤ (read_sheet s).layout.figures.slot
      → lay.gap_of (read_sheet s).layout.figures ≤ 64 + (read_sheet s).layout.figures.jam
      → Demand3For (read_sheet s).layout (started a (read_sheet s).layout d ds).octets cs
  three slot gap =
      by_start a (read_sheet s).layout d ds (λ (b : List ℕ). Demand3For (read_sheet s).layout b cs) start
      (λ big ok low high. fresh_fits (read_sheet s).layout d ds a proper big ok low high slot gap cs fair)

  pub always : Always (read_sheet s).layout (started a (read_sheet s).layout d ds).octets cs
  always =
      by_start a (read_sheet s).layout d ds (λ (b : List ℕ). Always (read_sheet s).layout b cs) start
      (λ big ok low high. always_fresh (read_sheet s).layout (fresh (read_sheet s).layout d ds a)
      (fresh_known (read_sheet s).layout d ds a proper big ok low high) cs fair)

  -- "On a sheet that fits, whatever is drawn and offered, over every list of calls from a fresh start"
  pub demand_3 : fit_of (read_sheet s).layout ≡ accepted (1 ∷ [])
      → Demand3For (read_sheet s).layout (started a (read_sheet s).layout d ds).octets cs
  demand_3 e =
      let q = fit_says (read_sheet s).layout (fit_yes_lem (read_sheet s).layout e) in three (omega (arith, q.0)) q.1
