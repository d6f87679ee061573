-- "receiveOK" and "sent": a station reports a frame got exactly when another sent it one. No hypothesis about the slot
-- is used. Assumes nothing.
use Rattle.std.specs.Prelude.{ℕ, suc, ◌+◌, ◌*◌, ◌≤◌, ◌<◌, ◌≡◌, refl, Bool, true, false, List, length, None, Some}
use Rattle.std.proofs.Common.{sym, ◌∙◌, ap, subst, inl, arith}
use Rattle.octets.specs.BaseLaws.{by_test, by_eq}
use Rattle.frame_open.specs.Open.{receive_ok, opened}
use Rattle.frame_open.specs.RoundTrip.{handed_back}
use Rattle.sheet_layout.specs.Layout.{gap_of}
use Rattle.station_symbols.specs.declared.Heard.TheVariants.{Clean}
use Rattle.station_symbols.specs.declared.Symbol.TheVariants.{Bit}
use Rattle.station_symbols.specs.Packet.{packet_bit}
use Rattle.station_spec.specs.declared.TransmitEvent.TheVariants.{Sent}
use Rattle.station_spec.specs.declared.ReceiveEvent.TheVariants.{GotOk}
use Rattle.station_state.specs.declared.Receiver.TheVariants.{Listening, Readable}
use Rattle.station_spec.specs.declared.Received.{Received}
use Rattle.station_spec.specs.Receive.{addressed, deciding, decide, ended}
use Rattle.trace.specs.Basic.{clash}
use Rattle.bus_meeting.specs.Net.{Net}
use Rattle.trace.specs.World.{Offer}
use Rattle.bus_meeting.specs.Gather.{on}
use Rattle.trace.specs.Hear.{Only}
use Rattle.trace.specs.Run.{frame_in, buffer_in, out_at, sig, sees, Sound, Made, sees_clean}
use Rattle.trace.specs.Inv.{Whole}
use Rattle.trace.specs.Sent.{sent_run}
use Rattle.trace.proofs.Alone.{passes}
use Rattle.trace.specs.Attempts.{reported}
use Rattle.trace.specs.Frames.{client_in, made_client, whole_status}
use Rattle.trace.specs.Listen.{reception_at, got_is, reception_nothing}
use Rattle.trace.specs.Reception.{Complete}
use Rattle.trace.proofs.Reception.{whole_complete}
use Rattle.trace.specs.Decide.{decide_for, decide_else, ended_collecting, no_ok}
use Rattle.station_spec.specs.Transmit.{shortest_packet}
use Rattle.trace.specs.Received.{Came, Sender, got_came}

module _ (P : Net) (inp : ℕ → List (Offer P)) (span : ℕ) (L : Sound P span) (g : gap_of P.fig ≤ 64 + P.fig.jam)
    (fits : 2 * span ≤ shortest_packet P.fig) where
  module _ (i a e : ℕ) (hi : i < P.n) (w : Whole P inp i a e) (j : ℕ) (hj : j < P.n) (ne : i ≡ j → ⊥) where
    complete : Complete P inp j (suc (e + P.d i j)) w.frame
    complete = whole_complete P inp span L g fits i a e hi w j hj ne

    status : (opened false w.frame 0).status ≡ receive_ok (client_in w.frame)
    status = whole_status P inp span L i a e hi w

    whole_decided : reception_at P inp j (suc (e + P.d i j)) ≡ decide (P.address j)
        (buffer_in P inp j (suc (e + P.d i j))) (8 * length w.frame) false false
    whole_decided =
        let u : ℕ = suc (e + P.d i j) in
        reception_nothing P inp span L j hj u complete.silence
        ∙ ap (ended (P.address j) (buffer_in P inp j u)) complete.receiver
        ∙ ended_collecting (P.address j) (buffer_in P inp j u) (8 * length w.frame) false false

    -- what station j decides of it
    pub whole_for : addressed (P.address j) w.frame ≡ true
        → reception_at P inp j (suc (e + P.d i j)) ≡ deciding (Readable (length w.frame))
        (Some (GotOk (client_in w.frame)))
    whole_for d =
        whole_decided
        ∙ decide_for (P.address j) (buffer_in P inp j (suc (e + P.d i j))) w.frame (client_in w.frame)
        w.size.0 w.size.1 complete.buffer status d

    pub whole_else : addressed (P.address j) w.frame ≡ false
        → reception_at P inp j (suc (e + P.d i j)) ≡ deciding Listening None
    whole_else d =
        whole_decided
        ∙ decide_else (P.address j) (buffer_in P inp j (suc (e + P.d i j))) w.frame (client_in w.frame)
        w.size.0 w.size.1 complete.buffer d

    -- A whole packet is got by the stations that it is addressed to, with the octets of its client data.
    pub whole_got : addressed (P.address j) w.frame ≡ true
        → (out_at P inp j (suc (e + P.d i j))).got ≡ Some (GotOk (client_in w.frame))
    whole_got d = got_is P inp span L j hj (suc (e + P.d i j)) ∙ ap (λ (r : Received). r.event) (whole_for d)

    -- and by no other
    pub whole_not : addressed (P.address j) w.frame ≡ false → (out_at P inp j (suc (e + P.d i j))).got ≡ None
    whole_not d = got_is P inp span L j hj (suc (e + P.d i j)) ∙ ap (λ (r : Received). r.event) (whole_else d)

    got_for : (m : ℕ) → (out_at P inp j (suc (e + P.d i j))).got ≡ Some (GotOk m)
        → (addressed (P.address j) w.frame ≡ true) × (m ≡ client_in w.frame)
    got_for m v =
        by_test (addressed (P.address j) w.frame)
        (λ d. let q = whole_got d in (d, cc (v, q)))
        (λ d. absurd (no_ok m (sym (whole_not d) ∙ v)))

    frame_last : frame_in P inp i e ≡ w.frame
    frame_last = w.held e (omega (arith, w.long)) (omega arith)

    -- its last bit is heard alone
    last_bit : (b : Bool) × (sees P inp j (e + P.d i j) ≡ Clean b)
    last_bit =
        let k : ℕ = 63 + 8 * length w.frame in
        let z : a + P.d i j + k ≡ e + P.d i j = omega (arith, w.long) in (
          packet_bit w.frame (k + 1),
          subst (λ (x : ℕ). sees P inp j x ≡ Clean (packet_bit w.frame (k + 1))) z
              ((passes P inp span L g fits i a e hi w j hj ne).comes k (omega arith)),
        )

    last_from : (t : ℕ) (b : Bool) (o : Only P.n P.d (sig P inp) j t (Bit b)) → e + P.d i j ≡ t → i ≡ o.from
    last_from t b o q =
        by_eq i o.from (λ z. z)
        (λ z. clash (w.ran.on e (omega (arith, w.long)) (omega arith)) (ap on (o.rest i e hi ne z q)))

  -- A frame that is got was sent whole, and is addressed to the station that got it.
  pub got_whole : (j u m : ℕ) → j < P.n → (out_at P inp j u).got ≡ Some (GotOk m)
      → (c : Came P inp j u) × (addressed (P.address j) c.whole.frame ≡ true) × (m ≡ client_in c.whole.frame)
  got_whole j u m hj v =
      let c = got_came P inp span L j u m hj v in
      let r = got_for c.from c.start c.at c.station c.whole j hj c.other m
      (subst (λ (x : ℕ). (out_at P inp j x).got ≡ Some (GotOk m)) c.delay v) in
      (c, r.0, r.1)

  -- such a frame in document 01's words
  pub came_sender : (j u : ℕ) → j < P.n → (c : Came P inp j u) → addressed (P.address j) c.whole.frame ≡ true
      → (s : Sender P inp j u) × (frame_in P inp s.from s.at ≡ c.whole.frame)
  came_sender j u hj c d =
      let q = frame_last c.from c.start c.at c.station c.whole j hj c.other in (
        record {
          from = c.from;
          at = c.at;
          attempts = c.whole.attempts;
          station = c.station;
          other = c.other;
          delay = c.delay;
          sent = c.whole.sent;
          for = ap (addressed (P.address j)) q ∙ d;
        },
        q,
      )

  -- Received means sent: a receiveOK is of a frame addressed to the station, which another reported sent.
  pub received : (j u m : ℕ) → j < P.n → (out_at P inp j u).got ≡ Some (GotOk m)
      → (s : Sender P inp j u) × (m ≡ client_in (frame_in P inp s.from s.at))
  received j u m hj v =
      let r = got_whole j u m hj v in
      let s = came_sender j u hj r.0 r.1 in (s.0, r.2 ∙ ap client_in (sym s.1))

  -- the whole packet of a frame that was reported sent, and the frame
  pub sender_came : (j u : ℕ) → j < P.n → (s : Sender P inp j u)
      → (c : Came P inp j u) × (c.whole.frame ≡ frame_in P inp s.from s.at)
      × (addressed (P.address j) c.whole.frame ≡ true)
  sender_came j u hj s =
      let r = sent_run P inp span L s.from s.at s.attempts s.station s.sent in
      let q = frame_last s.from r.0 s.at s.station r.1 j hj s.other in (
        record {
          from = s.from;
          start = r.0;
          at = s.at;
          station = s.station;
          other = s.other;
          whole = r.1;
          delay = s.delay;
        },
        sym q,
        ap (addressed (P.address j)) (sym q) ∙ s.for,
      )

  -- Sent means received: where another reported sent a frame addressed to the station, it reports receiveOK.
  pub delivered : (j u : ℕ) → j < P.n → (s : Sender P inp j u)
      → (out_at P inp j u).got ≡ Some (GotOk (client_in (frame_in P inp s.from s.at)))
  delivered j u hj s =
      let r = sender_came j u hj s in
      let c = r.0 in
      subst (λ (x : ℕ). (out_at P inp j x).got ≡ Some (GotOk (client_in (frame_in P inp s.from s.at)))) (sym c.delay)
      (whole_got c.from c.start c.at c.station c.whole j hj c.other r.2
      ∙ ap (λ (f : List ℕ). Some (GotOk (client_in f))) r.1)

  -- Both: step u of station j reports receiveOK, with m octets, exactly when another reported sent a frame with m
  -- octets addressed to j that comes to its end there in step u.
  pub exactly : (j u m : ℕ) → j < P.n
      → ((out_at P inp j u).got ≡ Some (GotOk m)
      → (s : Sender P inp j u) × (m ≡ client_in (frame_in P inp s.from s.at)))
      × ((s : Sender P inp j u) → m ≡ client_in (frame_in P inp s.from s.at) → (out_at P inp j u).got ≡ Some (GotOk m))
  exactly j u m hj = (λ v. received j u m hj v, λ s z. delivered j u hj s ∙ ap (λ (a : ℕ). Some (GotOk a)) (sym z))

  -- Two that reported sent frames which end in the same step at a third station are one.
  pub one_sender : (j i e m i' e' m' : ℕ) → j < P.n → i < P.n → i' < P.n → (i ≡ j → ⊥) → (i' ≡ j → ⊥)
      → (out_at P inp i e).sent ≡ Some (Sent m) → (out_at P inp i' e').sent ≡ Some (Sent m')
      → e + P.d i j ≡ e' + P.d i' j → i ≡ i'
  one_sender j i e m i' e' m' hj hi hi' ne ne' v v' z =
      let r = sent_run P inp span L i e m hi v in
      let r' = sent_run P inp span L i' e' m' hi' v' in
      let b = last_bit i r.0 e hi r.1 j hj ne in
      let o = sees_clean P inp j (e + P.d i j) b.0 b.1 in
      last_from i r.0 e hi r.1 j hj ne (e + P.d i j) b.0 o refl
      ∙ sym (last_from i' r'.0 e' hi' r'.1 j hj ne' (e + P.d i j) b.0 o (sym z))

  pub sender_one : (j u : ℕ) → j < P.n → (s r : Sender P inp j u) → s.from ≡ r.from
  sender_one j u hj s r =
      one_sender j s.from s.at s.attempts r.from r.at r.attempts hj s.station r.station
      s.other r.other s.sent r.sent
      (omega (arith, s.delay, r.delay))

  -- Such a frame is that of an offer to its sender, and the octets reported are those of its data, under a type with
  -- their padding.
  pub sender_made : (j u : ℕ) (s : Sender P inp j u)
      → (since : ℕ) × (m : Made P (inp since) s.from (frame_in P inp s.from s.at))
      × (client_in (frame_in P inp s.from s.at) ≡ length (handed_back m.offer.value m.offer.payload))
  sender_made j u s =
      let r = reported P inp span L s.from s.station s.at s.attempts (inl s.sent) in (
        r.since,
        r.made,
        made_client P span L (inp r.since) s.from s.station (frame_in P inp s.from s.at)
            r.made,
      )
