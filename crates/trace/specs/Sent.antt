-- The run behind a sent frame, and how a run ends. Assumes nothing.
use Rattle.std.specs.Prelude.{ℕ, suc, ◌<◌, ◌≡◌, refl, Bool, true, false, List, ◌⊎◌, ltb, leb, eqb, length, Option, None, Some}
use Rattle.std.proofs.Common.{sym, ◌∙◌, subst, arith}
use Rattle.std.proofs.Math.Path.{ap}
use Rattle.std.proofs.Math.Logic.{inl, inr}
use Rattle.octets.specs.Base.{pick}
use Rattle.octets.specs.BaseLaws.{by_test}
use Rattle.sheet_layout.specs.declared.Figures.{Figures}
use Rattle.station_symbols.specs.declared.Symbol.TheVariants.{Silence, Bit, Jam}
use Rattle.station_symbols.specs.declared.Emission.TheVariants.{PacketBit}
use Rattle.station_symbols.specs.Packet.{packet_bit, symbol_of, hears_any, is_emission}
use Rattle.station_spec.specs.declared.TransmitEvent.{TransmitEvent}
use Rattle.station_spec.specs.declared.TransmitEvent.TheVariants.{Collision, Late, Sent, GivenUp}
use Rattle.station_spec.specs.declared.TransmitEvent.TheVariants.{LateEnded}
use Rattle.station_state.specs.declared.Transmitter.{Transmitter}
use Rattle.station_state.specs.declared.Transmitter.TheVariants.{NoFrame, Waiting, BackingOff, Sending, Heading}
use Rattle.station_state.specs.declared.Transmitter.TheVariants.{Jamming}
use Rattle.station_spec.specs.Transmit.{closes_frame, packet_length, collision, send_bit, head_bit, last_jam, jam_bit}
use Rattle.station_spec.specs.Transmit.{backoff_bit}
use Rattle.station_spec.specs.Transmit.{wait_bit, transmit}
use Rattle.station_state.specs.declared.Station.{Station}
use Rattle.station_spec.specs.Step.{tries_after}
use Rattle.bus_offer.specs.Offer.{holds, offered_station}
use Rattle.trace.specs.Basic.{either}
use Rattle.bus_meeting.specs.Net.{Net}
use Rattle.trace.specs.World.{Offer, before}
use Rattle.bus_meeting.specs.Gather.{on, off_is}
use Rattle.trace.specs.Run.{state, frame_in, out_at, sig, emits, sees, defer_at, send_at, Sound, ready_kept, out_sent}
use Rattle.trace.specs.Run.{sig_is, next_transmitter}
use Rattle.trace.specs.Inv.{Whole, TxInv, bit_sent}
use Rattle.trace.specs.Keep.{says, says_before, emits_is, fresh_before, ended}

-- ---- the transmitter's step that ends a frame

-- The event v ends a frame after m attempts: sent, given up, or ended after a late collision.
abbrev pub Ends : Option TransmitEvent → ℕ → Type 0
Ends v m = (v ≡ Some (Sent m)) ⊎ ((v ≡ Some (GivenUp m)) ⊎ (v ≡ Some (LateEnded m)))

by_end : {C : Type 0} (v : Option TransmitEvent) (m : ℕ) → Ends v m → (v ≡ Some (Sent m) → C)
    → (v ≡ Some (GivenUp m) → C)
    → (v ≡ Some (LateEnded m) → C) → C
by_end v m e f g h = either e f (λ q. either q g h)

no_end : (m : ℕ) → Ends None m → ⊥
no_end m e =
    by_end None m e (λ q. let z : ◌≡◌ {A = ℕ} 0 1 = cc in omega arith)
    (λ q. let z : ◌≡◌ {A = ℕ} 0 1 = cc in omega arith) (λ q. let z : ◌≡◌ {A = ℕ} 0 1 = cc in omega arith)

late_end : (k : ℕ) (closes : Bool) (m : ℕ) → Ends (Some (Late k closes)) m → ⊥
late_end k closes m e =
    by_end (Some (Late k closes)) m e (λ q. let z : ◌≡◌ {A = ℕ} 0 1 = cc in omega arith)
    (λ q. let z : ◌≡◌ {A = ℕ} 0 1 = cc in omega arith) (λ q. let z : ◌≡◌ {A = ℕ} 0 1 = cc in omega arith)

early_end : (k m : ℕ) → Ends (Some (Collision k)) m → ⊥
early_end k m e =
    by_end (Some (Collision k)) m e (λ q. let z : ◌≡◌ {A = ℕ} 0 1 = cc in omega arith)
    (λ q. let z : ◌≡◌ {A = ℕ} 0 1 = cc in omega arith) (λ q. let z : ◌≡◌ {A = ℕ} 0 1 = cc in omega arith)

bit_end : (f : Figures) (z n k : ℕ) (h : Bool) (m : ℕ) → Ends (send_bit f z n k h).event m
    → ((send_bit f z n k h).phase ≡ NoFrame) × (m ≡ n)
unfolding send_bit collision
bit_end f z n k true m e =
    by_test (ltb f.slot k) (λ c. absurd (late_end k (closes_frame f) m (rw c at e)))
    (λ c. absurd (early_end k m (rw c at e)))
bit_end f z n k false m e =
    by_test (eqb k (packet_length z))
    (λ c. rw c (
      refl,
      by_end (Some (Sent n)) m (rw c at e) (λ q. cc) (λ q. absurd (let z : ◌≡◌ {A = ℕ} 0 1 = cc in omega arith))
          (λ q. absurd (let z : ◌≡◌ {A = ℕ} 0 1 = cc in omega arith)),
    ))
    (λ c. absurd (no_end m (rw c at e)))

jam_end : (f : Figures) (n draw left : ℕ) (ends : Bool) (m : ℕ) → Ends (jam_bit f n draw left ends).event m
    → ((jam_bit f n draw left ends).phase ≡ NoFrame) × (m ≡ n)
unfolding jam_bit last_jam
jam_end f n draw left ends m e =
    by_test (leb left 1)
    (λ c. by_test ends
    (λ b. rw (c, b) (
      refl,
      by_end (Some (LateEnded n)) m (rw (c, b) at e) (λ q. absurd (let z : ◌≡◌ {A = ℕ} 0 1 = cc in omega arith))
          (λ q. absurd (let z : ◌≡◌ {A = ℕ} 0 1 = cc in omega arith)) (λ q. cc),
    ))
    (λ b. by_test (eqb n f.limit)
    (λ d. rw (c, b, d) (
      refl,
      by_end (Some (GivenUp n)) m (rw (c, b, d) at e) (λ q. absurd (let z : ◌≡◌ {A = ℕ} 0 1 = cc in omega arith)) (λ q. cc)
          (λ q. absurd (let z : ◌≡◌ {A = ℕ} 0 1 = cc in omega arith)),
    ))
    (λ d. absurd (no_end m (rw (c, b, d) at e)))))
    (λ c. absurd (no_end m (rw c at e)))

-- a frame that ends was held, is held no more, and its attempts are reported
pub end_phase : (f : Figures) (x : Transmitter) (z n draw : ℕ) (start h : Bool) (m : ℕ)
    → Ends (transmit f x z n draw start h).event m
    → ((transmit f x z n draw start h).phase ≡ NoFrame) × (m ≡ n) × (holds x ≡ true)
unfolding transmit wait_bit head_bit backoff_bit
end_phase f NoFrame z n draw start h m e = absurd (no_end m e)
end_phase f Waiting z n draw true h m e = let r = bit_end f z n 1 h m e in (r.0, r.1, refl)
end_phase f Waiting z n draw false h m e = absurd (no_end m e)
end_phase f (BackingOff w) z n draw start h m e =
    by_test (leb w 1) (λ c. absurd (no_end m (rw c at e))) (λ c. absurd (no_end m (rw c at e)))
end_phase f (Sending k) z n draw start h m e = let r = bit_end f z n k h m e in (r.0, r.1, refl)
end_phase f (Heading k) z n draw start h m e = absurd (no_end m e)
end_phase f (Jamming left ends) z n draw start h m e = let r = jam_end f n draw left ends m e in (r.0, r.1, refl)

-- a sent frame's last step emits a packet bit
jam_not_sent : (f : Figures) (n draw left : ℕ) (ends : Bool) (m : ℕ)
    → (jam_bit f n draw left ends).event ≡ Some (Sent m) → ⊥
unfolding jam_bit last_jam
jam_not_sent f n draw left ends m e =
    by_test (leb left 1)
    (λ c. by_test ends (λ b. let z : ◌≡◌ {A = ℕ} 0 1 = cc (rw (c, b) at e) in omega arith)
    (λ b. by_test (eqb n f.limit)
    (λ d. let z : ◌≡◌ {A = ℕ} 0 1 = cc (rw (c, b, d) at e) in omega arith)
    (λ d. let z : ◌≡◌ {A = ℕ} 0 1 = cc (rw (c, b, d) at e) in omega arith)))
    (λ c. let z : ◌≡◌ {A = ℕ} 0 1 = cc (rw c at e) in omega arith)

sent_bit : (f : Figures) (x : Transmitter) (z n draw : ℕ) (start h : Bool) (m : ℕ)
    → (transmit f x z n draw start h).event ≡ Some (Sent m)
    → (k : ℕ) × ((transmit f x z n draw start h).emission ≡ PacketBit k)
unfolding transmit wait_bit head_bit backoff_bit
sent_bit f NoFrame z n draw start h m e = absurd (no_end m (inl e))
sent_bit f Waiting z n draw true h m e = (1, bit_sent f z n 1 h)
sent_bit f Waiting z n draw false h m e = absurd (no_end m (inl e))
sent_bit f (BackingOff w) z n draw start h m e =
    by_test (leb w 1) (λ c. absurd (no_end m (inl (rw c at e)))) (λ c. absurd (no_end m (inl (rw c at e))))
sent_bit f (Sending k) z n draw start h m e = (k, bit_sent f z n k h)
sent_bit f (Heading k) z n draw start h m e = absurd (no_end m (inl e))
sent_bit f (Jamming left ends) z n draw start h m e = absurd (jam_not_sent f n draw left ends m e)

-- with no run under way and no start, a step is silent
rest_silent : (f : Figures) (x : Transmitter) (z n draw : ℕ) (start h : Bool) → (x ≡ NoFrame) ⊎ (x ≡ Waiting)
    → start ≡ false
    → is_emission (transmit f x z n draw start h).emission ≡ false
unfolding transmit wait_bit
rest_silent f x z n draw start h c e = either c (λ q. rw q) (λ q. rw (q, e))

offered_waits : (s : Station) (n : ℕ) → (offered_station s n).transmitter ≡ Waiting
unfolding offered_station
offered_waits s n = refl

-- ---- in an execution

module _ (P : Net) (inp : ℕ → List (Offer P)) (span : ℕ) (L : Sound P span) where
  -- a frame that ends in step e
  pub end_next : (i e m : ℕ) → i < P.n → Ends (out_at P inp i e).sent m
      → (((before P inp (suc e)).station i).transmitter ≡ NoFrame)
      × (m ≡ tries_after (state P inp e i).attempts (defer_at P inp i e).start)
      × (holds (state P inp e i).transmitter ≡ true)
  unfolding send_at defer_at
  end_next i e m hi v =
      let s = state P inp e i in
      let r = end_phase P.fig s.transmitter s.frame (tries_after s.attempts (defer_at P inp i e).start)
      (P.draw i s.draw) (defer_at P inp i e).start (hears_any (sees P inp i e)) m
      (subst (λ (x : Option TransmitEvent). Ends x m) (out_sent P inp span L i hi e) v)
      in (next_transmitter P inp span L i hi e ∙ r.0, r.1, r.2)

  sent_symbol : (i e m : ℕ) → i < P.n → (out_at P inp i e).sent ≡ Some (Sent m) → (b : Bool) × (sig P inp i e ≡ Bit b)
  unfolding send_at defer_at
  sent_symbol i e m hi v =
      let s = state P inp e i in
      let r = sent_bit P.fig s.transmitter s.frame (tries_after s.attempts (defer_at P inp i e).start)
      (P.draw i s.draw) (defer_at P inp i e).start (hears_any (sees P inp i e)) m
      (sym (out_sent P inp span L i hi e) ∙ v)
      in (packet_bit (frame_in P inp i e) r.0, sig_is P inp span L i hi e ∙ ap (symbol_of (frame_in P inp i e)) r.1)

  -- A frame that is sent in step e went out whole, in one run, and its station heard nothing meanwhile.
  pub sent_run : (i e m : ℕ) → i < P.n → (out_at P inp i e).sent ≡ Some (Sent m) → (a : ℕ) × Whole P inp i a e
  sent_run i e m hi v =
      let y = sent_symbol i e m hi v in
      let q = end_next i e m hi (inl v) in
      let o = subst (TxInv P inp i (suc e) ((before P inp (suc e)).frame i)) q.0
      (says_before P inp span L (suc e) i hi).tx e refl (ap on y.1) in
      either o.how
      (λ j. absurd (let z : ◌≡◌ {A = ℕ} 0 1 = cc (j, y.1) in omega arith))
      (λ w. (o.begin, w))

  -- the step before it is silent, and so is the step after it
  pub whole_before : (i a e : ℕ) → Whole P inp i a e → (s : ℕ) → suc s ≡ a → sig P inp i s ≡ Silence
  whole_before i a e w s z = off_is (sig P inp i s) (w.ran.start.fresh s z)

  end_off : (i e m : ℕ) → i < P.n → Ends (out_at P inp i e).sent m → emits P inp i e ≡ true
      → emits P inp i (suc e) ≡ false
  unfolding send_at defer_at
  end_off i e m hi v o =
      let q = end_next i e m hi v in
      let s = state P inp (suc e) i in
      let w : (s.transmitter ≡ NoFrame) ⊎ (s.transmitter ≡ Waiting) =
      either (ready_kept P inp (suc e) i)
      (λ x. inl (ap (λ (k : Station). k.transmitter) x.0 ∙ q.0))
      (λ x. inr (ap (λ (k : Station). k.transmitter) x.1 ∙ offered_waits ((before P inp (suc e)).station i)
      (length (frame_in P inp i (suc e))))) in
      by_test (defer_at P inp i (suc e)).start
      (λ c. absurd (fresh_before P inp span L i (suc e) hi (says P inp span L (suc e) i hi) c (record {
        at = e;
        before = refl;
        on = o;
      })))
      (λ c. emits_is P inp span L i (suc e) hi
      ∙ rest_silent P.fig s.transmitter s.frame (tries_after s.attempts (defer_at P inp i (suc e)).start)
      (P.draw i s.draw) (defer_at P inp i (suc e)).start (hears_any (sees P inp i (suc e))) w c)

  pub whole_after : (i a e : ℕ) → i < P.n → Whole P inp i a e → sig P inp i (suc e) ≡ Silence
  whole_after i a e hi w =
      off_is (sig P inp i (suc e)) (end_off i e w.attempts hi (inl w.sent)
      (w.ran.on e (omega (arith, w.long)) (omega arith)))

  -- A run ends in a jam bit, or its frame is sent.
  pub ends : (i b : ℕ) → i < P.n → emits P inp i b ≡ true → emits P inp i (suc b) ≡ false
      → (sig P inp i b ≡ Jam) ⊎ ((m : ℕ) × ((out_at P inp i b).sent ≡ Some (Sent m)))
  ends i b hi o e = either (ended P inp span L i b hi o e).how (λ j. inl j) (λ w. inr (w.attempts, w.sent))

  -- one that does not end in a jam bit is a whole packet
  pub ends_whole : (i b : ℕ) → i < P.n → emits P inp i b ≡ true → emits P inp i (suc b) ≡ false
      → (sig P inp i b ≡ Jam → ⊥) → (a : ℕ) × Whole P inp i a b
  ends_whole i b hi o e nj =
      let r = ended P inp span L i b hi o e in either r.how (λ j. absurd (nj j)) (λ w. (r.begin, w))
