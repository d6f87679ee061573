-- Every execution keeps the rules of a trace: what the state says of the trace, by induction over the steps. Assumes
-- nothing.
use Rattle.std.specs.Prelude.{ℕ, zero, suc, ◌+◌, ◌-◌, ◌≤◌, ◌<◌, ◌≡◌, Bool, true, false, List, leb, length}
use Rattle.std.proofs.Math.Path.{refl, subst}
use Rattle.std.proofs.Common.{sym, ◌∙◌, ap, arith}
use Rattle.std.proofs.Math.Logic.{inl, inr}
use Rattle.std.proofs.Math.Nat.{suc_inj}
use Rattle.octets.specs.BaseLaws.{by_test}
use Rattle.sheet_layout.specs.declared.Figures.{Figures}
use Rattle.sheet_layout.specs.Layout.{gap_of}
use Rattle.station_symbols.specs.declared.Heard.TheVariants.{Nothing}
use Rattle.station_symbols.specs.Packet.{hears_any, is_emission}
use Rattle.station_state.specs.declared.Deference.{Deference}
use Rattle.station_spec.specs.Defer.{defer}
use Rattle.station_state.specs.declared.Transmitter.{Transmitter}
use Rattle.station_state.specs.declared.Transmitter.TheVariants.{NoFrame, Waiting, BackingOff, Sending, Heading}
use Rattle.station_state.specs.declared.Transmitter.TheVariants.{Jamming}
use Rattle.station_spec.specs.Transmit.{waits, head_bit, backoff_bit, wait_bit, transmit}
use Rattle.station_state.specs.declared.Station.{Station}
use Rattle.station_spec.specs.Step.{tries_after}
use Rattle.bus_spec.specs.Range.{FrameIn, no_start}
use Rattle.bus_offer.specs.Offer.{holds, offered_station}
use Rattle.trace.specs.Basic.{either, clash}
use Rattle.trace.specs.Trace.{Emitted, Rules}
use Rattle.bus_meeting.specs.Net.{Net}
use Rattle.trace.specs.World.{Offer, fresh_station, fresh, before}
use Rattle.bus_meeting.specs.Gather.{on}
use Rattle.trace.specs.Hear.{heard_yes, heard_no}
use Rattle.bus_meeting.specs.Meet.{unheard}
use Rattle.trace.specs.Run.{state, frame_in, sig, emits, sees, defer_at, send_at, Sound, Kept, ready_kept, frame_suc}
use Rattle.trace.specs.Run.{out_sent, sig_is, next_deference, next_transmitter, next_size, next_emitted}
use Rattle.trace.specs.Run.{on_symbol, fine}
use Rattle.trace.specs.Inv.{HeardIn, Ran, Over, Resting, TxInv, tx_step, bit_sent, jam_sent}
use Rattle.trace.specs.Phases.{PhInv, Flags, phase_step, start_fresh, free}
use Rattle.frame_build.specs.Limits.{buffer_octets}

-- What station i's state s and frame F say of the trace before step t.
pub record Says (P : Net) (inp : ℕ → List (Offer P)) (i t : ℕ) (s : Station) (F : List ℕ) : Type 0 where
  pub my : s.emitted ≡ true → Emitted (emits P inp) i t
  pub mn : s.emitted ≡ false → Emitted (emits P inp) i t → ⊥
  pub phase : PhInv P inp i t s.deference
  pub tx : TxInv P inp i t F s.transmitter
  pub held : holds s.transmitter ≡ true → s.frame ≡ length F

-- ---- the transmitter's step

emitted_by : (P : Net) (inp : ℕ → List (Offer P)) (i a t : ℕ) → a < t → Ran P inp i a t → Emitted (emits P inp) i t
emitted_by P inp i a t l r = record { at = t - 1; before = omega arith; on = r.on (t - 1) (omega arith) (omega arith) }

-- A step in which no frame starts emits only as the step before did.
still_on : (P : Net) (inp : ℕ → List (Offer P)) (i t : ℕ) (F : List ℕ) (x : Transmitter) (z n draw : ℕ)
    (start hears : Bool) → TxInv P inp i t F x → start ≡ false
    → is_emission (transmit P.fig x z n draw start hears).emission ≡ true → Emitted (emits P inp) i t
unfolding transmit wait_bit backoff_bit
still_on P inp i t F NoFrame z n draw start hears v e o = clash o refl
still_on P inp i t F Waiting z n draw true hears v e o = clash refl e
still_on P inp i t F Waiting z n draw false hears v e o = clash o refl
still_on P inp i t F (BackingOff w) z n draw start hears v e o =
    by_test (leb w 1) (λ c. clash o (rw c)) (λ c. clash o (rw c))
still_on P inp i t F (Sending k) z n draw start hears v e o =
    emitted_by P inp i v.begin t (omega (arith, v.place, v.some)) v.ran
still_on P inp i t F (Heading k) z n draw start hears v e o =
    emitted_by P inp i v.begin t (omega (arith, v.place, v.some)) v.ran
still_on P inp i t F (Jamming r ends) z n draw start hears v e o = emitted_by P inp i v.begin t v.past v.ran

start_emits : (f : Figures) (x : Transmitter) (z n draw : ℕ) (start hears : Bool) → waits x ≡ true → start ≡ true
    → is_emission (transmit f x z n draw start hears).emission ≡ true
unfolding transmit wait_bit
start_emits f NoFrame z n draw start hears w e = clash w refl
start_emits f Waiting z n draw true hears w e = ap is_emission (bit_sent f z n 1 hears)
start_emits f Waiting z n draw false hears w e = clash e refl
start_emits f (BackingOff k) z n draw start hears w e = clash w refl
start_emits f (Sending k) z n draw start hears w e = clash w refl
start_emits f (Heading k) z n draw start hears w e = clash w refl
start_emits f (Jamming k ends) z n draw start hears w e = clash w refl

-- Only a waiting frame starts.
pub start_waits : (f : Figures) (x : Deference) (h m w : Bool) → (defer f x h m w).start ≡ true → w ≡ true
start_waits f x h m true e = refl
start_waits f x h m false e = clash e (no_start f x h m)

-- A frame that is held after a step was held before it.
pub held_back : (f : Figures) (x : Transmitter) (z n draw : ℕ) (start hears : Bool)
    → holds (transmit f x z n draw start hears).phase ≡ true → holds x ≡ true
unfolding transmit
held_back f NoFrame z n draw start hears e = e
held_back f Waiting z n draw start hears e = refl
held_back f (BackingOff k) z n draw start hears e = refl
held_back f (Sending k) z n draw start hears e = refl
held_back f (Heading k) z n draw start hears e = refl
held_back f (Jamming k ends) z n draw start hears e = refl

frame_range : (x : Transmitter) (z : ℕ) → holds x ≡ true → FrameIn x z → (64 ≤ z) × (z ≤ buffer_octets)
frame_range NoFrame z h r = clash h refl
frame_range Waiting z h r = r
frame_range (BackingOff k) z h r = r
frame_range (Sending k) z h r = r
frame_range (Heading k) z h r = r
frame_range (Jamming k ends) z h r = r

-- A station that is silent has no run under way.
stopped : (P : Net) (inp : ℕ → List (Offer P)) (i t : ℕ) (F : List ℕ) (x : Transmitter) (z n draw : ℕ)
    (start hears : Bool) → TxInv P inp i t F x
    → is_emission (transmit P.fig x z n draw start hears).emission ≡ false → Resting P inp i t
unfolding transmit head_bit
stopped P inp i t F NoFrame z n draw start hears v e = v
stopped P inp i t F Waiting z n draw start hears v e = v
stopped P inp i t F (BackingOff w) z n draw start hears v e = v
stopped P inp i t F (Sending k) z n draw start hears v e = clash (ap is_emission (bit_sent P.fig z n k hears)) e
stopped P inp i t F (Heading k) z n draw start hears v e = clash refl e
stopped P inp i t F (Jamming r ends) z n draw start hears v e =
    clash (ap is_emission (jam_sent P.fig n draw r ends)) e

-- ---- the induction

module _ (P : Net) (inp : ℕ → List (Offer P)) (span : ℕ) (L : Sound P span) where
  pub some_gap : 1 ≤ gap_of P.fig
  unfolding gap_of
  some_gap = omega (arith, L.figures.gap2)

  -- what is emitted, by the emission
  pub emits_is : (i t : ℕ) → i < P.n → emits P inp i t ≡ is_emission (send_at P inp i t).emission
  emits_is i t hi = ap on (sig_is P inp span L i hi t) ∙ on_symbol (frame_in P inp i t) (send_at P inp i t).emission

  pub unheard_in : (i t : ℕ) → sees P inp i t ≡ Nothing → HeardIn P inp i t → ⊥
  unfolding sees
  unheard_in i t e h = heard_no P (sig P inp) i t e h

  -- The flags that station i works from in step t, and what follows from them.
  module _ (i t : ℕ) (hi : i < P.n) (v : Says P inp i t (state P inp t i) (frame_in P inp i t)) where
    pub flags : Flags P inp i t (hears_any (sees P inp i t)) (state P inp t i).emitted
    unfolding sees
    flags =
        record {
          hy = heard_yes P (sig P inp) i t;
          hn = λ e h. unheard_in i t (unheard (sees P inp i t) e) h;
          my = v.my;
          mn = v.mn;
        }

    begins : (defer_at P inp i t).start ≡ true → emits P inp i t ≡ true
    unfolding send_at defer_at
    begins e =
        emits_is i t hi
        ∙ start_emits P.fig (state P inp t i).transmitter (state P inp t i).frame
        (tries_after (state P inp t i).attempts (defer_at P inp i t).start) (P.draw i (state P inp t i).draw)
        (defer_at P inp i t).start (hears_any (sees P inp i t))
        (start_waits P.fig (state P inp t i).deference (hears_any (sees P inp i t)) (state P inp t i).emitted
        (waits (state P inp t i).transmitter) e) e

    pub goes_on_lem : (defer_at P inp i t).start ≡ false → emits P inp i t ≡ true → Emitted (emits P inp) i t
    unfolding send_at defer_at
    goes_on_lem e o =
        still_on P inp i t (frame_in P inp i t) (state P inp t i).transmitter (state P inp t i).frame
        (tries_after (state P inp t i).attempts (defer_at P inp i t).start) (P.draw i (state P inp t i).draw)
        (defer_at P inp i t).start (hears_any (sees P inp i t)) v.tx e (sym (emits_is i t hi) ∙ o)

    pub fresh_before : (defer_at P inp i t).start ≡ true → Emitted (emits P inp) i t → ⊥
    unfolding defer_at
    fresh_before e q =
        start_fresh P inp span L i t (state P inp t i).deference (hears_any (sees P inp i t)) (state P inp t i).emitted
        (waits (state P inp t i).transmitter) flags e v.phase q

    -- the frame that is held is of the octets that the record has
    held_size : holds (state P inp t i).transmitter ≡ true
        → ((state P inp t i).frame ≡ length (frame_in P inp i t)) × (64 ≤ (state P inp t i).frame)
        × ((state P inp t i).frame ≤ buffer_octets)
    held_size h =
        let r = frame_range (state P inp t i).transmitter (state P inp t i).frame h
        (fine P inp span L t i hi).frame in (v.held h, r.0, r.1)

    after_tx : TxInv P inp i (suc t) (frame_in P inp i t) (send_at P inp i t).phase
    unfolding send_at defer_at
    after_tx =
        tx_step P inp span L i t (frame_in P inp i t) (state P inp t i).transmitter (state P inp t i).frame
        (tries_after (state P inp t i).attempts (defer_at P inp i t).start) (P.draw i (state P inp t i).draw)
        (defer_at P inp i t).start (hears_any (sees P inp i t)) refl held_size (fine P inp span L t i hi).number
        (λ e s z. by_test (emits P inp i s) (λ o. absurd (fresh_before e (record {
          at = s;
          before = z;
          on = o;
        }))) (λ o. o))
        (unheard (sees P inp i t)) (sig_is P inp span L i hi t) (out_sent P inp span L i hi t) v.tx

    after_phase : PhInv P inp i (suc t) (defer_at P inp i t).phase
    unfolding defer_at
    after_phase =
        phase_step P inp span L i t (state P inp t i).deference (hears_any (sees P inp i t)) (state P inp t i).emitted
        (waits (state P inp t i).transmitter) some_gap flags begins goes_on_lem v.phase

    after_held : holds (send_at P inp i t).phase ≡ true → (state P inp t i).frame ≡ length (frame_in P inp i t)
    unfolding send_at defer_at
    after_held h =
        v.held (held_back P.fig (state P inp t i).transmitter (state P inp t i).frame
        (tries_after (state P inp t i).attempts (defer_at P inp i t).start) (P.draw i (state P inp t i).draw)
        (defer_at P inp i t).start (hears_any (sees P inp i t)) h)

    emitted_is : ((before P inp (suc t)).station i).emitted ≡ emits P inp i t
    emitted_is = next_emitted P inp span L i hi t ∙ sym (emits_is i t hi)

    after : Says P inp i (suc t) ((before P inp (suc t)).station i) ((before P inp (suc t)).frame i)
    after =
        record {
          my = λ o. record { at = t; before = refl; on = sym emitted_is ∙ o };
          mn = λ o x. clash (rw (suc_inj x.before) at x.on) (sym emitted_is ∙ o);
          phase = subst (PhInv P inp i (suc t)) (sym (next_deference P inp span L i hi t)) after_phase;
          tx = subst (λ (x : Transmitter). TxInv P inp i (suc t) ((before P inp (suc t)).frame i) x)
              (sym (next_transmitter P inp span L i hi t))
              (subst (λ (l : List ℕ). TxInv P inp i (suc t) l (send_at P inp i t).phase)
              (sym (frame_suc P inp t i)) after_tx);
          held = λ h. next_size P inp span L i hi t
              ∙ after_held (sym (ap holds (next_transmitter P inp span L i hi t)) ∙ h)
              ∙ ap length (sym (frame_suc P inp t i));
        }

  -- An offer keeps what a state says.
  offered_says : (i t : ℕ) (s : Station) (F G : List ℕ) → s.transmitter ≡ NoFrame → Says P inp i t s F
      → Says P inp i t (offered_station s (length G)) G
  unfolding offered_station
  offered_says i t s F G e v =
      record { my = v.my; mn = v.mn; phase = v.phase; tx = subst (TxInv P inp i t F) e v.tx; held = λ h. refl }

  kept_says : (i t : ℕ) (os : List (Offer P)) (s r : Station) (F G : List ℕ) → Kept P os i s r F G → Says P inp i t s F
      → Says P inp i t r G
  kept_says i t os s r F G k v =
      either k
      (λ x. subst (λ (q : Station). Says P inp i t q G) (sym x.0) (subst (Says P inp i t s) (sym x.1) v))
      (λ x. subst (λ (q : Station). Says P inp i t q G) (sym x.1) (offered_says i t s F G x.0 v))

  says_fresh : (i : ℕ) → Says P inp i 0 ((before P inp 0).station i) ((before P inp 0).frame i)
  unfolding before fresh fresh_station
  says_fresh i =
      record {
        my = λ o. clash o refl;
        mn = λ o x. omega (arith, x.before);
        phase = inr (record { since = 0; past = omega arith; still = λ s lo hi. absurd (omega arith); why = inl refl });
        tx = λ b z o. absurd (omega arith);
        held = λ h. clash h refl;
      }

  says_ready : (t i : ℕ) → Says P inp i t ((before P inp t).station i) ((before P inp t).frame i)
      → Says P inp i t (state P inp t i) (frame_in P inp i t)
  says_ready t i v =
      kept_says i t (inp t) ((before P inp t).station i) (state P inp t i) ((before P inp t).frame i) (frame_in P inp i t)
      (ready_kept P inp t i) v

  pub says_before : (t i : ℕ) → i < P.n → Says P inp i t ((before P inp t).station i) ((before P inp t).frame i)
  says_before zero i hi = says_fresh i
  says_before (suc t) i hi = after i t hi (says_ready t i (says_before t i hi))

  pub says : (t i : ℕ) → i < P.n → Says P inp i t (state P inp t i) (frame_in P inp i t)
  says t i hi = says_ready t i (says_before t i hi)

  -- The record of a station that holds a frame has the frame's octets, 64 to 1522.
  pub held_octets : (t i : ℕ) → i < P.n → holds (state P inp t i).transmitter ≡ true
      → ((state P inp t i).frame ≡ length (frame_in P inp i t)) × (64 ≤ length (frame_in P inp i t))
      × (length (frame_in P inp i t) ≤ buffer_octets)
  held_octets t i hi h =
      let r = held_size i t hi (says t i hi) h in (r.0, omega (arith, r.0, r.1), omega (arith, r.0, r.2))

  -- ---- the rules

  -- A station that falls silent has ended a run.
  pub ended : (i b : ℕ) → i < P.n → emits P inp i b ≡ true → emits P inp i (suc b) ≡ false → Over P inp i b
  unfolding send_at defer_at
  ended i b hi o e =
      let s = state P inp (suc b) i in
      stopped P inp i (suc b) (frame_in P inp i (suc b)) s.transmitter s.frame
      (tries_after s.attempts (defer_at P inp i (suc b)).start) (P.draw i s.draw)
      (defer_at P inp i (suc b)).start (hears_any (sees P inp i (suc b))) (says (suc b) i hi).tx
      (sym (emits_is i (suc b) hi) ∙ e) b refl o

  pub rules : Rules P.n P.d (emits P inp) (gap_of P.fig) (64 + P.fig.jam)
  unfolding defer_at
  rules =
      record {
        long = λ i b hi o e. let r = ended i b hi o e in omega (arith, r.long);
        whole = λ i b hi o e s lo hi2. let r = ended i b hi o e in r.ran.on s (omega (arith, r.long)) (omega arith);
        start = λ i t hi st.
            let v = says t i hi in
            let ne : Emitted (emits P inp) i t → ⊥ = λ x. clash x.on (st.fresh x.at x.before) in
            let s = state P inp t i in
            by_test (defer_at P inp i t).start
            (λ e. free P inp span L i t s.deference (hears_any (sees P inp i t)) s.emitted (waits s.transmitter)
            (flags i t hi v) ne e v.phase)
            (λ e. absurd (ne (goes_on_lem i t hi v e st.on)));
      }
