-- Attempts: those that a frame's end reports are the starts since its offer was accepted, and no more than the limit.
-- Assumes nothing.
use Rattle.std.specs.Prelude.{ℕ, zero, suc, ◌+◌, ◌≤◌, ◌<◌, ◌≡◌, Bool, true, false, List, ltb, leb, eqb, length, Some}
use Rattle.std.proofs.Math.Path.{refl, ap}
use Rattle.std.proofs.Common.{sym, ◌∙◌, ap₂, subst, arith, eqb-true}
use Rattle.std.proofs.Math.Nat.{add-zero}
use Rattle.octets.specs.Base.{pick}
use Rattle.octets.specs.BaseLaws.{by_test, by_eq}
use Rattle.sheet_layout.specs.declared.Figures.{Figures}
use Rattle.station_symbols.specs.Packet.{hears_any}
use Rattle.station_spec.specs.declared.TransmitEvent.TheVariants.{GivenUp, LateEnded}
use Rattle.station_state.specs.declared.Transmitter.{Transmitter}
use Rattle.station_state.specs.declared.Transmitter.TheVariants.{NoFrame, Waiting, BackingOff, Sending, Heading}
use Rattle.station_state.specs.declared.Transmitter.TheVariants.{Jamming}
use Rattle.station_spec.specs.Transmit.{packet_length, collision, send_bit, head_bit, last_jam, jam_bit, backoff_bit}
use Rattle.station_spec.specs.Transmit.{wait_bit, transmit}
use Rattle.station_state.specs.declared.Station.{Station}
use Rattle.station_spec.specs.Step.{tries_after}
use Rattle.bus_spec.specs.Range.{AttemptsIn}
use Rattle.bus_offer.specs.Offer.{holds, offered_station}
use Rattle.trace.specs.Basic.{either, clash}
use Rattle.bus_meeting.specs.Net.{Net}
use Rattle.trace.specs.World.{Offer, fresh_station, fresh, before}
use Rattle.trace.specs.Run.{state, frame_in, out_at, sees, defer_at, send_at, Sound, Made, Kept, ready_kept}
use Rattle.trace.specs.Run.{frame_suc, out_start, out_sent, next_transmitter, next_attempts, fine_before, fine}
use Rattle.trace.specs.Keep.{held_back}
use Rattle.trace.specs.Sent.{Ends, end_next}

-- "n = limit reports excessiveCollisionError"
bit_not_up : (f : Figures) (z n k : ℕ) (h : Bool) (m : ℕ) → (send_bit f z n k h).event ≡ Some (GivenUp m) → ⊥
unfolding send_bit collision
bit_not_up f z n k true m e =
    by_test (ltb f.slot k) (λ c. let z : ◌≡◌ {A = ℕ} 0 1 = cc (rw c at e) in omega arith)
    (λ c. let z : ◌≡◌ {A = ℕ} 0 1 = cc (rw c at e) in omega arith)
bit_not_up f z n k false m e =
    by_test (eqb k (packet_length z)) (λ c. let z : ◌≡◌ {A = ℕ} 0 1 = cc (rw c at e) in omega arith)
    (λ c. let z : ◌≡◌ {A = ℕ} 0 1 = cc (rw c at e) in omega arith)

jam_up : (f : Figures) (n draw left : ℕ) (ends : Bool) (m : ℕ) → (jam_bit f n draw left ends).event ≡ Some (GivenUp m)
    → m ≡ f.limit
unfolding jam_bit last_jam
jam_up f n draw left ends m e =
    by_test (leb left 1)
    (λ c. by_test ends (λ b. absurd (let z : ◌≡◌ {A = ℕ} 0 1 = cc (rw (c, b) at e) in omega arith))
    (λ b. by_test (eqb n f.limit)
    (λ d. let q : n ≡ m = cc (rw (c, b, d) at e) in sym q ∙ eqb-true n f.limit d)
    (λ d. absurd (let z : ◌≡◌ {A = ℕ} 0 1 = cc (rw (c, b, d) at e) in omega arith))))
    (λ c. absurd (let z : ◌≡◌ {A = ℕ} 0 1 = cc (rw c at e) in omega arith))

up_limit : (f : Figures) (x : Transmitter) (z n draw : ℕ) (start h : Bool) (m : ℕ)
    → (transmit f x z n draw start h).event ≡ Some (GivenUp m) → m ≡ f.limit
unfolding transmit wait_bit head_bit backoff_bit
up_limit f NoFrame z n draw start h m e = absurd (let z : ◌≡◌ {A = ℕ} 0 1 = cc in omega arith)
up_limit f Waiting z n draw true h m e = absurd (bit_not_up f z n 1 h m e)
up_limit f Waiting z n draw false h m e = absurd (let z : ◌≡◌ {A = ℕ} 0 1 = cc in omega arith)
up_limit f (BackingOff w) z n draw start h m e =
    by_test (leb w 1) (λ c. absurd (let z : ◌≡◌ {A = ℕ} 0 1 = cc (rw c at e) in omega arith))
    (λ c. absurd (let z : ◌≡◌ {A = ℕ} 0 1 = cc (rw c at e) in omega arith))
up_limit f (Sending k) z n draw start h m e = absurd (bit_not_up f z n k h m e)
up_limit f (Heading k) z n draw start h m e = absurd (let z : ◌≡◌ {A = ℕ} 0 1 = cc in omega arith)
up_limit f (Jamming left ends) z n draw start h m e = jam_up f n draw left ends m e

-- "attempts 0..limit (below it while a frame waits ..)": no more than the limit in any case
in_limit : (limit : ℕ) (x : Transmitter) (n : ℕ) → AttemptsIn limit x n → n ≤ limit
in_limit limit NoFrame n h = h
in_limit limit Waiting n h = omega arith
in_limit limit (BackingOff w) n h = omega arith
in_limit limit (Sending k) n h = h.1
in_limit limit (Heading k) n h = h.1
in_limit limit (Jamming m ends) n h = h.1

-- the starts of station i in the k steps from step a on
unfoldable pub starts : (P : Net) → (ℕ → List (Offer P)) → (i a k : ℕ) → ℕ
starts P inp i a zero = 0
starts P inp i a (suc k) = starts P inp i a k + pick (out_at P inp i (a + k)).start 1 0

-- Station i took the frame F from an offer before step `since`, when it held none, and held it over the steps from then
-- up to t, exclusive; n starts were among them.
pub record Tries (P : Net) (inp : ℕ → List (Offer P)) (i t n : ℕ) (F : List ℕ) : Type 0 where
  pub since : ℕ
  pub steps : ℕ
  pub place : since + steps ≡ t
  pub made : Made P (inp since) i F
  pub idle : ((before P inp since).station i).transmitter ≡ NoFrame
  pub held : (s : ℕ) → since ≤ s → s < t → (holds (state P inp s i).transmitter ≡ true) × (frame_in P inp i s ≡ F)
  pub count : n ≡ starts P inp i since steps

starts_more : (P : Net) (inp : ℕ → List (Offer P)) (i a k t : ℕ) → a + k ≡ t
    → starts P inp i a (suc k) ≡ tries_after (starts P inp i a k) (out_at P inp i t).start
unfolding starts tries_after
starts_more P inp i a k t z =
    by_test (out_at P inp i t).start
    (λ e. rw (z, e))
    (λ e. rw (z, e, add-zero (starts P inp i a k)))

module _ (P : Net) (inp : ℕ → List (Offer P)) (span : ℕ) (L : Sound P span) (i : ℕ) (hi : i < P.n) where
  took : (t : ℕ) (s : Station) (F G : List ℕ) → s ≡ (before P inp t).station i → s.transmitter ≡ NoFrame
      → Made P (inp t) i G
      → Tries P inp i t (offered_station s (length G)).attempts G
  unfolding offered_station starts
  took t s F G z e m =
      record {
        since = t;
        steps = 0;
        place = add-zero t;
        made = m;
        idle = ap (λ (x : Station). x.transmitter) (sym z) ∙ e;
        held = λ x lo up. absurd (omega arith);
        count = refl;
      }

  kept_tries : (t : ℕ) (s r : Station) (F G : List ℕ) → s ≡ (before P inp t).station i → Kept P (inp t) i s r F G
      → (holds s.transmitter ≡ true → Tries P inp i t s.attempts F) → holds r.transmitter ≡ true
      → Tries P inp i t r.attempts G
  kept_tries t s r F G z k v h =
      either k
      (λ x. subst (λ (q : Station). Tries P inp i t q.attempts G) (sym x.0)
      (subst (Tries P inp i t s.attempts) (sym x.1)
      (v (sym (ap (λ (q : Station). holds q.transmitter) x.0) ∙ h))))
      (λ x. subst (λ (q : Station). Tries P inp i t q.attempts G) (sym x.1) (took t s F G z x.0 x.2))

  -- a step of a frame that is held
  tried : (t : ℕ) → holds (state P inp t i).transmitter ≡ true
      → Tries P inp i t (state P inp t i).attempts (frame_in P inp i t)
      → Tries P inp i (suc t) (tries_after (state P inp t i).attempts (defer_at P inp i t).start) (frame_in P inp i t)
  tried t h v =
      record {
        since = v.since;
        steps = suc v.steps;
        place = omega (arith, v.place);
        made = v.made;
        idle = v.idle;
        held = λ s lo up. by_eq s t (λ z. rw z (h, refl)) (λ z. v.held s lo (omega arith));
        count =
            ap₂ tries_after v.count (sym (out_start P inp span L i hi t))
            ∙ sym (starts_more P inp i v.since v.steps t v.place);
      }

  holds_on : (t : ℕ) → holds (send_at P inp i t).phase ≡ true → holds (state P inp t i).transmitter ≡ true
  unfolding send_at defer_at
  holds_on t h =
      let s = state P inp t i in
      held_back P.fig s.transmitter s.frame (tries_after s.attempts (defer_at P inp i t).start)
      (P.draw i s.draw) (defer_at P inp i t).start (hears_any (sees P inp i t)) h

  next_tries : (t : ℕ) → (holds (state P inp t i).transmitter ≡ true → Tries P inp i t (state P inp t i).attempts
      (frame_in P inp i t))
      → holds ((before P inp (suc t)).station i).transmitter ≡ true
      → Tries P inp i (suc t) ((before P inp (suc t)).station i).attempts ((before P inp (suc t)).frame i)
  next_tries t v h =
      let o = holds_on t (sym (ap holds (next_transmitter P inp span L i hi t)) ∙ h) in
      subst (λ (n : ℕ). Tries P inp i (suc t) n ((before P inp (suc t)).frame i))
      (sym (next_attempts P inp span L i hi t))
      (subst (Tries P inp i (suc t) (tries_after (state P inp t i).attempts (defer_at P inp i t).start))
      (sym (frame_suc P inp t i)) (tried t o (v o)))

  none_held : holds ((before P inp 0).station i).transmitter ≡ false
  unfolding before fresh fresh_station
  none_held = refl

  tries_ready : (t : ℕ)
      → (holds ((before P inp t).station i).transmitter ≡ true → Tries P inp i t ((before P inp t).station i).attempts
      ((before P inp t).frame i))
      → holds (state P inp t i).transmitter ≡ true → Tries P inp i t (state P inp t i).attempts (frame_in P inp i t)
  tries_ready t v h =
      kept_tries t ((before P inp t).station i) (state P inp t i) ((before P inp t).frame i) (frame_in P inp i t) refl
      (ready_kept P inp t i) v h

  tries_before : (t : ℕ) → holds ((before P inp t).station i).transmitter ≡ true
      → Tries P inp i t ((before P inp t).station i).attempts ((before P inp t).frame i)
  tries_before zero h = clash h none_held
  tries_before (suc t) h = next_tries t (tries_ready t (tries_before t)) h

  -- A frame that is held: whose offer it is, since when, and its attempts so far.
  pub tries : (t : ℕ) → holds (state P inp t i).transmitter ≡ true
      → Tries P inp i t (state P inp t i).attempts (frame_in P inp i t)
  tries t h = tries_ready t (tries_before t) h

  -- A frame that is sent, or given up, in step e: the attempts that its event reports are its starts, the one in step e
  -- among them.
  pub reported : (e m : ℕ) → Ends (out_at P inp i e).sent m → Tries P inp i (suc e) m (frame_in P inp i e)
  reported e m v =
      let q = end_next P inp span L i e m hi v in
      subst (λ (n : ℕ). Tries P inp i (suc e) n (frame_in P inp i e)) (sym q.1) (tried e q.2 (tries e q.2))

  -- no more than the limit, before every step and of every frame that ends
  pub tried_within : (t : ℕ) → (state P inp t i).attempts ≤ P.fig.limit
  tried_within t =
      in_limit P.fig.limit (state P inp t i).transmitter (state P inp t i).attempts
      (fine P inp span L t i hi).attempts

  pub within_limit : (e m : ℕ) → Ends (out_at P inp i e).sent m → m ≤ P.fig.limit
  within_limit e m v =
      let q = end_next P inp span L i e m hi v in
      let s = (before P inp (suc e)).station i in
      let a = in_limit P.fig.limit s.transmitter s.attempts
      (fine_before P inp span L (suc e) i hi).attempts in
      omega (arith, q.1, next_attempts P inp span L i hi e)

  pub given_up : (e m : ℕ) → (out_at P inp i e).sent ≡ Some (GivenUp m) → m ≡ P.fig.limit
  unfolding send_at defer_at
  given_up e m v =
      let s = state P inp e i in
      up_limit P.fig s.transmitter s.frame (tries_after s.attempts (defer_at P inp i e).start)
      (P.draw i s.draw) (defer_at P inp i e).start (hears_any (sees P inp i e)) m
      (sym (out_sent P inp span L i hi e) ∙ v)
