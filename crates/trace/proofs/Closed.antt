-- On a layout that fits no frame ends after a late collision: only one that closes the frame leads there. Assumes
-- nothing.
use Prim.Native.Nat.{ℕ, zero, suc, ◌+◌, ◌*◌, ◌%◌, ◌≤◌, ◌<◌}
use Rattle.std.specs.Prelude.{◌≡◌, Bool, false, List, ◌⊎◌, ltb, leb, eqb, Option, None, Some}
use Rattle.std.proofs.Common.{sym, ◌∙◌, true≢false, inl, inr, arith}
use Rattle.std.proofs.Math.Path.{ap}
use Rattle.std.proofs.Math.Bool.{true}
use Rattle.octets.specs.BaseLaws.{by_test}
use Rattle.sheet_layout.specs.declared.Figures.{Figures}
use Rattle.sheet_layout.specs.Layout.{gap_of}
use Rattle.station_state.specs.declared.Transmitter.{Transmitter}
use Rattle.station_state.specs.declared.Transmitter.TheVariants.{NoFrame, Waiting, BackingOff, Sending, Heading}
use Rattle.station_state.specs.declared.Transmitter.TheVariants.{Jamming}
use Rattle.station_state.specs.declared.Station.{Station}
use Rattle.station_symbols.specs.Packet.{hears_any}
use Rattle.station_spec.specs.declared.TransmitEvent.{TransmitEvent}
use Rattle.station_spec.specs.declared.TransmitEvent.TheVariants.{Collision, Late, Sent, GivenUp}
use Rattle.station_spec.specs.declared.TransmitEvent.TheVariants.{LateEnded}
use Rattle.station_spec.specs.Transmit.{closes_frame, packet_length, after_bit, collision, send_bit, head_bit, back_off}
use Rattle.station_spec.specs.Transmit.{backoff_range, last_jam, jam_bit, backoff_bit, wait_bit, transmit}
use Rattle.station_spec.specs.Step.{tries_after}
use Rattle.bus_offer.specs.Offer.{offered_station}
use Rattle.bus_meeting.specs.Net.{Net}
use Rattle.trace.specs.Basic.{either}
use Rattle.trace.specs.World.{Offer, fresh_station, fresh, before}
use Rattle.trace.specs.Run.{state, out_at, sees, defer_at, send_at, Sound, ready_kept, out_sent}
use Rattle.trace.specs.Run.{next_transmitter}
use Rattle.trace.proofs.Late.{never_late}

-- it jams, and its frame ends after that
abbrev closing : Transmitter → Bool
closing NoFrame = false
closing Waiting = false
closing (BackingOff w) = false
closing (Sending k) = false
closing (Heading k) = false
closing (Jamming n ends) = ends

-- a late collision that closes the frame
abbrev closed : Option TransmitEvent → Bool
closed None = false
closed (Some (Collision k)) = false
closed (Some (Late k closes)) = closes
closed (Some (Sent n)) = false
closed (Some (GivenUp n)) = false
closed (Some (LateEnded n)) = false

no : {C : Type 0} → ◌≡◌ {A = Bool} false true → C
no e = absurd (true≢false (sym e))

closed_late : (v : Option TransmitEvent) → closed v ≡ true → (k : ℕ) × (v ≡ Some (Late k true))
closed_late None e = no e
closed_late (Some (Collision k)) e = no e
closed_late (Some (Late k closes)) e = (k, ap (λ (b : Bool). Some (Late k b)) e)
closed_late (Some (Sent n)) e = no e
closed_late (Some (GivenUp n)) e = no e
closed_late (Some (LateEnded n)) e = no e

after_closing : (jam k : ℕ) (ends : Bool) → closing (after_bit jam k ends) ≡ true → ends ≡ true
unfolding after_bit
after_closing jam k ends p = by_test (ltb k 64) (λ c. no (rw c at p)) (λ c. rw c at p)

bit_closing : (f : Figures) (z n k : ℕ) (h : Bool) → closing (send_bit f z n k h).phase ≡ true
    → closed (send_bit f z n k h).event ≡ true
unfolding send_bit collision
bit_closing f z n k true p =
    by_test (ltb f.slot k)
    (λ c. rw c (after_closing f.jam k (closes_frame f) (rw c at p)))
    (λ c. no (after_closing f.jam k false (rw c at p)))
bit_closing f z n k false p = by_test (eqb k (packet_length z)) (λ c. no (rw c at p)) (λ c. no (rw c at p))

back_closing : (f : Figures) (n draw : ℕ) → closing (back_off f n draw) ≡ true → ⊥
unfolding back_off
back_closing f n draw p =
    by_test (eqb (f.slot * (draw % backoff_range n f.backoff)) 0) (λ c. no (rw c at p)) (λ c. no (rw c at p))

jam_closing : (f : Figures) (n draw left : ℕ) (ends : Bool) → closing (jam_bit f n draw left ends).phase ≡ true
    → ends ≡ true
unfolding jam_bit last_jam
jam_closing f n draw left ends p =
    by_test (leb left 1)
    (λ c. by_test ends (λ d. d)
    (λ d. by_test (eqb n f.limit) (λ e. no (rw (c, d, e) at p))
    (λ e. absurd (back_closing f n draw (rw (c, d, e) at p)))))
    (λ c. rw c at p)

-- a step leads there from there, or with a late collision that closes the frame
send_closing : (f : Figures) (x : Transmitter) (z n draw : ℕ) (start h : Bool)
    → closing (transmit f x z n draw start h).phase ≡ true
    → (closing x ≡ true) ⊎ (closed (transmit f x z n draw start h).event ≡ true)
unfolding transmit wait_bit head_bit backoff_bit
send_closing f NoFrame z n draw start h p = no p
send_closing f Waiting z n draw true h p = inr (bit_closing f z n 1 h p)
send_closing f Waiting z n draw false h p = no p
send_closing f (BackingOff w) z n draw start h p = by_test (leb w 1) (λ c. no (rw c at p)) (λ c. no (rw c at p))
send_closing f (Sending k) z n draw start h p = inr (bit_closing f z n k h p)
send_closing f (Heading k) z n draw start h p = no (after_closing f.jam k false p)
send_closing f (Jamming left ends) z n draw start h p = inl (jam_closing f n draw left ends p)

-- and only from there a frame ends so
bit_not_ended : (f : Figures) (z n k : ℕ) (h : Bool) (m : ℕ) → (send_bit f z n k h).event ≡ Some (LateEnded m) → ⊥
unfolding send_bit collision
bit_not_ended f z n k true m e =
    by_test (ltb f.slot k) (λ c. let z : ◌≡◌ {A = ℕ} 0 1 = cc (rw c at e) in omega arith)
    (λ c. let z : ◌≡◌ {A = ℕ} 0 1 = cc (rw c at e) in omega arith)
bit_not_ended f z n k false m e =
    by_test (eqb k (packet_length z)) (λ c. let z : ◌≡◌ {A = ℕ} 0 1 = cc (rw c at e) in omega arith)
    (λ c. let z : ◌≡◌ {A = ℕ} 0 1 = cc (rw c at e) in omega arith)

jam_ended : (f : Figures) (n draw left : ℕ) (ends : Bool) (m : ℕ)
    → (jam_bit f n draw left ends).event ≡ Some (LateEnded m)
    → ends ≡ true
unfolding jam_bit last_jam
jam_ended f n draw left ends m e =
    by_test ends (λ d. d)
    (λ d. absurd (by_test (leb left 1)
    (λ c. by_test (eqb n f.limit)
    (λ b. let z : ◌≡◌ {A = ℕ} 0 1 = cc (rw (c, d, b) at e) in omega arith)
    (λ b. let z : ◌≡◌ {A = ℕ} 0 1 = cc (rw (c, d, b) at e) in omega arith))
    (λ c. let z : ◌≡◌ {A = ℕ} 0 1 = cc (rw c at e) in omega arith)))

send_ended : (f : Figures) (x : Transmitter) (z n draw : ℕ) (start h : Bool) (m : ℕ)
    → (transmit f x z n draw start h).event ≡ Some (LateEnded m) → closing x ≡ true
unfolding transmit wait_bit head_bit backoff_bit
send_ended f NoFrame z n draw start h m e = absurd (let z : ◌≡◌ {A = ℕ} 0 1 = cc in omega arith)
send_ended f Waiting z n draw true h m e = absurd (bit_not_ended f z n 1 h m e)
send_ended f Waiting z n draw false h m e = absurd (let z : ◌≡◌ {A = ℕ} 0 1 = cc in omega arith)
send_ended f (BackingOff w) z n draw start h m e =
    by_test (leb w 1) (λ c. absurd (let z : ◌≡◌ {A = ℕ} 0 1 = cc (rw c at e) in omega arith))
    (λ c. absurd (let z : ◌≡◌ {A = ℕ} 0 1 = cc (rw c at e) in omega arith))
send_ended f (Sending k) z n draw start h m e = absurd (bit_not_ended f z n k h m e)
send_ended f (Heading k) z n draw start h m e = absurd (let z : ◌≡◌ {A = ℕ} 0 1 = cc in omega arith)
send_ended f (Jamming left ends) z n draw start h m e = jam_ended f n draw left ends m e

module _ (P : Net) (inp : ℕ → List (Offer P)) (span : ℕ) (L : Sound P span)
    (g : gap_of P.fig ≤ 64 + P.fig.jam) (fits : 2 * span ≤ P.fig.slot) (i : ℕ) (hi : i < P.n) where
  none_now : (t : ℕ) → (closing ((before P inp t).station i).transmitter ≡ true → ⊥)
      → closing (state P inp t i).transmitter ≡ true → ⊥
  unfolding offered_station
  none_now t none p =
      either (ready_kept P inp t i)
      (λ x. none (ap (λ (s : Station). closing s.transmitter) (sym x.0) ∙ p))
      (λ x. no (sym (ap (λ (s : Station). closing s.transmitter) x.1) ∙ p))

  none_before : (t : ℕ) → closing ((before P inp t).station i).transmitter ≡ true → ⊥
  unfolding before fresh fresh_station send_at defer_at
  none_before zero p = no p
  none_before (suc t) p =
      let s = state P inp t i in
      let q = ap closing (sym (next_transmitter P inp span L i hi t)) ∙ p in
      either (send_closing P.fig s.transmitter s.frame
      (tries_after s.attempts (defer_at P inp i t).start) (P.draw i s.draw) (defer_at P inp i t).start
      (hears_any (sees P inp i t)) q)
      (λ c. none_now t (none_before t) c)
      (λ c. let w = closed_late (out_at P inp i t).sent (ap closed (out_sent P inp span L i hi t) ∙ c) in
      never_late P inp span L g fits i t w.0 true hi w.1)

  -- No frame ends after a late collision.
  pub never_ended : (t m : ℕ) → (out_at P inp i t).sent ≡ Some (LateEnded m) → ⊥
  unfolding send_at defer_at
  never_ended t m e =
      let s = state P inp t i in
      none_now t (none_before t)
      (send_ended P.fig s.transmitter s.frame (tries_after s.attempts (defer_at P inp i t).start)
      (P.draw i s.draw) (defer_at P inp i t).start (hears_any (sees P inp i t)) m
      (sym (out_sent P inp span L i hi t) ∙ e))
