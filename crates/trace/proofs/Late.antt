-- No collision is late, and none comes after bit 2 × S. Assumes nothing.
use Rattle.std.specs.Prelude.{ℕ, ◌+◌, ◌*◌, ◌≤◌, ◌<◌, max, ◌≡◌, refl, Bool, List, ltb, leb, eqb, Option, None, Some}
use Rattle.std.proofs.Common.{sym, ◌∙◌, subst, inr, arith, ltb-true}
use Rattle.std.proofs.Math.Path.{ap}
use Rattle.std.proofs.Math.Bool.{true, false}
use Rattle.octets.specs.BaseLaws.{by_test}
use Rattle.sheet_layout.specs.declared.Figures.{Figures}
use Rattle.sheet_layout.specs.Layout.{gap_of}
use Rattle.station_symbols.specs.Packet.{hears_any, is_emission}
use Rattle.station_spec.specs.declared.TransmitEvent.{TransmitEvent}
use Rattle.station_spec.specs.declared.TransmitEvent.TheVariants.{Late}
use Rattle.station_state.specs.declared.Transmitter.{Transmitter}
use Rattle.station_state.specs.declared.Transmitter.TheVariants.{NoFrame, Waiting, BackingOff, Sending, Heading}
use Rattle.station_state.specs.declared.Transmitter.TheVariants.{Jamming}
use Rattle.station_spec.specs.Transmit.{packet_length, collision, send_bit, head_bit, last_jam, jam_bit, backoff_bit}
use Rattle.station_spec.specs.Transmit.{wait_bit, transmit}
use Rattle.station_spec.specs.Step.{tries_after}
use Rattle.trace.specs.Basic.{either, clash}
use Rattle.trace.proofs.Trace.{no_late}
use Rattle.bus_meeting.specs.Net.{Net}
use Rattle.trace.specs.World.{Offer}
use Rattle.trace.specs.Run.{state, frame_in, out_at, emits, sees, defer_at, send_at, Sound, out_sent}
use Rattle.trace.specs.Inv.{HeardIn, TxInv, bit_sent, more}
use Rattle.trace.specs.Keep.{says, emits_is, unheard_in, flags}
use Rattle.trace.proofs.Keep.{lawful}
use Rattle.trace.specs.Late.{Struck}

not_struck : (k : ℕ) (closes : Bool) → Struck None k closes → ⊥
not_struck k closes e =
    either e (λ q. let z : ◌≡◌ {A = ℕ} 0 1 = cc in omega arith) (λ q. let z : ◌≡◌ {A = ℕ} 0 1 = cc in omega arith)

-- its bit is the one that goes out, and another is heard
bit_struck : (f : Figures) (z n k : ℕ) (h : Bool) (m : ℕ) (closes : Bool)
    → Struck (send_bit f z n k h).event m closes → (h ≡ true) × (m ≡ k)
unfolding send_bit collision
bit_struck f z n k true m closes e = (
  refl,
  by_test (ltb f.slot k)
      (λ c. either (rw c at e) (λ q. absurd (let z : ◌≡◌ {A = ℕ} 0 1 = cc in omega arith)) (λ q. cc))
      (λ c. either (rw c at e) (λ q. cc) (λ q. absurd (let z : ◌≡◌ {A = ℕ} 0 1 = cc in omega arith))),
)
bit_struck f z n k false m closes e =
    by_test (eqb k (packet_length z))
    (λ c. absurd (either (rw c at e) (λ q. let z : ◌≡◌ {A = ℕ} 0 1 = cc in omega arith)
    (λ q. let z : ◌≡◌ {A = ℕ} 0 1 = cc in omega arith)))
    (λ c. absurd (not_struck m closes (rw c at e)))

jam_struck : (f : Figures) (n draw left : ℕ) (ends : Bool) (m : ℕ) (closes : Bool)
    → Struck (jam_bit f n draw left ends).event m closes → ⊥
unfolding jam_bit last_jam
jam_struck f n draw left ends m closes e =
    by_test (leb left 1)
    (λ c. by_test ends
    (λ b. either (rw (c, b) at e) (λ q. let z : ◌≡◌ {A = ℕ} 0 1 = cc in omega arith)
    (λ q. let z : ◌≡◌ {A = ℕ} 0 1 = cc in omega arith))
    (λ b. by_test (eqb n f.limit)
    (λ d. either (rw (c, b, d) at e) (λ q. let z : ◌≡◌ {A = ℕ} 0 1 = cc in omega arith)
    (λ q. let z : ◌≡◌ {A = ℕ} 0 1 = cc in omega arith))
    (λ d. not_struck m closes (rw (c, b, d) at e))))
    (λ c. not_struck m closes (rw c at e))

-- "late if k > slot"
bit_late : (f : Figures) (z n k : ℕ) (h : Bool) (m : ℕ) (closes : Bool)
    → (send_bit f z n k h).event ≡ Some (Late m closes) → f.slot < m
unfolding send_bit collision
bit_late f z n k true m closes e =
    by_test (ltb f.slot k)
    (λ c. let q : k ≡ m = cc (rw c at e) in let l = ltb-true f.slot k c in omega arith)
    (λ c. absurd (let z : ◌≡◌ {A = ℕ} 0 1 = cc (rw c at e) in omega arith))
bit_late f z n k false m closes e = absurd (let q = bit_struck f z n k false m closes (inr e) in clash q.0 refl)

past_slot : (f : Figures) (x : Transmitter) (z n draw : ℕ) (start h : Bool) (m : ℕ) (closes : Bool)
    → (transmit f x z n draw start h).event ≡ Some (Late m closes) → f.slot < m
unfolding transmit wait_bit head_bit backoff_bit
past_slot f NoFrame z n draw start h m closes e = absurd (not_struck m closes (inr e))
past_slot f Waiting z n draw true h m closes e = bit_late f z n 1 h m closes e
past_slot f Waiting z n draw false h m closes e = absurd (not_struck m closes (inr e))
past_slot f (BackingOff w) z n draw start h m closes e =
    by_test (leb w 1) (λ c. absurd (not_struck m closes (inr (rw c at e))))
    (λ c. absurd (not_struck m closes (inr (rw c at e))))
past_slot f (Sending k) z n draw start h m closes e = bit_late f z n k h m closes e
past_slot f (Heading k) z n draw start h m closes e = absurd (not_struck m closes (inr e))
past_slot f (Jamming left ends) z n draw start h m closes e = absurd (jam_struck f n draw left ends m closes (inr e))

module _ (P : Net) (inp : ℕ → List (Offer P)) (span : ℕ) (L : Sound P span)
    (g : gap_of P.fig ≤ 64 + P.fig.jam) where
  -- by what the transmitter was doing
  struck_within : (i t : ℕ) (F : List ℕ) (x : Transmitter) (z n draw : ℕ) (start h : Bool) (m : ℕ) (closes : Bool)
      → i < P.n
      → (h ≡ true → HeardIn P inp i t)
      → emits P inp i t ≡ is_emission (transmit P.fig x z n draw start h).emission → TxInv P inp i t F x
      → Struck (transmit P.fig x z n draw start h).event m closes → m ≤ max 1 (2 * span)
  unfolding transmit wait_bit head_bit backoff_bit
  struck_within i t F NoFrame z n draw start h m closes hi hy sy v e = absurd (not_struck m closes e)
  struck_within i t F Waiting z n draw true h m closes hi hy sy v e =
      let q = bit_struck P.fig z n 1 h m closes e in omega (arith, q.1)
  struck_within i t F Waiting z n draw false h m closes hi hy sy v e = absurd (not_struck m closes e)
  struck_within i t F (BackingOff w) z n draw start h m closes hi hy sy v e =
      by_test (leb w 1) (λ c. absurd (not_struck m closes (rw c at e))) (λ c. absurd (not_struck m closes (rw c at e)))
  struck_within i t F (Sending k) z n draw start h m closes hi hy sy v e =
      let q = bit_struck P.fig z n k h m closes e in
      let r = more P inp span L i t v.begin v.ran (sy ∙ ap is_emission (bit_sent P.fig z n k h)) in
      let y = no_late (lawful P inp span L g)
      i v.begin t (max 1 (2 * span)) hi v.ran.start (omega (arith, v.place, v.some)) (omega arith)
      (omega arith)
      (λ s lo up. r.on s lo (omega arith)) (λ y lo up. unheard_in P inp span L i y (v.clear y lo up)) (hy q.0) in
      omega (arith, q.1, v.place)
  struck_within i t F (Heading k) z n draw start h m closes hi hy sy v e = absurd (not_struck m closes e)
  struck_within i t F (Jamming left ends) z n draw start h m closes hi hy sy v e =
      absurd (jam_struck P.fig n draw left ends m closes e)

  -- A collision comes in the first bit, or within twice the span.
  pub collides_within : (i t k : ℕ) (closes : Bool) → i < P.n → Struck (out_at P inp i t).sent k closes
      → k ≤ max 1 (2 * span)
  unfolding send_at defer_at
  collides_within i t k closes hi e =
      let v = says P inp span L t i hi in
      let s = state P inp t i in
      struck_within i t (frame_in P inp i t) s.transmitter s.frame
      (tries_after s.attempts (defer_at P inp i t).start) (P.draw i s.draw) (defer_at P inp i t).start
      (hears_any (sees P inp i t)) k closes
      hi (flags P inp span L i t hi v).hy (emits_is P inp span L i t hi) v.tx
      (subst (λ (x : Option TransmitEvent). Struck x k closes) (out_sent P inp span L i hi t) e)

  -- No collision is late.
  pub never_late : 2 * span ≤ P.fig.slot → (i t k : ℕ) (closes : Bool) → i < P.n
      → (out_at P inp i t).sent ≡ Some (Late k closes) → ⊥
  unfolding send_at defer_at
  never_late fits i t k closes hi e =
      let s = state P inp t i in
      let a = collides_within i t k closes hi (inr e) in
      let b = past_slot P.fig s.transmitter s.frame (tries_after s.attempts (defer_at P inp i t).start)
      (P.draw i s.draw) (defer_at P inp i t).start (hears_any (sees P inp i t)) k closes
      (sym (out_sent P inp span L i hi t) ∙ e) in
      omega (arith, L.figures.slot)
