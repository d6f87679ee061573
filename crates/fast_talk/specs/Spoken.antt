-- Deference and transmitter over many steps of one kind, in closed form: others are heard, or nothing is, and the station
-- says nothing; or it goes on emitting. These are the forms of fast_station/Forms, whatever the receiver. Assumes nothing.
use Prim.Native.Nat.{ℕ, zero, suc, ◌≤◌, ◌<◌}
use Rattle.std.specs.Prelude.{◌≡◌, Bool, true, false, Option, None}
use Rattle.std.proofs.Math.Path.{refl, sym, ap}
use Rattle.std.proofs.Common.{◌∙◌, arith}
use mathlib.Core.List.{List, []}
use Rattle.octets.specs.Turns.{turns}
use Rattle.sheet_layout.specs.declared.Figures.{Figures}
use Rattle.sheet_layout.specs.Layout.{gap_of}
use Rattle.station_symbols.specs.declared.Heard.{Heard}
use Rattle.station_symbols.specs.declared.Heard.TheVariants.{Nothing, Spoiled}
use Rattle.station_symbols.specs.declared.Emission.{Emission}
use Rattle.station_symbols.specs.declared.Emission.TheVariants.{Rest}
use Rattle.station_symbols.specs.Packet.{hears_any}
use Rattle.station_state.specs.declared.Deference.TheVariants.{Busy}
use Rattle.station_state.specs.declared.Transmitter.TheVariants.{Sending}
use Rattle.station_state.specs.declared.Receiver.{Receiver}
use Rattle.station_state.specs.declared.Receiver.TheVariants.{Listening, Seeking}
use Rattle.station_state.specs.declared.Station.{Station}
use Rattle.station_spec.specs.declared.Stored.{Stored}
use Rattle.station_spec.specs.declared.Stepped.{Stepped}
use Rattle.station_spec.specs.Receive.{no_row, hearing, deciding, seek, hear, ended, receive}
use Rattle.station_spec.specs.Step.{stepped}
use Rattle.bus_spec.specs.Range.{Fine}
use Rattle.bus_quick.specs.Quick.{quietly}
use Rattle.fast_silence.specs.Rested.{Lasts}
use Rattle.fast_receive.specs.Received.{calmed}
use Rattle.fast_station.specs.Forms.{made, deferred_by, heard_rest, hear_on, rest_on, emitted_at, emits_for, emit_on}
use Rattle.fast_station.specs.FormLaws.{hear_step, hear_none, rest_step, rest_none, emit_step, emit_none}
use Rattle.fast_talk.specs.Talk.{Talker, talker_of, sending_on, talked, talked_by}
use Rattle.fast_talk.specs.Talks.{talked_step, said_step, event_step}

-- K steps, in which something is heard where C says so, make u of t; it says E and has no event
pub record Speaks (f : Figures) (D : ℕ) (g : ℕ → ℕ) (C : ℕ → Bool) (E : ℕ → Emission) (K : ℕ) (t u : Talker) : Type 0 where
  pub leaves : talked_by f D g C K t ≡ u
  pub says : (m : ℕ) → m < K
      → (sending_on f (talked_by f D g C m t) (g (talked_by f D g C m t).draw) (C m)).emission ≡ E m
  pub quiet : (m : ℕ) → m < K
      → (sending_on f (talked_by f D g C m t) (g (talked_by f D g C m t).draw) (C m)).event ≡ None

-- ---- any closed form of a station

module _ (f : Figures) (D : ℕ) (g : ℕ → ℕ) (K : ℕ) (form : ℕ → Station) (H : ℕ → Heard) (em : ℕ → Emission)
    (st : ℕ → Option Stored)
    (step : (m draw : ℕ) → m < K → stepped f (form m) D draw [] (H m) ≡ quietly (form (suc m)) (em m) (st m)) where
  next : (m draw : ℕ) → m < K → talked f D draw (hears_any (H m)) (talker_of (form m)) ≡ talker_of (form (suc m))
  unfolding quietly
  next m draw h =
      sym (talked_step f (form m) D draw [] (H m)) ∙ ap (λ (o : Stepped). talker_of o.station) (step m draw h)

  emits : (m draw : ℕ) → m < K → (sending_on f (talker_of (form m)) draw (hears_any (H m))).emission ≡ em m
  unfolding quietly
  emits m draw h = sym (said_step f (form m) D draw [] (H m)) ∙ ap (λ (o : Stepped). o.emission) (step m draw h)

  none : (m draw : ℕ) → m < K → (sending_on f (talker_of (form m)) draw (hears_any (H m))).event ≡ None
  unfolding quietly
  none m draw h = sym (event_step f (form m) D draw [] (H m)) ∙ ap (λ (o : Stepped). o.sent) (step m draw h)

  form_talks : (m : ℕ) → m ≤ K → talked_by f D g (λ s. hears_any (H s)) m (talker_of (form 0)) ≡ talker_of (form m)
  unfolding talked_by turns
  form_talks zero h = refl
  form_talks (suc m) h =
      ap (λ (u : Talker). talked f D (g u.draw) (hears_any (H m)) u) (form_talks m (omega arith))
      ∙ next m (g (talker_of (form m)).draw) (omega arith)

  form_speaks : Speaks f D g (λ s. hears_any (H s)) em K (talker_of (form 0)) (talker_of (form K))
  form_speaks =
      record {
        leaves = form_talks K (omega arith);
        says = λ m h.
            ap (λ (u : Talker). (sending_on f u (g u.draw) (hears_any (H m))).emission) (form_talks m (omega arith))
            ∙ emits m (g (talker_of (form m)).draw) h;
        quiet = λ m h.
            ap (λ (u : Talker). (sending_on f u (g u.draw) (hears_any (H m))).event) (form_talks m (omega arith))
            ∙ none m (g (talker_of (form m)).draw) h;
      }

-- ---- whatever the receiver

hear_any : (f : Figures) (m : ℕ) (r q : Receiver) (s : Station) → talker_of (hear_on f m r s) ≡ talker_of (hear_on f m q s)
unfolding talker_of hear_on made
hear_any f m r q s = refl

emit_any : (f : Figures) (m : ℕ) (r q : Receiver) (s : Station) → talker_of (emit_on f m r s) ≡ talker_of (emit_on f m q s)
unfolding talker_of emit_on made
emit_any f m r q s = refl

-- a receiver that stays as it is over spoiled symbols, and one over silence
stays_spoiled : (address : List ℕ) (own : Bool)
    → receive address [] (Seeking no_row true own) Spoiled own ≡ hearing (Seeking no_row true own) None
unfolding receive hear seek
stays_spoiled address true = refl
stays_spoiled address false = refl

stays_quiet : (address : List ℕ) (e : Bool) → receive address [] Listening Nothing e ≡ hearing Listening None
unfolding receive ended
stays_quiet address e = refl

ends_quiet : (address : List ℕ) → ended address [] Listening ≡ deciding (calmed 1 Listening) None
unfolding ended calmed
ends_quiet address = refl

-- the station with a receiver that is at rest
unfoldable at_rest : Station → Station
at_rest s =
    record {
      address = s.address;
      deference = s.deference;
      transmitter = s.transmitter;
      receiver = Listening;
      frame = s.frame;
      attempts = s.attempts;
      draw = s.draw;
      deferred = s.deferred;
      emitted = s.emitted;
    }

rest_any : (f : Figures) (m : ℕ) (s : Station) → talker_of (rest_on f m (at_rest s)) ≡ talker_of (rest_on f m s)
unfolding talker_of rest_on made at_rest deferred_by
rest_any f m s = refl

rest_form : (f : Figures) (D K m draw : ℕ) (s : Station) → 1 ≤ gap_of f → Lasts f K s.deference s.transmitter
    → m < K
    → stepped f (rest_on f m (at_rest s)) D draw [] Nothing ≡ quietly (rest_on f (suc m) (at_rest s)) Rest None
unfolding at_rest
rest_form f D K m draw s one l h = rest_step f K m (at_rest s) D draw [] one l h (λ z. ends_quiet s.address)

-- ---- the kinds

from_to : (f : Figures) (D : ℕ) (g : ℕ → ℕ) (C : ℕ → Bool) (E : ℕ → Emission) (K : ℕ) (t w u y : Talker) → t ≡ w
    → u ≡ y → Speaks f D g C E K t u → Speaks f D g C E K w y
from_to f D g C E K t w u y p q x = rw (← p, ← q) x

module _ (f : Figures) (D t : ℕ) (g : ℕ → ℕ) (s : Station) (v : Fine f D t s) (K : ℕ) where
  -- others are heard, and it says nothing
  pub hear_speaks : (M : ℕ) → s.emitted ≡ false → K ≤ heard_rest f M s.deference s.transmitter
      → Speaks f D g (λ m. true) (λ m. Rest) K (talker_of s) (talker_of (hear_on f K s.receiver s))
  hear_speaks M e l =
      let R = Seeking no_row true false in
      from_to f D g (λ m. true) (λ m. Rest) K (talker_of (hear_on f 0 R s)) (talker_of s) (talker_of (hear_on f K R s))
      (talker_of (hear_on f K s.receiver s))
      (hear_any f 0 R s.receiver s ∙ ap talker_of (hear_none f D t s v e)) (hear_any f K R s.receiver s)
      (form_speaks f D g K (λ m. hear_on f m R s) (λ m. Spoiled) (λ m. Rest) (λ m. None)
      (λ m draw h. hear_step f M K m s D draw [] Spoiled R R None l h refl (stays_spoiled s.address false)))

  -- it goes on emitting, and nothing is heard
  pub emit_speaks : 0 < K → s.deference ≡ Busy true → s.emitted ≡ true → K ≤ emits_for s.frame s.transmitter
      → Speaks f D g (λ m. false) (λ m. emitted_at m s.transmitter) K (talker_of s)
      (talker_of (emit_on f K s.receiver s))
  emit_speaks pos b e l =
      from_to f D g (λ m. false) (λ m. emitted_at m s.transmitter) K (talker_of (emit_on f 0 Listening s)) (talker_of s)
      (talker_of (emit_on f K Listening s)) (talker_of (emit_on f K s.receiver s))
      (emit_any f 0 Listening s.receiver s ∙ ap talker_of (emit_none f s (omega arith) b e))
      (emit_any f K Listening s.receiver s)
      (form_speaks f D g K (λ m. emit_on f m Listening s) (λ m. Nothing) (λ m. emitted_at m s.transmitter)
      (λ m. None)
      (λ m draw h. emit_step f K m s D draw [] Nothing Listening Listening None l h (λ k p. refl)
      (stays_quiet s.address true)))

  -- it goes on emitting after a collision, whoever is heard
  pub jam_speaks : 0 < K → s.deference ≡ Busy true → s.emitted ≡ true → K ≤ emits_for s.frame s.transmitter
      → ((k : ℕ) → s.transmitter ≡ Sending k → ⊥)
      → Speaks f D g (λ m. true) (λ m. emitted_at m s.transmitter) K (talker_of s)
      (talker_of (emit_on f K s.receiver s))
  jam_speaks pos b e l n =
      let R = Seeking no_row true true in
      from_to f D g (λ m. true) (λ m. emitted_at m s.transmitter) K (talker_of (emit_on f 0 R s)) (talker_of s)
      (talker_of (emit_on f K R s)) (talker_of (emit_on f K s.receiver s))
      (emit_any f 0 R s.receiver s ∙ ap talker_of (emit_none f s (omega arith) b e))
      (emit_any f K R s.receiver s)
      (form_speaks f D g K (λ m. emit_on f m R s) (λ m. Spoiled) (λ m. emitted_at m s.transmitter) (λ m. None)
      (λ m draw h. emit_step f K m s D draw [] Spoiled R R None l h (λ k p. absurd (n k p))
      (stays_spoiled s.address true)))

  -- nothing is heard, and it says nothing
  pub rest_speaks : s.emitted ≡ false → 1 ≤ gap_of f → Lasts f K s.deference s.transmitter
      → Speaks f D g (λ m. false) (λ m. Rest) K (talker_of s) (talker_of (rest_on f K s))
  rest_speaks e one l =
      from_to f D g (λ m. false) (λ m. Rest) K (talker_of (rest_on f 0 (at_rest s))) (talker_of s)
      (talker_of (rest_on f K (at_rest s))) (talker_of (rest_on f K s))
      (rest_any f 0 s ∙ ap talker_of (rest_none f D t s v e)) (rest_any f K s)
      (form_speaks f D g K (λ m. rest_on f m (at_rest s)) (λ m. Nothing) (λ m. Rest) (λ m. None)
      (λ m draw h. resting m draw h))
    where
      resting : (m draw : ℕ) → m < K
          → stepped f (rest_on f m (at_rest s)) D draw [] Nothing ≡ quietly (rest_on f (suc m) (at_rest s)) Rest None
      resting m draw h = rest_form f D K m draw s one l h
