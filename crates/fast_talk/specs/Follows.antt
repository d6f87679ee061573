-- A station's talk joined from its segments and its single steps, and what it comes to: a plan holds where each station's
-- talk, so joined, says what the plan has. Assumes nothing.
use Prim.Native.Nat.{ℕ, zero, suc, ◌+◌, ◌-◌, ◌≤◌, ◌<◌}
use Rattle.std.specs.Prelude.{◌≡◌, Bool, true, false, List, ltb}
use Rattle.std.proofs.Math.Path.{refl, ap, ap₂}
use Rattle.std.proofs.Common.{sym, ◌∙◌, ltb-true, ltb-false}
use native.Mathlib.Omega.{arith}
use Rattle.octets.specs.Turns.{turns}
use Rattle.sheet_layout.specs.declared.Figures.{Figures}
use Rattle.station_symbols.specs.declared.Symbol.{Symbol}
use Rattle.station_symbols.specs.declared.Emission.{Emission}
use Rattle.station_symbols.specs.declared.Emission.TheVariants.{Rest}
use Rattle.station_symbols.specs.Packet.{symbol_of}
use Rattle.station_state.specs.declared.Transmitter.{Transmitter}
use Rattle.station_state.specs.declared.Transmitter.TheVariants.{NoFrame, Waiting, BackingOff, Sending, Heading}
use Rattle.station_state.specs.declared.Transmitter.TheVariants.{Jamming}
use Rattle.station_spec.specs.declared.Transmitted.{Transmitted}
use Rattle.station_spec.specs.declared.TransmitEvent.{TransmitEvent}
use Rattle.station_spec.specs.Transmit.{octets_held, resting, transmit}
use Rattle.station_spec.specs.Step.{tries_after}
use Rattle.area.specs.Area.{clock_at, depth_at, draw_at, figures_at, count_at, station_at, frame_at}
use Rattle.bus_spec.specs.Ready.{Readiness}
use Rattle.fast_plan.specs.Plan.{Plan, Holds}
use Rattle.fast_plan.specs.Prefix.{Unhurt}
use Rattle.fast_talk.specs.Talk.{Talker, talker_of, deferring_on, sending_on, talked, talked_by, carrier_at, talker_at}
use Rattle.fast_talk.specs.Talk.{said_at, symbol_said}
use Rattle.fast_talk.specs.Talks.{talk_holds, talk_unhurt}
use Rattle.fast_talk.specs.Spoken.{Speaks}
use Rattle.station_tally.specs.Words.{ends_run}
use Rattle.sheet_layout.specs.Limits.{last_clock}

module _ (f : Figures) (D : ℕ) (g : ℕ → ℕ) where
  -- what a talker says in a step
  abbrev pub saying : Talker → (on : Bool) → Transmitted
  saying t on = sending_on f t (g t.draw) on

  -- only what is heard in these steps matters
  pub talked_alike : (C E : ℕ → Bool) (m : ℕ) (t : Talker) → ((s : ℕ) → s < m → C s ≡ E s)
      → talked_by f D g C m t ≡ talked_by f D g E m t
  unfolding talked_by turns
  talked_alike C E zero t h = refl
  talked_alike C E (suc m) t h =
      ap₂ (λ (u : Talker) (b : Bool). talked f D (g u.draw) b u) (talked_alike C E m t (λ s l. h s (omega arith)))
      (h m (omega arith))

  -- some steps, and then others
  pub talked_split : (C : ℕ → Bool) (m k : ℕ) (t : Talker)
      → talked_by f D g C (m + k) t ≡ talked_by f D g (λ s. C (m + s)) k (talked_by f D g C m t)
  unfolding talked_by turns
  talked_split C m zero t = let e : m + 0 ≡ m = omega arith in ap (λ (n : ℕ). talked_by f D g C n t) e
  talked_split C m (suc k) t =
      let e : m + suc k ≡ suc (m + k) = omega arith in
      ap (λ (n : ℕ). talked_by f D g C n t) e
      ∙ ap (λ (u : Talker). talked f D (g u.draw) (C (m + k)) u) (talked_split C m k t)

  -- K steps make u of t; it says E, and ends no run
  pub record Follows (C : ℕ → Bool) (E : ℕ → Emission) (K : ℕ) (t u : Talker) : Type 0 where
    pub leaves : talked_by f D g C K t ≡ u
    pub says : (m : ℕ) → m < K → (saying (talked_by f D g C m t) (C m)).emission ≡ E m
    pub unhurt : (m : ℕ) → m < K → ends_run (saying (talked_by f D g C m t) (C m)).event ≡ false

  -- a segment of one kind
  pub speaks_follows : (C : ℕ → Bool) (E : ℕ → Emission) (K : ℕ) (t u : Talker) → Speaks f D g C E K t u
      → Follows C E K t u
  speaks_follows C E K t u x =
      record { leaves = x.leaves; says = x.says; unhurt = λ m h. ap ends_run (x.quiet m h) }

  -- a single step: a start, a collision, the last bit
  pub step_follows : (C : ℕ → Bool) (t : Talker) → ends_run (saying t (C 0)).event ≡ false
      → Follows C (λ m. (saying t (C 0)).emission) 1 t (talked f D (g t.draw) (C 0) t)
  unfolding talked_by turns
  step_follows C t h =
      record {
        leaves = refl;
        says = λ m l. let e : m ≡ 0 = omega arith in rw e;
        unhurt = λ m l. let e : m ≡ 0 = omega arith in rw e h;
      }

  -- one without a frame says nothing, whatever is heard
  none_said : (t : Talker) (on : Bool) → t.transmitter ≡ NoFrame → saying t on ≡ resting NoFrame
  unfolding transmit
  none_said t on e =
      ap (λ (x : Transmitter). transmit f x t.frame (tries_after t.attempts (deferring_on f t on).start)
      (g t.draw) (deferring_on f t on).start on) e

  none_stays : (C : ℕ → Bool) (m : ℕ) (t : Talker) → t.transmitter ≡ NoFrame
      → (talked_by f D g C m t).transmitter ≡ NoFrame
  unfolding talked_by turns talked
  none_stays C zero t e = e
  none_stays C (suc m) t e =
      ap (λ (r : Transmitted). r.phase) (none_said (talked_by f D g C m t) (C m) (none_stays C m t e))

  pub none_follows : (C : ℕ → Bool) (K : ℕ) (t : Talker) → t.transmitter ≡ NoFrame
      → Follows C (λ m. Rest) K t (talked_by f D g C K t)
  none_follows C K t e =
      record {
        leaves = refl;
        says = λ m h.
            ap (λ (r : Transmitted). r.emission) (none_said (talked_by f D g C m t) (C m) (none_stays C m t e));
        unhurt = λ m h.
            ap (λ (r : Transmitted). ends_run r.event)
            (none_said (talked_by f D g C m t) (C m) (none_stays C m t e));
      }

  -- one after the other
  module _ (C : ℕ → Bool) (E : ℕ → Emission) (m k : ℕ) (t u w : Talker) (p : Follows C E m t u)
      (q : Follows (λ s. C (m + s)) (λ s. E (m + s)) k u w) where
    later : (s : ℕ) → m ≤ s → talked_by f D g C s t ≡ talked_by f D g (λ s. C (m + s)) (s - m) u
    later s h =
        let e : s ≡ m + (s - m) = omega arith in
        ap (λ (n : ℕ). talked_by f D g C n t) e
        ∙ talked_split C m (s - m) t
        ∙ ap (talked_by f D g (λ s. C (m + s)) (s - m)) p.leaves

    said_later : (s : ℕ) → m ≤ s → saying (talked_by f D g C s t) (C s)
        ≡ saying (talked_by f D g (λ s. C (m + s)) (s - m) u) (C (m + (s - m)))
    said_later s h =
        let e : s ≡ m + (s - m) = omega arith in ap₂ saying (later s h) (ap C e)

    pub follows_then : Follows C E (m + k) t w
    follows_then =
        record {
          leaves = talked_split C m k t ∙ ap (talked_by f D g (λ s. C (m + s)) k) p.leaves ∙ q.leaves;
          says = λ s h. (go s h (ltb s m) refl).0;
          unhurt = λ s h. (go s h (ltb s m) refl).1;
        }
      where
        go : (s : ℕ) → s < m + k → (b : Bool) → ltb s m ≡ b
            → ((saying (talked_by f D g C s t) (C s)).emission ≡ E s)
            × (ends_run (saying (talked_by f D g C s t) (C s)).event ≡ false)
        go s h true e = let l = ltb-true s m e in (p.says s l, p.unhurt s l)
        go s h false e =
            let l = ltb-false s m e in
            let z : m + (s - m) ≡ s = omega arith in (
              ap (λ (r : Transmitted). r.emission) (said_later s l) ∙ q.says (s - m) (omega arith) ∙ ap E z,
              ap (λ (r : Transmitted). ends_run r.event) (said_later s l) ∙ q.unhurt (s - m) (omega arith),
            )

-- ---- by a plan

-- a frame's octets count only where a frame is held
held_said : (f : Figures) (F : ℕ → List ℕ) (x : Transmitter) (z n draw : ℕ) (start on : Bool)
    → symbol_of (F (octets_held x z)) (transmit f x z n draw start on).emission
    ≡ symbol_of (F z) (transmit f x z n draw start on).emission
unfolding transmit
held_said f F NoFrame z n draw start on = refl
held_said f F Waiting z n draw start on = refl
held_said f F (BackingOff w) z n draw start on = refl
held_said f F (Sending k) z n draw start on = refl
held_said f F (Heading k) z n draw start on = refl
held_said f F (Jamming l ends) z n draw start on = refl

frame_stays : (f : Figures) (D : ℕ) (g : ℕ → ℕ) (C : ℕ → Bool) (m : ℕ) (t : Talker)
    → (talked_by f D g C m t).frame ≡ t.frame
unfolding talked_by turns talked
frame_stays f D g C zero t = refl
frame_stays f D g C (suc m) t = frame_stays f D g C m t

frame_at_lem : (a : List ℕ) (P : Plan) (i s : ℕ) → (talker_at a P i s).frame ≡ (station_at a i).frame
unfolding talker_at talker_of
frame_at_lem a P i s =
    frame_stays (figures_at a) (depth_at a) (draw_at a i) (carrier_at a P i) s (talker_of (station_at a i))

pub symbol_said_lem : (a : List ℕ) (P : Plan) (i s : ℕ)
    → symbol_said a P i s ≡ symbol_of (frame_at a i (station_at a i).frame) (said_at a P i s).emission
unfolding symbol_said said_at
symbol_said_lem a P i s =
    held_said (figures_at a) (frame_at a i) (talker_at a P i s).transmitter (talker_at a P i s).frame _ _ _ _
    ∙ ap (λ (z : ℕ). symbol_of (frame_at a i z) (said_at a P i s).emission) (frame_at_lem a P i s)

said_by : (a : List ℕ) (P : Plan) (K i s : ℕ) (E : ℕ → Emission) (u : Talker)
    → Follows (figures_at a) (depth_at a) (draw_at a i) (carrier_at a P i) E K (talker_of (station_at a i)) u → s < K
    → (said_at a P i s).emission ≡ E s
unfolding said_at talker_at
said_by a P K i s E u x h = x.says s h

hurt_by : (a : List ℕ) (P : Plan) (K i s : ℕ) (E : ℕ → Emission) (u : Talker)
    → Follows (figures_at a) (depth_at a) (draw_at a i) (carrier_at a P i) E K (talker_of (station_at a i)) u → s < K
    → ends_run (said_at a P i s).event ≡ false
unfolding said_at talker_at
hurt_by a P K i s E u x h = x.unhurt s h

-- Theorem 13: each station's talk, joined from its parts, says what the plan has
pub follows_hold : (a : List ℕ) (P : Plan) (K : ℕ) (E : ℕ → ℕ → Emission) (u : ℕ → Talker) → Readiness a
    → clock_at a + K ≤ last_clock
    → ((i : ℕ) → i < count_at a → Follows (figures_at a) (depth_at a) (draw_at a i) (carrier_at a P i) (E i) K
    (talker_of (station_at a i)) (u i))
    → ((i s : ℕ) → i < count_at a → s < K → symbol_of (frame_at a i (station_at a i).frame) (E i s) ≡ P i s)
    → Holds a P K × Unhurt a P K
follows_hold a P K E u r early h e = (
  talk_holds a P K r early (λ i s hi hs. symbol_said_lem a P i s
      ∙ ap (symbol_of (frame_at a i (station_at a i).frame)) (said i s hi hs) ∙ e i s hi hs),
  talk_unhurt a P K r early (λ i s hi hs. hurt i s hi hs),
)
  where
    said : (i s : ℕ) → i < count_at a → s < K → (said_at a P i s).emission ≡ E i s
    said i s hi hs = said_by a P K i s (E i) (u i) (h i hi) hs

    hurt : (i s : ℕ) → i < count_at a → s < K → ends_run (said_at a P i s).event ≡ false
    hurt i s hi hs = hurt_by a P K i s (E i) (u i) (h i hi) hs
