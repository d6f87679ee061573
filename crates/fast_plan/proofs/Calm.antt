-- A window without events is what happens: a run counts nothing in it, and a stretch until an event goes on past it.
-- What such a window is stands in the specs' Calm. Assumes nothing.
use Prim.Native.Nat.{ℕ, zero, suc, ◌+◌, ◌≤◌, ◌<◌}
use Rattle.std.specs.Prelude.{◌≡◌, get_or}
use Rattle.std.proofs.Math.Path.{refl, ap, ap₂}
use Rattle.std.proofs.Common.{◌∙◌}
use Rattle.std.proofs.Math.Bool.{false}
use mathlib.Core.List.{List}
use native.Mathlib.Omega.{arith}
use Rattle.octets.specs.BaseLaws.{below_none}
use Rattle.octets.specs.Filled.{filled, filled_same}
use Rattle.octets.specs.Turns.{turns}
use Rattle.area.specs.Area.{clock_at, count_at}
use Rattle.bus_spec.specs.declared.Events.{Events}
use Rattle.bus_spec.specs.BitTime.{events_of, no_events, events_at, step_area}
use Rattle.bus_spec.specs.Ready.{Readiness}
use Rattle.bus_spec.specs.Run.{tallied, run_of}
use Rattle.bus_spec.specs.Until.{has_event, eventful, Stretched, one_more, until_event}
use Rattle.bus_spec.specs.UntilLaws.{plus}
use Rattle.fast_plan.specs.Plan.{Plan, own_after, act_after, Holds, steps}
use Rattle.fast_plan.specs.Prefix.{Unhurt}
use Rattle.fast_plan.specs.Runs.{events_by, tallied_by}
use Rattle.fast_plan.proofs.Runs.{run_steps, plan_events}
use Rattle.fast_plan.specs.NoEvents.{none_at, nothing_tallied}
use Rattle.sheet_layout.specs.Limits.{last_clock}
use Rattle.station_tally.specs.Words.{ends_run}
use Rattle.fast_plan.specs.Calm.{AllCalm}

module _ (a : List ℕ) (P : Plan) (K : ℕ) (all : AllCalm a P K) where
  pub calm_holds : Holds a P K
  unfolding Holds act_after own_after
  calm_holds s i hs hi = (all i hi).emits s hs

  still : (s i : ℕ) → s < K → i < count_at a → events_of (act_after a P i s) ≡ no_events
  unfolding act_after own_after
  still s i hs hi = (all i hi).quiet s hs

  calm_unhurt : Unhurt a P K
  unfolding Unhurt
  calm_unhurt s i hs hi = ap (λ (e : Events). ends_run e.sent) (still s i hs hi)

  no_events_lem : (s : ℕ) → s < K → events_by a P s ≡ filled no_events (λ i. no_events) (count_at a)
  unfolding events_by
  no_events_lem s h =
      filled_same no_events (λ i. events_of (act_after a P i s)) (λ i. no_events) (count_at a) (λ i hi. still s i h hi)

  no_words : (m : ℕ) (ws : List ℕ) → m ≤ K → tallied_by a P m ws ≡ ws
  unfolding tallied_by turns
  no_words zero ws h = refl
  no_words (suc m) ws h =
      ap₂ (λ (es : List Events) (vs : List ℕ). tallied es 16 vs) (no_events_lem m h) (no_words m ws (omega arith))
      ∙ nothing_tallied (count_at a) 16 ws

  module _ (r : Readiness a) (early : clock_at a + K ≤ last_clock) where
    -- a run
    pub calm_run : (k m : ℕ) (ws : List ℕ) → run_of (K + k) m ws a ≡ run_of k (m + K) ws (steps K a)
    calm_run k m ws =
        run_steps a P K k m ws r early calm_holds calm_unhurt
        ∙ ap (λ (vs : List ℕ). run_of k (m + K) vs (steps K a)) (no_words K ws (omega arith))

    quiet_step : (s : ℕ) → s < K → eventful (events_at (steps s a)) ≡ false
    unfolding eventful has_event
    quiet_step s h =
        ap eventful (plan_events a P K s r early calm_holds (omega arith) ∙ no_events_lem s h)
        ∙ below_none (λ i. has_event (get_or (filled no_events (λ j. no_events) (count_at a)) i no_events)) 16
        (λ i hi. ap has_event (none_at (count_at a) i))

    -- a stretch until an event
    pub calm_until : (m k : ℕ) → m ≤ K → until_event (m + k) a ≡ plus m (until_event k (steps m a))
    unfolding until_event steps turns
    calm_until zero k h =
        let e : 0 + k ≡ k = omega arith in ap (λ (n : ℕ). until_event n a) e ∙ none_more (until_event k a)
      where
        none_more : (s : Stretched) → s ≡ plus 0 s
        none_more s =
            let e : s.steps ≡ 0 + s.steps = omega arith in λ i. record {
              steps = e i;
              events = s.events;
              octets = s.octets;
            }
    calm_until (suc m) k h =
        let e : suc m + k ≡ m + suc k = omega arith in
        ap (λ (n : ℕ). until_event n a) e ∙ calm_until m (suc k) (omega arith)
        ∙ ap (plus m) (one (steps m a) (quiet_step m h)) ∙ more (until_event k (step_area (steps m a)))
      where
        one : (x : List ℕ) → eventful (events_at x) ≡ false → until_event (suc k) x ≡ one_more (until_event k (step_area x))
        one x q = rw q

        more : (s : Stretched) → plus m (one_more s) ≡ plus (suc m) s
        more s =
            let e : m + (s.steps + 1) ≡ suc m + s.steps = omega arith in λ i. record {
              steps = e i;
              events = s.events;
              octets = s.octets;
            }
