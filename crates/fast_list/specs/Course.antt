-- A run, and steps until an event, by a plan that holds: the whole of it at once, its events within. Assumes nothing.
use Prim.Native.Nat.{ℕ, zero, suc, ◌+◌, ◌≤◌, ◌<◌}
use Rattle.std.specs.Prelude.{◌≡◌, refl, Bool, true, false, ltb, Some}
use Rattle.std.proofs.Common.{sym, ◌∙◌}
use Rattle.std.proofs.Math.Path.{ap, ap₂}
use mathlib.Core.List.{List, []}
use native.Mathlib.Omega.{arith}
use Rattle.octets.specs.Base.{pick, accepted}
use Rattle.octets.specs.Turns.{turns}
use Rattle.area.specs.Area.{clock_at, count_at}
use Rattle.bus_spec.specs.declared.Events.{Events}
use Rattle.bus_spec.specs.BitTime.{events_at, step_area}
use Rattle.bus_spec.specs.Ready.{Readiness}
use Rattle.bus_spec.specs.Run.{Ran, tallied, late_at, stops, first, run_of, late_in}
use Rattle.bus_spec.specs.Until.{Stretched, eventful, one_more, until_event}
use Rattle.bus_spec.specs.UntilLaws.{plus}
use Rattle.fast_plan.specs.Plan.{Plan, Holds, steps}
use Rattle.fast_plan.specs.Prefix.{Unhurt, holds_less}
use Rattle.fast_plan.specs.Runs.{events_by, tallied_by, until_steps}
use Rattle.fast_plan.proofs.Runs.{plan_events, run_steps}
use Rattle.fast_plan.specs.Turned.{turned_of}
use Rattle.fast_plan.proofs.Turned.{steps_turned}
use Rattle.fast_list.specs.Counted.{words_by, words_by_station}
use Rattle.sheet_layout.specs.Limits.{last_clock}

-- the words of K steps, one station after the other
unfoldable pub words_all : List ℕ → Plan → (K : ℕ) → List ℕ → List ℕ
words_all a P K ws = turns (λ i w. pick (ltb i (count_at a)) (words_by a P i K w) w) 16 ws

-- one step more
tallied_more : (a : List ℕ) (P : Plan) (K : ℕ) (ws : List ℕ)
    → tallied (events_by a P K) 16 (tallied_by a P K ws) ≡ tallied_by a P (suc K) ws
unfolding tallied_by turns
tallied_more a P K ws = refl

steps_more : (a : List ℕ) (K : ℕ) → step_area (steps K a) ≡ steps (suc K) a
unfolding steps turns
steps_more a K = refl

-- one step, which has an event
until_one : (r : ℕ) (x : List ℕ) (es : List Events) → events_at x ≡ es → eventful es ≡ true
    → until_event (suc r) x ≡ record { steps = 1; events = es; octets = step_area x }
unfolding until_event
until_one r x es e s = rw (e, s)

module _ (a : List ℕ) (P : Plan) (K : ℕ) (ready : Readiness a) where
  -- Theorem 9: K steps of a run, of which none ends it
  pub run_by_plan : (r m : ℕ) (ws : List ℕ) → 0 < K → clock_at a + K ≤ last_clock → Holds a P K → Unhurt a P K
      → run_of (K + r) m ws a ≡ run_of r (m + K) (words_all a P K ws) (turned_of a P K)
  unfolding words_all
  run_by_plan r m ws pos early h u =
      run_steps a P K r m ws ready early h u
      ∙ ap₂ (λ (vs x : List ℕ). run_of r (m + K) vs x) (words_by_station a P K ws)
      (steps_turned a P K pos ready early h)

  -- the run's last step, which ends it
  one_late : (r m : ℕ) (ws x : List ℕ) (es : List Events) → events_at x ≡ es → stops es ≡ true
      → run_of (suc r) m ws x ≡ record {
        answer = accepted [];
        steps = m + 1;
        words = tallied es 16 ws;
        ended = Some (late_in m (first (late_at es) 16));
        octets = step_area x;
      }
  unfolding run_of
  one_late r m ws x es e s = rw (e, s)

  -- Theorem 10: the last of K + 1 steps has a late collision that ends the run
  pub run_by_late : (r m : ℕ) (ws : List ℕ) → clock_at a + suc K ≤ last_clock → Holds a P (suc K) → Unhurt a P K
      → stops (events_by a P K) ≡ true
      → run_of (suc K + r) m ws a ≡ record {
        answer = accepted [];
        steps = m + K + 1;
        words = words_all a P (suc K) ws;
        ended = Some (late_in (m + K) (first (late_at (events_by a P K)) 16));
        octets = turned_of a P (suc K);
      }
  unfolding words_all
  run_by_late r m ws early h u late =
      let e : suc K + r ≡ K + suc r = omega arith in
      let vs = tallied_by a P K ws in
      ap (λ (k : ℕ). run_of k m ws a) e
      ∙ run_steps a P K (suc r) m ws ready (omega arith) (holds_less a P (suc K) K (omega arith) h) u
      ∙ one_late r (m + K) vs (steps K a) (events_by a P K)
      (plan_events a P (suc K) K ready early h (omega arith)) late
      ∙ ap₂ (λ (ws' x : List ℕ). record {
        answer = accepted [];
        steps = m + K + 1;
        words = ws';
        ended = Some (late_in (m + K) (first (late_at (events_by a P K)) 16));
        octets = x;
      })
      (last_words ∙ words_by_station a P (suc K) ws)
      (last_step ∙ steps_turned a P (suc K) (omega arith) ready early h)
    where
      last_words : tallied (events_by a P K) 16 (tallied_by a P K ws) ≡ tallied_by a P (suc K) ws
      last_words = tallied_more a P K ws

      last_step : step_area (steps K a) ≡ steps (suc K) a
      last_step = steps_more a K

  -- Theorem 11: steps until an event, which is in the last of K + 1
  pub until_by_plan : (r : ℕ) → clock_at a + suc K ≤ last_clock → Holds a P (suc K)
      → ((s : ℕ) → s < K → eventful (events_by a P s) ≡ false) → eventful (events_by a P K) ≡ true
      → until_event (suc K + r) a ≡ record { steps = suc K; events = events_by a P K; octets = turned_of a P (suc K) }
  until_by_plan r early h none some =
      let e : suc K + r ≡ K + suc r = omega arith in
      ap (λ (k : ℕ). until_event k a) e
      ∙ until_steps a K (suc r)
      (λ s l. ap eventful (plan_events a P (suc K) s ready early h (omega arith)) ∙ none s l)
      ∙ ap (plus K) (until_one r (steps K a) (events_by a P K)
      (plan_events a P (suc K) K ready early h (omega arith)) some)
      ∙ ap₂ (λ (k : ℕ) (x : List ℕ). record { steps = k; events = events_by a P K; octets = x }) z
      (steps_more a K ∙ steps_turned a P (suc K) (omega arith) ready early h)
    where
      z : K + 1 ≡ suc K
      z = omega arith
