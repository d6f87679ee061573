-- The events of K steps by a plan are those of the steps, and the run that makes them. The definitions are in the specs'
-- Runs. Assumes nothing.
use Rattle.std.specs.Prelude.{ℕ, zero, suc, ◌+◌, ◌-◌, ◌≤◌, ◌<◌, ◌≡◌, false, List, get_or, ltb}
use Rattle.std.proofs.Common.{◌∙◌, ap, ap₂, arith, ltb-true, ltb-false}
use Rattle.octets.specs.BaseLaws.{by_test, below_none}
use Rattle.octets.specs.Filled.{filled, filled_same, filled_at, filled_past}
use Rattle.octets.specs.Turns.{turns}
use Rattle.area.specs.Area.{clock_at, count_at}
use Rattle.area.specs.AreaLaws.{count_by}
use Rattle.bus_spec.specs.declared.Events.{Events}
use Rattle.bus_spec.specs.BitTime.{act_at, events_of, no_events, events_at, step_area}
use Rattle.bus_spec.specs.Ready.{Readiness}
use Rattle.bus_spec.specs.Run.{tallied, late_at, run_of, stops}
use Rattle.fast_plan.specs.Plan.{Plan, act_after, Holds, steps, Planned}
use Rattle.fast_plan.proofs.Happens.{plan_happens, plan_acts}
use Rattle.fast_plan.specs.Prefix.{Unhurt, holds_less}
use Rattle.sheet_layout.specs.Limits.{last_clock}
use Rattle.station_tally.specs.Words.{ends_run}
use Rattle.fast_plan.specs.Runs.{events_by, tallied_by}

pub plan_events : (a : List ℕ) (P : Plan) (K s : ℕ) → Readiness a → clock_at a + K ≤ last_clock → Holds a P K → s ≤ K
    → events_at (steps s a) ≡ events_by a P s
unfolding events_at events_by
plan_events a P K s r early h hs =
    let w : Planned a P s (steps s a) = plan_happens a P s r (omega arith) (holds_less a P K s hs h) in
    let n : count_at (steps s a) ≡ count_at a = count_by (steps s a) a (w.stays 0 (omega arith)).layout in
    filled_same no_events (λ i. events_of (act_at (steps s a) i)) (λ i. events_of (act_after a P i s)) (count_at (steps s a))
    (λ i hi. ap events_of (plan_acts a P K s i r early h hs (omega arith)))
    ∙ ap (filled no_events (λ i. events_of (act_after a P i s))) n

none_late : (a : List ℕ) (P : Plan) (K s : ℕ) → Unhurt a P K → s < K → stops (events_by a P s) ≡ false
unfolding Unhurt late_at events_by
none_late a P K s u hs =
    below_none (late_at (events_by a P s)) 16
    (λ i h. by_test (ltb i (count_at a))
    (λ c. let l = ltb-true i (count_at a) c in
    ap (λ (e : Events). ends_run e.sent)
    (filled_at no_events (λ j. events_of (act_after a P j s)) (count_at a) i no_events l)
    ∙ u s i hs l)
    (λ c. let l = ltb-false i (count_at a) c in
    let z : i ≡ count_at a + (i - count_at a) = omega arith in
    ap (λ (m : ℕ). ends_run (get_or (filled no_events (λ j. events_of (act_after a P j s)) (count_at a)) m no_events).sent) z
    ∙ ap (λ (e : Events). ends_run e.sent)
    (filled_past no_events (λ j. events_of (act_after a P j s)) (count_at a) (i - count_at a))))

run_one : (k m : ℕ) (ws a : List ℕ) → stops (events_at a) ≡ false
    → run_of (suc k) m ws a ≡ run_of k (m + 1) (tallied (events_at a) 16 ws) (step_area a)
unfolding run_of
run_one k m ws a e = rw e

-- K steps of a run
pub run_steps : (a : List ℕ) (P : Plan) (K r m : ℕ) (ws : List ℕ) → Readiness a → clock_at a + K ≤ last_clock
    → Holds a P K
    → Unhurt a P K
    → run_of (K + r) m ws a ≡ run_of r (m + K) (tallied_by a P K ws) (steps K a)
unfolding tallied_by turns steps Unhurt
run_steps a P zero r m ws ready early h u =
    let e : 0 + r ≡ r = omega arith in let z : m ≡ m + 0 = omega arith in ap₂ (λ (k l : ℕ). run_of k l ws a) e z
run_steps a P (suc K) r m ws ready early h u =
    let e : suc K + r ≡ K + suc r = omega arith in
    let z : m + K + 1 ≡ m + suc K = omega arith in
    let x = steps K a in
    let vs = tallied_by a P K ws in
    let q : events_at x ≡ events_by a P K = plan_events a P (suc K) K ready early h (omega arith) in
    ap (λ (k : ℕ). run_of k m ws a) e
    ∙ run_steps a P K (suc r) m ws ready (omega arith) (holds_less a P (suc K) K (omega arith) h) (unhurt_less K u)
    ∙ run_one r (m + K) vs x
    (ap (λ (es : List Events). stops es) q ∙ none_late a P (suc K) K u (omega arith))
    ∙ ap₂ (λ (l : ℕ) (es : List Events). run_of r l (tallied es 16 vs) (step_area x)) z q
  where
    unhurt_less : (K : ℕ) → Unhurt a P (suc K) → Unhurt a P K
    unhurt_less K u = λ s i hs hi. u s i (omega arith) hi
