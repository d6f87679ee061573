-- The events of K steps by a plan; the run that makes them is in proofs/Runs. Assumes nothing.
use Rattle.std.specs.Prelude.{ℕ, zero, suc, ◌+◌, ◌-◌, ◌<◌, ◌≡◌, Bool, false, List}
use Rattle.std.proofs.Common.{sym, ◌∙◌, ap, arith}
use Rattle.octets.specs.Base.{pick}
use Rattle.octets.specs.Filled.{filled}
use Rattle.octets.specs.Turns.{turns}
use Rattle.area.specs.Area.{count_at}
use Rattle.bus_spec.specs.declared.Events.{Events}
use Rattle.bus_spec.specs.BitTime.{events_of, no_events, events_at, step_area}
use Rattle.bus_spec.specs.Run.{tallied}
use Rattle.bus_spec.specs.Until.{eventful, Stretched, one_more, until_event}
use Rattle.bus_spec.specs.UntilLaws.{plus, stretch_first}
use Rattle.fast_plan.specs.Plan.{Plan, act_after, steps}

-- those of step s, by the plan
unfoldable pub events_by : List ℕ → Plan → ℕ → List Events
events_by a P s = filled no_events (λ i. events_of (act_after a P i s)) (count_at a)

-- the words of K steps
unfoldable pub tallied_by : List ℕ → Plan → ℕ → List ℕ → List ℕ
tallied_by a P K ws = turns (λ s w. tallied (events_by a P s) 16 w) K ws

-- K steps without an event
pub until_steps : (a : List ℕ) (K k : ℕ) → ((s : ℕ) → s < K → eventful (events_at (steps s a)) ≡ false)
    → until_event (K + k) a ≡ plus K (until_event k (steps K a))
unfolding steps turns until_event
until_steps a zero k h =
    let e : 0 + k ≡ k = omega arith in
    let z : k ≡ k - 0 = omega arith in
    ap (λ (m : ℕ). until_event m a) e ∙ sym (ap (λ (m : ℕ). plus 0 (until_event m a)) z ∙ stretch_first k a)
until_steps a (suc K) k h =
    let e : suc K + k ≡ K + suc k = omega arith in
    let x = steps K a in
    ap (λ (m : ℕ). until_event m a) e
    ∙ until_steps a K (suc k) (λ s l. h s (omega arith))
    ∙ ap (λ (b : Bool). plus K
    (pick b (record { steps = 1; events = events_at x; octets = step_area x }) (one_more (until_event k (step_area x)))))
    (h K (omega arith))
    ∙ one (until_event k (step_area x))
  where
    one : (s : Stretched) → plus K (one_more s) ≡ plus (suc K) s
    one s = λ i. record { steps = z s.steps i; events = s.events; octets = s.octets }
      where
        z : (j : ℕ) → K + (j + 1) ≡ suc K + j
        z j = omega arith
