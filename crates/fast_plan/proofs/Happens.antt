-- Theorem 1: a plan that holds is what happens. One step of it is in the specs' Happens. Assumes nothing.
use Prim.Native.Nat.{ℕ, zero, suc, ◌+◌, ◌≤◌, ◌<◌}
use Rattle.std.specs.Prelude.{◌≡◌, List}
use native.Mathlib.Omega.{arith}
use Rattle.octets.specs.Turns.{turns}
use Rattle.area.specs.Area.{clock_at, count_at}
use Rattle.bus_spec.specs.BitTime.{act_at}
use Rattle.bus_spec.specs.Ready.{Readiness}
use Rattle.fast_plan.specs.Plan.{Plan, act_after, Holds, steps}
use Rattle.fast_plan.specs.Plan.{Planned}
use Rattle.sheet_layout.specs.Limits.{last_clock}
use Rattle.fast_plan.specs.Happens.{act_planned, next_planned, planned_none}

-- ---- Theorem 1

pub plan_happens : (a : List ℕ) (P : Plan) (K : ℕ) → Readiness a → clock_at a + K ≤ last_clock → Holds a P K
    → Planned a P K (steps K a)
unfolding steps turns Holds
plan_happens a P zero r early h = planned_none a P r
plan_happens a P (suc K) r early h =
    let w : Planned a P K (steps K a) = plan_happens a P K r (omega arith) (λ s i hs hi. h s i (omega arith) hi) in
    next_planned a r.spread P K (steps K a) w (λ i hi. h K i (omega arith) hi) (omega (arith, w.time))

-- and what each station does in step s is what it does by itself
pub plan_acts : (a : List ℕ) (P : Plan) (K s i : ℕ) → Readiness a → clock_at a + K ≤ last_clock → Holds a P K → s ≤ K
    → i < count_at a → act_at (steps s a) i ≡ act_after a P i s
unfolding Holds
plan_acts a P K s i r early h hs hi =
    act_planned a r.spread P s (steps s a) (plan_happens a P s r (omega arith) (λ u j hu hj. h u j (omega arith) hj))
    i hi
