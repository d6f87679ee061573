-- What steps until an event leave: a run can go on, and the clock went on by the steps made. The other laws are in the
-- specs' UntilLaws. Assumes nothing.
use Prim.Native.Nat.{ℕ, zero, suc, ◌+◌, ◌-◌}
use Rattle.std.specs.Prelude.{◌≡◌, refl, Bool, true, false, List}
use Rattle.std.proofs.Common.{subst}
use native.Mathlib.Omega.{arith}
use Rattle.octets.specs.Base.{pick}
use Rattle.area.specs.Area.{clock_at}
use Rattle.bus_spec.specs.BitTime.{events_at, step_area}
use Rattle.bus_spec.proofs.Stays.{step_clock}
use Rattle.bus_spec.specs.RunLaws.{Runnable, run_first}
use Rattle.bus_spec.proofs.RunLaws.{run_next}
use Rattle.bus_spec.specs.Until.{eventful, one_more, until_event}

-- ---- steps until an event

runnable_on : (n : ℕ) (a : List ℕ) → Runnable (suc n) a
    → (clock_at (step_area a) ≡ clock_at a + 1) × Runnable n (step_area a)
unfolding Runnable
runnable_on n a h =
    let e : suc n - (0 + 1) ≡ n = omega arith in (
      step_clock a h.0,
      subst (λ (k : ℕ). Runnable k (step_area a)) e
          (run_next (suc n) 0 a (step_area a) refl (run_first (suc n) a h) (omega arith)),
    )

-- the clock goes on by the steps made
pub stretch_clock : (n : ℕ) (a : List ℕ) → Runnable n a
    → clock_at (until_event n a).octets ≡ clock_at a + (until_event n a).steps
unfolding until_event
stretch_clock zero a h = omega arith
stretch_clock (suc n) a h =
    let r = runnable_on n a h in
    go (eventful (events_at a)) r.0 (stretch_clock n (step_area a) r.1)
  where
    go : (b : Bool) → clock_at (step_area a) ≡ clock_at a + 1
        → clock_at (until_event n (step_area a)).octets ≡ clock_at (step_area a) + (until_event n (step_area a)).steps
        → clock_at (pick b (record { steps = 1; events = events_at a; octets = step_area a })
        (one_more (until_event n (step_area a)))).octets
        ≡ clock_at a + (pick b (record { steps = 1; events = events_at a; octets = step_area a })
        (one_more (until_event n (step_area a)))).steps
    go true p q = p
    go false p q = omega (arith, p, q)
