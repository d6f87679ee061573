-- A run goes on from an area that is ready. The other laws of a run are in the specs' RunLaws. Assumes nothing.
use Prim.Native.Nat.{ℕ, ◌+◌, ◌-◌, ◌<◌}
use Rattle.std.specs.Prelude.{◌≡◌, List}
use native.Mathlib.Omega.{arith}
use Rattle.bus_spec.specs.BitTime.{step_area}
use Rattle.bus_spec.proofs.Stays.{step_ready, step_clock}
use Rattle.bus_spec.specs.RunLaws.{Runnable}

-- ---- the steps

module _ (n t : ℕ) (a : List ℕ) where
  pub run_next : (b : List ℕ) → b ≡ step_area a → Runnable (n - t) a → t < n → Runnable (n - (t + 1)) b
  unfolding Runnable
  run_next b e h g = rw e (step_ready a h.0 (omega (arith, h.1)), omega (arith, step_clock a h.0, h.1))
