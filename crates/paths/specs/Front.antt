-- A call does to the first octets of a longer area, as many as check 1 asks for, what it does to them alone, and leaves
-- the rest. Here b is those first octets and z the rest. Assumes nothing.
use Prim.Native.Nat.{ℕ, zero, suc, ◌+◌, ◌≤◌}
use Rattle.std.specs.Prelude.{◌≡◌}
use Rattle.std.proofs.Math.Path.{refl, ap}
use Rattle.std.proofs.Common.{◌∙◌, arith}
use mathlib.Core.List.{List, ◌++◌}
use borrow.Author.Tests.{eq-eqb, ltb-false}
use Rattle.std.proofs.Math.Dec.{ltb}
use Rattle.std.proofs.Math.ListN.{length}
use Rattle.octets.specs.Base.{Outcome}
use Rattle.octets.specs.BaseLaws.{by_test}
use Rattle.sheet_layout.specs.Limits.{last_clock}
use Rattle.area.specs.Area.{clock_at}
use Rattle.area_check.specs.Valid.{area_refusal}
use Rattle.bus_spec.specs.BitTime.{step_area}
use Rattle.bus_spec.specs.BitTime.{events_at}
use Rattle.bus_spec.specs.Passes.{Passing, ready_passes}
use Rattle.bus_spec.proofs.Stays.{step_length, step_clock, step_passing}
use Rattle.bus_spec.specs.Run.{Ran, tallied, stops, run_of, ran}
use Rattle.bus_spec.proofs.Front.{ran_passing}
use Rattle.bus_step.specs.Step.{Bit, stepped_once}
use Rattle.bus_step.specs.Front.{stepped_passing}
use Rattle.bus_offer.specs.Front.{offered_beside}
use Rattle.delivery.specs.Calls.{Call, offer, step, run, read, Fair}
use Rattle.delivery.specs.Demand3.{called}
use Rattle.delivery.specs.Passing.{offered_passes, offered_keeps, stepped_passes}

module _ (z b : List ℕ) (p : Passing b) where
  pub called_front : (c : Call) → Fair c → called c (b ++ z) ≡ called c b ++ z
  called_front (offer i d v x) f = ap (λ (o : Outcome). o.octets) (offered_beside z b p.ready.long i d v x f.six)
  called_front step f = ap (λ (r : Bit). r.octets) (stepped_passing z b p)
  called_front (run n) f = ap (λ (r : Ran). r.octets) (ran_passing z n b p)
  called_front (read i out) f = refl

-- ---- what a call leaves passes checks 1 and 2, and is as long

run_keeps : (k m : ℕ) (ws b : List ℕ) → Passing b → clock_at b + k ≤ last_clock
    → Passing (run_of k m ws b).octets × (length (run_of k m ws b).octets ≡ length b)
unfolding run_of
run_keeps zero m ws b p h = (p, refl)
run_keeps (suc k) m ws b p h =
    let q = step_passing b p (omega arith) in
    let l = step_length b p.ready in
    let r = run_keeps k (m + 1) (tallied (events_at b) 16 ws) (step_area b) q (omega (arith, step_clock b p.ready)) in
    by_test (stops (events_at b)) (λ e. rw e (q, l)) (λ e. rw e (r.0, r.1 ∙ l))

module _ (b : List ℕ) (p : Passing b) where
  ran_keeps : (n : ℕ) → Passing (ran b n).octets × (length (ran b n).octets ≡ length b)
  unfolding ran
  ran_keeps n =
      rw (eq-eqb (area_refusal b) 0 (ready_passes b p))
      (by_test (ltb last_clock (clock_at b + n)) (λ c. rw c (p, refl))
      (λ c. rw c (run_keeps n 0 _ b p (ltb-false last_clock (clock_at b + n) c))))

  stepped_length : length (stepped_once b).octets ≡ length b
  unfolding stepped_once
  stepped_length =
      rw (eq-eqb (area_refusal b) 0 (ready_passes b p))
      (by_test (ltb last_clock (clock_at b + 1)) (λ c. rw c) (λ c. rw c (step_length b p.ready)))

  pub called_passing : (c : Call) → Fair c → Passing (called c b)
  called_passing (offer i d v x) f = offered_passes b i d v x f.six p
  called_passing step f = stepped_passes b p
  called_passing (run n) f = (ran_keeps n).0
  called_passing (read i out) f = p

  pub called_length : (c : Call) → Fair c → length (called c b) ≡ length b
  called_length (offer i d v x) f = (offered_keeps b i d v x f.six p).1
  called_length step f = stepped_length
  called_length (run n) f = (ran_keeps n).1
  called_length (read i out) f = refl
