-- A step and the counters on an area that is longer than it has to be: they are those of its first octets, and the rest stays.
-- Here b is those octets and z the rest. Assumes nothing.
use Prim.Native.Nat.{ℕ, ◌+◌, ◌≤◌}
use Rattle.std.specs.Prelude.{◌≡◌, false, leb, eqb}
use Rattle.std.proofs.Common.{arith}
use mathlib.Core.List.{List, ◌++◌}
use borrow.Author.Tests.{eq-eqb, eqb-true, leb-false}
use Rattle.std.proofs.Math.Dec.{ltb}
use Rattle.std.proofs.Math.ListN.{length}
use Rattle.octets.specs.BaseLaws.{by_test}
use Rattle.octets.specs.NumberLaws.{Octets}
use Rattle.sheet_layout.specs.Limits.{last_clock}
use Rattle.area.specs.Offsets.{area_size}
use Rattle.area.specs.Area.{clock_at, count_at}
use Rattle.area.specs.Front.{clock_front, count_front, counters_front}
use Rattle.area_check.specs.Valid.{area_refusal}
use Rattle.area_check.specs.Front.{refusal_front, few_stations}
use Rattle.bus_spec.specs.Passes.{Passing, passes_ready, ready_passes}
use Rattle.bus_spec.proofs.Front.{step_front, events_front}
use Rattle.bus_step.specs.Step.{Bit, stepped_once}
use Rattle.bus_step.specs.Counters.{counters_read}

-- a step's answer, and what it leaves with the rest of the area behind it
abbrev pub beside_bit : List ℕ → Bit → Bit
beside_bit z r = record { answer = r.answer; events = r.events; octets = r.octets ++ z }

-- a step on an area that passes checks 1 and 2
pub stepped_passing : (z b : List ℕ) → Passing b → stepped_once (b ++ z) ≡ beside_bit z (stepped_once b)
unfolding stepped_once
stepped_passing z b p =
    let big = p.ready.long in
    rw (refusal_front z b big, eq-eqb (area_refusal b) 0 (ready_passes b p), clock_front z b big)
    (by_test (ltb last_clock (clock_at b + 1)) (λ c. rw c)
    (λ c. rw (c, events_front z b p.ready, step_front z b p.ready)))

module _ (z b : List ℕ) (big : area_size ≤ length b) where
  stepped_refused : eqb (area_refusal b) 0 ≡ false → stepped_once (b ++ z) ≡ beside_bit z (stepped_once b)
  unfolding stepped_once
  stepped_refused e = rw (refusal_front z b big, e)

  pub counters_read_front : (i : ℕ) → counters_read (b ++ z) i ≡ counters_read b i
  unfolding counters_read
  counters_read_front i =
      rw (refusal_front z b big, count_front z b big)
      (by_test (eqb (area_refusal b) 0)
      (λ e. rw e (by_test (leb (count_at b) i)
      (λ c. rw c)
      (λ c. let few = few_stations b (eqb-true (area_refusal b) 0 e) in
      rw (c, counters_front z b big i (omega (arith, few, leb-false (count_at b) i c))))))
      (λ e. rw e))

  pub stepped_beside : Octets b → stepped_once (b ++ z) ≡ beside_bit z (stepped_once b)
  stepped_beside o =
      by_test (eqb (area_refusal b) 0)
      (λ e. stepped_passing z b (passes_ready b o (eqb-true (area_refusal b) 0 e)))
      stepped_refused
