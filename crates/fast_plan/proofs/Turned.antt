-- The whole area as code makes it that moves the stations in place is what the steps leave. The area that it makes is
-- in the specs' Turned. Assumes nothing.
use Rattle.std.specs.Prelude.{ℕ, ◌+◌, ◌≤◌, ◌<◌, ◌≡◌, List, length}
use Rattle.std.proofs.Common.{◌∙◌, ap, arith}
use Rattle.area.specs.Places.{counters, station, buffer, place}
use Rattle.area.specs.Area.{clock_at, with_clock, count_at, heard_code, symbol_at}
use Rattle.area.specs.Whole.{clock_still, clock_on}
use Rattle.area.specs.AreaLaws.{arrival_by, symbol_by, clock_keeps, length_clock}
use Rattle.bus_spec.specs.Ready.{Readiness}
use Rattle.fast_plan.specs.Own.{own_trans}
use Rattle.fast_plan.specs.Plan.{Plan, own_after, Holds, steps}
use Rattle.fast_plan.proofs.Happens.{plan_happens}
use Rattle.fast_plan.specs.Exact.{planned_left, left_same_area, symbol_code, own_all, length_own}
use Rattle.fast_plan.specs.Exact.{own_built, own_still, own_drawn}
use Rattle.fast_plan.specs.Placed.{lines_done, done_long, done_keeps, done_still, done_codes, done_line}
use Rattle.sheet_layout.specs.Limits.{last_clock}
use Rattle.fast_plan.specs.Turned.{turned_of, all_line}

pub steps_turned : (a : List ℕ) (P : Plan) (K : ℕ) → 0 < K → Readiness a → clock_at a + K ≤ last_clock → Holds a P K
    → steps K a ≡ turned_of a P K
unfolding turned_of Holds
steps_turned a P K pos r early h =
    let n = count_at a in
    let few = r.spread.few in
    let o = own_all a P K n a in
    let l = lines_done a P K n o in
    let x = with_clock l (clock_at a + K) in
    let lo : length o ≡ length a = length_own a P K n a in
    let ll : length l ≡ length o = done_long a P K few n o (omega arith) in
    let same : (i u : ℕ) → i < n
    → symbol_at o i u ≡ symbol_at a i u = λ i u hi. symbol_by o a i u (all_line a P K n i u (omega arith) few) in
    left_same_area a P K (steps K a) x few (planned_left a P K (steps K a) pos (plan_happens a P K r early h))
    (record {
      long = length_clock l (clock_at a + K) ∙ ll ∙ lo;
      stamp = clock_on l a (clock_at a + K) (omega (arith, ll, lo, r.long)) r.long;
      own = λ i hi.
          own_trans i x l (own_after a P i K)
          (record {
            station = clock_keeps (station i) l (clock_at a + K) (λ p q. omega arith);
            counters = clock_keeps (counters i) l (clock_at a + K) (λ p q. omega arith);
            buffer = clock_keeps (buffer i) l (clock_at a + K) (λ p q. omega arith);
          })
          (own_trans i l o (own_after a P i K)
          (record {
            station = done_keeps a P K few (station i) n o (omega arith) (λ j u hj p q. omega arith);
            counters = done_keeps a P K few (counters i) n o (omega arith) (λ j u hj p q. omega arith);
            buffer = done_keeps a P K few (buffer i) n o (omega arith) (λ j u hj p q. omega arith);
          })
          (own_built a P K n i hi few r.long
          (λ s hs. own_drawn a P s i r (plan_happens a P s r (omega arith) (λ u j hu hj. h u j (omega arith) hj)) hi)));
      line = λ j v hj low up.
          symbol_by x l j (clock_at a + v) (clock_keeps (place j (clock_at a + v)) l (clock_at a + K) (λ p q. omega arith))
          ∙ symbol_code l j (clock_at a + v)
          (done_codes a P K few n o (omega arith) (omega (arith, lo, r.long))
          (λ i u hi. rw (same i u hi) (r.codes i u hi)) j (clock_at a + v) hj)
          ∙ ap heard_code (done_line a P K few r.spread n j v o (omega arith) hj (omega (arith, lo, r.long))
          (λ i u hi. arrival_by o a i u (all_line a P K n i u (omega arith) few)) low up);
      rest =
          λ k st. clock_still n k st l (clock_at a + K) ∙ done_still a P K few k n o (omega arith) st
          ∙ own_still n k few st a P K n a (omega arith);
    })
