-- The whole area as code makes it that moves the stations in place: each station by itself, one after the other, then
-- each line cleared and pushed to, then the clock. That the steps leave this area is in proofs/Turned. Assumes nothing.
use Rattle.std.specs.Prelude.{ℕ, ◌+◌, ◌≤◌, ◌<◌, List}
use Rattle.std.proofs.Common.{arith}
use Rattle.area.specs.Places.{place, Keeps}
use Rattle.area.specs.Area.{clock_at, with_clock, count_at}
use Rattle.fast_plan.specs.Plan.{Plan}
use Rattle.fast_plan.specs.Exact.{own_all, own_keeps}
use Rattle.fast_plan.specs.Placed.{lines_done}
use Rattle.sheet_layout.specs.Limits.{max_stations}

unfoldable pub turned_of : List ℕ → Plan → ℕ → List ℕ
turned_of a P K = with_clock (lines_done a P K (count_at a) (own_all a P K (count_at a) a)) (clock_at a + K)

module _ (a : List ℕ) (P : Plan) (K k : ℕ) where
  -- no line is touched by the stations
  pub all_line : (i u : ℕ) → i < max_stations → k ≤ max_stations → Keeps (place i u) (own_all a P K k a) a
  all_line i u hi hk =
      own_keeps (place i u) a P K k a (λ j h. record {
        station = λ p q. omega arith;
        counters = λ p q. omega arith;
        buffer = λ p q. omega arith;
      })
