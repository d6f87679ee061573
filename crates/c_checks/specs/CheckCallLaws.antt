-- The places that a run input is read to have fit a word. Assumes nothing.
use Rattle.std.specs.Prelude.{ℕ, zero, suc, ◌≤◌, ◌<◌, ◌≡◌, List, Ok}
use Rattle.std.proofs.Common.{arith}
use Rattle.plan_read.specs.declared.Plan.{Plan}
use Rattle.plan_read.specs.Plan.{offer_place, plan_as_read, plan_reading}
use Rattle.plan_read.specs.PlanTheorems.{reading_right}

place_least : (l : List ℕ) (p k : ℕ) → p ≤ offer_place l p k
unfolding offer_place
place_least l p zero = omega arith
place_least l p (suc k) = omega (arith, place_least l p k)

module _ (l : List ℕ) (q : Plan) (p : plan_reading (Ok q) ≡ plan_as_read l) where
  pub plan_drawn : q.drawn < 4294967296
  plan_drawn = let y = reading_right l q p in omega (arith, y.draws, y.size)

  pub plan_first : q.first < 4294967296
  plan_first = let y = reading_right l q p in omega (arith, y.ending, y.size, place_least l q.first q.offers)
