-- `plan_read::offers_wrong` meets its contract. Assumes nothing.
use Prim.Native.Nat.{◌≤◌}
use mathlib.Core.Path.{◌≡◌}
use mathlib.Core.Bool.{false}
use lib.ListN.{length}
use Rattle.octets.specs.Base.{some}
use Rattle.plan_read.specs.Plan.{offer_place, time_before, time_falls}
use Rattle.plan_read.proofs.offers_wrong.Given as goal

abbrev pub invariant-loop-k : goal.invariant-loop-k
invariant-loop-k l =
    (l.place ≤ length l.s) × (l.place ≡ offer_place l.s l.at l._k) × (l.last ≡ time_before l.s l.at l._k)
    × (some (time_falls l.s l.at) l._k ≡ false)
