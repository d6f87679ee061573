-- `fast_hear::reach` meets its contract. Assumes nothing.
use native.Mathlib.Omega.{arith}
use Rattle.fast_hear.specs.ListedLaws.{reaches_end, reach_own, reach_early, reach_later}
use Rattle.fast_hear.proofs.reach.Goals as goal

pub returns-then-stretch-j : goal.returns-then-stretch-j
returns-then-stretch-j c = search reach_own

pub returns-then-s-at : goal.returns-then-s-at
returns-then-s-at c = search reach_early

pub overflow_add-end : goal.overflow_add-end
overflow_add-end c = omega (arith, reaches_end _ _ _ c.requires.1 _ c.arrival-at.ensures)

pub overflow_add-end-2 : goal.overflow_add-end-2
overflow_add-end-2 c = search reaches_end

pub returns : goal.returns
returns c = search reach_later
