-- `fast_hear::next_heard` meets its contract. Assumes nothing.
use borrow.Author.Rules.{rules}
use native.Mathlib.Omega.{arith}
use mathlib.Core.Path.{refl}
use Rattle.fast_hear.specs.ListedLaws.{fits_each, next_none, next_more, next_bound}
use Rattle.fast_hear.proofs.next_heard.Goals as goal

pub loop-stretch-init : goal.loop-stretch-init
loop-stretch-init c = search next_none

pub arrival-at-requires : goal.arrival-at-requires
arrival-at-requires c =
    (omega arith, fits_each _ _ _ _ _ c.requires.area_size_in_bounds.2 c.loop-stretch-test.true refl, search rules)

pub loop-stretch-preserved : goal.loop-stretch-preserved
loop-stretch-preserved c =
    next_more _ _ _ _ _ _ _ _ _ _ _ c.min-r.ensures c.after.ensures c.arrival-at.ensures refl c.loop-stretch.invariant

pub returns-clause-bound : goal.returns-clause-bound
returns-clause-bound c = next_bound _ _ _ _ _ _ _ c.requires.s_lt_m c.loop-stretch.invariant
