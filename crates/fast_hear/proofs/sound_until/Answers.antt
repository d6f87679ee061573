-- `fast_hear::sound_until` meets its contract. Assumes nothing.
use borrow.Author.Rules.{rules}
use native.Mathlib.Omega.{arith}
use mathlib.Core.Path.{refl}
use Rattle.fast_hear.specs.ListedLaws.{fits_each, reach_none, reach_more}
use Rattle.fast_hear.proofs.sound_until.Goals as goal

pub loop-stretch-init : goal.loop-stretch-init
loop-stretch-init c = search reach_none

pub reach-requires : goal.reach-requires
reach-requires c = (omega arith, fits_each _ _ _ _ _ c.requires.2 c.loop-stretch-test.true refl, search rules)

pub loop-stretch-preserved : goal.loop-stretch-preserved
loop-stretch-preserved c = reach_more _ _ _ _ _ _ _ _ _ c.max-r.ensures c.reach.ensures refl c.loop-stretch.invariant
