-- `report_whole::store_rest` meets its contract. Assumes nothing.
use Rattle.report_whole.specs.PartLaws.{may_advance, along_more, along_room, along_less}
use Rattle.report_whole.specs.PrintLaws.{along_store, along_area, along_text, all_place, all_area, all_text}
use native.Mathlib.Omega.{arith}
use Rattle.report_whole.proofs.store_rest.Goals as goal

pub next-p-requires : goal.next-p-requires
next-p-requires c = (search may_advance, omega arith)

pub store-requires : goal.store-requires
store-requires c = search along_store

pub overflow_add-at : goal.overflow_add-at
overflow_add-at c =
    omega (
      arith,
      along_room _ _ _ _ _ _ _ _
          c.loop-g.invariant.0 c.loop-g-test.true c.next-p.ensures.size c.next-p.ensures.piece,
    )

pub loop-g-smaller : goal.loop-g-smaller
loop-g-smaller c = search along_less

pub loop-g-preserved : goal.loop-g-preserved
loop-g-preserved c = (search along_more, omega arith, omega arith, omega arith, search along_area, search along_text)

pub returns-clause-end : goal.returns-clause-end
returns-clause-end c = search all_place

pub returns-clause-text : goal.returns-clause-text
returns-clause-text c = search all_text

pub returns-clause-area : goal.returns-clause-area
returns-clause-area c = search all_area
