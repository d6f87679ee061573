-- `report_whole::rest_fits` meets its contract. Assumes nothing.
use Rattle.report_whole.specs.PartLaws.{may_advance, along_more, along_less}
use Rattle.report_whole.specs.PrintLaws.{along_over, fits_all}
use native.Mathlib.Omega.{arith}
use Rattle.report_whole.proofs.rest_fits.Goals as goal

pub next-p-requires : goal.next-p-requires
next-p-requires c = (search may_advance, omega arith)

pub returns-then-room-at : goal.returns-then-room-at
returns-then-room-at c = search along_over

pub loop-g-smaller : goal.loop-g-smaller
loop-g-smaller c = search along_less

pub loop-g-preserved : goal.loop-g-preserved
loop-g-preserved c = (search along_more, omega arith, omega arith, omega arith)

pub returns : goal.returns
returns c = search fits_all
