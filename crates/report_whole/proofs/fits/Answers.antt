-- `report_whole::fits` meets its contract. Assumes nothing.
use Rattle.report_whole.specs.PartLaws.{begun_along}
use Rattle.report_whole.specs.PrintLaws.{begun_over}
use native.Mathlib.Omega.{arith}
use Rattle.report_whole.proofs.fits.Goals as goal

pub returns-then-room-p : goal.returns-then-room-p
returns-then-room-p c = search begun_over

pub rest_fits-requires : goal.rest_fits-requires
rest_fits-requires c = (search begun_along, omega arith)
