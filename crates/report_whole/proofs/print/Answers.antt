-- `report_whole::print` meets its contract. Assumes nothing.
use Rattle.report_whole.specs.PrintLaws.{print_short, print_over, print_room, print_whole}
use native.Mathlib.Omega.{arith}
use borrow.Author.Rules.{rules}
use Rattle.std.proofs.Common.{ap}
use mathlib.Core.Bool.{not}
use Rattle.report_whole.proofs.print.Goals as goal

pub returns-then-area-lt-AREA : goal.returns-then-area-lt-AREA
returns-then-area-lt-AREA c = search print_short

pub returns-then-not-fits : goal.returns-then-not-fits
returns-then-not-fits c = print_over _ _ _ (omega arith) _ c.fits.ensures (ap not c.if-not-fits.true)

pub store_run-requires : goal.store_run-requires
store_run-requires c =
    (search rules, print_room _ _ _ c.fits.ensures (ap not c.if-not-fits.false))

pub returns : goal.returns
returns c =
    print_whole _ _ _ (omega arith) _
    c.fits.ensures _ _ _
    (ap not c.if-not-fits.false)
    c.store_run.ensures.end
    c.store_run.ensures.text
    c.store_run.ensures.area
