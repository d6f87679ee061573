-- `bus_run::run_steps` meets its contract. Assumes nothing.
use borrow.Author.Rules.{rules}
use native.Mathlib.Omega.{arith}
use mathlib.Core.Path.{refl}
use Rattle.bus_spec.specs.RunLaws.{none_late_first, none_late_more, run_first, run_zero, run_end_lem}
use Rattle.station_tally.specs.TallyLaws.{zero_bounded}
use Rattle.bus_run.specs.AdvanceLaws.{advance_runs, run_goes_on, run_stops, run_bounded}
use Rattle.bus_run.proofs.run_steps.Goals as goal

pub steps-init : goal.steps-init
steps-init g c = (omega arith, refl, refl, refl, search run_first, search zero_bounded, search run_zero)

pub loop-i-init : goal.loop-i-init
loop-i-init g c = (search rules, search none_late_first)

pub steps-preserved : goal.steps-preserved
steps-preserved g c =
    (omega arith, omega arith, omega arith, search rules, search advance_runs, search run_bounded, search run_goes_on)

pub loop-i-preserved : goal.loop-i-preserved
loop-i-preserved g c = (search rules, search none_late_more)

pub returns-after-steps : goal.returns-after-steps
returns-after-steps g c = search run_end_lem

pub returns-then-ends_run : goal.returns-then-ends_run
returns-then-ends_run g c = search run_stops
