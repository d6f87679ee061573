-- `fast_advance::until::until_event` meets its contract. Assumes nothing.
use native.Mathlib.Omega.{arith}
use mathlib.Core.Path.{refl}
use Rattle.bus_spec.specs.RunLaws.{run_first}
use Rattle.bus_spec.specs.UntilLaws.{stretch_first}
use Rattle.bus_run.specs.AdvanceLaws.{advance_runs}
use Rattle.fast_advance.specs.AdvanceLaws.{until_hit, until_on}
use Rattle.fast_advance.specs.OnwardLaws.{onward_end}
use Rattle.fast_advance.proofs.until.until_event.Goals as goal

pub loop-t-init : goal.loop-t-init
loop-t-init c = (omega arith, refl, search run_first, search stretch_first)

pub is_eventful-requires : goal.is_eventful-requires
is_eventful-requires c = tt

pub returns-then-is_eventful : goal.returns-then-is_eventful
returns-then-is_eventful c = search until_hit

pub loop-t-preserved : goal.loop-t-preserved
loop-t-preserved c = (omega arith, omega arith, search advance_runs, search until_on)

pub eventless-requires : goal.eventless-requires
eventless-requires c = tt

pub returns : goal.returns
returns c =
    onward_end _ _ _ _ _ _ c.loop-t.invariant.3 c.loop-t-test.false c.eventless.ensures.steps
    c.eventless.ensures.events
