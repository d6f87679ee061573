-- `bus_spec::course::count_events` meets its contract. Assumes nothing.
use native.Mathlib.Omega.{arith}
use mathlib.Core.Path.{refl}
use Rattle.bus_spec.specs.RunLaws.{tally_none, tally_more, tally_end}
use Rattle.station_tally.specs.TallyLaws.{start_bounded, sent_bounded, got_bounded}
use Rattle.bus_spec.proofs.course.count_events.Goals as goal

pub loop-i-init : goal.loop-i-init
loop-i-init c = (omega arith, refl, search tally_none, search start_bounded)

pub count_got-requires : goal.count_got-requires
count_got-requires c = (omega arith, search sent_bounded, omega arith)

pub loop-i-preserved : goal.loop-i-preserved
loop-i-preserved c = (omega arith, omega arith, search tally_more, search got_bounded)

pub returns : goal.returns
returns c = search tally_end
