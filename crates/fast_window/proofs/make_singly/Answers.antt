use Rattle.fast_window.specs.WindowLaws.{single_none, single_more, single_end}
use Rattle.bus_spec.specs.RunLaws.{run_first, run_ready, run_clock}
use Rattle.bus_spec.proofs.RunLaws.{run_next}
use mathlib.Core.Path.{refl}
use native.Mathlib.Omega.{arith}
use Rattle.fast_window.proofs.make_singly.Goals as goal

-- src/lib.rt:206:5
pub loop-s-init : goal.loop-s-init
loop-s-init c = (omega arith, refl, search single_none, search run_first)

-- src/lib.rt:207:9
pub step-requires : goal.step-requires
step-requires c = (omega arith, search run_clock, search run_ready)

-- src/lib.rt:206:5
pub loop-s-preserved : goal.loop-s-preserved
loop-s-preserved c = (omega arith, omega arith, search single_more, search run_next)

-- src/lib.rt:201:1
pub returns : goal.returns
returns c = search single_end
