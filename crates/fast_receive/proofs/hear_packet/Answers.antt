-- `fast_receive::hear_packet` meets its contract. Assumes nothing.
use native.Mathlib.Omega.{arith}
use Rattle.fast_receive.specs.CodeLaws.{all_none, all_end, join}
use Rattle.fast_receive.proofs.hear_packet.Goals as goal

pub loop-s-init : goal.loop-s-init
loop-s-init c = (omega arith, search all_none, omega arith, omega arith)

pub loop-s-preserved : goal.loop-s-preserved
loop-s-preserved c = (omega arith, search join, omega arith, omega arith)

pub returns-clause-heard : goal.returns-clause-heard
returns-clause-heard c = search all_end

pub returns-clause-range : goal.returns-clause-range
returns-clause-range c = (omega arith, omega arith)
