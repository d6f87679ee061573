-- `bus_spec::medium::push` meets its contract. Assumes nothing.
use native.Mathlib.Omega.{arith}
use mathlib.Core.Path.{refl}
use Rattle.octets.specs.Turns.{turns_none}
use Rattle.bus_spec.specs.MediumLaws.{push_none, push_more}
use Rattle.bus_spec.proofs.MediumLaws.{push_position, push_all}
use Rattle.bus_spec.proofs.medium.push.Goals as goal

pub returns-then-code-eq0 : goal.returns-then-code-eq0
returns-then-code-eq0 c = search push_none

pub loop-j-init : goal.loop-j-init
loop-j-init c = (omega arith, refl, search turns_none)

pub send_to-requires : goal.send_to-requires
send_to-requires c = (omega arith, omega arith, omega arith, omega arith, search push_position)

pub loop-j-preserved : goal.loop-j-preserved
loop-j-preserved c = (
  omega arith,
  omega arith,
  push_more _ _ _ _ _ _ _ c.send_to.ensures
      c.loop-j.invariant.2,
)

pub returns : goal.returns
returns c = search push_all
