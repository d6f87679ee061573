-- `bus_quick::heard::receive_on` meets its contract. Assumes nothing.
use Rattle.bus_quick.specs.Quick.{received_seeks, received_collects}
use native.Mathlib.Omega.{arith}
use Rattle.bus_quick.proofs.heard.receive_on.Goals as goal

pub seek_on-requires : goal.seek_on-requires
seek_on-requires c = (omega arith, omega arith, c.requires.3 c.if-r-eq2.true)

pub returns-then-r-eq2 : goal.returns-then-r-eq2
returns-then-r-eq2 c = search received_seeks

pub returns : goal.returns
returns c = search received_collects
