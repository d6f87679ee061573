-- `bus_quick::easy::hearing` meets its contract. Assumes nothing.
use Rattle.bus_quick.specs.Easy.{plain_found}
use Rattle.bus_quick.specs.Quick.{not_taken}
use native.Mathlib.Omega.{arith}
use borrow.Author.Rules.{rules}
use Rattle.bus_quick.proofs.easy.hearing.Goals as goal

pub turn-requires : goal.turn-requires
turn-requires c = (omega arith, omega arith, omega arith, omega arith, search rules, search plain_found)

pub returns : goal.returns
returns c = search not_taken
