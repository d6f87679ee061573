-- `bus_quick::heard::count_down` meets its contract. Assumes nothing.
use Rattle.bus_quick.specs.Quick.{down_one, down_none}
use native.Mathlib.Omega.{arith}
use Rattle.bus_quick.proofs.heard.count_down.Goals as goal

pub overflow_sub-k : goal.overflow_sub-k
overflow_sub-k c =
    omega (
      arith,
      c.requires.2
          c.if-c-eq2.true,
      c.read_word-k.ensures,
    )

pub returns-then-c-eq2 : goal.returns-then-c-eq2
returns-then-c-eq2 c = search down_one

pub returns-else-c-eq2 : goal.returns-else-c-eq2
returns-else-c-eq2 c = search down_none
