-- `bus_quick::easy::waits` meets its contract. Assumes nothing.
use Rattle.bus_quick.specs.Easy.{plain_found}
use Rattle.bus_quick.specs.Quick.{not_taken, found}
use native.Mathlib.Omega.{arith}
use borrow.Author.Rules.{rules}
use Rattle.bus_quick.proofs.easy.waits.Goals as goal

pub gaps-requires : goal.gaps-requires
gaps-requires c =
    (omega arith, omega arith, plain_found _ _ _ c.is_plain.ensures c.if-is_plain.true)

pub gap_on-requires : goal.gap_on-requires
gap_on-requires c = (
  omega arith,
  omega arith,
  search rules,
  omega arith,
  search rules,
  plain_found _ _ _
      c.is_plain.ensures
      c.if-is_plain.true,
  found _ _ c.gaps.ensures.value
      c.if-gaps.true,
)

pub backs-requires : goal.backs-requires
backs-requires c = (
  omega arith,
  omega arith,
  plain_found _ _ _ c.is_plain.ensures
      c.if-is_plain.true,
)

pub back_on-requires : goal.back_on-requires
back_on-requires c = (
  omega arith,
  omega arith,
  search rules,
  search rules,
  plain_found _ _ _
      c.is_plain.ensures
      c.if-is_plain.true,
  found _ _
      c.backs.ensures.value c.if-backs.true,
)

pub returns-else-backs : goal.returns-else-backs
returns-else-backs c = search not_taken

pub returns-else-is_plain : goal.returns-else-is_plain
returns-else-is_plain c = search not_taken
