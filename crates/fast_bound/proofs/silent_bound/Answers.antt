-- `fast_bound::silent_bound` meets its contract. Assumes nothing.
use native.Mathlib.Omega.{arith}
use Rattle.fast_bound.specs.WindowLaws.{calm_zero, bits_room, under_start, start_bits}
use borrow.Author.Rules.{rules}
use Rattle.fast_bound.proofs.silent_bound.Goals as goal

pub returns-then-station-clause-calm : goal.returns-then-station-clause-calm
returns-then-station-clause-calm c = search calm_zero

pub may_report-reports-requires : goal.may_report-reports-requires
may_report-reports-requires c = (omega arith, omega arith, search bits_room)

pub silent_runs-requires : goal.silent_runs-requires
silent_runs-requires c = (
  omega arith,
  omega arith,
  omega arith,
  omega arith,
  search rules,
  search rules,
  search start_bits,
  search under_start,
)
