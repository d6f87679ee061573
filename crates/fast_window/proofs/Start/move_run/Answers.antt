use native.Mathlib.Omega.{arith}
use Rattle.fast_window.specs.MovedLaws.{run_audible, run_moved}
use borrow.Author.Rules.{rules}
use Rattle.fast_window.proofs.Start.move_run.Goals as goal

-- src/lib.rt:62:5
pub advance-requires : goal.advance-requires
advance-requires c =
    (omega arith, omega arith, omega arith, omega arith, omega arith, omega arith, search rules, search run_audible)

-- src/lib.rt:41:1
pub returns-clause-moved : goal.returns-clause-moved
returns-clause-moved c = search run_moved

pub returns-clause-bound : goal.returns-clause-bound
returns-clause-bound c = (omega arith, omega arith)
