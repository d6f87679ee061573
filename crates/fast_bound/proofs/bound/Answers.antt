-- `fast_bound::bound` meets its contract. Assumes nothing.
use borrow.Author.Rules.{rules}
use native.Mathlib.Omega.{arith}
use Rattle.fast_bound.specs.WindowLaws.{read_gap, all_calm, all_last}
use Rattle.fast_bound.proofs.bound.Goals as goal

pub bound_among-most-requires : goal.bound_among-most-requires
bound_among-most-requires c = (omega arith, omega arith, omega arith, search read_gap, search rules, search rules)

pub bound_among-requires : goal.bound_among-requires
bound_among-requires c = (omega arith, omega arith, omega arith, search read_gap, search rules, search rules)

pub returns-clause-calm : goal.returns-clause-calm
returns-clause-calm c = search all_calm

pub returns-clause-last : goal.returns-clause-last
returns-clause-last c = search all_last
