-- `fast_bound::station_bound` meets its contract. Assumes nothing.
use native.Mathlib.Omega.{arith}
use borrow.Author.Rules.{rules}
use Rattle.fast_bound.specs.WindowLaws.{if_other, if_calm, emits_same, silent_same}
use Rattle.fast_bound.proofs.station_bound.Goals as goal

pub returns-then-is_emitter-emits-clause-calm : goal.returns-then-is_emitter-emits-clause-calm
returns-then-is_emitter-emits-clause-calm c = search if_other

pub emit_bound-requires : goal.emit_bound-requires
emit_bound-requires c = (omega arith, omega arith, omega arith, search rules, search emits_same)

pub returns-then-emits-clause-calm : goal.returns-then-emits-clause-calm
returns-then-emits-clause-calm c = search if_calm

pub silent_bound-requires : goal.silent_bound-requires
silent_bound-requires c = (omega arith, omega arith, omega arith, omega arith, search rules, search silent_same)

pub returns-clause-calm : goal.returns-clause-calm
returns-clause-calm c = search if_calm
