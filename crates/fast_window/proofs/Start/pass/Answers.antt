use native.Mathlib.Omega.{arith}
use Rattle.fast_window.specs.MovedLaws.{begins_gap}
use Rattle.fast_window.specs.WindowLaws.{seen_few, seen_read, seen_begins, seen_sighted, lasting, pass_none, single_runs, pass_least, pass_some}
use borrow.Author.Rules.{rules}
use Rattle.fast_window.proofs.Start.pass.Goals as goal

pub is_worth-requires : goal.is_worth-requires
is_worth-requires c = (omega arith, omega arith, search begins_gap)

pub returns-then-not-is_worth : goal.returns-then-not-is_worth
returns-then-not-is_worth c = search pass_none

pub bound-r-requires : goal.bound-r-requires
bound-r-requires c = (search seen_few, omega arith, omega arith, search seen_read, search seen_sighted)

pub returns-then-r-lt-LEAST : goal.returns-then-r-lt-LEAST
returns-then-r-lt-LEAST c = search pass_none

pub make_singly-requires : goal.make_singly-requires
make_singly-requires c = (omega arith, search single_runs)

pub returns-then-r-lt-SHORT : goal.returns-then-r-lt-SHORT
returns-then-r-lt-SHORT c = search pass_least

pub make-requires : goal.make-requires
make-requires c = (search seen_few, omega arith, omega arith, search seen_begins, search seen_sighted, search lasting)

pub returns : goal.returns
returns c = search pass_some
