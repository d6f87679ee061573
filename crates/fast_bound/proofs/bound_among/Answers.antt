-- `fast_bound::bound_among` meets its contract. Assumes nothing.
use native.Mathlib.Omega.{arith}
use Rattle.fast_bound.specs.WindowLaws.{among_none, among_zero, among_more, near_seen}
use Rattle.fast_bound.proofs.bound_among.Goals as goal

pub loop-j-init : goal.loop-j-init
loop-j-init c = (omega arith, search among_none)

pub returns-then-left-lt-LEAST-clause-calm : goal.returns-then-left-lt-LEAST-clause-calm
returns-then-left-lt-LEAST-clause-calm c = search among_zero

pub station_bound-left-requires : goal.station_bound-left-requires
station_bound-left-requires c = (omega arith, omega arith, omega arith, omega arith, search near_seen)

pub loop-j-preserved : goal.loop-j-preserved
loop-j-preserved c = (omega arith, search among_more)
