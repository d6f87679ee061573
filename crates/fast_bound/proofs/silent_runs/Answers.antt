-- `fast_bound::silent_runs` meets its contract. Assumes nothing.
use native.Mathlib.Omega.{arith}
use Rattle.fast_bound.specs.WindowLaws.{calm_end, under_again, calm_on}
use Rattle.fast_bound.proofs.silent_runs.Goals as goal

pub returns-then-next-len-clause-calm : goal.returns-then-next-len-clause-calm
returns-then-next-len-clause-calm c = search calm_on

pub loop-s-preserved : goal.loop-s-preserved
loop-s-preserved c = (omega arith, omega arith, search under_again)

pub returns-clause-calm : goal.returns-clause-calm
returns-clause-calm c = search calm_end
