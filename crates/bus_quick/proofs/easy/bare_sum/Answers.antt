-- `bus_quick::easy::bare_sum` meets its contract. Assumes nothing.
use Rattle.bus_quick.specs.Easy.{sum_is}
use Rattle.bus_quick.proofs.easy.bare_sum.Goals as goal

pub returns-clause-value : goal.returns-clause-value
returns-clause-value c = search sum_is
