-- `bus_quick::calm` meets its contract. Assumes nothing.
use Rattle.bus_quick.specs.Quick.{calm_none, calm_waits, calm_backs, calm_not}
use Rattle.bus_quick.proofs.calm.Goals as goal

pub returns-then-c-eq0 : goal.returns-then-c-eq0
returns-then-c-eq0 c = search calm_none

pub returns-then-c-eq1 : goal.returns-then-c-eq1
returns-then-c-eq1 c = search calm_waits

pub returns-then-c-eq2 : goal.returns-then-c-eq2
returns-then-c-eq2 c = search calm_backs

pub returns : goal.returns
returns c = search calm_not
