-- `bus_quick::heard::turn` meets its contract. Assumes nothing.
use Rattle.bus_quick.specs.Quick.{not_taken}
use Rattle.bus_quick.proofs.heard.turn.Goals as goal

pub returns-then-code-eq0 : goal.returns-then-code-eq0
returns-then-code-eq0 c = search not_taken
