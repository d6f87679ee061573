-- The invariants and measures of `fast_heard::sights`.
use Rattle.octets.specs.Filled.{filled}
use mathlib.Core.Path.{◌≡◌}
use Rattle.fast_heard.specs.Sights.{sight_of, unseen}
use Rattle.fast_heard.proofs.sights.Given as goal

abbrev pub invariant-loop-j : goal.invariant-loop-j
invariant-loop-j l = l.all ≡ filled unseen (sight_of l.area l.n) l.j
