-- The invariants and measures of `fast_hear::sound_until`.
use mathlib.Core.Path.{◌≡◌}
use Rattle.area.specs.Area.{space_at}
use Rattle.fast_list.specs.Reaching.{reach_in}
use Rattle.fast_hear.specs.Listed.{list_of}
use Rattle.fast_hear.proofs.sound_until.Given as goal

abbrev pub invariant-loop-stretch : goal.invariant-loop-stretch
invariant-loop-stretch l = l.r ≡ reach_in (space_at l.area) (list_of l.list l.stretch-index) l.j l.s
