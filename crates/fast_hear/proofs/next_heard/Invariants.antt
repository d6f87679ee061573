-- The invariants and measures of `fast_hear::next_heard`.
use mathlib.Core.Path.{◌≡◌}
use Rattle.area.specs.Area.{space_at}
use Rattle.fast_list.specs.Reaching.{next_in}
use Rattle.fast_hear.specs.Listed.{list_of}
use Rattle.fast_hear.proofs.next_heard.Given as goal

abbrev pub invariant-loop-stretch : goal.invariant-loop-stretch
invariant-loop-stretch l = l.r ≡ next_in (space_at l.area) (list_of l.list l.stretch-index) l.j l.s l.m
