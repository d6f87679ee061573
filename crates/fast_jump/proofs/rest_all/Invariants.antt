-- `fast_jump::rest_all` meets its contract. Assumes nothing.
use mathlib.Core.Path.{◌≡◌}
use Rattle.fast_silence.specs.Jump.{rested_all}
use Rattle.fast_jump.proofs.rest_all.Given as goal

abbrev pub invariant-loop-i : goal.invariant-loop-i
invariant-loop-i l = l.area ≡ rested_all l.initial.area l.m l.i l.initial.area
