-- The invariants and measures of `fast_check::none_of`.
use Rattle.fast_check.specs.Frameless.{NoneOf}
use Rattle.fast_check.proofs.none_of.Given as goal

abbrev pub invariant-loop-stretch : goal.invariant-loop-stretch
invariant-loop-stretch l = NoneOf l.list l.stretch-index l.j
