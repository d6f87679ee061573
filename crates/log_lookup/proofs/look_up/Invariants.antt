-- What holds where a turn begins: some entries are done, and the rest of them lead from s to the state of the whole log.
use Rattle.std.specs.Prelude.{◌≡◌, drop}
use Rattle.log_windows.specs.Grow.{opened_of, over}
use Rattle.log_lookup.proofs.look_up.Given as goal

abbrev pub invariant-loop-e : goal.invariant-loop-e
invariant-loop-e l = over l.windows l.s (drop l.e-index l.log) ≡ over l.windows (opened_of l.n) l.log
