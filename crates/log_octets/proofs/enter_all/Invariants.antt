-- `log_octets::enter_all` meets its contract: k entries are done, and the rest of them lead from s to the state of all.
use Rattle.std.proofs.Common.{◌≡◌, ◌/◌, length}
use Rattle.log_windows.specs.Grow.{over}
use Rattle.log_octets.specs.Octets.{entries_of}
use Rattle.log_octets.specs.OctetsLaws.{left_of}
use Rattle.log_octets.proofs.enter_all.Given as goal

abbrev pub invariant-loop-k : goal.invariant-loop-k
invariant-loop-k l = left_of l.windows l.s l.log (length l.log / 6) l.k ≡ over l.windows l.initial.s (entries_of l.log)
