-- `log_octets::any_unknown` meets its contract: the first k entries' events each stand for something.
use Rattle.std.proofs.Common.{◌≡◌, false}
use Rattle.octets.specs.Base.{some}
use Rattle.log_octets.specs.Octets.{unknown_at}
use Rattle.log_octets.proofs.any_unknown.Given as goal

abbrev pub invariant-loop-k : goal.invariant-loop-k
invariant-loop-k l = some (unknown_at l.log) l.k ≡ false
