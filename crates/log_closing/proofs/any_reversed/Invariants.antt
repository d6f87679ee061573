-- `log_closing::any_reversed` meets its contract. Assumes nothing.
use mathlib.Core.Path.{◌≡◌}
use mathlib.Core.Bool.{false}
use Rattle.octets.specs.Base.{some}
use Rattle.log_entry.specs.Log.{reversed_window}
use Rattle.log_closing.proofs.any_reversed.Given as goal

abbrev pub invariant-loop-w : goal.invariant-loop-w
invariant-loop-w l = some (reversed_window l.windows) l.w ≡ false
