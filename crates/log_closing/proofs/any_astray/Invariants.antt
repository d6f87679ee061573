-- `log_closing::any_astray` meets its contract. Assumes nothing.
use mathlib.Core.Path.{◌≡◌}
use mathlib.Core.Bool.{false}
use Rattle.octets.specs.Base.{some}
use Rattle.log_entry.specs.Log.{astray_window}
use Rattle.log_closing.proofs.any_astray.Given as goal

abbrev pub invariant-loop-w : goal.invariant-loop-w
invariant-loop-w l = some (astray_window l.n l.windows) l.w ≡ false
