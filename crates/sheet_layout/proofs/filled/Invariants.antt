-- `sheet_layout::filled` meets its contract. Assumes nothing.
use Rattle.std.proofs.Common.{◌≡◌, ℕ, ◌<◌}
use Rattle.octets.specs.Filled.{filled}
use Rattle.sheet_layout.proofs.filled.Given as goal

abbrev pub invariant-loop-i : goal.invariant-loop-i
invariant-loop-i g l =
    (t : ℕ → _) → ((i : ℕ) (x : _) → i < l.n → goal.F-post g l.give i x → x ≡ t i) → l.all ≡ filled l.fn.blank t l.i
