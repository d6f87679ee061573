-- `log_windows::add_all` meets its contract. Assumes nothing.
use mathlib.Core.Path.{◌≡◌}
use Rattle.octets.specs.Turns.{turns}
use Rattle.log_entry.specs.Log.{word_of}
use Rattle.log_windows.specs.Grow.{added}
use Rattle.log_windows.proofs.add_all.Given as goal

abbrev pub invariant-loop-w : goal.invariant-loop-w
invariant-loop-w l =
    l.counts ≡ turns (λ v x. added l.windows l.e.time l.e.station (word_of l.e.event) v x) l.w l.initial.counts
