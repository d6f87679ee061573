-- The invariants and measures of `fast_heard::nearest`.
use Rattle.octets.specs.Turns.{turns}
use lib.ListN.{get_or}
use mathlib.Core.Path.{◌≡◌}
use Rattle.fast_heard.specs.Hearing.{emits_at, no_near, noted, space_to}
use Rattle.fast_heard.proofs.nearest.Given as goal

abbrev pub invariant-loop-i : goal.invariant-loop-i
invariant-loop-i l =
    l.near ≡ turns (λ s u. noted (emits_at l.area) (space_to l.area l.j) l.j (get_or l.emitting s 0) u) l.i-index no_near
