-- `bus_spec::medium::push` meets its contract. Assumes nothing.
use Prim.Native.Nat.{◌≤◌}
use mathlib.Core.Path.{◌≡◌}
use lib.ListN.{length}
use Rattle.octets.specs.Turns.{turns}
use Rattle.bus_spec.specs.Medium.{code_to}
use Rattle.bus_spec.proofs.medium.push.Given as goal

abbrev pub invariant-loop-j : goal.invariant-loop-j
invariant-loop-j l =
    (l.j ≤ l.n) × (length l.area ≡ length l.initial.area) × (l.area ≡ turns (code_to l.t l.i l.code) l.j l.initial.area)
