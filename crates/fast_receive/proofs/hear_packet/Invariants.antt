-- The invariants and measures of `fast_receive::hear_packet`.
use Rattle.station_spec.specs.Receive.{row_in, bits_in, row_limit}
use mathlib.Core.Path.{◌≡◌}
use Prim.Native.Nat.{◌≤◌, ◌<◌, ◌-◌, ◌+◌}
use Rattle.fast_receive.specs.Received.{taken, heard_all, bits_from}
use Rattle.fast_receive.proofs.hear_packet.Given as goal

abbrev pub invariant-loop-s : goal.invariant-loop-s
invariant-loop-s l =
    (l.s ≤ l.m) × (taken l.q l.area ≡ heard_all l.j l.e (bits_from l.frame l.a) l.s (taken l.initial.q l.initial.area))
    × (row_in l.q < row_limit) × (bits_in l.q ≤ bits_in l.initial.q + l.s)

abbrev pub decreases-loop-s : goal.decreases-loop-s
decreases-loop-s l = l.m - l.s
