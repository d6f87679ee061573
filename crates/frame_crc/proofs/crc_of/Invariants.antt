-- The invariants of `frame_crc::crc_of`.
use Prim.Native.Nat.{◌*◌}
use mathlib.Core.Path.{◌≡◌}
use lib.ListN.{drop}
use Rattle.octets.specs.Bits.{bits_of}
use Rattle.frame_crc.specs.Division.{register, ones}
use Rattle.frame_crc.proofs.crc_of.Given as goal

abbrev pub invariant-loop-eight : goal.invariant-loop-eight
invariant-loop-eight l = register (bits_of (drop (8 * l.eight-index) l.s)) l.c ≡ register (bits_of l.s) ones

abbrev pub invariant-loop-x : goal.invariant-loop-x
invariant-loop-x l = register (bits_of (drop l.x-index l.rest)) l.c ≡ register (bits_of l.s) ones
