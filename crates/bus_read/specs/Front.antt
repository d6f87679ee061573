-- A reading on an area that is longer than it has to be is that of its first octets. Here b is those octets and z the rest.
-- Assumes nothing.
use Prim.Native.Nat.{ℕ, ◌≤◌, ◌<◌}
use Rattle.std.specs.Prelude.{◌≡◌, leb, eqb}
use Rattle.std.proofs.Common.{arith}
use mathlib.Core.List.{List, ◌++◌}
use borrow.Author.Tests.{eqb-true, leb-false}
use Rattle.std.proofs.Math.ListN.{length}
use Rattle.octets.specs.BaseLaws.{by_test}
use Rattle.sheet_layout.specs.Limits.{max_stations}
use Rattle.area.specs.Offsets.{area_size}
use Rattle.area.specs.Area.{count_at}
use Rattle.area.specs.Front.{count_front, station_front, buffer_front}
use Rattle.area_check.specs.Valid.{area_refusal}
use Rattle.area_check.specs.Front.{refusal_front, few_stations}
use Rattle.bus_read.specs.Read.{frame_read}

module _ (z b : List ℕ) (big : area_size ≤ length b) where
  pub frame_read_front : (i : ℕ) (out : List ℕ) → frame_read (b ++ z) i out ≡ frame_read b i out
  unfolding frame_read
  frame_read_front i out =
      rw (refusal_front z b big, count_front z b big)
      (by_test (eqb (area_refusal b) 0)
      (λ e. rw e (by_test (leb (count_at b) i)
      (λ c. rw c)
      (λ c. let few = few_stations b (eqb-true (area_refusal b) 0 e) in
      let hi : i < max_stations = omega (arith, few, leb-false (count_at b) i c) in
      rw (c, station_front z b big i hi, buffer_front z b big i hi))))
      (λ e. rw e))
