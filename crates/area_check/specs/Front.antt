-- Checks 1 and 2 look at the first octets of an area alone. Here b is those octets and z the rest. Assumes nothing.
use Prim.Native.Nat.{ℕ, ◌≤◌, ◌<◌}
use Rattle.std.specs.Prelude.{◌≡◌, eqb}
use Rattle.std.proofs.Math.Path.{ap}
use Rattle.std.proofs.Common.{arith}
use mathlib.Core.List.{List, ◌++◌}
use borrow.Author.Tests.{le-ltb, eqb-true}
use Rattle.std.proofs.Math.Dec.{ltb}
use Rattle.std.proofs.Math.ListN.{length}
use Rattle.octets.specs.Base.{some}
use Rattle.octets.specs.BaseLaws.{by_test, some_same}
use Rattle.sheet_layout.specs.Limits.{max_stations}
use Rattle.sheet_layout.specs.Check.{refusal_of}
use Rattle.sheet_layout.specs.CheckLaws.{sound}
use Rattle.frame_build.specs.Limits.{min_frame}
use Rattle.area.specs.Offsets.{area_size, ring}
use Rattle.area.specs.Area.{count_at, layout_at, max_code}
use Rattle.area.specs.AreaLaws.{symbol_by}
use Rattle.area.specs.Front.{long, place_front, figures_front, depth_front, clock_front, count_front, layout_front}
use Rattle.area.specs.Front.{record_front, frame_front, buffer_front}
use Rattle.area_check.specs.AreaCheckLaws.{passes_layout}
use Rattle.area_check.specs.Valid.{symbol_wrong, held_wrong, readable_wrong, station_wrong, area_wrong, area_refusal}

module _ (z b : List ℕ) (big : area_size ≤ length b) where
  module _ (i : ℕ) (hi : i < max_stations) where
    symbols_front : some (symbol_wrong (b ++ z) i) ring ≡ some (symbol_wrong b i) ring
    unfolding symbol_wrong
    symbols_front =
        some_same (symbol_wrong (b ++ z) i) (symbol_wrong b i) ring
        (λ u h. ap (λ (c : ℕ). ltb max_code c) (symbol_by (b ++ z) b i u (place_front z b big i u hi)))

    wrong_station_front : station_wrong (b ++ z) i ≡ station_wrong b i
    unfolding station_wrong held_wrong readable_wrong
    wrong_station_front =
        rw (
          figures_front z b big,
          depth_front z b big,
          clock_front z b big,
          record_front z b big i hi,
          frame_front z b big i hi min_frame (omega arith),
          buffer_front z b big i hi,
          symbols_front,
        )

  few : refusal_of (layout_at b) ≡ 0 → count_at b ≤ max_stations
  unfolding layout_at
  few e = (sound (layout_at b) e).count.1

  pub wrong_front : area_wrong (b ++ z) ≡ area_wrong b
  unfolding area_wrong
  wrong_front =
      rw (layout_front z b big, depth_front z b big, clock_front z b big, count_front z b big)
      (by_test (eqb (refusal_of (layout_at b)) 0)
      (λ e. let n = few (eqb-true (refusal_of (layout_at b)) 0 e) in
      let w : some (station_wrong (b ++ z)) (count_at b) ≡ some (station_wrong b) (count_at b) =
      some_same (station_wrong (b ++ z)) (station_wrong b) (count_at b) (λ i h. wrong_station_front i (omega arith)) in
      rw w)
      (λ e. rw e))

  pub refusal_front : area_refusal (b ++ z) ≡ area_refusal b
  unfolding area_refusal
  refusal_front =
      rw (le-ltb (length (b ++ z)) area_size (long z b big), le-ltb (length b) area_size big, wrong_front)

-- an area that passes has so many stations at most
pub few_stations : (b : List ℕ) → area_refusal b ≡ 0 → count_at b ≤ max_stations
unfolding layout_at
few_stations b e = (passes_layout b e).count.1
