-- An offer on an area that is longer than it has to be is made in its first octets, and the rest stays. Here b is those octets
-- and z the rest. Assumes nothing.
use Prim.Native.Nat.{ℕ, ◌≤◌, ◌<◌}
use Rattle.std.specs.Prelude.{◌≡◌, leb, eqb}
use Rattle.std.proofs.Math.Path.{ap}
use Rattle.std.proofs.Common.{◌∙◌, arith}
use mathlib.Core.List.{List, ◌++◌}
use borrow.Author.Tests.{eqb-true, leb-false}
use Rattle.std.proofs.Math.ListN.{length}
use Rattle.octets.specs.Base.{beside}
use Rattle.octets.specs.BaseLaws.{by_test}
use Rattle.sheet_layout.specs.Limits.{max_stations}
use Rattle.frame_build.specs.Limits.{refuses_data}
use Rattle.frame_build.specs.Build.{frame_of}
use Rattle.frame_build.specs.BuildLaws.{frame_size, data_within}
use Rattle.area.specs.Offsets.{area_size, frame_room}
use Rattle.area.specs.Area.{count_at, address_at, station_at, with_frame}
use Rattle.area.specs.AreaLaws.{length_station, length_frame}
use Rattle.area.specs.Front.{count_front, address_front, station_front, counters_front, counters_put, station_put_lem, frame_put}
use Rattle.area_check.specs.Valid.{area_refusal}
use Rattle.area_check.specs.Front.{refusal_front, few_stations}
use Rattle.bus_offer.specs.Offer.{holds, offered_station, with_held, with_offered, with_offer, offered}
use Rattle.bus_offer.specs.OfferLaws.{address_six}

module _ (z : List ℕ) where
  held_put : (b : List ℕ) (i n : ℕ) → area_size ≤ length b → i < max_stations
      → with_held (b ++ z) i n ≡ with_held b i n ++ z
  unfolding with_held
  held_put b i n big hi =
      rw (station_front z b big i hi) (station_put_lem z b big i hi (offered_station (station_at b i) n))

  length_held : (b : List ℕ) (i n : ℕ) → length (with_held b i n) ≡ length b
  unfolding with_held
  length_held b i n = length_station b i (offered_station (station_at b i) n)

  counted_offer_put : (b : List ℕ) (i : ℕ) → area_size ≤ length b → i < max_stations
      → with_offered (b ++ z) i ≡ with_offered b i ++ z
  unfolding with_offered
  counted_offer_put b i big hi = rw (counters_front z b big i hi) (counters_put z b big i hi _)

  offer_put : (b : List ℕ) (i : ℕ) (d : List ℕ) (v : ℕ) (x : List ℕ) → area_size ≤ length b → i < max_stations
      → length (frame_of d (address_at b i) v x) ≤ frame_room → with_offer (b ++ z) i d v x ≡ with_offer b i d v x ++ z
  unfolding with_offer
  offer_put b i d v x big hi h =
      let f = frame_of d (address_at b i) v x in
      let x₁ = with_frame b i f in
      let l₁ : length x₁ ≡ length b = length_frame b i f in
      rw (address_front z b big i hi)
      (ap (λ (l : List ℕ). with_offered (with_held l i (length f)) i) (frame_put z b big i hi f h)
      ∙ ap (λ (l : List ℕ). with_offered l i) (held_put x₁ i (length f) (omega arith) hi)
      ∙ counted_offer_put (with_held x₁ i (length f)) i (omega (arith, length_held x₁ i (length f))) hi)

  pub offered_beside : (b : List ℕ) → area_size ≤ length b → (i : ℕ) (d : List ℕ) (v : ℕ) (x : List ℕ) → length d ≡ 6
      → offered (b ++ z) i d v x ≡ beside z (offered b i d v x)
  unfolding offered
  offered_beside b big i d v x six =
      rw (refusal_front z b big, count_front z b big)
      (by_test (eqb (area_refusal b) 0)
      (λ a. rw a (by_test (leb (count_at b) i)
      (λ c. rw c)
      (λ c. let few = few_stations b (eqb-true (area_refusal b) 0 a) in
      let hi : i < max_stations = omega (arith, few, leb-false (count_at b) i c) in
      by_test (refuses_data v (length x))
      (λ e. rw (c, e))
      (λ e. by_test (holds (station_at b i).transmitter)
      (λ h. rw (c, e, station_front z b big i hi, h))
      (λ h. let n = frame_size d (address_at b i) v x six (address_six b i hi big) in
      let w = data_within v (length x) e in
      rw (c, e, station_front z b big i hi, h, offer_put b i d v x big hi (omega arith)))))))
      (λ a. rw a))
