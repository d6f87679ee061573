-- Laws for the code of a jump. Assumes nothing.
use Rattle.std.specs.Prelude.{ℕ, ◌+◌, ◌≤◌, ◌<◌, ◌≡◌, length}
use Rattle.std.proofs.Math.Path.{ap}
use Rattle.std.proofs.Common.{◌∙◌, arith}
use mathlib.Core.List.{List}
use Rattle.octets.specs.Turns.{turns_none, turns_more, turns_end}
use Rattle.sheet_layout.specs.declared.Figures.{Figures}
use Rattle.station_state.specs.declared.Station.{Station}
use Rattle.area.specs.Places.{layout, station}
use Rattle.area.specs.Area.{figures_at, station_at, with_station}
use Rattle.area.specs.AreaLaws.{station_by}
use Rattle.fast_silence.specs.Rested.{rested}
use Rattle.fast_silence.specs.Jump.{rested_all}
use Rattle.fast_silence.proofs.Jump.{rested_length, rested_keeps}
use Rattle.sheet_layout.specs.Limits.{max_stations}
use Rattle.area.specs.Offsets.{area_size}

module _ (a : List ℕ) (m : ℕ) where
  -- a station that is not written yet is as it was
  still_there : (k : ℕ) → k < max_stations → area_size ≤ length a → station_at (rested_all a m k a) k ≡ station_at a k
  still_there k hk room =
      station_by (rested_all a m k a) a k hk (omega (arith, rested_length a m k)) room
      (rested_keeps a m layout k (λ i h p q. omega arith)) (rested_keeps a m (station k) k (λ i h p q. omega arith))

  pub all_none : a ≡ rested_all a m 0 a
  unfolding rested_all
  all_none = turns_none _ a

  pub all_more : (k c : ℕ) (x b : List ℕ) (s n : Station) (f : Figures) → k < c → c ≤ max_stations → area_size ≤ length a
      → x ≡ rested_all a m k a → f ≡ figures_at a → s ≡ station_at x k → n ≡ rested f m s → b ≡ with_station x k n
      → b ≡ rested_all a m (k + 1) a
  unfolding rested_all
  all_more k c x b s n f hk few room e ef es en eb =
      turns_more (λ i y. with_station y i (rested (figures_at a) m (station_at a i))) k a x b
      (eb ∙ ap (with_station x k)
      (en ∙ ap (λ (g : Figures). rested g m s) ef ∙ ap (rested (figures_at a) m)
      (es ∙ ap (λ (y : List ℕ). station_at y k) e ∙ still_there k (omega arith) room))) e

  pub all_end : (n k : ℕ) (x : List ℕ) → k ≤ n → n ≤ k → x ≡ rested_all a m k a → x ≡ rested_all a m n a
  unfolding rested_all
  all_end n k x h g e = turns_end _ n k a x h g e
