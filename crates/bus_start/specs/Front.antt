-- A fresh start goes into the first octets of an area; the rest stays. Here b is those octets and z the rest. Assumes nothing.
use Prim.Native.Nat.{ℕ, ◌≤◌, ◌<◌}
use Rattle.std.specs.Prelude.{◌≡◌, get_or}
use Rattle.std.proofs.Math.Path.{ap}
use Rattle.std.proofs.Common.{◌∙◌, arith}
use mathlib.Core.List.{List, [], ◌∷◌, ◌++◌}
use Rattle.std.proofs.Math.ListN.{length}
use Rattle.std.proofs.Math.Seq.{sets, length-sets}
use Rattle.octets.specs.Number.{put}
use Rattle.octets.specs.NumberLaws.{length_put}
use Rattle.octets.specs.Turns.{length_turns, blanked, length_blanked}
use Rattle.octets.specs.Words.{put_words}
use Rattle.octets.specs.WordsLaws.{length_put_words}
use Rattle.sheet_layout.specs.Limits.{max_stations, max_draws}
use Rattle.sheet_layout.specs.declared.Tap.{Tap}
use Rattle.sheet_layout.specs.declared.Layout.{Layout}
use Rattle.area.specs.Offsets.{area_size, from, the_depth, the_layout, address_from, draw_from, tap_from}
use Rattle.area.specs.Front.{sets_front, put_front, words_front, turns_front, blanked_front}
use Rattle.bus_start.specs.Fresh.{with_figures, with_tap, tap_in, with_taps, with_depth, with_draw, with_row, with_draws}
use Rattle.bus_start.specs.Fresh.{with_plan, fresh}
use Rattle.bus_start.specs.FreshLaws.{Formed}

module _ (z : List ℕ) where
  length_tap : (p : ℕ) (d : List ℕ) (i : ℕ) (b : List ℕ) → length (with_tap p d i b) ≡ length b
  unfolding with_tap
  length_tap p d i b = length-sets (put 4 b (tap_from i) p) (address_from i) d ∙ length_put 4 b (tap_from i) p

  length_taps : (ts : List Tap) (n : ℕ) (b : List ℕ) → length (with_taps ts n b) ≡ length b
  unfolding with_taps
  length_taps ts n b =
      length_turns (λ i x. with_tap (tap_in ts i).position (tap_in ts i).address i x) n b
      (λ i x. length_tap (tap_in ts i).position (tap_in ts i).address i x)

  length_row : (row : List ℕ) (i d : ℕ) (b : List ℕ) → length (with_row row i d b) ≡ length b
  unfolding with_row with_draw
  length_row row i d b =
      length_turns (λ k x. with_draw i k (get_or row k 0) x) d b (λ k x. length_put 2 x (draw_from i k) (get_or row k 0))

  tap_put_lem : (p : ℕ) (d : List ℕ) (i : ℕ) (b : List ℕ) → area_size ≤ length b → i < max_stations → length d ≡ 6
      → with_tap p d i (b ++ z) ≡ with_tap p d i b ++ z
  unfolding with_tap
  tap_put_lem p d i b big hi six =
      ap (λ (l : List ℕ). sets l (address_from i) d) (put_front z 4 b (tap_from i) p (omega arith))
      ∙ sets_front z d (put 4 b (tap_from i) p) (address_from i) (omega (arith, length_put 4 b (tap_from i) p))

  taps_put_lem : (ts : List Tap) (n : ℕ) (b : List ℕ) → area_size ≤ length b → n ≤ max_stations → Formed ts n
      → with_taps ts n (b ++ z) ≡ with_taps ts n b ++ z
  unfolding with_taps
  taps_put_lem ts n b big hn formed =
      turns_front z _ _ n b big
      (λ i x h l. tap_put_lem (tap_in ts i).position (tap_in ts i).address i x l (omega arith) (formed i h))
      (λ i x. length_tap (tap_in ts i).position (tap_in ts i).address i x)

  row_put : (row : List ℕ) (i d : ℕ) (b : List ℕ) → area_size ≤ length b → i < max_stations → d ≤ max_draws
      → with_row row i d (b ++ z) ≡ with_row row i d b ++ z
  unfolding with_row with_draw
  row_put row i d b big hi hd =
      turns_front z _ _ d b big
      (λ k x h l. put_front z 2 x (draw_from i k) (get_or row k 0) (omega arith))
      (λ k x. length_put 2 x (draw_from i k) (get_or row k 0))

  draws_put : (ds : List (List ℕ)) (n d : ℕ) (b : List ℕ) → area_size ≤ length b → n ≤ max_stations → d ≤ max_draws
      → with_draws ds n d (b ++ z) ≡ with_draws ds n d b ++ z
  unfolding with_draws
  draws_put ds n d b big hn hd =
      turns_front z _ _ n b big
      (λ i x h l. row_put (get_or ds i []) i d x l (omega arith) hd)
      (λ i x. length_row (get_or ds i []) i d x)

  pub fresh_front : (y : Layout) (d : ℕ) (ds : List (List ℕ)) (b : List ℕ) → area_size ≤ length b
      → y.count ≤ max_stations → d ≤ max_draws → Formed y.stations y.count
      → fresh y d ds (b ++ z) ≡ fresh y d ds b ++ z
  unfolding fresh with_plan with_figures with_depth
  fresh_front y d ds b big hn hd formed =
      let n = y.count in
      let f = y.figures in
      let ws = f.slot ∷ f.gap1 ∷ f.gap2 ∷ f.jam ∷ f.limit ∷ f.backoff ∷ n ∷ f.ends ∷ [] in
      let x₀ = blanked area_size b in
      let x₁ = put_words 8 x₀ (from the_layout) ws in
      let x₂ = with_taps y.stations n x₁ in
      let x₃ = put 4 x₂ (from the_depth) d in
      let l₀ : length x₀ ≡ length b = length_blanked area_size b in
      let l₁ : length x₁ ≡ length x₀ = length_put_words 8 x₀ (from the_layout) ws in
      let l₂ : length x₂ ≡ length x₁ = length_taps y.stations n x₁ in
      let l₃ : length x₃ ≡ length x₂ = length_put 4 x₂ (from the_depth) d in
      ap (λ (l : List ℕ). with_draws ds n d (put 4 (with_taps y.stations n (put_words 8 l (from the_layout) ws))
      (from the_depth) d)) (blanked_front z area_size b big)
      ∙ ap (λ (l : List ℕ). with_draws ds n d (put 4 (with_taps y.stations n l) (from the_depth) d))
      (words_front z 8 x₀ (from the_layout) ws (omega arith))
      ∙ ap (λ (l : List ℕ). with_draws ds n d (put 4 l (from the_depth) d))
      (taps_put_lem y.stations n x₁ (omega arith) hn formed)
      ∙ ap (λ (l : List ℕ). with_draws ds n d l) (put_front z 4 x₂ (from the_depth) d (omega arith))
      ∙ draws_put ds n d x₃ (omega arith) hn hd
