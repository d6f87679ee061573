-- A work area may be longer than it has to be: what is read there is what its first octets hold, what is written goes into
-- them, and the rest stays. Here b is those first octets and z the rest. Assumes nothing.
use Prim.Native.Nat.{ℕ, zero, suc, ◌+◌, ◌*◌, ◌/◌, ◌%◌, ◌≤◌, ◌<◌}
use Rattle.std.specs.Prelude.{◌≡◌, Bool, get_or, min}
use Rattle.std.proofs.Math.Path.{refl, ap}
use Rattle.std.proofs.Common.{◌∙◌, arith, length-set, length-append}
use mathlib.Core.List.{List, [], ◌∷◌, ◌++◌}
use Rattle.std.proofs.Math.ListN.{length, set, get_or-append}
use Rattle.std.proofs.Math.Seq.{sets, set-append_left}
use Rattle.octets.specs.Filled.{filled, filled_same}
use Rattle.octets.specs.Number.{spelled, put}
use Rattle.octets.specs.NumberLaws.{length_spelled}
use Rattle.octets.specs.Region.{Same}
use Rattle.octets.specs.Turns.{turns, length_turns, blanked, length_blanked}
use Rattle.octets.specs.Words.{put_words}
use Rattle.octets.specs.WordsLaws.{length_put_words}
use Rattle.sheet_layout.specs.Limits.{max_stations}
use Rattle.sheet_layout.specs.Layout.{blank_tap}
use Rattle.frame_build.specs.Limits.{buffer_bits}
use Rattle.station_symbols.specs.declared.Heard.{Heard}
use Rattle.station_state.specs.declared.Station.{Station}
use Rattle.station_state.specs.State.{counter_count}
use Rattle.area_record.specs.Codec.{encoded}
use Rattle.area_record.specs.Words.{record_words}
use Rattle.area.specs.Offsets.{area_size, ring, frame_room, Piece, from, width, the_clock, the_depth, the_layout}
use Rattle.area.specs.Offsets.{the_counters, the_station, the_line, the_frame, the_buffer}
use Rattle.area.specs.Places.{piece, place, layout, Keeps}
use Rattle.area.specs.Area.{clock_at, with_clock, depth_at, figures_at, count_at, tap_at, address_at, layout_at}
use Rattle.area.specs.Area.{counters_at, with_counters, record_at, station_at, with_station, frame_at, with_frame, buffer_at}
use Rattle.area.specs.Area.{octet_with, with_bit, heard_code, symbol_at, with_arrival}
use Rattle.area.specs.AreaLaws.{clock_by, depth_by, figures_by, count_by, position_by, address_by, counters_by, record_by}
use Rattle.area.specs.AreaLaws.{station_by, frame_by, buffer_by}

-- ---- the layout goes by its part

pub layout_by : (l m : List ℕ) → area_size ≤ length l → area_size ≤ length m → Keeps layout l m → layout_at l ≡ layout_at m
unfolding layout_at
layout_by l m p q k =
    let n = count_by l m k in
    λ i. record {
      figures = figures_by l m k i;
      count = n i;
      stations =
          (filled_same blank_tap (tap_at l) (tap_at m) (min (count_at l) 16) (λ j h. tap_by j (omega arith))
          ∙ ap (λ (c : ℕ). filled blank_tap (tap_at m) (min c 16)) n) i;
    }
  where
    tap_by : (j : ℕ) → j < max_stations → tap_at l j ≡ tap_at m j
    tap_by j h = λ i. record { position = position_by l m j h k i; address = address_by l m j h p q k i }

module _ (z : List ℕ) where
  -- ---- octets, words and loops

  pub sets_front : (vs b : List ℕ) (at : ℕ) → at + length vs ≤ length b → sets (b ++ z) at vs ≡ sets b at vs ++ z
  sets_front [] b at h = refl
  sets_front (v ∷ vs) b at h =
      ap (λ (l : List ℕ). sets l (suc at) vs) (set-append_left b z at v (omega arith))
      ∙ sets_front vs (set b at v) (suc at) (omega (arith, length-set b at v))

  pub put_front : (w : ℕ) (b : List ℕ) (at v : ℕ) → at + w ≤ length b → put w (b ++ z) at v ≡ put w b at v ++ z
  unfolding put
  put_front w b at v h = sets_front (spelled w v) b at (omega (arith, length_spelled w v))

  pub words_front : (n : ℕ) (b : List ℕ) (at : ℕ) (ws : List ℕ) → at + 4 * n ≤ length b
      → put_words n (b ++ z) at ws ≡ put_words n b at ws ++ z
  unfolding put_words
  words_front zero b at ws h = refl
  words_front (suc n) b at ws h =
      ap (λ (l : List ℕ). put 4 l (at + 4 * n) (get_or ws n 0)) (words_front n b at ws (omega arith))
      ∙ put_front 4 (put_words n b at ws) (at + 4 * n) (get_or ws n 0) (omega (arith, length_put_words n b at ws))

  pub turns_front : (f g : ℕ → List ℕ → List ℕ) (n : ℕ) (b : List ℕ) → area_size ≤ length b
      → ((i : ℕ) (x : List ℕ) → i < n → area_size ≤ length x → f i (x ++ z) ≡ g i x ++ z)
      → ((i : ℕ) (x : List ℕ) → length (g i x) ≡ length x) → turns f n (b ++ z) ≡ turns g n b ++ z
  unfolding turns
  turns_front f g zero b big e len = refl
  turns_front f g (suc n) b big e len =
      ap (f n) (turns_front f g n b big (λ i x h l. e i x (omega arith) l) len)
      ∙ e n (turns g n b) (omega arith) (omega (arith, length_turns g n b len))

  pub blanked_front : (n : ℕ) (b : List ℕ) → n ≤ length b → blanked n (b ++ z) ≡ blanked n b ++ z
  unfolding blanked
  blanked_front zero b h = refl
  blanked_front (suc n) b h =
      ap (λ (l : List ℕ). set l n 0) (blanked_front n b (omega arith))
      ∙ set-append_left (blanked n b) z n 0 (omega (arith, length_blanked n b))

  -- ---- what is read

  pub piece_front : (b : List ℕ) (p : Piece) → from p + width p ≤ length b → Keeps (piece p) (b ++ z) b
  unfolding Keeps Same
  piece_front b p h k lo up = get_or-append b z 0 k (omega arith)

  module _ (b : List ℕ) (big : area_size ≤ length b) where
    pub long : area_size ≤ length (b ++ z)
    long = omega (arith, length-append b z)

    pub place_front : (i u : ℕ) → i < max_stations → Keeps (place i u) (b ++ z) b
    unfolding Keeps symbol_at
    place_front i u h = get_or-append b z 0 (from (the_line i) + u % ring) (omega arith)

    pub plan_front : Keeps layout (b ++ z) b
    plan_front = piece_front b the_layout (omega arith)

    pub clock_front : clock_at (b ++ z) ≡ clock_at b
    clock_front = clock_by (b ++ z) b (piece_front b the_clock (omega arith))

    pub depth_front : depth_at (b ++ z) ≡ depth_at b
    depth_front = depth_by (b ++ z) b (piece_front b the_depth (omega arith))

    pub figures_front : figures_at (b ++ z) ≡ figures_at b
    figures_front = figures_by (b ++ z) b plan_front

    pub count_front : count_at (b ++ z) ≡ count_at b
    count_front = count_by (b ++ z) b plan_front

    pub layout_front : layout_at (b ++ z) ≡ layout_at b
    layout_front = layout_by (b ++ z) b long big plan_front

    module _ (i : ℕ) (hi : i < max_stations) where
      pub address_front : address_at (b ++ z) i ≡ address_at b i
      address_front = address_by (b ++ z) b i hi long big plan_front

      pub counters_front : counters_at (b ++ z) i ≡ counters_at b i
      counters_front = counters_by (b ++ z) b i (piece_front b (the_counters i) (omega arith))

      pub record_front : record_at (b ++ z) i ≡ record_at b i
      record_front = record_by (b ++ z) b i (piece_front b (the_station i) (omega arith))

      pub station_front : station_at (b ++ z) i ≡ station_at b i
      station_front = station_by (b ++ z) b i hi long big plan_front (piece_front b (the_station i) (omega arith))

      pub frame_front : (n : ℕ) → n ≤ frame_room → frame_at (b ++ z) i n ≡ frame_at b i n
      frame_front n h = frame_by (b ++ z) b i n hi h long big (piece_front b (the_frame i) (omega arith))

      pub buffer_front : buffer_at (b ++ z) i ≡ buffer_at b i
      buffer_front = buffer_by (b ++ z) b i hi long big (piece_front b (the_buffer i) (omega arith))

    -- ---- what is written

    pub clock_put : (t : ℕ) → with_clock (b ++ z) t ≡ with_clock b t ++ z
    unfolding with_clock
    clock_put t = put_front 4 b 0 t (omega arith)

    module _ (i : ℕ) (hi : i < max_stations) where
      pub counters_put : (cs : List ℕ) → with_counters (b ++ z) i cs ≡ with_counters b i cs ++ z
      unfolding with_counters
      counters_put cs = words_front counter_count b (from (the_counters i)) cs (omega arith)

      pub station_put_lem : (s : Station) → with_station (b ++ z) i s ≡ with_station b i s ++ z
      unfolding with_station
      station_put_lem s = words_front record_words b (from (the_station i)) (encoded s) (omega arith)

      pub frame_put : (f : List ℕ) → length f ≤ frame_room → with_frame (b ++ z) i f ≡ with_frame b i f ++ z
      unfolding with_frame
      frame_put f h = sets_front f b (from (the_frame i)) (omega arith)

      pub arrival_put : (u : ℕ) (h : Heard) → with_arrival (b ++ z) i u h ≡ with_arrival b i u h ++ z
      unfolding with_arrival
      arrival_put u h = set-append_left b z (from (the_line i) + u % ring) (heard_code h) (omega arith)

      pub bit_put : (k : ℕ) (c : Bool) → k < buffer_bits → with_bit (b ++ z) i k c ≡ with_bit b i k c ++ z
      unfolding with_bit
      bit_put k c h =
          rw (get_or-append b z 0 (from (the_buffer i) + k / 8) (omega arith))
          (set-append_left b z (from (the_buffer i) + k / 8)
          (octet_with (get_or b (from (the_buffer i) + k / 8) 0) (k % 8) c) (omega arith))
