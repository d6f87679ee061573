-- A step leaves an area that passes checks 1 and 2 as one that passes them; and what is read of the area after a step.
-- Assumes nothing.
use Rattle.std.specs.Prelude.{ℕ, suc, ◌+◌, ◌≤◌, ◌<◌, ◌≡◌, List, length}
use Rattle.std.proofs.Math.Path.{refl, sym, ap₂, subst}
use Rattle.std.proofs.Common.{◌∙◌, ap, add-one, arith}
use Rattle.octets.specs.Turns.{turns}
use Rattle.octets.specs.WordsLaws.{Small, length_words}
use Rattle.sheet_layout.specs.Check.{refusal_of}
use Rattle.sheet_layout.specs.CheckLaws.{Figured}
use Rattle.station_spec.specs.Step.{stepped, next_station}
use Rattle.station_spec.specs.Count.{counted}
use Rattle.area_record.specs.Codec.{decoded, encoded}
use Rattle.area_record.specs.CodecLaws.{Fit, decoded_encoded}
use Rattle.area.specs.Places.{Part, clock, depth, layout, draws, counters, station, frame, buffer, place, Off, Keeps}
use Rattle.area.specs.Area.{clock_at, depth_at, figures_at, count_at, address_at, space_at, counters_at}
use Rattle.area.specs.Area.{record_at, station_at, frame_at, buffer_at, symbol_at, max_code}
use Rattle.area.specs.AreaLaws.{keeps_trans, depth_by, figures_by, count_by, address_by, space_by}
use Rattle.area.specs.AreaLaws.{counters_by, record_by, symbol_by, frame_by, buffer_by, clock_keeps, clock_same}
use Rattle.area.specs.AreaLaws.{length_clock}
use Rattle.area.specs.Front.{layout_by}
use Rattle.bus_spec.specs.BitTime.{outcome_in, act_in, act_at, settled, step_area}
use Rattle.bus_spec.specs.Range.{Fine, fine_stepped, fine_fit}
use Rattle.bus_spec.specs.InPlace.{Kept, Spread, Ahead}
use Rattle.bus_spec.specs.Ready.{Readiness, kept}
use Rattle.bus_spec.specs.After.{stored_in}
use Rattle.bus_spec.proofs.After.{length_after, ahead, codes_all, record_all, buffer_all, counters_all}
use Rattle.bus_spec.specs.After.{counted_words}
use Rattle.bus_spec.specs.Sizes.{Sized, sized_stepped}
use Rattle.bus_spec.specs.Passes.{Passing, record_right}
use Rattle.frame_build.specs.Limits.{min_frame, buffer_octets}
use Rattle.octets.specs.Store.{length_part}
use Rattle.sheet_layout.specs.Limits.{last_clock, max_stations}
use Rattle.area.specs.Offsets.{area_size, ring, from, the_counters, the_buffer}
use Rattle.station_state.specs.State.{counter_count}

-- ---- the layout goes by its part

-- a layout kept is still spread
pub spread_by : (n : ℕ) (l m : List ℕ) → Keeps layout l m → Spread n m → Spread n l
spread_by n l m k sp =
    record {
      few = sp.few;
      pos = λ i j hi hj ne. subst (λ (x : ℕ). 0 < x) (sym (space i j hi hj)) (sp.pos i j hi hj ne);
      near = λ i j hi hj. subst (λ (x : ℕ). x < ring) (sym (space i j hi hj)) (sp.near i j hi hj);
    }
  where
    space : (i j : ℕ) → i < n → j < n → space_at l i j ≡ space_at m i j
    space i j hi hj = let few = sp.few in space_by l m i j (omega arith) (omega arith) k

-- ---- after a step

bits : (a : List ℕ) (i : ℕ) → i < count_at a → Kept (act_at a i).outcome.stored
unfolding act_at
bits a i h = kept (figures_at a) (depth_at a) (clock_at a) a i

module _ (a : List ℕ) (r : Readiness a) where
  turned : List ℕ
  turned = turns (λ i x. settled (count_at a) (clock_at a) i (act_at a i) x) (count_at a) a

  turned_length : length turned ≡ length a
  unfolding turned
  turned_length = length_after (count_at a) (clock_at a) (act_at a) a r.spread (bits a) r.long (count_at a)

  long : area_size ≤ length turned
  long = omega (arith, turned_length, r.long)

  turned_ahead : Ahead (clock_at a) (count_at a) a turned
  unfolding turned
  turned_ahead = ahead (count_at a) (clock_at a) (act_at a) a r.spread (bits a) r.long (count_at a) (omega arith)

  pub step_length : length (step_area a) ≡ length a
  unfolding step_area turned
  step_length = length_clock turned (clock_at a + 1) ∙ turned_length

  -- what a step keeps as it was
  after_clock : (p : Part) → Off p clock → Keeps p (step_area a) turned
  unfolding step_area turned
  after_clock p o = clock_keeps p turned (clock_at a + 1) o

  pub step_layout : Keeps layout (step_area a) a
  step_layout = keeps_trans layout (step_area a) turned a (after_clock layout (λ p q. omega arith)) turned_ahead.plan

  pub step_depth : Keeps depth (step_area a) a
  step_depth = keeps_trans depth (step_area a) turned a (after_clock depth (λ p q. omega arith)) turned_ahead.deep

  pub step_draws : Keeps draws (step_area a) a
  step_draws = keeps_trans draws (step_area a) turned a (after_clock draws (λ p q. omega arith)) turned_ahead.lots

  pub step_frame : (i : ℕ) → i < max_stations → Keeps (frame i) (step_area a) a
  step_frame i h =
      keeps_trans (frame i) (step_area a) turned a (after_clock (frame i) (λ p q. omega arith))
      (turned_ahead.frames i h)

  pub step_clock : clock_at (step_area a) ≡ clock_at a + 1
  unfolding step_area turned
  step_clock = clock_same turned long (clock_at a + 1) (omega (arith, r.clock))

  -- each station is what its act made of it
  pub next_fine : (i : ℕ) → i < count_at a
      → Fine (figures_at a) (depth_at a) (suc (clock_at a)) (act_at a i).outcome.station
  unfolding act_at act_in outcome_in
  next_fine i h = fine_stepped (figures_at a) r.figures (depth_at a) (clock_at a) (station_at a i) _ _ _ (r.fine i h)

  next_sized : (i : ℕ) → buffer_octets ≤ length (buffer_at a i)
      → Sized (frame_at a i min_frame) (buffer_at a i) (station_at a i)
      → Sized (frame_at a i min_frame) (stored_in (buffer_at a i) (act_at a i).outcome.stored)
      (act_at a i).outcome.station
  unfolding act_at act_in outcome_in
  next_sized i n v =
      sized_stepped (figures_at a) (station_at a i) (depth_at a) _ (frame_at a i min_frame) (buffer_at a i) _ n v

  next_fit : (i : ℕ) → i < count_at a → Fit (act_at a i).outcome.station
  next_fit i h =
      fine_fit (figures_at a) r.figures (depth_at a) (suc (clock_at a)) (act_at a i).outcome.station r.depth.1
      (omega (arith, r.clock)) (next_fine i h)

  next_address : (i : ℕ) → (act_at a i).outcome.station.address ≡ address_at a i
  unfolding act_at act_in outcome_in stepped next_station station_at decoded
  next_address i = refl

  pub step_record : (i : ℕ) → i < count_at a → record_at (step_area a) i ≡ encoded (act_at a i).outcome.station
  unfolding turned
  step_record i h =
      record_by (step_area a) turned i (after_clock (station i) (λ p q. omega arith))
      ∙ record_all (count_at a) (clock_at a) (act_at a) a r.spread (bits a) r.long i h (next_fit i h)

  pub step_station : (i : ℕ) → i < count_at a → station_at (step_area a) i ≡ (act_at a i).outcome.station
  unfolding station_at
  step_station i h =
      let few = r.spread.few in
      ap₂ decoded (step_record i h) (address_by (step_area a) a i (omega arith) (omega (arith, step_length, r.long))
      r.long step_layout ∙ sym (next_address i))
      ∙ decoded_encoded (act_at a i).outcome.station

  pub step_counters : (i : ℕ) → i < count_at a
      → counters_at (step_area a) i ≡ counted (counters_at a i) (act_at a i).outcome
  unfolding turned
  step_counters i h =
      counters_by (step_area a) turned i (after_clock (counters i) (λ p q. omega arith))
      ∙ counters_all (count_at a) (clock_at a) (act_at a) a r.spread (bits a) r.long i h (r.counts i h)

  pub step_buffer : (i : ℕ) → i < count_at a
      → buffer_at (step_area a) i ≡ stored_in (buffer_at a i) (act_at a i).outcome.stored
  unfolding turned
  step_buffer i h =
      let few = r.spread.few in
      buffer_by (step_area a) turned i (omega arith) (omega (arith, step_length, r.long)) long
      (after_clock (buffer i) (λ p q. omega arith))
      ∙ buffer_all (count_at a) (clock_at a) (act_at a) a r.spread (bits a) r.long i h

  step_sizes : (i : ℕ) → i < count_at a → Sized (frame_at a i min_frame) (buffer_at a i) (station_at a i)
      → Sized (frame_at (step_area a) i min_frame) (buffer_at (step_area a) i) (station_at (step_area a) i)
  unfolding buffer_at
  step_sizes i h v =
      let few = r.spread.few in
      let e : frame_at (step_area a) i min_frame ≡ frame_at a i min_frame =
      frame_by (step_area a) a i min_frame (omega arith) (omega arith) (omega (arith, step_length, r.long)) r.long
      (step_frame i (omega arith)) in
      let n = length_part a (from (the_buffer i)) buffer_octets (omega (arith, r.long)) in
      rw (e, step_buffer i h, step_station i h) (next_sized i (omega arith) v)

  step_codes : (i u : ℕ) → i < count_at a → symbol_at (step_area a) i u ≤ max_code
  unfolding turned
  step_codes i u h =
      rw (symbol_by (step_area a) turned i u (after_clock (place i u) (λ p q. omega arith)))
      (codes_all (count_at a) (clock_at a) (act_at a) a r.spread (bits a) r.long (count_at a) (omega arith)
      r.codes i u h)

  step_counts : (i : ℕ) → i < count_at a → Small (counters_at (step_area a) i)
  unfolding counters_at
  step_counts i h =
      subst Small (sym (step_counters i h))
      (counted_words (counters_at a i) (act_at a i).outcome
      (length_words counter_count a (from (the_counters i)), r.counts i h)).1

  pub step_ready : clock_at a < last_clock → Readiness (step_area a)
  step_ready early =
      let n = count_by (step_area a) a step_layout in
      let f = figures_by (step_area a) a step_layout in
      let d = depth_by (step_area a) a step_depth in
      let big : area_size ≤ length (step_area a) = omega (arith, step_length, r.long) in
      let t : clock_at (step_area a) ≡ suc (clock_at a) = step_clock ∙ add-one (clock_at a) in
      record {
        long = big;
        sound = ap refusal_of (layout_by (step_area a) a big r.long step_layout) ∙ r.sound;
        figures = subst Figured (sym f) r.figures;
        spread =
            subst (λ (m : ℕ). Spread m (step_area a)) (sym n)
            (spread_by (count_at a) (step_area a) a step_layout r.spread);
        depth = rw d r.depth;
        clock = omega (arith, step_clock);
        fine = λ i h. let k : i < count_at a = omega arith in rw (f, d, t, step_station i k) (next_fine i k);
        codes = λ i u h. step_codes i u (omega arith);
        counts = λ i h. step_counts i (omega arith);
      }

-- "none of them is refused under 1 or 2": the step
pub step_passing : (a : List ℕ) → Passing a → clock_at a < last_clock → Passing (step_area a)
step_passing a v early =
    let r = v.ready in
    let n = count_by (step_area a) a (step_layout a r) in
    let f = figures_by (step_area a) a (step_layout a r) in
    let d = depth_by (step_area a) a (step_depth a r) in
    let t : clock_at (step_area a) ≡ suc (clock_at a) = step_clock a r ∙ add-one (clock_at a) in
    record {
      ready = step_ready a r early;
      records =
          λ i h. let k : i < count_at a = omega arith in rw (f, d, t, step_record a r i k)
          (record_right (figures_at a) (depth_at a) (suc (clock_at a)) (act_at a i).outcome.station (next_fine a r i k));
      sizes = λ i h. let k : i < count_at a = omega arith in step_sizes a r i k (v.sizes i k);
    }
