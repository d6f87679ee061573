-- A station's turn, a step and a run on an area that is longer than it has to be: they happen in its first octets, and the rest
-- stays. Here b is those octets and z the rest. Assumes nothing.
use Prim.Native.Nat.{ℕ, zero, suc, ◌+◌, ◌≤◌, ◌<◌}
use Rattle.std.specs.Prelude.{◌≡◌, false, eqb, Option, None, Some}
use Rattle.std.proofs.Math.Path.{refl, ap}
use Rattle.std.proofs.Common.{◌∙◌, arith}
use mathlib.Core.List.{List, ◌++◌}
use Rattle.std.proofs.Math.ListN.{length}
use Rattle.octets.specs.BaseLaws.{by_test}
use borrow.Author.Tests.{eq-eqb, eqb-true, ltb-false}
use Rattle.std.proofs.Math.Dec.{ltb}
use Rattle.octets.specs.Filled.{filled_same}
use Rattle.octets.specs.NumberLaws.{Octets}
use Rattle.octets.specs.Turns.{turns, length_turns}
use Rattle.sheet_layout.specs.Limits.{last_clock, max_stations}
use Rattle.station_symbols.specs.declared.Heard.TheVariants.{Nothing}
use Rattle.station_symbols.specs.declared.Symbol.{Symbol}
use Rattle.station_spec.specs.declared.Stored.{Stored}
use Rattle.station_spec.specs.declared.Stepped.{Stepped}
use Rattle.station_spec.specs.Count.{counted}
use Rattle.area.specs.Offsets.{area_size, the_draws, the_frame, the_station, the_buffer}
use Rattle.area.specs.Area.{clock_at, with_clock, depth_at, figures_at, count_at, space_at, counters_at, station_at}
use Rattle.area.specs.Area.{with_station, arrival_at, with_arrival, joined}
use Rattle.area.specs.AreaLaws.{space_by, arrival_by, length_station, length_arrival}
use Rattle.area.specs.Front.{turns_front, piece_front, long, place_front, plan_front, clock_front, depth_front}
use Rattle.area.specs.Front.{figures_front, count_front, counters_front, clock_put, counters_put, station_put_lem}
use Rattle.area.specs.Front.{arrival_put, bit_put}
use Rattle.area_check.specs.Valid.{area_refusal}
use Rattle.area_check.specs.Front.{refusal_front}
use Rattle.bus_spec.specs.declared.Act.{Act}
use Rattle.bus_spec.specs.Medium.{send_to, is_silence, pushed}
use Rattle.bus_spec.specs.BitTime.{act_at, with_stored, happened, with_counted, placed, settled, step_area, events_of}
use Rattle.bus_spec.specs.BitTime.{no_events, events_at}
use Rattle.bus_spec.specs.InPlace.{Kept, length_stored, length_counted, length_placed, length_settled, act_by}
use Rattle.bus_spec.specs.Range.{held_small}
use Rattle.bus_spec.specs.Ready.{Readiness, kept_at}
use Rattle.bus_spec.specs.Passes.{Passing, passes_ready, ready_passes}
use Rattle.bus_spec.proofs.Stays.{step_clock, step_passing}
use Rattle.bus_spec.specs.Run.{Ran, tallied, stops, run_of, ran}

-- a run's answer, and what it leaves with the rest of the area behind it
abbrev pub beside_run : List ℕ → Ran → Ran
beside_run z r =
    record { answer = r.answer; steps = r.steps; words = r.words; ended = r.ended; octets = r.octets ++ z }

module _ (z : List ℕ) where
  module _ (b : List ℕ) (big : area_size ≤ length b) where
    module _ (i : ℕ) (hi : i < max_stations) where
      -- ---- a station's turn

      stored_put : (o : Option Stored) → Kept o → with_stored i o (b ++ z) ≡ with_stored i o b ++ z
      stored_put None h = refl
      stored_put (Some s) h = bit_put z b big i hi s.bit s.one h

      counted_put : (o : Stepped) → with_counted i o (b ++ z) ≡ with_counted i o b ++ z
      unfolding with_counted
      counted_put o =
          by_test (happened o)
          (λ e. rw (e, counters_front z b big i hi) (counters_put z b big i hi (counted (counters_at b i) o)))
          (λ e. rw e)

      send_put : (t j : ℕ) (s : Symbol) → j < max_stations → send_to t j s i (b ++ z) ≡ send_to t j s i b ++ z
      unfolding send_to
      send_put t j s hj =
          by_test (eqb i j)
          (λ e. rw e)
          (λ e. rw (
            e,
            space_by (b ++ z) b j i hj hi (plan_front z b big),
            arrival_by (b ++ z) b i (t + space_at b j i) (place_front z b big i (t + space_at b j i) hi),
          )
          (arrival_put z b big i hi (t + space_at b j i) (joined (arrival_at b i (t + space_at b j i)) s)))

  length_send : (t i : ℕ) (s : Symbol) (j : ℕ) (x : List ℕ) → length (send_to t i s j x) ≡ length x
  unfolding send_to
  length_send t i s j x = by_test (eqb j i) (λ e. rw e) (λ e. rw e (length_arrival x j _ _))

  placed_put : (t i : ℕ) (o : Stepped) (b : List ℕ) → area_size ≤ length b → i < max_stations → Kept o.stored
      → placed t i o (b ++ z) ≡ placed t i o b ++ z
  unfolding placed
  placed_put t i o b big hi k =
      let x₁ = with_station b i o.station in
      let x₂ = with_counted i o x₁ in
      let x₃ = with_stored i o.stored x₂ in
      let l₁ : length x₁ ≡ length b = length_station b i o.station in
      let l₂ : length x₂ ≡ length x₁ = length_counted i o x₁ in
      let l₃ : length x₃ ≡ length x₂ = length_stored i o.stored x₂ in
      ap (λ (x : List ℕ). with_arrival (with_stored i o.stored (with_counted i o x)) i t Nothing)
      (station_put_lem z b big i hi o.station)
      ∙ ap (λ (x : List ℕ). with_arrival (with_stored i o.stored x) i t Nothing)
      (counted_put x₁ (omega arith) i hi o)
      ∙ ap (λ (x : List ℕ). with_arrival x i t Nothing) (stored_put x₂ (omega arith) i hi o.stored k)
      ∙ arrival_put z x₃ (omega arith) i hi t Nothing

  pushed_put : (n t i : ℕ) (s : Symbol) (b : List ℕ) → area_size ≤ length b → i < max_stations → n ≤ max_stations
      → pushed n t i s (b ++ z) ≡ pushed n t i s b ++ z
  unfolding pushed
  pushed_put n t i s b big hi hn =
      by_test (is_silence s) (λ e. rw e)
      (λ e. rw e (turns_front z (send_to t i s) (send_to t i s) n b big
      (λ j x h l. send_put x l j (omega arith) t i s hi) (length_send t i s)))

  settled_put : (n t i : ℕ) (r : Act) (b : List ℕ) → area_size ≤ length b → i < max_stations → n ≤ max_stations
      → Kept r.outcome.stored → settled n t i r (b ++ z) ≡ settled n t i r b ++ z
  unfolding settled
  settled_put n t i r b big hi hn k =
      ap (pushed n t i r.symbol) (placed_put t i r.outcome b big hi k)
      ∙ pushed_put n t i r.symbol (placed t i r.outcome b)
      (omega (arith, length_placed t i r.outcome b)) hi hn

  -- ---- a step and a run

  module _ (b : List ℕ) (r : Readiness b) where
    act_front : (i : ℕ) → i < count_at b → act_at (b ++ z) i ≡ act_at b i
    unfolding act_at
    act_front i h =
        let big = r.long in
        let v = r.fine i h in
        let hi : i < max_stations = omega (arith, r.spread.few) in
        rw (figures_front z b big, depth_front z b big, clock_front z b big)
        (act_by (figures_at b) (depth_at b) (clock_at b) i b (b ++ z) hi big (long z b big)
        (omega (arith, v.draw, r.depth))
        (omega (arith, held_small (station_at b i).frame (station_at b i).transmitter v.frame))
        (plan_front z b big) (piece_front z b the_draws (omega arith)) (piece_front z b (the_frame i) (omega arith))
        (piece_front z b (the_station i) (omega arith)) (piece_front z b (the_buffer i) (omega arith))
        (place_front z b big i (clock_at b) hi))

    pub step_front : step_area (b ++ z) ≡ step_area b ++ z
    unfolding step_area
    step_front =
        let big = r.long in
        let few = r.spread.few in
        let n = count_at b in
        let t = clock_at b in
        let f : ℕ → List ℕ → List ℕ = λ i x. settled n t i (act_at (b ++ z) i) x in
        let g : ℕ → List ℕ → List ℕ = λ i x. settled n t i (act_at b i) x in
        let len : (i : ℕ) (x : List ℕ) → length (g i x) ≡ length x = λ i x. length_settled n t i (act_at b i) x in
        rw (count_front z b big, clock_front z b big)
        (ap (λ (l : List ℕ). with_clock l (t + 1))
        (turns_front z f g n b big
        (λ i x h l. ap (λ (a : Act). settled n t i a (x ++ z)) (act_front i h)
        ∙ settled_put n t i (act_at b i) x l (omega arith) few (kept_at b i h)) len)
        ∙ clock_put z (turns g n b) (omega (arith, length_turns g n b len)) (t + 1))

    pub events_front : events_at (b ++ z) ≡ events_at b
    unfolding events_at
    events_front =
        rw (count_front z b r.long)
        (filled_same no_events (λ i. events_of (act_at (b ++ z) i)) (λ i. events_of (act_at b i)) (count_at b)
        (λ i h. ap events_of (act_front i h)))

  pub run_beside : (k m : ℕ) (ws b : List ℕ) → Passing b → clock_at b + k ≤ last_clock
      → run_of k m ws (b ++ z) ≡ beside_run z (run_of k m ws b)
  unfolding run_of
  run_beside zero m ws b p h = refl
  run_beside (suc k) m ws b p h =
      rw (events_front b p.ready, step_front b p.ready)
      (by_test (stops (events_at b)) (λ e. rw e)
      (λ e. rw e (run_beside k (m + 1) (tallied (events_at b) 16 ws) (step_area b)
      (step_passing b p (omega arith)) (omega (arith, step_clock b p.ready)))))

  -- a run that is asked for, on an area that passes checks 1 and 2, and on any
  pub ran_passing : (n : ℕ) (b : List ℕ) → Passing b → ran (b ++ z) n ≡ beside_run z (ran b n)
  unfolding ran
  ran_passing n b p =
      let big = p.ready.long in
      rw (refusal_front z b big, eq-eqb (area_refusal b) 0 (ready_passes b p), clock_front z b big)
      (by_test (ltb last_clock (clock_at b + n)) (λ c. rw c)
      (λ c. rw c (run_beside n 0 _ b p (ltb-false last_clock (clock_at b + n) c))))

  ran_refused : (n : ℕ) (b : List ℕ) → area_size ≤ length b → eqb (area_refusal b) 0 ≡ false
      → ran (b ++ z) n ≡ beside_run z (ran b n)
  unfolding ran
  ran_refused n b big e = rw (refusal_front z b big, e)

  pub ran_beside : (n : ℕ) (b : List ℕ) → area_size ≤ length b → Octets b → ran (b ++ z) n ≡ beside_run z (ran b n)
  ran_beside n b big o =
      by_test (eqb (area_refusal b) 0)
      (λ e. ran_passing n b (passes_ready b o (eqb-true (area_refusal b) 0 e)))
      (λ e. ran_refused n b big e)
