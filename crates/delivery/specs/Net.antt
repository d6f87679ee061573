-- The net that an area's layout and draws make, and that a fresh start's area encodes its fresh world. Assumes nothing.
use Rattle.std.specs.Prelude.{ℕ, ◌+◌, ◌*◌, ◌-◌, ◌≤◌, ◌<◌, ◌≡◌, refl, Bool, true, false, List, leb, eqb, length}
use Rattle.std.proofs.Math.Path.{sym, ap, ap₂}
use Rattle.std.proofs.Common.{◌∙◌, subst, true≢false}
use native.Mathlib.Omega.{arith}
use Rattle.octets.specs.BaseLaws.{by_test, by_eq}
use Rattle.octets.specs.NumberLaws.{Octets}
use Rattle.octets.specs.Store.{length_part}
use Rattle.sheet_layout.specs.declared.Figures.{Figures}
use Rattle.sheet_layout.specs.declared.Layout.{Layout}
use Rattle.sheet_layout.specs.Layout as lay
use Rattle.sheet_layout.specs.Check.{refusal_of}
use Rattle.sheet_layout.specs.CheckLaws.{Figured, Sound, sound}
use Rattle.station_symbols.specs.declared.Heard.TheVariants.{Nothing}
use Rattle.station_symbols.specs.declared.Symbol.TheVariants.{Silence}
use Rattle.station_state.specs.declared.Transmitter.TheVariants.{NoFrame}
use Rattle.station_state.specs.declared.Station.{Station}
use Rattle.area.specs.Area.{depth_at, draw_at, figures_at, count_at, position_at, address_at, distance, space_at, buffer_at}
use Rattle.bus_start.specs.Fresh.{tap_in, fresh}
use Rattle.bus_start.specs.FreshLaws.{Formed, fresh_clock, fresh_count, fresh_figures, fresh_position, fresh_address}
use Rattle.bus_start.specs.FreshLaws.{fresh_arrival}
use Rattle.bus_spec.specs.Ready.{Readiness}
use Rattle.bus_spec.specs.Passes.{Passing, rise}
use Rattle.bus_offer.specs.OfferLaws.{address_six}
use Rattle.trace.specs.Trace.{Metric}
use Rattle.trace.specs.World as world
use Rattle.bus_meeting.specs.Net.{Net, heard, reaches}
use Rattle.trace.specs.World.{World}
use Rattle.bus_meeting.specs.Gather.{gathered_none}
use Rattle.trace.specs.Run as run
use Rattle.delivery.specs.Passing.{fresh_station, start_station, start_passing}
use Rattle.delivery.specs.Encode.{Plan, Encodes}
use Rattle.area.specs.Offsets.{area_size, from, the_buffer}
use Rattle.frame_build.specs.Limits.{buffer_octets}
use Rattle.sheet_layout.specs.Limits.{max_position, max_draws, max_stations}

abbrev pub net_of : List ℕ → Net
net_of b =
    record {
      n = count_at b;
      fig = figures_at b;
      depth = depth_at b;
      draw = draw_at b;
      address = address_at b;
      d = space_at b;
      blank = buffer_at b;
    }

-- "The span S is last position less first."
unfoldable pub span_at : List ℕ → ℕ
span_at b = position_at b (count_at b - 1) - position_at b 0

-- the area b holds the layout y
pub record Laid (y : Layout) (b : List ℕ) : Type 0 where
  pub count : count_at b ≡ y.count
  pub figures : figures_at b ≡ y.figures
  pub address : (i : ℕ) → i < y.count → address_at b i ≡ lay.address_at y i
  pub space : (i j : ℕ) → i < y.count → j < y.count
      → space_at b i j ≡ distance (lay.position_at y i) (lay.position_at y j)

-- an address of six octets, in each place that is counted
pub record Proper (y : Layout) : Type 0 where
  pub six : Formed y.stations y.count
  pub octets : (i : ℕ) → i < y.count → Octets (tap_in y.stations i).address

-- ---- distances

dist_symm : (b : List ℕ) (i j : ℕ) → space_at b i j ≡ space_at b j i
unfolding space_at distance
dist_symm b i j = omega arith

dist_tri : (b : List ℕ) (i j k : ℕ) → space_at b i k ≤ space_at b i j + space_at b j k
unfolding space_at distance
dist_tri b i j k = omega arith

module _ (b : List ℕ) (v : Passing b) where
  r : Readiness b
  r = v.ready

  up : (i j : ℕ) → i ≤ j → j < count_at b → position_at b i ≤ position_at b j
  up i j h g = by_eq i j (λ e. rw e (omega arith)) (λ ne. let q = rise b r.sound i j (omega arith) g in omega arith)

  dist_wide : (i j : ℕ) → i < count_at b → j < count_at b → space_at b i j ≤ span_at b
  unfolding space_at distance span_at
  dist_wide i j hi hj =
      let p = up 0 i (omega arith) hi in
      let q = up 0 j (omega arith) hj in
      let x = up i (count_at b - 1) (omega arith) (omega arith) in
      let y = up j (count_at b - 1) (omega arith) (omega arith) in
      omega arith

  pub net_sound : ((i : ℕ) → i < count_at b → Octets (address_at b i)) → run.Sound (net_of b) (span_at b)
  unfolding buffer_at
  net_sound o =
      let few = r.spread.few in
      record {
        figures = r.figures;
        depth = r.depth.0;
        address = λ i h. address_six b i (omega arith) r.long;
        wide = o;
        room = λ i h. omega (arith, length_part b (from (the_buffer i)) buffer_octets (omega (arith, r.long)));
        metric = record {
          symm = dist_symm b;
          tri = dist_tri b;
          pos = λ i j hi hj ne. r.spread.pos i j hi hj ne;
          wide = dist_wide;
        };
      }

-- ---- a fresh start

silent : (P : Net) (j u : ℕ) → heard P (λ i s. Silence) j u ≡ Nothing
unfolding heard reaches
silent P j u =
    gathered_none P.n _
    (λ i l. by_test (eqb i j) (λ e. rw e) (λ e. by_test (leb (P.d i j) u) (λ c. rw (e, c)) (λ c. rw (e, c))))

position_low : (y : Layout) → refusal_of y ≡ 0 → (i : ℕ) → i < y.count → (tap_in y.stations i).position ≤ max_position
unfolding lay.tap_at
position_low y ok i h = (sound y ok).position i h

fresh_same : (p q : List ℕ) → p ≡ q → fresh_station p ≡ fresh_station q
fresh_same p q e = ap fresh_station e

module _ (y : Layout) (d : ℕ) (ds : List (List ℕ)) (a : List ℕ) (big : area_size ≤ length a) (ok : refusal_of y ≡ 0)
    (low : 1 ≤ d) (high : d ≤ max_draws) (w : Proper y) where
  few : y.count ≤ max_stations
  few = (sound y ok).count.1

  passing : Passing (fresh y d ds a)
  passing = start_passing y d ds a big ok low high w.six

  count_there : count_at (fresh y d ds a) ≡ y.count
  count_there = fresh_count y d ds a big few high w.six (omega (arith, few))

  pub start_octets : (i : ℕ) → i < count_at (fresh y d ds a) → Octets (address_at (fresh y d ds a) i)
  start_octets i h =
      let k : i < y.count = omega (arith, count_there) in
      subst Octets (sym (fresh_address y d ds a big few high w.six i k)) (w.octets i k)

  position_there : (i : ℕ) → i < y.count → position_at (fresh y d ds a) i ≡ lay.position_at y i
  unfolding lay.tap_at
  position_there i h = fresh_position y d ds a big few high w.six i h (omega (arith, position_low y ok i h))

  address_there : (i : ℕ) → i < y.count → address_at (fresh y d ds a) i ≡ lay.address_at y i
  unfolding lay.tap_at
  address_there i h = fresh_address y d ds a big few high w.six i h

  pub start_span : span_at (fresh y d ds a) ≡ lay.span_of y
  unfolding span_at lay.span_of
  start_span =
      let two = (sound y ok).count.0 in
      ap (λ (n : ℕ). position_at (fresh y d ds a) (n - 1) - position_at (fresh y d ds a) 0) count_there
      ∙ ap₂ (λ (p q : ℕ). p - q) (position_there (y.count - 1) (omega arith)) (position_there 0 (omega arith))

  pub start_laid : Laid y (fresh y d ds a)
  unfolding space_at
  start_laid =
      record {
        count = count_there;
        figures = fresh_figures y d ds a big few high w.six (sound y ok).figures;
        address = address_there;
        space = λ i j hi hj. ap₂ distance (position_there i hi) (position_there j hj);
      }

  pub start_encodes : Encodes (net_of (fresh y d ds a)) (fresh y d ds a) (world.fresh (net_of (fresh y d ds a)))
  unfolding world.fresh world.fresh_station fresh_station
  start_encodes =
      record {
        plan = record {
          count = refl;
          figures = refl;
          deep = refl;
          draw = λ i k hi hk. refl;
          address = λ i hi. refl;
          space = λ i j hi hj. refl;
        };
        time = fresh_clock y d ds a big few high w.six;
        state = λ i hi.
            let k : i < y.count = omega (arith, count_there) in
            start_station y d ds a big ok low high w.six i k
            ∙ fresh_same (lay.address_at y i) (address_at (fresh y d ds a) i) (sym (address_there i k));
        buffers = λ i hi. refl;
        frames = λ i hi h. absurd (true≢false (sym h));
        ends = λ i s l. refl;
        line = λ j u hj lo hi.
            fresh_arrival y d ds a big few high w.six j u (omega (arith, count_there, few))
            ∙ sym (silent (net_of (fresh y d ds a)) j u);
      }
