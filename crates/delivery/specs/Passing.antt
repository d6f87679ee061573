-- "Each call gets the area as the call before left it, and nobody else writes there; so none of them is refused under 1
-- or 2." A fresh start leaves an area that passes checks 1 and 2; an offer and a step leave one of one. Assumes
-- nothing.
use Rattle.std.specs.Prelude.{ℕ, ◌+◌, ◌≤◌, ◌<◌, ◌≡◌, refl, false, ltb, leb, eqb, length, drop}
use Rattle.std.proofs.Common.{sym, ◌∙◌, arith, eq-eqb, eqb-true, ltb-false, leb-false}
use Rattle.std.proofs.Math.Path.{ap, ap₂, subst}
use mathlib.Core.List.{List, []}
use Rattle.octets.specs.Base.{outside, accepted}
use Rattle.octets.specs.BaseLaws.{by_test, by_eq, refused_none, within}
use Rattle.octets.specs.Number.{get}
use Rattle.octets.specs.Words.{words_at}
use Rattle.octets.specs.WordsLaws.{Small, length_words}
use Rattle.frame_build.specs.Limits.{refuses_data, min_frame, max_frame, buffer_octets}
use Rattle.frame_build.specs.Build.{frame_of}
use Rattle.frame_build.specs.BuildLaws.{frame_size, data_within}
use Rattle.sheet_layout.specs.declared.Figures.{Figures}
use Rattle.sheet_layout.specs.declared.Layout.{Layout}
use Rattle.sheet_layout.specs.Layout as lay
use Rattle.sheet_layout.specs.Check.{refusal_of}
use Rattle.sheet_layout.specs.CheckLaws.{Figured, Sound, sound, refusal_same}
use Rattle.station_state.specs.declared.Deference.TheVariants.{Quiet}
use Rattle.station_state.specs.declared.Transmitter.TheVariants.{NoFrame}
use Rattle.station_state.specs.declared.Receiver.TheVariants.{Listening}
use Rattle.station_state.specs.declared.Station.{Station}
use Rattle.station_spec.specs.Count.{added}
use Rattle.area_record.specs.Codec.{decoded, encoded}
use Rattle.area_record.specs.CodecLaws.{Fit, decoded_encoded}
use Rattle.area.specs.Places.{Part, clock, depth, layout, counters, station, frame, buffer, place, Off, Keeps}
use Rattle.area.specs.Area.{clock_at, depth_at, figures_at, count_at, address_at, tap_at, layout_at, counters_at, record_at}
use Rattle.area.specs.Area.{station_at, with_station, frame_at, with_frame, buffer_at}
use Rattle.area.specs.AreaLaws.{keeps_trans, clock_by, depth_by, figures_by, count_by, address_by, counters_by}
use Rattle.area.specs.AreaLaws.{record_by, station_by, symbol_by, station_keeps, counters_keeps, frame_keeps}
use Rattle.area.specs.AreaLaws.{record_same, counters_same, frame_same, frame_by, buffer_by, length_station}
use Rattle.area.specs.AreaLaws.{length_counters, length_frame}
use Rattle.bus_start.specs.Fresh.{fresh}
use Rattle.bus_start.specs.FreshLaws.{Formed, fresh_length, fresh_clock, fresh_record, fresh_counters, fresh_symbol}
use Rattle.bus_start.specs.FreshLaws.{fresh_depth, fresh_count, fresh_figures, fresh_position, fresh_address}
use Rattle.area_check.specs.Valid.{record_wrong, area_refusal}
use Rattle.bus_spec.specs.Range.{Fine, fine_fit}
use Rattle.bus_spec.specs.InPlace.{Spread}
use Rattle.bus_spec.specs.Ready.{Readiness}
use Rattle.bus_spec.specs.After.{added_words}
use Rattle.bus_spec.specs.Sizes.{Sized, value_front}
use Rattle.frame_open.specs.Open.{value_of}
use Rattle.frame_open.specs.RoundTrip.{stored_within}
use Rattle.station_spec.specs.Transmit.{octets_held}
use Rattle.station_spec.specs.Count.{octets_in}
use Rattle.bus_spec.specs.Passes.{Passing, tap_in_lem, layout_figures, layout_spread, record_right, ready_passes}
use Rattle.area.specs.Front.{layout_by}
use Rattle.bus_spec.proofs.Stays.{spread_by, step_passing}
use Rattle.bus_offer.specs.Offer.{holds, offered_station, with_held, with_offered, with_offer, offered}
use Rattle.bus_offer.specs.OfferLaws.{address_six}
use Rattle.bus_start.specs.Start.{started}
use Rattle.bus_step.specs.Step.{stepped_once}
use Rattle.sheet_layout.specs.Limits.{last_clock, max_draws, max_stations}
use Rattle.area.specs.Offsets.{area_size, frame_room, from, the_station, the_counters, the_frame}
use Rattle.station_state.specs.State.{counter_count}
use Rattle.area_record.specs.Words.{record_words}

-- ---- a fresh start

-- "every station quiet, nothing emitted, heard or held, first draws next"
unfoldable pub fresh_station : List ℕ → Station
fresh_station address =
    record {
      address = address;
      deference = Quiet;
      transmitter = NoFrame;
      receiver = Listening;
      frame = 0;
      attempts = 0;
      draw = 0;
      deferred = false;
      emitted = false;
    }

fresh_fine : (f : Figures) (d : ℕ) (address : List ℕ) → 1 ≤ d → Fine f d 0 (fresh_station address)
unfolding fresh_station
fresh_fine f d address h =
    record { gap = tt; number = tt; attempts = omega arith; frame = tt; receiver = tt; draw = h; wide = omega arith }

fresh_sized : (held collected address : List ℕ) → Sized held collected (fresh_station address)
unfolding fresh_station
fresh_sized held collected address = record { sends = omega arith; reads = omega arith }

-- a record of zeros stands for it
zeros_encode : (address : List ℕ) (at : ℕ) → words_at record_words [] at ≡ encoded (fresh_station address)
unfolding words_at get encoded fresh_station
zeros_encode address at = refl

fresh_decoded : (address : List ℕ) → decoded (encoded (fresh_station address)) address ≡ fresh_station address
unfolding fresh_station
fresh_decoded address = decoded_encoded (fresh_station address)

zeros_small : (at : ℕ) → Small (words_at counter_count [] at)
unfolding words_at get
zeros_small at = (
  omega arith,
  (
    omega arith,
    (
      omega arith,
      (
        omega arith,
        (
          omega arith,
          (
            omega arith,
            (
              omega arith,
              (
                omega arith,
                (
                  omega arith,
                  (
                    omega arith,
                    (
                      omega arith,
                      (
                        omega arith,
                        (omega arith, (omega arith, (omega arith, (omega arith, (omega arith, tt))))),
                      ),
                    ),
                  ),
                ),
              ),
            ),
          ),
        ),
      ),
    ),
  ),
)

module _ (y : Layout) (d : ℕ) (ds : List (List ℕ)) (a : List ℕ) (big : area_size ≤ length a) (ok : refusal_of y ≡ 0)
    (low : 1 ≤ d) (high : d ≤ max_draws)
    (formed : Formed y.stations y.count) where
  s : Sound y
  s = sound y ok

  few : y.count ≤ max_stations
  few = s.count.1

  start_count : count_at (fresh y d ds a) ≡ y.count
  start_count = fresh_count y d ds a big few high formed (omega (arith, few))

  start_tap : (i : ℕ) → i < y.count → tap_at (fresh y d ds a) i ≡ lay.tap_at y i
  unfolding lay.tap_at
  start_tap i h =
      λ j. record {
        position = fresh_position y d ds a big few high formed i h (omega (arith, s.position i h)) j;
        address = fresh_address y d ds a big few high formed i h j;
      }

  start_layout : refusal_of (layout_at (fresh y d ds a)) ≡ 0
  unfolding layout_at
  start_layout =
      refusal_same (layout_at (fresh y d ds a)) y (fresh_figures y d ds a big few high formed s.figures) start_count
      (omega (arith, start_count, few))
      (λ i h. tap_in_lem (fresh y d ds a) i (omega (arith, start_count, few)) h ∙ start_tap i (omega (arith, start_count)))
      ∙ ok

  pub start_station : (i : ℕ) → i < y.count → station_at (fresh y d ds a) i ≡ fresh_station (lay.address_at y i)
  unfolding station_at lay.tap_at
  start_station i h =
      ap₂ decoded (fresh_record y d ds a big few high formed i (omega (arith, few)) ∙ zeros_encode (lay.address_at y i)
      (from (the_station i)))
      (fresh_address y d ds a big few high formed i h)
      ∙ fresh_decoded (lay.address_at y i)

  pub start_passing : Passing (fresh y d ds a)
  start_passing =
      let n = start_count in
      let e : depth_at (fresh y d ds a) ≡ d = fresh_depth y d ds a big few high formed (omega arith) in
      let t : clock_at (fresh y d ds a) ≡ 0 = fresh_clock y d ds a big few high formed in
      record {
        ready = record {
          long = omega (arith, fresh_length y d ds a big few high formed);
          sound = start_layout;
          figures = layout_figures (fresh y d ds a) start_layout;
          spread = layout_spread (fresh y d ds a) start_layout;
          depth = rw e (low, high);
          clock = rw t (omega arith);
          fine = λ i h. rw (e, t, start_station i (omega arith))
              (fresh_fine (figures_at (fresh y d ds a)) d (lay.address_at y i) low);
          codes = λ i u h. rw (fresh_symbol y d ds a big few high formed i u (omega (arith, few))) (omega arith);
          counts = λ i h. rw (fresh_counters y d ds a big few high formed i (omega (arith, few)))
              (zeros_small (from (the_counters i)));
        };
        records = λ i h.
            rw (
              e,
              t,
              fresh_record y d ds a big few high formed i (omega (arith, few)),
              zeros_encode (lay.address_at y i)
                  (from (the_station i)),
            )
            (record_right (figures_at (fresh y d ds a)) d 0 (fresh_station (lay.address_at y i))
            (fresh_fine (figures_at (fresh y d ds a)) d (lay.address_at y i) low));
        sizes = λ i h. rw (start_station i (omega arith)) (fresh_sized _ _ (lay.address_at y i));
      }

-- a start that was accepted is a fresh start, on a layout that passes
pub by_start : (a : List ℕ) (y : Layout) (d : ℕ) (ds : List (List ℕ)) (D : List ℕ → Type 0)
    → (started a y d ds).answer ≡ accepted []
    → (area_size ≤ length a → refusal_of y ≡ 0 → 1 ≤ d → d ≤ max_draws → D (fresh y d ds a)) → D (started a y d ds).octets
unfolding started
by_start a y d ds D h go =
    by_test (ltb (length a) area_size)
    (λ c. refused_none 1 [] (rw c at h))
    (λ c. by_test (eqb (refusal_of y) 0)
    (λ e. by_test (outside d 1 16)
    (λ o. refused_none 9 [] (rw (c, e, o) at h))
    (λ o. let q = within d 1 16 o in
    rw (c, e, o) (go (ltb-false (length a) area_size c) (eqb-true (refusal_of y) 0 e) q.0 q.1)))
    (λ e. refused_none (refusal_of y) [] (rw (c, e) at h)))

pub started_passes : (a : List ℕ) (y : Layout) (d : ℕ) (ds : List (List ℕ)) → Formed y.stations y.count
    → (started a y d ds).answer ≡ accepted []
    → Passing (started a y d ds).octets
started_passes a y d ds w h = by_start a y d ds Passing h (λ big ok low high. start_passing y d ds a big ok low high w)

-- ---- an offer

offered_fine : (f : Figures) → Figured f → (d t : ℕ) (s : Station) (n : ℕ) → 64 ≤ n → n ≤ buffer_octets → Fine f d t s
    → Fine f d t (offered_station s n)
unfolding offered_station
offered_fine f g d t s n p q v =
    record {
      gap = v.gap;
      number = tt;
      attempts = g.limit.0;
      frame = (p, q);
      receiver = v.receiver;
      draw = v.draw;
      wide = omega arith;
    }

kept_address : (w address : List ℕ) (n : ℕ) → address ≡ (offered_station (decoded w address) n).address
unfolding offered_station decoded
kept_address w address n = refl

-- what an accepted offer leaves, whatever the frame
abbrev pub holding : (a f : List ℕ) (i : ℕ) → List ℕ
holding a f i = with_offered (with_held (with_frame a i f) i (length f)) i

pub holding_length : (a f : List ℕ) (i : ℕ) → length (holding a f i) ≡ length a
unfolding with_offered with_held
holding_length a f i = length_counters _ i _ ∙ length_station _ i _ ∙ length_frame a i f

-- the frame is at its place
pub holding_frame : (a f : List ℕ) (i : ℕ) → area_size ≤ length a → i < max_stations → length f ≤ frame_room
    → frame_at (holding a f i) i (length f) ≡ f
unfolding with_offered with_held
holding_frame a f i big hi h =
    let x = with_frame a i f in
    let y = with_held x i (length f) in
    frame_by (holding a f i) x i (length f) hi h (omega (arith, holding_length a f i))
    (omega (arith, length_frame a i f))
    (keeps_trans (frame i) (holding a f i) y x (counters_keeps (frame i) y i _ (λ p q. omega arith))
    (station_keeps (frame i) x i _ (λ p q. omega arith)))
    ∙ frame_same a big i f hi h

-- its value is the frame's
holding_value : (a f : List ℕ) (i : ℕ) → area_size ≤ length a → i < max_stations → 64 ≤ length f → length f ≤ buffer_octets
    → value_of (frame_at (holding a f i) i min_frame) ≡ value_of f
unfolding frame_at
holding_value a f i big hi low high =
    let x = drop (from (the_frame i)) (holding a f i) in
    value_front min_frame x (omega arith) ∙ sym (value_front (length f) x (omega arith))
    ∙ ap value_of (holding_frame a f i big hi (omega arith))

-- what an accepted offer leaves, whatever frame is written, of 64..1522 octets
module _ (a f : List ℕ) (i : ℕ) (v : Passing a) (hi : i < count_at a) (low : 64 ≤ length f)
    (high : length f ≤ buffer_octets) where
  r : Readiness a
  r = v.ready

  small : i < max_stations
  small = let few = r.spread.few in omega arith

  b₁ : List ℕ
  b₁ = with_frame a i f

  b₂ : List ℕ
  b₂ = with_held b₁ i (length f)

  long₁ : length b₁ ≡ length a
  unfolding b₁
  long₁ = length_frame a i f

  long₂ : length b₂ ≡ length a
  unfolding b₂ with_held
  long₂ = length_station b₁ i _ ∙ long₁

  pub offer_long : length (holding a f i) ≡ length a
  unfolding with_offered b₂ b₁
  offer_long = length_counters b₂ i _ ∙ long₂

  framed : (p : Part) → Off p (frame i) → Keeps p b₁ a
  unfolding b₁
  framed p o = frame_keeps p a i f (omega arith) o

  held : (p : Part) → Off p (frame i) → Off p (station i) → Keeps p b₂ a
  unfolding b₂ with_held
  held p o q = keeps_trans p b₂ b₁ a (station_keeps p b₁ i _ q) (framed p o)

  -- a part that is none of those three is as it was
  pub elsewhere : (p : Part) → Off p (frame i) → Off p (station i) → Off p (counters i) → Keeps p (holding a f i) a
  unfolding with_offered b₂ b₁
  elsewhere p o q c = keeps_trans p (holding a f i) b₂ a (counters_keeps p b₂ i _ c) (held p o q)

  pub offer_layout : Keeps layout (holding a f i) a
  offer_layout = elsewhere layout (λ p q. omega arith) (λ p q. omega arith) (λ p q. omega arith)

  pub offer_depth : depth_at (holding a f i) ≡ depth_at a
  offer_depth =
      depth_by (holding a f i) a (elsewhere depth (λ p q. omega arith) (λ p q. omega arith) (λ p q. omega arith))

  pub offer_clock : clock_at (holding a f i) ≡ clock_at a
  offer_clock =
      clock_by (holding a f i) a (elsewhere clock (λ p q. omega arith) (λ p q. omega arith) (λ p q. omega arith))

  -- the station that holds the frame now
  before : station_at b₁ i ≡ station_at a i
  before =
      station_by b₁ a i small (omega (arith, long₁, r.long)) r.long (framed layout (λ p q. omega arith))
      (framed (station i) (λ p q. omega arith))

  now_fine : Fine (figures_at a) (depth_at a) (clock_at a) (offered_station (station_at a i) (length f))
  now_fine =
      offered_fine (figures_at a) r.figures (depth_at a) (clock_at a) (station_at a i) (length f) low high (r.fine i hi)

  now_fit : Fit (offered_station (station_at a i) (length f))
  now_fit =
      fine_fit (figures_at a) r.figures (depth_at a) (clock_at a) (offered_station (station_at a i) (length f))
      r.depth.1 (omega (arith, r.clock)) now_fine

  own_record : record_at (holding a f i) i ≡ encoded (offered_station (station_at a i) (length f))
  unfolding with_offered b₂ with_held b₁
  own_record =
      record_by (holding a f i) b₂ i (counters_keeps (station i) b₂ i _ (λ p q. omega arith))
      ∙ ap (λ (x : Station). record_at (with_station b₁ i (offered_station x (length f))) i) before
      ∙ record_same b₁ (omega (arith, long₁, r.long)) i (offered_station (station_at a i) (length f)) small now_fit

  other_record : (j : ℕ) → j < max_stations → (j ≡ i → ⊥) → record_at (holding a f i) j ≡ record_at a j
  other_record j h ne =
      record_by (holding a f i) a j (elsewhere (station j) (λ p q. omega arith) (λ p q. ne (omega arith))
      (λ p q. omega (arith, small)))

  address_there : (j : ℕ) → j < max_stations → address_at (holding a f i) j ≡ address_at a j
  address_there j h = address_by (holding a f i) a j h (omega (arith, offer_long, r.long)) r.long offer_layout

  pub offer_own : station_at (holding a f i) i ≡ offered_station (station_at a i) (length f)
  unfolding station_at
  offer_own =
      ap₂ decoded own_record (address_there i small ∙ kept_address (record_at a i) (address_at a i) (length f))
      ∙ decoded_encoded (offered_station (decoded (record_at a i) (address_at a i)) (length f))

  pub offer_other : (j : ℕ) → j < max_stations → (j ≡ i → ⊥) → station_at (holding a f i) j ≡ station_at a j
  unfolding station_at
  offer_other j h ne = ap₂ decoded (other_record j h ne) (address_there j h)

  -- its counters, with the offer
  counters_there : counters_at b₂ i ≡ counters_at a i
  counters_there = counters_by b₂ a i (held (counters i) (λ p q. omega arith) (λ p q. omega arith))

  pub offer_counters : counters_at (holding a f i) i ≡ added (counters_at a i) 0 1
  unfolding with_offered counters_at b₂ b₁
  offer_counters =
      let w = added_words (counters_at b₂ i) 0 1
      (length_words counter_count b₂ (from (the_counters i)), subst Small (sym counters_there) (r.counts i hi)) in
      counters_same b₂ (omega (arith, long₂, r.long)) i (added (counters_at b₂ i) 0 1) small w.0 w.1
      ∙ ap (λ (cs : List ℕ). added cs 0 1) counters_there

  pub offer_counters_other : (j : ℕ) → j < max_stations → (j ≡ i → ⊥) → counters_at (holding a f i) j ≡ counters_at a j
  offer_counters_other j h ne =
      counters_by (holding a f i) a j
      (elsewhere (counters j) (λ p q. omega arith) (λ p q. omega arith) (λ p q. ne (omega arith)))

  counts_there : (j : ℕ) → j < count_at a → Small (counters_at (holding a f i) j)
  unfolding counters_at
  counts_there j h =
      by_eq j i
      (λ e. rw e (subst Small (sym offer_counters)
      (added_words (counters_at a i) 0 1 (length_words counter_count a (from (the_counters i)), r.counts i hi)).1))
      (λ ne. subst Small (sym (offer_counters_other j (let few = r.spread.few in omega arith) ne)) (r.counts j h))

  fine_there : (j : ℕ) → j < count_at a → Fine (figures_at a) (depth_at a) (clock_at a) (station_at (holding a f i) j)
  fine_there j h =
      by_eq j i
      (λ e. rw e (rw offer_own now_fine))
      (λ ne. rw (offer_other j (let few = r.spread.few in omega arith) ne) (r.fine j h))

  right_there : (j : ℕ) → j < count_at a
      → record_wrong (figures_at a) (depth_at a) (clock_at a) (record_at (holding a f i) j) ≡ false
  right_there j h =
      by_eq j i
      (λ e. rw e (rw own_record (record_right (figures_at a) (depth_at a) (clock_at a)
      (offered_station (station_at a i) (length f)) now_fine)))
      (λ ne. rw (other_record j (let few = r.spread.few in omega arith) ne) (v.records j h))

  now_sized : (m : ℕ) → length f ≤ m → octets_held (offered_station (station_at a i) (length f)).transmitter
      (offered_station (station_at a i) (length f)).frame ≤ m
  unfolding offered_station
  now_sized m h = h

  still_reads : (m : ℕ) → octets_in (station_at a i).receiver ≤ m
      → octets_in (offered_station (station_at a i) (length f)).receiver ≤ m
  unfolding offered_station
  still_reads m h = h

  buffer_there : (j : ℕ) → j < max_stations → buffer_at (holding a f i) j ≡ buffer_at a j
  buffer_there j h =
      buffer_by (holding a f i) a j h (omega (arith, offer_long, r.long)) r.long
      (elsewhere (buffer j) (λ p q. omega arith) (λ p q. omega arith) (λ p q. omega arith))

  sizes_there : length f ≤ max_frame (value_of f) → (j : ℕ) → j < count_at a
      → Sized (frame_at (holding a f i) j min_frame) (buffer_at (holding a f i) j) (station_at (holding a f i) j)
  sizes_there fit j h =
      let few = r.spread.few in
      by_eq j i
      (λ e. rw (e, offer_own, buffer_there i small) (record {
        sends = now_sized _ (rw (holding_value a f i r.long small low high) fit);
        reads = still_reads _ (v.sizes i hi).reads;
      }))
      (λ ne. rw (
        frame_by (holding a f i) a j min_frame (omega arith) (omega arith) (omega (arith, offer_long, r.long)) r.long
            (elsewhere (frame j) (λ p q. ne (omega arith)) (λ p q. omega arith) (λ p q. omega arith)),
        offer_other j (omega arith) ne,
        buffer_there j (omega arith),
      ) (v.sizes j h))

  pub offer_passing : length f ≤ max_frame (value_of f) → Passing (holding a f i)
  offer_passing fit =
      let n = count_by (holding a f i) a offer_layout in
      let g = figures_by (holding a f i) a offer_layout in
      let few = r.spread.few in
      let big : area_size ≤ length (holding a f i) = omega (arith, offer_long, r.long) in
      record {
        ready = record {
          long = big;
          sound = ap refusal_of (layout_by (holding a f i) a big r.long offer_layout) ∙ r.sound;
          figures = subst Figured (sym g) r.figures;
          spread = subst (λ (m : ℕ). Spread m (holding a f i)) (sym n)
              (spread_by (count_at a) (holding a f i) a offer_layout r.spread);
          depth = rw offer_depth r.depth;
          clock = rw offer_clock r.clock;
          fine = λ j h. rw (g, offer_depth, offer_clock) (fine_there j (omega arith));
          codes = λ j u h.
              rw (symbol_by (holding a f i) a j u
              (elsewhere (place j u) (λ p q. omega arith) (λ p q. omega arith) (λ p q. omega arith)))
              (r.codes j u (omega arith));
          counts = λ j h. counts_there j (omega arith);
        };
        records = λ j h. rw (g, offer_depth, offer_clock) (right_there j (omega arith));
        sizes = λ j h. sizes_there fit j (omega arith);
      }

-- the frame of an accepted offer is one
pub frame_range : (d s : List ℕ) (v : ℕ) (x : List ℕ) → length d ≡ 6 → length s ≡ 6 → refuses_data v (length x) ≡ false
    → (64 ≤ length (frame_of d s v x)) × (length (frame_of d s v x) ≤ buffer_octets)
frame_range d s v x hd hs h =
    let n = frame_size d s v x hd hs in let w = data_within v (length x) h in (omega arith, omega arith)

pub offered_passes : (a : List ℕ) (i : ℕ) (d : List ℕ) (v : ℕ) (x : List ℕ) → length d ≡ 6 → Passing a
    → Passing (offered a i d v x).octets
unfolding offered with_offer
offered_passes a i d v x six p =
    let few = p.ready.spread.few in
    rw (eq-eqb (area_refusal a) 0 (ready_passes a p))
    (by_test (leb (count_at a) i)
    (λ c. rw c p)
    (λ c. by_test (refuses_data v (length x))
    (λ e. rw (c, e) p)
    (λ e. by_test (holds (station_at a i).transmitter)
    (λ h. rw (c, e, h) p)
    (λ h. let hi = leb-false (count_at a) i c in
    let own = address_six a i (omega arith) p.ready.long in
    let z = frame_range d (address_at a i) v x six own e in
    rw (c, e, h) (offer_passing a (frame_of d (address_at a i) v x) i p hi z.0 z.1
    (stored_within d (address_at a i) v x six own e))))))

-- an offer keeps the clock and the length
pub offered_keeps : (a : List ℕ) (i : ℕ) (d : List ℕ) (v : ℕ) (x : List ℕ) → length d ≡ 6 → Passing a
    → (clock_at (offered a i d v x).octets ≡ clock_at a) × (length (offered a i d v x).octets ≡ length a)
unfolding offered with_offer
offered_keeps a i d v x six p =
    let few = p.ready.spread.few in
    rw (eq-eqb (area_refusal a) 0 (ready_passes a p))
    (by_test (leb (count_at a) i)
    (λ c. rw c (refl, refl))
    (λ c. by_test (refuses_data v (length x))
    (λ e. rw (c, e) (refl, refl))
    (λ e. by_test (holds (station_at a i).transmitter)
    (λ h. rw (c, e, h) (refl, refl))
    (λ h. let hi = leb-false (count_at a) i c in
    let z = frame_range d (address_at a i) v x six (address_six a i (omega arith) p.ready.long) e in
    rw (c, e, h) (
      offer_clock a (frame_of d (address_at a i) v x) i p hi z.0 z.1,
      offer_long a
          (frame_of d (address_at a i) v x) i p hi z.0 z.1,
    )))))

-- ---- a step

pub stepped_passes : (a : List ℕ) → Passing a → Passing (stepped_once a).octets
unfolding stepped_once
stepped_passes a p =
    rw (eq-eqb (area_refusal a) 0 (ready_passes a p))
    (by_test (ltb last_clock (clock_at a + 1)) (λ c. rw c p)
    (λ c. rw c (step_passing a p (let h = ltb-false last_clock (clock_at a + 1) c in omega arith))))
