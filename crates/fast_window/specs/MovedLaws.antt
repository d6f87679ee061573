-- A station that moves on run by run of what it hears, and all stations one after the other: a law for each way through
-- the code. Assumes nothing.
use Rattle.std.specs.Prelude.{ℕ, zero, suc, ◌+◌, ◌-◌, ◌≤◌, ◌<◌, ◌≡◌, eqb, ltb, length, get_or, take}
use Rattle.std.proofs.Math.Path.{refl, sym, ap, ap₂, subst}
use Rattle.std.proofs.Common.{◌∙◌}
use mathlib.Core.List.{List}
use native.Mathlib.Omega.{arith}
use borrow.Author.Tests.{lt-ltb, eqb-true, eqb-false}
use Rattle.std.proofs.lemmas.List.Edits.{sets}
use Rattle.octets.specs.Store.{take_sets, length_part}
use Rattle.octets.specs.Base.{pick}
use Rattle.octets.specs.BaseLaws.{by_test}
use Rattle.octets.specs.Turns.{turns, turns_none, turns_more, turns_end}
use Rattle.sheet_layout.specs.declared.Figures.{Figures}
use Rattle.sheet_layout.specs.CheckLaws.{Figured}
use Rattle.station_symbols.specs.declared.Heard.{Heard}
use Rattle.station_symbols.specs.declared.Heard.TheVariants.{Nothing, Spoiled}
use Rattle.station_symbols.specs.declared.Symbol.TheVariants.{Bit}
use Rattle.station_symbols.specs.Packet.{packet_bit, hears_any}
use Rattle.station_state.specs.declared.Transmitter.{Transmitter}
use Rattle.station_state.specs.declared.Transmitter.TheVariants.{NoFrame, Waiting, BackingOff, Sending, Heading}
use Rattle.station_state.specs.declared.Transmitter.TheVariants.{Jamming}
use Rattle.station_state.specs.declared.Station.{Station}
use Rattle.station_spec.specs.Transmit.{octets_held}
use Rattle.area.specs.Places.{Part, layout, station, frame, place, Keeps}
use Rattle.area.specs.Area.{depth_at, figures_at, count_at, station_at, frame_at, arrival_at, met}
use Rattle.area.specs.AreaLaws.{station_by, frame_by, arrival_by}
use Rattle.bus_spec.specs.Range.{Fine, NumberIn, FrameIn}
use Rattle.fast_plan.specs.Own.{own_turn, by_itself, itself_heard, itself_split, by_itself_none}
use Rattle.fast_plan.specs.Own.{itself_keeps, Others}
use Rattle.fast_plan.specs.Plan.{hears}
use Rattle.fast_plan.specs.Exact.{own_all, length_own, own_keeps}
use Rattle.fast_receive.specs.Received.{spoils, bits_from, AllHeard}
use Rattle.fast_receive.specs.Received as received
use Rattle.fast_line.specs.Line.{kind_of}
use Rattle.fast_line.specs.LineLaws.{by_clean, heard_spoiled}
use Rattle.fast_heard.specs.declared.Near.{Near}
use Rattle.fast_heard.specs.declared.Segment.{Segment}
use Rattle.fast_heard.specs.declared.Kind.{Kind}
use Rattle.fast_heard.specs.declared.Kind.TheVariants.{Silent, Line, From, Mixed}
use Rattle.fast_heard.specs.Hearing.{held_at, plan_of, bit_of, nearest_of, near_bit, brought, line_from}
use Rattle.fast_heard.specs.Hearing.{mixed, sends, Says, Segmented}
use Rattle.fast_heard.specs.NearLaws.{near_station}
use Rattle.fast_heard.specs.HearingLaws.{brought_same, hears_mixed}
use Rattle.fast_segment.specs.Alone.{Moves, itself_moves}
use Rattle.fast_move.specs.Move.{heard_in, Moving, Audible}
use Rattle.fast_heard.specs.declared.Sight.{Sight}
use Rattle.fast_heard.specs.Sights.{sight_by, sight_of}
use Rattle.fast_bound.specs.Bound.{Sighted}
use Rattle.fast_heard.specs.SightLaws.{bit_near, bit_from}
use Rattle.fast_window.specs.Window.{bit_at, heard_by, heard_from, Begins}
use Rattle.sheet_layout.specs.Limits.{last_clock, max_stations}
use Rattle.area.specs.Offsets.{area_size, ring, from, the_frame, frame_room}
use Rattle.frame_build.specs.Limits.{buffer_octets}

-- ---- turns that hear alike

itself_alike : (f : Figures) (d i : ℕ) (H G : ℕ → Heard) (m : ℕ) (x : List ℕ)
    → ((s : ℕ) → s < m → (y : List ℕ) → own_turn f d i (H s) y ≡ own_turn f d i (G s) y)
    → by_itself f d i H m x ≡ by_itself f d i G m x
unfolding by_itself turns
itself_alike f d i H G zero x h = refl
itself_alike f d i H G (suc m) x h =
    h m (omega arith) (by_itself f d i H m x)
    ∙ ap (own_turn f d i (G m)) (itself_alike f d i H G m x (λ s l. h s (omega arith)))

turn_spoiled : (f : Figures) (d i : ℕ) (h : Heard) (y : List ℕ) → kind_of h ≡ 2
    → own_turn f d i h y ≡ own_turn f d i Spoiled y
turn_spoiled f d i h y e = ap (λ (g : Heard). own_turn f d i g y) (heard_spoiled h e)

-- ---- a run

module _ (f : Figures) (D j : ℕ) (H : ℕ → Heard) (y : List ℕ) (t : ℕ) (F : List ℕ) (k d s m : ℕ) where
  later : (v : ℕ) → t + (s + v) ≡ t + s + v
  later v = omega arith

  run_alike : (K : Kind) → Says H (λ u. arrival_at y j (t + u)) F k d s K m
      → (v : ℕ) → v < m → (z : List ℕ)
      → own_turn f D j (heard_in K y j (t + s) F (bit_at k d s) v) z ≡ own_turn f D j (H (s + v)) z
  unfolding received.line_from bits_from spoils
  run_alike Silent h v l z = ap (λ (g : Heard). own_turn f D j g z) (sym (h v l))
  run_alike Line h v l z = ap (λ (g : Heard). own_turn f D j g z) (sym ((h v l).0 ∙ ap (arrival_at y j) (later v)))
  run_alike From h v l z = ap (λ (g : Heard). own_turn f D j g z) (sym (h.2 v l))
  run_alike Mixed h v l z = sym (turn_spoiled f D j (H (s + v)) z (h v l))

  line_audible : (K : Kind) → Says H (λ u. arrival_at y j (t + u)) F k d s K m → K ≡ Line
      → AllHeard (received.line_from y j (t + s)) m
  unfolding AllHeard received.line_from
  line_audible K h e =
      let g = subst (λ (c : Kind). Says H (λ u. arrival_at y j (t + u)) F k d s c m) e h in
      λ v l. by_clean (arrival_at y j (t + (s + v))) (g v l).1
      (λ b p. ap (λ (u : ℕ). hears_any (arrival_at y j u)) (sym (later v)) ∙ ap hears_any p)

module _ (f : Figures) (D j t : ℕ) (w : Near) (F : List ℕ) (k s : ℕ) (y : List ℕ) (run : Segment)
    (h : Segmented y j t w k s run) where
  run_says : Says (heard_by y j t w F k) (λ u. arrival_at y j (t + u)) F k w.d1 s run.kind run.len
  unfolding Segmented heard_by
  run_says = h F

  pub run_audible : Audible run.kind y j (t + s) run.len
  unfolding Audible
  run_audible e = line_audible f D j (heard_by y j t w F k) y t F k w.d1 s run.len run.kind run_says e

  pub run_moved : (b r : ℕ) (z : List ℕ) → b ≡ bit_at k w.d1 s → r ≤ run.len
      → z ≡ by_itself f D j (heard_in run.kind y j (t + s) F b) r y → z ≡ by_itself f D j (heard_from y j t w F k s) r y
  unfolding heard_from
  run_moved b r z eb hr ez =
      ez ∙ ap (λ (n : ℕ). by_itself f D j (heard_in run.kind y j (t + s) F n) r y) eb
      ∙ itself_alike f D j (heard_in run.kind y j (t + s) F (bit_at k w.d1 s))
      (λ u. heard_by y j t w F k (s + u)) r y
      (λ u l q. run_alike f D j (heard_by y j t w F k) y t F k w.d1 s run.len run.kind run_says u
      (omega arith) q)

-- ---- run by run

module _ (f : Figures) (D j t : ℕ) (w : Near) (F : List ℕ) (k : ℕ) (x : List ℕ) where
  pub runs_none : x ≡ by_itself f D j (heard_by x j t w F k) 0 x
  runs_none = sym (by_itself_none f D j (heard_by x j t w F k) x)

  pub runs_end : (m s : ℕ) (y : List ℕ) → s ≤ m → m ≤ s → y ≡ by_itself f D j (heard_by x j t w F k) s x
      → y ≡ by_itself f D j (heard_by x j t w F k) m x
  runs_end m s y lo up e =
      let z : s ≡ m = omega arith in subst (λ (n : ℕ). y ≡ by_itself f D j (heard_by x j t w F k) n x) z e

  module _ (s : ℕ) (y : List ℕ) (ey : y ≡ by_itself f D j (heard_by x j t w F k) s x) where
    pub runs_moving : (m : ℕ) → Moving f D j t x → t + m ≤ last_clock → s < m → Moving f D j (t + s) y
    unfolding Moving
    runs_moving m v early hs =
        subst (Moves f D j (t + s)) (sym ey) (itself_moves f D j (heard_by x j t w F k) s t x (omega arith) v)

    -- its line is as it was
    line_kept : j < max_stations → (u : ℕ) → arrival_at y j u ≡ arrival_at x j u
    line_kept hj u =
        arrival_by y x j u
        (subst (λ (z : List ℕ). Keeps (place j u) z x) (sym ey)
        (itself_keeps (place j u) f D j (heard_by x j t w F k) s x
        (record { station = λ p q. omega arith; counters = λ p q. omega arith; buffer = λ p q. omega arith })))

    pub runs_more : (r : ℕ) (z : List ℕ) → j < max_stations → z ≡ by_itself f D j (heard_from y j t w F k s) r y
        → z ≡ by_itself f D j (heard_by x j t w F k) (s + r) x
    unfolding heard_from heard_by mixed line_from
    runs_more r z hj ez =
        ez
        ∙ itself_heard f D j (λ u. heard_by y j t w F k (s + u)) (λ u. heard_by x j t w F k (s + u)) r y
        (λ u l. ap (λ (g : Heard). met (pick (ltb (s + u) ring) g Nothing) (brought w (sends F k) (s + u)))
        (line_kept hj (t + (s + u))))
        ∙ ap (by_itself f D j (λ u. heard_by x j t w F k (s + u)) r) ey
        ∙ sym (itself_split f D j (heard_by x j t w F k) s r x)

-- ---- the frame of the nearest

pub frame_long : (x F : List ℕ) (i n : ℕ) → i < max_stations → n ≤ frame_room → area_size ≤ length x → F ≡ frame_at x i n
    → length F ≡ n
unfolding frame_at
frame_long x F i n hi hn room e = ap length e ∙ length_part x (from (the_frame i)) n (omega arith)

pub frame_room_lem : (x F : List ℕ) (i n : ℕ) → i < max_stations → n ≤ frame_room → area_size ≤ length x → F ≡ frame_at x i n
    → 0 + length F ≤ frame_room
frame_room_lem x F i n hi hn room e = omega (arith, frame_long x F i n hi hn room e)

pub held_frame : (x F l : List ℕ) (i n : ℕ) (h : List ℕ) → i < max_stations → n ≤ frame_room → area_size ≤ length x
    → length l ≡ frame_room → F ≡ frame_at x i n → h ≡ sets l 0 F
    → take n h ≡ frame_at x i n
held_frame x F l i n h hi hn room long e eh =
    let z = frame_long x F i n hi hn room e in ap (take n) eh ∙ take_sets F l n (sym z) (omega arith) ∙ e

pub station_moved : (f : Figures) (D j t : ℕ) (w : Near) (k m i e : ℕ) (h x y : List ℕ) → take e h ≡ frame_at x i e
    → y ≡ by_itself f D j (heard_by x j t w (take e h) k) m x
    → y ≡ by_itself f D j (heard_by x j t w (frame_at x i e) k) m x
station_moved f D j t w k m i e h x y eh ey =
    ey ∙ ap (λ (F : List ℕ). by_itself f D j (heard_by x j t w F k) m x) eh

-- a frame that is sent has its place, and its bits are few
sent_small : (f : Figures) (z : ℕ) (p : Transmitter) → NumberIn f z p → FrameIn p z → (bit_of p ≡ 0 → ⊥)
    → (z ≤ buffer_octets) × (bit_of p < 65536) × (octets_held p z ≡ z)
sent_small f z NoFrame n h ne = absurd (ne refl)
sent_small f z Waiting n h ne = absurd (ne refl)
sent_small f z (BackingOff w) n h ne = absurd (ne refl)
sent_small f z (Sending k) n h ne = (h.1, omega (arith, h.1, n.1), refl)
sent_small f z (Heading k) n h ne = (h.1, omega (arith, h.1, n.1), refl)
sent_small f z (Jamming l ends) n h ne = absurd (ne refl)

module _ (a : List ℕ) (f : Figures) (d n t : ℕ) (v : Begins a f d n t) where
  begins_few : n ≤ max_stations
  unfolding Begins
  begins_few = let few = v.ready.spread.few in omega (arith, v.count)

  pub begins_gap : f.gap1 + f.gap2 < 65536
  unfolding Begins
  begins_gap =
      subst (λ (g : Figures). g.gap1 + g.gap2 < 65536) (sym v.figures)
      (omega (arith, v.ready.figures.gap1, v.ready.figures.gap2))

  module _ (j : ℕ) (hj : j < n) where
    near : Near
    near = nearest_of a n j

    bit : ℕ
    bit = near_bit a (nearest_of a n j)

    bit_is : (bit ≡ 0 → ⊥) → bit ≡ bit_of (station_at a near.from).transmitter
    unfolding bit near near_bit
    bit_is ne = rw (lt-ltb (nearest_of a n j).d1 ring (bit_near a n j near bit refl refl ne))

    small : (bit ≡ 0 → ⊥)
        → ((station_at a near.from).frame ≤ buffer_octets) × (bit < 65536)
        × (octets_held (station_at a near.from).transmitter (station_at a near.from).frame ≡ (station_at a
        near.from).frame)
    unfolding Begins near bit
    small ne =
        let i = near.from in
        let hi : i < count_at a = omega (
          arith,
          near_station a n j near refl
              (bit_near a n j near bit refl refl ne),
          v.count,
        ) in
        let q = v.ready.fine i hi in
        let s = sent_small (figures_at a) (station_at a i).frame (station_at a i).transmitter q.number q.frame
        (λ e. ne (bit_is ne ∙ e)) in
        (s.0, omega (arith, s.1, bit_is ne), s.2)

    -- what it hears of has its places
    pub sight_fits : ((sight_of a n j).from < max_stations) × ((sight_of a n j).octets ≤ frame_room)
        × ((sight_of a n j).bit < 65536)
    unfolding sight_of sight_by bit near
    sight_fits =
        by_test (eqb bit 0)
        (λ c. rw c (omega arith, omega arith, omega (arith, eqb-true bit 0 c)))
        (λ c. let ne = eqb-false bit 0 c in
        let s = small ne in
        rw c (bit_from a n j near bit refl refl ne begins_few, omega (arith, s.0), s.1))

    -- what it hears of is what the plan brings
    frame_sent_lem : (x : List ℕ) → area_size ≤ length x → ((i : ℕ) → i < max_stations → Keeps (frame i) x a)
        → (u : ℕ) → sends (frame_at x (sight_of a n j).from (sight_of a n j).octets) bit u ≡ sends
        (held_at a near.from) bit u
    unfolding sight_of sight_by bit near sends held_at Begins
    frame_sent_lem x lx keeps u =
        by_test (eqb bit 0)
        (λ c. rw c)
        (λ c. let ne = eqb-false bit 0 c in
        let s = small ne in
        let hi : near.from < max_stations = bit_from a n j near bit refl refl ne begins_few in
        rw c (ap (λ (F : List ℕ). Bit (packet_bit F (bit + u)))
        (frame_by x a near.from (station_at a near.from).frame hi (omega (arith, s.0)) lx v.ready.long
        (keeps near.from hi)
        ∙ ap (frame_at a near.from) (sym s.2))))

    -- ---- in place: the stations before it have moved on over m steps

    module _ (m : ℕ) (y : List ℕ) (ey : y ≡ own_all a (plan_of a) m j a) where
      own_part : (p : Part) → ((i : ℕ) → i < j → Others p i) → Keeps p y a
      own_part p o = subst (λ (z : List ℕ). Keeps p z a) (sym ey) (own_keeps p a (plan_of a) m j a o)

      own_long : length y ≡ length a
      own_long = ap length ey ∙ length_own a (plan_of a) m j a

      same_line : (u : ℕ) → arrival_at y j u ≡ arrival_at a j u
      same_line u =
          arrival_by y a j u (own_part (place j u) (λ i h. record {
            station = λ p q. omega (arith, begins_few);
            counters = λ p q. omega (arith, begins_few);
            buffer = λ p q. omega (arith, begins_few);
          }))

      same_station : station_at y j ≡ station_at a j
      unfolding Begins
      same_station =
          station_by y a j (omega (arith, begins_few)) (omega (arith, own_long, v.ready.long)) v.ready.long
          (own_part layout (λ i h. record {
            station = λ p q. omega (arith, begins_few);
            counters = λ p q. omega (arith, begins_few);
            buffer = λ p q. omega (arith, begins_few);
          }))
          (own_part (station j) (λ i h. record {
            station = λ p q. omega (arith, begins_few);
            counters = λ p q. omega (arith, begins_few);
            buffer = λ p q. omega (arith, begins_few);
          }))

      pub all_moving : Moving f d j t y
      unfolding Begins Moving
      all_moving =
          let r = v.ready in
          record {
            figured = subst Figured (sym v.figures) r.figures;
            depth = (omega (arith, v.depth, r.depth), omega (arith, v.depth, r.depth));
            index = omega (arith, begins_few);
            room = omega (arith, own_long, r.long);
            fine = subst (λ (q : Station). Fine f d t q) (sym same_station)
                (rw (v.figures, v.depth, v.clock) (r.fine j (omega (arith, v.count))));
          }

      heard_same : (s : ℕ) → heard_by y j t (sight_of a n j).near
          (frame_at y (sight_of a n j).from (sight_of a n j).octets) (sight_of a n j).bit s ≡ hears a (plan_of a) j s
      unfolding Begins heard_by mixed sight_of sight_by near bit
      heard_same s =
          ap (met (line_from y j t s))
          (brought_same near (sends (frame_at y (sight_of a n j).from (sight_of a n j).octets) bit)
          (sends (held_at a near.from) bit) s
          (λ h. frame_sent_lem y (omega (arith, own_long, v.ready.long))
          (λ i hi. own_part (frame i) (λ k l. record {
            station = λ p q. omega (arith, begins_few);
            counters = λ p q. omega (arith, begins_few);
            buffer = λ p q. omega (arith, begins_few);
          }))))
          ∙ hears_mixed a y j t near bit v.ready (omega (arith, v.count))
          (ap (λ (c : ℕ). nearest_of a c j) v.count) refl v.clock same_line s

      all_on : (w : Sight) (z : List ℕ) → w ≡ sight_of a n j
          → z ≡ by_itself f d j (heard_by y j t w.near (frame_at y w.from w.octets) w.bit) m y
          → z ≡ own_all a (plan_of a) m (j + 1) a
      unfolding Begins own_all
      all_on w z e ez =
          turns_more (λ i x. by_itself (figures_at a) (depth_at a) i (hears a (plan_of a) i) m x) j a y z
          (ez ∙ ap (λ (q : Sight). by_itself f d j
          (heard_by y j t q.near (frame_at y q.from q.octets) q.bit) m y) e
          ∙ itself_heard f d j (heard_by y j t (sight_of a n j).near
          (frame_at y (sight_of a n j).from (sight_of a n j).octets) (sight_of a n j).bit) (hears a (plan_of a) j) m y
          (λ s l. heard_same s)
          ∙ ap₂ (λ (g : Figures) (c : ℕ). by_itself g c j (hears a (plan_of a) j) m y) v.figures v.depth)
          ey

module _ (a : List ℕ) (f : Figures) (d t : ℕ) (ws : List Sight) (v : Begins a f d (length ws) t) (es : Sighted a ws)
    (j : ℕ) (o : Sight) (hj : j < length ws) where
  sight_asks : ((get_or ws j o).from < max_stations) × ((get_or ws j o).octets ≤ frame_room)
      × ((get_or ws j o).bit < 65536)
  unfolding Sighted
  sight_asks =
      subst (λ (q : Sight). (q.from < max_stations) × (q.octets ≤ frame_room) × (q.bit < 65536)) (sym (es j o hj))
      (sight_fits a f d (length ws) t v j hj)

  pub sight_from : (get_or ws j o).from < max_stations
  sight_from = sight_asks.0

  pub sight_octets : (get_or ws j o).octets ≤ frame_room
  sight_octets = sight_asks.1

  pub sight_bit : (m : ℕ) → t + m ≤ last_clock → (get_or ws j o).bit + m < 4294967296
  sight_bit m h = omega (arith, sight_asks.2)

  pub all_more : (m : ℕ) (y z : List ℕ) → y ≡ own_all a (plan_of a) m j a
      → z ≡ by_itself f d j (heard_by y j t (get_or ws j o).near
      (frame_at y (get_or ws j o).from (get_or ws j o).octets) (get_or ws j o).bit) m y
      → z ≡ own_all a (plan_of a) m (j + 1) a
  unfolding Sighted
  all_more m y z ey ez =
      all_on a f d (length ws) t v j hj m y ey (get_or ws j o) z (es j o hj) ez

pub all_none : (a : List ℕ) (m : ℕ) → a ≡ own_all a (plan_of a) m 0 a
unfolding own_all
all_none a m = turns_none _ a

pub all_end : (a : List ℕ) (m n j : ℕ) (y : List ℕ) → j ≤ n → n ≤ j → y ≡ own_all a (plan_of a) m j a
    → y ≡ own_all a (plan_of a) m n a
unfolding own_all
all_end a m n j y p q e = turns_end _ n j a y p q e
