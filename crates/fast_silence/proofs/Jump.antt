-- Stage 1: where nobody emits and nothing arrives for K steps, K steps are one jump (the specs' Jump). Assumes nothing.
use Prim.Native.Nat.{ℕ, zero, suc, ◌+◌, ◌-◌, ◌%◌, ◌≤◌, ◌<◌}
use Rattle.std.specs.Prelude.{◌≡◌, false, ltb, get_or, None}
use Rattle.std.proofs.Math.Path.{refl, sym, ap, ap₂, subst}
use Rattle.std.proofs.Common.{◌∙◌, arith}
use mathlib.Core.List.{List}
use borrow.Author.Tests.{ltb-true, ltb-false}
use Rattle.std.proofs.Math.ListN.{length}
use Rattle.octets.specs.BaseLaws.{by_test, by_eq, below_none}
use Rattle.octets.specs.Filled.{filled, filled_same}
use Rattle.octets.specs.Turns.{turns, length_turns}
use Rattle.sheet_layout.specs.declared.Figures.{Figures}
use Rattle.sheet_layout.specs.Layout.{gap_of}
use Rattle.sheet_layout.specs.CheckLaws.{Figured}
use Rattle.station_symbols.specs.declared.Heard.{Heard}
use Rattle.station_symbols.specs.declared.Heard.TheVariants.{Nothing}
use Rattle.station_symbols.specs.declared.Symbol.TheVariants.{Silence}
use Rattle.station_symbols.specs.declared.Emission.TheVariants.{Rest}
use Rattle.station_symbols.specs.Packet.{symbol_of}
use Rattle.station_spec.specs.Transmit.{octets_held}
use Rattle.station_state.specs.declared.Station.{Station}
use Rattle.station_spec.specs.declared.Stepped.{Stepped}
use Rattle.station_spec.specs.Step.{stepped}
use Rattle.area_record.specs.Codec.{decoded}
use Rattle.area_record.specs.CodecLaws.{Fit}
use Rattle.area.specs.Places.{Part, counters, station, buffer, place, Off, Keeps}
use Rattle.area.specs.Area.{clock_at, with_clock, depth_at, draw_at, figures_at, count_at, address_at, station_at, with_station}
use Rattle.area.specs.Area.{frame_at, buffer_at, heard_of, heard_code, symbol_at, arrival_at, met}
use Rattle.area.specs.AreaLaws.{keeps_refl, keeps_trans, keeps_sym, station_keeps, clock_keeps, symbol_by, symbol_turn}
use Rattle.area.specs.AreaLaws.{station_same, length_station, length_clock}
use Rattle.area.specs.Written.{station_over}
use Rattle.area.specs.Whole.{Still, clock_still, station_still, station_on, clock_on}
use Rattle.bus_spec.specs.declared.Events.{Events}
use Rattle.bus_spec.specs.BitTime.{happened, with_counted, events_of, no_events, event_at, events_at}
use Rattle.bus_spec.specs.Range.{Fine, fine_fit}
use Rattle.bus_spec.specs.Ready.{Readiness}
use Rattle.bus_spec.specs.Run.{tallied, run_of}
use Rattle.bus_spec.specs.Until.{has_event, eventful, until_event}
use Rattle.bus_spec.specs.UntilLaws.{plus}
use Rattle.bus_meeting.specs.Net.{heard}
use Rattle.bus_meeting.specs.Meet.{met_none}
use Rattle.bus_quick.specs.Quick.{quietly}
use Rattle.fast_plan.specs.Own.{outcome_on, act_on, own_left, own_turn, by_itself, itself_heard, OwnSame, own_trans}
use Rattle.fast_plan.specs.NoEvents.{none_at, nothing_tallied}
use Rattle.fast_plan.specs.Plan.{Plan, cut, net_of, line_now, hears, line_after, own_after, act_after, Holds, steps, Planned}
use Rattle.fast_plan.specs.Happens.{heard_none}
use Rattle.fast_plan.proofs.Happens.{plan_happens}
use Rattle.fast_plan.specs.Exact.{Left, symbol_code, left_same_area, planned_left}
use Rattle.fast_plan.specs.Prefix.{Unhurt}
use Rattle.fast_plan.specs.Runs.{events_by, tallied_by, until_steps}
use Rattle.fast_plan.proofs.Runs.{plan_events, run_steps}
use Rattle.fast_silence.specs.Rested.{rested, Rests, rested_none, rested_fit, rested_address}
use Rattle.fast_silence.proofs.Rested.{rested_step}
use Rattle.sheet_layout.specs.Limits.{last_clock, max_stations, max_draws}
use Rattle.area.specs.Offsets.{area_size, ring}
use Rattle.station_tally.specs.Words.{ends_run}
use Rattle.fast_silence.specs.Jump.{Silent, rested_all, jumped, silent_plan}

-- ---- what a silence is

module _ (a : List ℕ) (K : ℕ) where
  pub rested_length : (k : ℕ) → length (rested_all a K k a) ≡ length a
  unfolding rested_all
  rested_length k = length_turns _ k a (λ i y. length_station y i (rested (figures_at a) K (station_at a i)))

  pub rested_keeps : (p : Part) (k : ℕ) → ((i : ℕ) → i < k → Off p (station i)) → Keeps p (rested_all a K k a) a
  unfolding rested_all turns
  rested_keeps p zero o = keeps_refl p a
  rested_keeps p (suc k) o =
      keeps_trans p (rested_all a K (suc k) a) (rested_all a K k a) a
      (station_keeps p (rested_all a K k a) k (rested (figures_at a) K (station_at a k)) (o k (omega arith)))
      (rested_keeps p k (λ i h. o i (omega arith)))

-- ---- one station

quiet_left : (i : ℕ) (s : Station) (x : List ℕ) → own_left i (quietly s Rest None) x ≡ with_station x i s
unfolding own_left with_counted happened quietly
quiet_left i s x = refl

module _ (f : Figures) (d i : ℕ) (a : List ℕ) (K : ℕ) (hi : i < max_stations) (room : area_size ≤ length a)
    (g : Figured f)
    (v : Fine f d (clock_at a) (station_at a i)) (few : d ≤ max_draws) (early : clock_at a < 4294967295)
    (l : Rests f K (station_at a i)) where
  q : Station
  q = station_at a i

  gap_some : 1 ≤ gap_of f
  unfolding gap_of
  gap_some = omega (arith, g.gap2)

  fits : (m : ℕ) → Fit (rested f m q)
  unfolding q
  fits m = rested_fit f m (station_at a i) g (fine_fit f g d (clock_at a) (station_at a i) few early v)

  own_address : (m : ℕ) → (rested f m q).address ≡ address_at a i
  unfolding q station_at decoded
  own_address m = rested_address f m (station_at a i)

  -- after m steps, m > 0
  there : (m : ℕ) → station_at (with_station a i (rested f m q)) i ≡ rested f m q
  there m = station_same a room i (rested f m q) hi (fits m) (own_address m)

  outcome_by : (m : ℕ) (x : List ℕ) → m < K → station_at x i ≡ rested f m q
      → (act_on f d i Nothing x).outcome ≡ quietly (rested f (suc m) q) Rest None
  unfolding act_on outcome_on q
  outcome_by m x h e =
      ap (λ (s : Station). stepped f s d (draw_at x i s.draw) (buffer_at x i) Nothing) e
      ∙ rested_step f K m (station_at a i) d (draw_at x i (rested f m (station_at a i)).draw) (buffer_at x i) gap_some l h

  begins : station_at a i ≡ rested f 0 q
  unfolding q
  begins = sym (rested_none f d (clock_at a) (station_at a i) v l.silent)

  turn_by : (m : ℕ) (x : List ℕ) → m < K → station_at x i ≡ rested f m q
      → own_turn f d i Nothing x ≡ with_station x i (rested f (suc m) q)
  unfolding own_turn
  turn_by m x h e = ap (λ (o : Stepped). own_left i o x) (outcome_by m x h e) ∙ quiet_left i (rested f (suc m) q) x

  pub silent_itself : (m : ℕ) → suc m ≤ K
      → by_itself f d i (λ s. Nothing) (suc m) a ≡ with_station a i (rested f (suc m) (station_at a i))
  unfolding by_itself turns q
  silent_itself zero h = turn_by 0 a h begins
  silent_itself (suc m) h =
      let x = with_station a i (rested f (suc m) (station_at a i)) in
      ap (own_turn f d i Nothing) (silent_itself m (omega arith))
      ∙ turn_by (suc m) x h (there (suc m))
      ∙ station_over a i hi (rested f (suc (suc m)) (station_at a i)) (rested f (suc m) (station_at a i)) room

  -- what it does in step m
  pub silent_act : (m : ℕ) → m < K
      → (act_on f d i Nothing (by_itself f d i (λ s. Nothing) m a)).outcome ≡ quietly (rested f (suc m) (station_at a i))
      Rest None
  unfolding by_itself turns q
  silent_act zero h = outcome_by 0 a h begins
  silent_act (suc m) h =
      ap (λ (x : List ℕ). (act_on f d i Nothing x).outcome) (silent_itself m (omega arith))
      ∙ outcome_by (suc m) (with_station a i (rested f (suc m) (station_at a i))) h (there (suc m))

nothing_eventful : (n : ℕ) → eventful (filled no_events (λ i. no_events) n) ≡ false
unfolding eventful has_event
nothing_eventful n =
    below_none (λ i. has_event (event_at (filled no_events (λ i. no_events) n) i)) 16 (λ i h. ap has_event (none_at n i))

-- ---- the plan of silence

module _ (a : List ℕ) (K : ℕ) (r : Readiness a) (s : Silent a K) where
  silence_heard : (E : Plan) (j v : ℕ) → ((i u : ℕ) → E i u ≡ Silence)
      → met (line_now a j v) (heard (net_of a) E j v) ≡ line_now a j v
  silence_heard E j v h = ap (met (line_now a j v)) (heard_none (net_of a) E j v h) ∙ met_none (line_now a j v)

  line_empty : (j u : ℕ) → j < count_at a → u < K → line_now a j u ≡ Nothing
  unfolding line_now arrival_at heard_of
  line_empty j u hj hu =
      by_test (ltb u ring)
      (λ c. rw (c, s.empty j u hj hu (ltb-true u ring c)))
      (λ c. rw c)

  hears_none : (j u : ℕ) → j < count_at a → u < K → hears a silent_plan j u ≡ Nothing
  unfolding hears silent_plan
  hears_none j u hj hu = silence_heard silent_plan j u (λ i v. refl) ∙ line_empty j u hj hu

  own_silent : (i m : ℕ) → i < count_at a → m ≤ K
      → own_after a silent_plan i m ≡ by_itself (figures_at a) (depth_at a) i (λ u. Nothing) m a
  unfolding own_after
  own_silent i m hi hm = itself_heard (figures_at a) (depth_at a) i (hears a silent_plan i) (λ u. Nothing) m a
      (λ u h. hears_none i u hi (omega arith))

  own_rested : (i : ℕ) → i < count_at a → 0 < K
      → own_after a silent_plan i K ≡ with_station a i (rested (figures_at a) K (station_at a i))
  own_rested i hi pos =
      let few = r.spread.few in
      let z : K ≡ suc (K - 1) = omega arith in
      own_silent i K hi (omega arith)
      ∙ ap (λ (k : ℕ). by_itself (figures_at a) (depth_at a) i (λ u. Nothing) k a) z
      ∙ silent_itself (figures_at a) (depth_at a) i a K (omega arith) r.long r.figures (r.fine i hi) r.depth.1
      (omega (arith, r.clock)) (s.calm i hi) (K - 1) (omega arith)
      ∙ ap (λ (k : ℕ). with_station a i (rested (figures_at a) k (station_at a i))) (sym z)

  acts : (i m : ℕ) → i < count_at a → m < K
      → (act_after a silent_plan i m).outcome ≡ quietly (rested (figures_at a) (suc m) (station_at a i)) Rest None
  unfolding act_after
  acts i m hi hm =
      let few = r.spread.few in
      ap₂ (λ (h : Heard) (x : List ℕ). (act_on (figures_at a) (depth_at a) i h x).outcome) (hears_none i m hi hm)
      (own_silent i m hi (omega arith))
      ∙ silent_act (figures_at a) (depth_at a) i a K (omega arith) r.long r.figures (r.fine i hi) r.depth.1
      (omega (arith, r.clock)) (s.calm i hi) m hm

  silent_symbol : (f : Figures) (d i : ℕ) (h : Heard) (x : List ℕ) (q : Station)
      → (act_on f d i h x).outcome ≡ quietly q Rest None → (act_on f d i h x).symbol ≡ Silence
  unfolding act_on quietly
  silent_symbol f d i h x q e = ap
      (λ (o : Stepped). symbol_of (frame_at x i (octets_held (station_at x i).transmitter (station_at x i).frame))
      o.emission) e

  pub silence_holds : Holds a silent_plan K
  unfolding Holds act_after silent_plan
  silence_holds u i hu hi =
      silent_symbol (figures_at a) (depth_at a) i (hears a silent_plan i u) (own_after a silent_plan i u)
      (rested (figures_at a) (suc u) (station_at a i)) (acts i u hi hu)

  pub silence_unhurt : Unhurt a silent_plan K
  unfolding Unhurt quietly
  silence_unhurt u i hu hi = ap (λ (o : Stepped). ends_run o.sent) (acts i u hi hu)

  -- ---- what is left

  rested_station : (k i : ℕ) → i < k → k ≤ max_stations
      → Keeps (station i) (rested_all a K k a) (with_station a i (rested (figures_at a) K (station_at a i)))
  unfolding rested_all turns
  rested_station zero i hi hk = absurd (omega arith)
  rested_station (suc k) i hi hk =
      let y = rested_all a K k a in
      by_eq i k
      (λ e. subst (λ (j : ℕ). Keeps (station i) (with_station y j (rested (figures_at a) K (station_at a j)))
      (with_station a i (rested (figures_at a) K (station_at a i)))) e
      (station_on i (omega arith) y a (omega (arith, rested_length a K k, r.long)) r.long
      (rested (figures_at a) K (station_at a i)) (rested_keeps a K (station i) k (λ j h x z. omega arith))))
      (λ ne. keeps_trans (station i) (with_station y k (rested (figures_at a) K (station_at a k))) y
      (with_station a i (rested (figures_at a) K (station_at a i)))
      (station_keeps (station i) y k (rested (figures_at a) K (station_at a k)) (λ x z. ne (omega arith)))
      (rested_station k i (omega arith) (omega arith)))

  rested_still : (k m : ℕ) → Still (count_at a) k → m ≤ count_at a → get_or (rested_all a K m a) k 0 ≡ get_or a k 0
  unfolding rested_all turns
  rested_still k zero st hm = refl
  rested_still k (suc m) st hm =
      station_still (count_at a) k st (rested_all a K m a) m (rested (figures_at a) K (station_at a m)) hm
      ∙ rested_still k m st (omega arith)

  line_silent : (j v : ℕ) → line_after a silent_plan K j v ≡ line_now a j v
  unfolding line_after cut silent_plan
  line_silent j v = silence_heard (cut K silent_plan) j v (λ i u. by_test (ltb u K) (λ c. rw c) (λ c. rw c))

  line_code : (j v : ℕ) → j < count_at a → K ≤ v → v < K + ring
      → symbol_at a j (clock_at a + v) ≡ heard_code (line_now a j v)
  unfolding line_now
  line_code j v hj lo up =
      by_test (ltb v ring)
      (λ c. rw c (symbol_code a j (clock_at a + v) (r.codes j (clock_at a + v) hj)))
      (λ c. let g = ltb-false v ring c in rw c
      (symbol_turn a j (clock_at a + v) (clock_at a + v % ring) (omega arith) ∙ s.empty j (v % ring) hj (omega arith)
      (omega arith)))

  jumped_left : 0 < K → Left a silent_plan K (jumped K a)
  unfolding jumped
  jumped_left pos =
      let n = count_at a in
      let few = r.spread.few in
      let y = rested_all a K n a in
      let x = with_clock y (clock_at a + K) in
      let ly : length y ≡ length a = rested_length a K n in
      record {
        long = length_clock y (clock_at a + K) ∙ ly;
        stamp = clock_on y a (clock_at a + K) (omega (arith, ly, r.long)) r.long;
        own = λ i hi. let w = with_station a i (rested (figures_at a) K (station_at a i)) in
            subst (OwnSame i x) (sym (own_rested i hi pos))
            (own_trans i x y w
            (record {
              station = clock_keeps (station i) y (clock_at a + K) (λ p q. omega arith);
              counters = clock_keeps
                  (counters i) y (clock_at a + K) (λ p q. omega arith);
              buffer = clock_keeps (buffer i) y (clock_at a + K)
                  (λ p q. omega arith);
            })
            (record {
              station = rested_station n i hi few;
              counters = keeps_trans (counters i) y a w (rested_keeps a K (counters i) n (λ j h p q. omega arith))
                  (keeps_sym (counters i) w a (station_keeps (counters i) a i _ (λ p q. omega arith)));
              buffer = keeps_trans (buffer i) y a w (rested_keeps a K (buffer i) n (λ j h p q. omega arith))
                  (keeps_sym (buffer i) w a (station_keeps (buffer i) a i _ (λ p q. omega arith)));
            }));
        line = λ j v hj lo up.
            symbol_by x y j (clock_at a + v)
            (clock_keeps (place j (clock_at a + v)) y (clock_at a + K) (λ p q. omega arith))
            ∙ symbol_by y a j (clock_at a + v) (rested_keeps a K (place j (clock_at a + v)) n (λ i h p q. omega arith))
            ∙ line_code j v hj lo up
            ∙ ap heard_code (sym (line_silent j v));
        rest = λ k st. clock_still n k st y (clock_at a + K) ∙ rested_still k n st (omega arith);
      }

  -- Stage 1
  pub silence_jumps : 0 < K → clock_at a + K ≤ last_clock → steps K a ≡ jumped K a
  silence_jumps pos early =
      left_same_area a silent_plan K (steps K a) (jumped K a) r.spread.few
      (planned_left a silent_plan K (steps K a) pos (plan_happens a silent_plan K r early silence_holds))
      (jumped_left pos)

  -- and nothing is counted
  quiet_events : (u : ℕ) → u < K → events_by a silent_plan u ≡ filled no_events (λ i. no_events) (count_at a)
  unfolding events_by quietly
  quiet_events u h = filled_same no_events (λ i. events_of (act_after a silent_plan i u)) (λ i. no_events) (count_at a)
      (λ i hi. ap (λ (o : Stepped). record { sent = o.sent; got = o.got }) (acts i u hi h))

  quiet_words : (m : ℕ) (ws : List ℕ) → m ≤ K → tallied_by a silent_plan m ws ≡ ws
  unfolding tallied_by turns
  quiet_words zero ws h = refl
  quiet_words (suc m) ws h =
      ap₂ (λ (es : List Events) (vs : List ℕ). tallied es 16 vs) (quiet_events m h) (quiet_words m ws (omega arith))
      ∙ nothing_tallied (count_at a) 16 ws

  pub run_jumps : (k m : ℕ) (ws : List ℕ) → 0 < K → clock_at a + K ≤ last_clock
      → run_of (K + k) m ws a ≡ run_of k (m + K) ws (jumped K a)
  run_jumps k m ws pos early =
      run_steps a silent_plan K k m ws r early silence_holds silence_unhurt
      ∙ ap₂ (run_of k (m + K)) (quiet_words K ws (omega arith)) (silence_jumps pos early)

  quiet_step : (u : ℕ) → u < K → clock_at a + K ≤ last_clock → eventful (events_at (steps u a)) ≡ false
  quiet_step u h early =
      ap eventful (plan_events a silent_plan K u r early silence_holds (omega arith) ∙ quiet_events u h)
      ∙ nothing_eventful (count_at a)

  pub until_jumps : (k : ℕ) → 0 < K → clock_at a + K ≤ last_clock
      → until_event (K + k) a ≡ plus K (until_event k (jumped K a))
  until_jumps k pos early =
      until_steps a K k (λ u h. quiet_step u h early)
      ∙ ap (λ (x : List ℕ). plus K (until_event k x)) (silence_jumps pos early)

  pub jump_planned : 0 < K → clock_at a + K ≤ last_clock → Planned a silent_plan K (jumped K a)
  jump_planned pos early =
      subst (Planned a silent_plan K) (silence_jumps pos early) (plan_happens a silent_plan K r early silence_holds)
