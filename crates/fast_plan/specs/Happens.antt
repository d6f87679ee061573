-- What one step does to an area that went by a plan so far: it goes by the plan still. That a plan that holds is what
-- happens (Theorem 1) is in proofs/Happens. Assumes nothing.
use Prim.Native.Nat.{ℕ, zero, suc, ◌+◌, ◌-◌, ◌≤◌, ◌<◌}
use Rattle.std.specs.Prelude.{◌≡◌, List, eqb, ltb, leb, get_or, Option, None, Some}
use Rattle.std.proofs.Math.Path.{refl, sym, ap, ap₂, subst}
use Rattle.std.proofs.Common.{◌∙◌}
use native.Mathlib.Omega.{arith}
use borrow.Author.Tests.{eq-eqb, ne_eqb, ltb-true, ltb-false, lt-ltb, le-ltb, leb-true}
use Rattle.std.proofs.Math.ListN.{length}
use Rattle.octets.specs.BaseLaws.{by_test, by_eq}
use Rattle.octets.specs.Turns.{turns}
use Rattle.sheet_layout.specs.declared.Figures.{Figures}
use Rattle.station_symbols.specs.declared.Heard.{Heard}
use Rattle.station_symbols.specs.declared.Heard.TheVariants.{Nothing}
use Rattle.station_symbols.specs.declared.Symbol.{Symbol}
use Rattle.station_symbols.specs.declared.Symbol.TheVariants.{Silence}
use Rattle.station_spec.specs.declared.Stored.{Stored}
use Rattle.station_spec.specs.declared.Stepped.{Stepped}
use Rattle.area.specs.Places.{Part, clock, depth, layout, counters, station, buffer, place, Off, Keeps}
use Rattle.area.specs.Area.{clock_at, with_clock, depth_at, figures_at, count_at, space_at, station_at, arrival_at, met}
use Rattle.area.specs.Whole.{Still, clock_still, station_still, counters_still, bit_still, arrival_still, clock_on}
use Rattle.area.specs.AreaLaws.{keeps_refl, keeps_trans, depth_by, figures_by, count_by, space_by, station_by}
use Rattle.area.specs.AreaLaws.{arrival_by, arrival_turn, arrival_keeps, clock_keeps}
use Rattle.bus_spec.specs.Medium.{send_to, is_silence, pushed}
use Rattle.bus_spec.specs.declared.Act.{Act}
use Rattle.bus_spec.specs.BitTime.{act_in, act_at, with_stored, happened, with_counted, placed, settled, step_area}
use Rattle.bus_spec.specs.Range.{held_small}
use Rattle.bus_spec.specs.InPlace.{Kept, Spread, Foreign}
use Rattle.bus_spec.specs.Ready.{Readiness, kept_at}
use Rattle.bus_spec.proofs.After.{length_after, own, ahead}
use Rattle.bus_spec.proofs.Stays.{step_length, step_layout, step_depth, step_draws, step_frame, step_clock}
use Rattle.bus_spec.proofs.Stays.{step_ready}
use Rattle.bus_meeting.specs.Net.{Net, gathered, reaches, heard, grown}
use Rattle.bus_meeting.specs.Gather.{gathered_same, gathered_none}
use Rattle.bus_meeting.specs.Meet.{met_none, met_group, adds, heard_grown, heard_far}
use Rattle.bus_meeting.specs.Lines.{share, share_adds, line_all, clear_all}
use Rattle.fast_plan.specs.Own.{act_on, own_left, own_turn, by_itself, by_itself_more, act_heard, length_itself}
use Rattle.fast_plan.specs.Own.{OwnSame, own_refl, own_sym, own_trans, left_same, Stays, stays_refl, stays_trans}
use Rattle.fast_plan.specs.Own.{stays_sym, Drawn, on_same, itself_stays}
use Rattle.fast_plan.specs.Plan.{Plan, cut, net_of, line_now, hears, line_after, own_after, act_after}
use Rattle.fast_plan.specs.Plan.{Planned}
use Rattle.sheet_layout.specs.Limits.{last_clock, max_stations}
use Rattle.area.specs.Offsets.{area_size, ring}

-- ---- the plan's symbols on their way

module _ (P : Plan) where
  cut_none : (K i s : ℕ) → K ≤ s → cut K P i s ≡ Silence
  unfolding cut
  cut_none K i s h = rw (le-ltb s K h)

  cut_in : (K i s : ℕ) → s < K → cut K P i s ≡ P i s
  unfolding cut
  cut_in K i s h = rw (lt-ltb s K h)

  -- one step more
  cut_grown : (K i s : ℕ) → grown K (λ j. P j K) (cut K P) i s ≡ cut (suc K) P i s
  unfolding grown
  cut_grown K i s =
      by_eq s K
      (λ z. rw (eq-eqb s K z, z) (sym (cut_in (suc K) i K (omega arith))))
      (λ z. rw (ne_eqb s K z) (by_test (ltb s K)
      (λ c. let h = ltb-true s K c in cut_in K i s h ∙ sym (cut_in (suc K) i s (omega arith)))
      (λ c. let h = ltb-false s K c in cut_none K i s h ∙ sym (cut_none (suc K) i s (omega arith)))))

reaches_by : (d : ℕ → ℕ → ℕ) (E F : ℕ → ℕ → Symbol) (j u i : ℕ)
    → ((i ≡ j → ⊥) → d i j ≤ u → E i (u - d i j) ≡ F i (u - d i j)) → reaches d E j u i ≡ reaches d F j u i
unfolding reaches
reaches_by d E F j u i h =
    by_eq i j (λ z. rw (eq-eqb i j z))
    (λ z. by_test (leb (d i j) u)
    (λ c. rw (ne_eqb i j z, c) (h z (leb-true (d i j) u c)))
    (λ c. rw (ne_eqb i j z, c)))

pub heard_by_lem : (N : Net) (E F : ℕ → ℕ → Symbol) (j u : ℕ)
    → ((i : ℕ) → i < N.n → (i ≡ j → ⊥) → N.d i j ≤ u → E i (u - N.d i j) ≡ F i (u - N.d i j))
    → heard N E j u ≡ heard N F j u
unfolding heard
heard_by_lem N E F j u h =
    gathered_same N.n (reaches N.d E j u) (reaches N.d F j u) (λ i l. reaches_by N.d E F j u i (h i l))

pub heard_none : (N : Net) (E : ℕ → ℕ → Symbol) (j u : ℕ) → ((i s : ℕ) → E i s ≡ Silence) → heard N E j u ≡ Nothing
unfolding heard reaches
heard_none N E j u h =
    gathered_none N.n _
    (λ i l. by_test (eqb i j) (λ b. rw b)
    (λ b. by_test (leb (N.d i j) u) (λ c. rw (b, c) (h i (u - N.d i j))) (λ c. rw (b, c))))

module _ (a : List ℕ) (sp : Spread (count_at a) a) (P : Plan) where
  -- what is heard in step s is on its way before it
  hears_line : (s j : ℕ) → j < count_at a → line_after a P s j s ≡ hears a P j s
  unfolding line_after hears net_of
  hears_line s j hj =
      ap (met (line_now a j s))
      (heard_by_lem (net_of a) (cut s P) P j s
      (λ i hi ne le. cut_in P s i (s - space_at a i j) (omega (arith, sp.pos i j hi hj ne))))

  line_grown : (K j v : ℕ)
      → line_after a P (suc K) j v ≡ met (line_after a P K j v)
      (gathered (count_at a) (adds (space_at a) K (λ i. P i K) j v))
  unfolding line_after net_of
  line_grown K j v =
      ap (met (line_now a j v))
      (heard_by_lem (net_of a) (cut (suc K) P) (grown K (λ i. P i K) (cut K P)) j v
      (λ i hi ne le. sym (cut_grown P K i (v - space_at a i j)))
      ∙ heard_grown (net_of a) K (λ i. P i K) (cut K P) j v (λ i s h. cut_none P K i s h))
      ∙ sym (met_group (line_now a j v) (heard (net_of a) (cut K P) j v)
      (gathered (count_at a) (adds (space_at a) K (λ i. P i K) j v)))

  -- the place that is free again
  line_free : (K j : ℕ) → j < count_at a → line_after a P (suc K) j (K + ring) ≡ Nothing
  unfolding line_after line_now net_of
  line_free K j hj =
      rw (le-ltb (K + ring) ring (omega arith))
      (heard_far (net_of a) (suc K) (cut (suc K) P) j (K + ring) (λ i s h. cut_none P (suc K) i s h)
      (λ i hi. omega (arith, sp.near i j hi hj)))

  line_start : (j v : ℕ) → v < ring → line_after a P 0 j v ≡ arrival_at a j (clock_at a + v)
  unfolding line_after line_now net_of
  line_start j v h =
      rw (lt-ltb v ring h)
      (ap (met (arrival_at a j (clock_at a + v)))
      (heard_none (net_of a) (cut 0 P) j v (λ i s. cut_none P 0 i s (omega arith)))
      ∙ met_none (arrival_at a j (clock_at a + v)))

-- ---- octets that no turn writes

module _ (n k : ℕ) (few : n ≤ max_stations) (still : Still n k) where
  send_still : (t i : ℕ) (s : Symbol) (j : ℕ) (x : List ℕ) → j < n → get_or (send_to t i s j x) k 0 ≡ get_or x k 0
  unfolding send_to
  send_still t i s j x hj = by_test (eqb j i) (λ e. rw e) (λ e. rw e (arrival_still n k still x j _ _ hj))

  sends_still : (t i : ℕ) (s : Symbol) (m : ℕ) (x : List ℕ) → m ≤ n → get_or (turns (send_to t i s) m x) k 0 ≡ get_or x k 0
  unfolding turns
  sends_still t i s zero x hm = refl
  sends_still t i s (suc m) x hm =
      send_still t i s m (turns (send_to t i s) m x) hm ∙ sends_still t i s m x (omega arith)

  pushed_still : (t i : ℕ) (s : Symbol) (x : List ℕ) → get_or (pushed n t i s x) k 0 ≡ get_or x k 0
  unfolding pushed
  pushed_still t i s x = by_test (is_silence s) (λ e. rw e) (λ e. rw e (sends_still t i s n x (omega arith)))

  pub stored_still : (i : ℕ) (s : Option Stored) (x : List ℕ) → i < n → Kept s → get_or (with_stored i s x) k 0 ≡ get_or x k 0
  stored_still i None x hi h = refl
  stored_still i (Some s) x hi h = bit_still n k still x i s.bit s.one hi h

  counted_still : (i : ℕ) (o : Stepped) (x : List ℕ) → i < n → get_or (with_counted i o x) k 0 ≡ get_or x k 0
  unfolding with_counted
  counted_still i o x hi = by_test (happened o) (λ e. rw e (counters_still n k still x i _ hi)) (λ e. rw e)

  pub left_still : (i : ℕ) (o : Stepped) (x : List ℕ) → i < n → Kept o.stored → get_or (own_left i o x) k 0 ≡ get_or x k 0
  unfolding own_left
  left_still i o x hi h =
      stored_still i o.stored _ hi h ∙ counted_still i o _ hi ∙ station_still n k still x i o.station hi

  settled_still : (t i : ℕ) (r : Act) (x : List ℕ) → i < n → Kept r.outcome.stored
      → get_or (settled n t i r x) k 0 ≡ get_or x k 0
  unfolding settled placed
  settled_still t i r x hi h =
      pushed_still t i r.symbol _
      ∙ arrival_still n k still _ i t Nothing hi
      ∙ stored_still i r.outcome.stored _ hi h
      ∙ counted_still i r.outcome _ hi
      ∙ station_still n k still x i r.outcome.station hi

  turns_still : (t : ℕ) (r : ℕ → Act) (m : ℕ) (x : List ℕ) → m ≤ n → ((i : ℕ) → i < n → Kept (r i).outcome.stored)
      → get_or (turns (λ i y. settled n t i (r i) y) m x) k 0 ≡ get_or x k 0
  unfolding turns
  turns_still t r zero x hm h = refl
  turns_still t r (suc m) x hm h = settled_still t m (r m) _ hm (h m hm) ∙ turns_still t r m x (omega arith) h

-- ---- a station's own parts after the turns of all

module _ (n t : ℕ) (r : ℕ → Act) (x : List ℕ) (sp : Spread n x) (kept : (i : ℕ) → i < n → Kept (r i).outcome.stored)
    (room : area_size ≤ length x) where
  part_own : (p : Part) (i : ℕ) → i < n → ((j : ℕ) → j < n → (j ≡ i → ⊥) → Foreign p t j)
      → ((j u : ℕ) → j < n → Off p (place j u))
      → Keeps p (turns (λ j y. settled n t j (r j) y) n x)
      (own_left i (r i).outcome (turns (λ j y. settled n t j (r j) y) i x))
  unfolding placed own_left
  part_own p i hi q o =
      let y = turns (λ j y. settled n t j (r j) y) i x in
      keeps_trans p (turns (λ j y. settled n t j (r j) y) n x) (placed t i (r i).outcome y)
      (own_left i (r i).outcome y)
      (own n t r x sp kept room p i n (omega arith) hi q o)
      (arrival_keeps p (own_left i (r i).outcome y) i t Nothing (o i t hi))

  turns_own : (i : ℕ) → i < n
      → OwnSame i (turns (λ j y. settled n t j (r j) y) n x)
      (own_left i (r i).outcome (turns (λ j y. settled n t j (r j) y) i x))
  turns_own i hi =
      let few = sp.few in
      record {
        station = part_own (station i) i hi
            (λ j h ne. record {
              station = λ p q. ne (omega arith);
              counters = λ p q. omega arith;
              buffer = λ p q.
                  omega arith;
              place = λ p q. omega arith;
            }) (λ j u h p q. omega arith);
        counters = part_own (counters i) i hi
            (λ j h ne. record {
              station = λ p q. omega arith;
              counters = λ p q. ne (omega arith);
              buffer = λ p q.
                  omega arith;
              place = λ p q. omega arith;
            }) (λ j u h p q. omega arith);
        buffer = part_own (buffer i) i hi
            (λ j h ne. record {
              station = λ p q. omega arith;
              counters = λ p q. omega arith;
              buffer = λ p q. ne
                  (omega arith);
              place = λ p q. omega arith;
            }) (λ j u h p q. omega arith);
      }

  -- before its turn they are as they were
  ahead_own : (i : ℕ) → i < n → OwnSame i (turns (λ j y. settled n t j (r j) y) i x) x
  ahead_own i hi =
      let few = sp.few in
      let v = ahead n t r x sp kept room i (omega arith) in
      record {
        station = v.record_of i (omega arith) (omega arith);
        counters = v.counts_of i (omega arith)
            (omega arith);
        buffer = v.buffer_of i (omega arith) (omega arith);
      }

-- ---- one step more

pub drawn : (x : List ℕ) → Readiness x → (i : ℕ) → i < count_at x → Drawn (station_at x i)
drawn x r i h =
    let w = r.fine i h in
    record {
      draw = omega (arith, w.draw, r.depth);
      held = omega (arith, held_small (station_at x i).frame (station_at x i).transmitter w.frame);
    }

module _ (a : List ℕ) (sp : Spread (count_at a) a) (P : Plan) (K : ℕ) (x : List ℕ) (w : Planned a P K x) where
  lay : Keeps layout x a
  lay = (w.stays 0 (omega arith)).layout

  count_same : count_at x ≡ count_at a
  count_same = count_by x a lay

  below : (i : ℕ) → i < count_at a → i < count_at x
  below i h = omega (arith, count_same)

  room : area_size ≤ length x
  room = w.ready.long

  own_room : (i : ℕ) → area_size ≤ length (own_after a P i K)
  unfolding own_after
  own_room i = omega (arith, length_itself (figures_at a) (depth_at a) i (hears a P i) K a, w.long, room)

  own_stays : (i : ℕ) → i < max_stations → Stays i (own_after a P i K) x
  unfolding own_after
  own_stays i hi =
      stays_trans i (by_itself (figures_at a) (depth_at a) i (hears a P i) K a) a x
      (itself_stays (figures_at a) (depth_at a) i (hears a P i) K a hi) (stays_sym i x a (w.stays i hi))

  -- each station is what it is by itself
  pub planned_station : (i : ℕ) → i < max_stations → i < count_at a → station_at x i ≡ station_at (own_after a P i K) i
  planned_station i hi h = sym
      (station_by (own_after a P i K) x i hi (own_room i) room (own_stays i hi).layout
      (own_sym i x (own_after a P i K) (w.own i h)).station)

  -- what each station does is what it does by itself
  pub act_planned : (i : ℕ) → i < count_at a → act_at x i ≡ act_after a P i K
  unfolding act_at act_after
  act_planned i h =
      let few = sp.few in
      let hi : i < max_stations = omega arith in
      let f : figures_at x ≡ figures_at a = figures_by x a lay in
      let d : depth_at x ≡ depth_at a = depth_by x a w.depth in
      let e : arrival_at x i (clock_at x) ≡ hears a P i K = ap (arrival_at x i) w.time ∙ w.line i K h (omega arith)
      (omega arith) ∙ hears_line a sp P K i h in
      ap₂ (λ (g : Figures) (m : ℕ). act_in g m (clock_at x) x i) f d
      ∙ act_heard (figures_at a) (depth_at a) (clock_at x) i x
      ∙ ap (λ (y : Heard). act_on (figures_at a) (depth_at a) i y x) e
      ∙ sym (on_same (figures_at a) (depth_at a) i (hears a P i K) (own_after a P i K) x hi (own_room i) room
      (drawn x w.ready i (below i h)) (own_stays i hi)
      (own_sym i x (own_after a P i K) (w.own i h)))

  turned : List ℕ
  turned = turns (λ i y. settled (count_at x) (clock_at x) i (act_at x i) y) (count_at x) x

  next_own : (i : ℕ) → i < count_at a → OwnSame i (step_area x) (own_after a P i (suc K))
  unfolding step_area turned own_after own_turn act_after
  next_own i h =
      let few = sp.few in
      let hi : i < max_stations = omega arith in
      let n = count_at x in
      let r = w.ready in
      let y = turns (λ j z. settled n (clock_at x) j (act_at x j) z) i x in
      let o = (act_at x i).outcome in
      let b = own_after a P i K in
      let ly : area_size ≤ length
      y = omega (arith, length_after n (clock_at x) (act_at x) x r.spread (kept_at x) room i, room) in
      let one : OwnSame i (step_area x) turned =
      record {
        station = clock_keeps (station i) turned (clock_at x + 1) (λ p q. omega arith);
        counters = clock_keeps
            (counters i) turned (clock_at x + 1) (λ p q. omega arith);
        buffer = clock_keeps (buffer i) turned
            (clock_at x + 1) (λ p q. omega arith);
      } in
      let two : OwnSame i turned (own_left i o y) = turns_own n (clock_at x) (act_at x) x r.spread (kept_at x) room i
      (below i h) in
      let near : OwnSame i y b = own_trans i y x b
      (ahead_own n (clock_at x) (act_at x) x r.spread (kept_at x) room i (below i h)) (w.own i h) in
      let three : OwnSame i (own_left i o y) (own_left i o b) = left_same i o y b hi ly (own_room i)
      (kept_at x i (below i h)) near in
      let four : own_left i o b ≡ by_itself (figures_at a) (depth_at a) i (hears a P i) (suc K) a =
      ap (λ (c : Act). own_left i c.outcome b) (act_planned i h) ∙ sym
      (by_itself_more (figures_at a) (depth_at a) i (hears a P i) K a) in
      own_trans i (step_area x) turned (own_after a P i (suc K)) one
      (own_trans i turned (own_left i o y) (own_after a P i (suc K)) two
      (subst (OwnSame i (own_left i o y)) four three))

  -- ---- the lines

  after_clock : (j u : ℕ) → arrival_at (step_area x) j u ≡ arrival_at turned j u
  unfolding step_area turned
  after_clock j u =
      arrival_by (step_area x) turned j u (clock_keeps (place j u) turned (clock_at x + 1) (λ p q. omega arith))

  module _ (holds : (i : ℕ) → i < count_at a → (act_after a P i K).symbol ≡ P i K) where
    one_share : (j v i : ℕ) → j < count_at a → i < count_at a → K < v → v < K + ring
        → share (clock_at x) (space_at x i j) i (act_at x i).symbol j (clock_at a + v) ≡ adds (space_at a) K (λ m. P m K) j
        v i
    one_share j v i hj hi lo up =
        let few = sp.few in
        ap₂ (λ (c d : ℕ). share c d i (act_at x i).symbol j (clock_at a + v)) w.time
        (space_by x a i j (omega arith) (omega arith) lay)
        ∙ ap (λ (s : Symbol). share (clock_at a + K) (space_at a i j) i s j (clock_at a + v))
        (ap (λ (c : Act). c.symbol) (act_planned i hi) ∙ holds i hi)
        ∙ share_adds (space_at a) (clock_at a) K (λ m. P m K) j v i _ _ refl refl (sp.pos i j hi hj) (sp.near i j hi hj)
        lo up

    line_turned : (j v : ℕ) → j < count_at a → K < v → v < K + ring
        → arrival_at turned j (clock_at a + v) ≡ line_after a P (suc K) j v
    unfolding turned
    line_turned j v hj lo up =
        let r = w.ready in
        let c = w.time in
        line_all (count_at x) (clock_at x) (act_at x) x r.spread (kept_at x) room (count_at x) j (clock_at a + v)
        (omega arith) (below j hj) (λ z. omega arith)
        ∙ ap₂ met (w.line j v hj (omega arith) up)
        (ap (λ (m : ℕ). gathered m (λ i. share (clock_at x) (space_at x i j) i (act_at x i).symbol j (clock_at a + v)))
        count_same
        ∙ gathered_same (count_at a) (λ i. share (clock_at x) (space_at x i j) i (act_at x i).symbol j (clock_at a + v))
        (adds (space_at a) K (λ m. P m K) j v) (λ i hi. one_share j v i hj hi lo up))
        ∙ sym (line_grown a sp P K j v)

    line_last : (j : ℕ) → j < count_at a
        → arrival_at turned j (clock_at a + (K + ring)) ≡ line_after a P (suc K) j (K + ring)
    unfolding turned
    line_last j hj =
        let r = w.ready in
        arrival_turn turned j (clock_at a + (K + ring)) (clock_at x) (omega (arith, w.time))
        ∙ clear_all (count_at x) (clock_at x) (act_at x) x r.spread (kept_at x) room (count_at x) j (omega arith)
        (below j hj)
        ∙ sym (line_free a sp P K j hj)

    next_line : (j v : ℕ) → j < count_at a → suc K ≤ v → v < suc K + ring
        → arrival_at (step_area x) j (clock_at a + v) ≡ line_after a P (suc K) j v
    next_line j v hj lo up =
        after_clock j (clock_at a + v)
        ∙ by_eq v (K + ring) (λ z. rw z (line_last j hj)) (λ z. line_turned j v hj lo (omega arith))

    next_rest : (k : ℕ) → Still (count_at a) k → get_or (step_area x) k 0 ≡ get_or a k 0
    unfolding step_area
    next_rest k st =
        clock_still (count_at a) k st _ (clock_at x + 1)
        ∙ turns_still (count_at x) k (omega (arith, sp.few, count_same))
        (subst (λ (m : ℕ). Still m k) (sym count_same) st)
        (clock_at x) (act_at x) (count_at x) x (omega arith) (kept_at x)
        ∙ w.rest k st

    next_stamp : Keeps clock (step_area x) (with_clock a (clock_at a + suc K))
    unfolding step_area turned
    next_stamp =
        let t : clock_at x + 1 ≡ clock_at a + suc K = omega (arith, w.time) in
        let l : length turned ≡ length x = length_after (count_at x) (clock_at x) (act_at x) x w.ready.spread
        (kept_at x) room (count_at x) in
        subst (λ (c : ℕ). Keeps clock (with_clock turned (clock_at x + 1)) (with_clock a c)) t
        (clock_on turned a (clock_at x + 1) (omega (arith, l, room)) (omega (arith, w.long, room)))

    pub next_planned : clock_at x < last_clock → Planned a P (suc K) (step_area x)
    next_planned early =
        let r = w.ready in
        record {
          ready = step_ready x r early;
          long = step_length x r ∙ w.long;
          time = step_clock x r ∙ omega (arith, w.time);
          stamp = λ h. next_stamp;
          depth = keeps_trans depth (step_area x) x a (step_depth x r) w.depth;
          stays = λ i hi. stays_trans i (step_area x) x a
              (record { layout = step_layout x r; draws = step_draws x r; frame = step_frame x r i hi })
              (w.stays i hi);
          own = next_own;
          line = next_line;
          rest = next_rest;
        }

-- ---- Theorem 1

pub planned_none : (a : List ℕ) (P : Plan) → Readiness a → Planned a P 0 a
unfolding own_after by_itself turns
planned_none a P r =
    record {
      ready = r;
      long = refl;
      time = omega arith;
      stamp = λ h. absurd (omega arith);
      depth = keeps_refl depth a;
      stays = λ i hi. stays_refl i a;
      own = λ i hi. own_refl i a;
      line = λ j v hj lo up. sym (line_start a r.spread P j v up);
      rest = λ k st. refl;
    }
