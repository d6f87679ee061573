-- How long a window may be, on the area: what is foreseen run by run of what a station hears, and of all stations.
-- Assumes nothing.
use Rattle.std.specs.Prelude.{ℕ, ◌+◌, ◌-◌, ◌≤◌, ◌<◌, min, ◌≡◌, Bool, ◌||◌, ◌&&◌, ltb, leb, get_or, length}
use Rattle.std.proofs.Math.Path.{refl, sym, ap, subst}
use Rattle.std.proofs.Common.{◌∙◌, true≢false}
use Rattle.std.proofs.Math.Bool.{true, false, not}
use mathlib.Core.Bool.{beq}
use mathlib.Core.List.{List}
use native.Mathlib.Omega.{arith}
use borrow.Author.Tests.{ltb-true, ltb-false, leb-true, leb-false, not-true, not-false}
use Rattle.octets.specs.BaseLaws.{by_test, by_eq}
use Rattle.sheet_layout.specs.declared.Figures.{Figures}
use Rattle.station_symbols.specs.declared.Heard.{Heard}
use Rattle.station_symbols.specs.declared.Heard.TheVariants.{Nothing, Clean, Spoiled}
use Rattle.station_symbols.specs.Packet.{hears_any}
use Rattle.station_state.specs.declared.Deference.{Deference}
use Rattle.station_state.specs.declared.Deference.TheVariants.{Quiet, Busy, Gap}
use Rattle.station_state.specs.declared.Transmitter.{Transmitter}
use Rattle.station_state.specs.declared.Transmitter.TheVariants.{NoFrame, Waiting, BackingOff, Sending, Heading}
use Rattle.station_state.specs.declared.Transmitter.TheVariants.{Jamming}
use Rattle.station_state.specs.declared.Receiver.{Receiver}
use Rattle.station_state.specs.declared.Station.{Station}
use Rattle.station_spec.specs.Receive.{bits_in}
use Rattle.area.specs.Area.{clock_at, depth_at, figures_at, count_at, address_at, record_at, station_at, buffer_at, arrival_at}
use Rattle.bus_spec.specs.Range.{FrameIn}
use Rattle.bus_spec.specs.Ready.{Readiness, Ready}
use Rattle.bus_quick.specs.Quick.{both_true}
use Rattle.fast_plan.specs.Plan.{hears}
use Rattle.fast_plan.specs.Calm.{AllCalm, calm_none, calm_less}
use Rattle.fast_silence.specs.Bound.{frames_rest, is_idle}
use Rattle.fast_silence.proofs.Bound.{frames_last}
use Rattle.fast_station.specs.Forms.{heard_rest, emits_for, own_busy, unhurt, keeps_emitting}
use Rattle.fast_station.specs.FormLaws.{busy_own, not_sending}
use Rattle.fast_receive.specs.Received.{may_report}
use Rattle.fast_segment.specs.Alone.{address_in}
use Rattle.fast_line.specs.LineLaws.{by_clean, heard_spoiled}
use Rattle.fast_heard.specs.declared.Near.{Near}
use Rattle.fast_heard.specs.declared.Kind.{Kind}
use Rattle.fast_heard.specs.declared.Kind.TheVariants.{Silent, Line, From, Mixed}
use Rattle.fast_heard.specs.declared.Segment.{Segment}
use Rattle.fast_heard.specs.Hearing.{is_heard, plan_of, held_at, emits, emits_at, nearest_of, near_bit, Says, Segmented}
use Rattle.fast_heard.specs.declared.Sight.{Sight}
use Rattle.fast_heard.specs.NearLaws.{silent_by_code, emits_by_code}
use Rattle.fast_heard.specs.Sights.{sight_by, sight_of}
use Rattle.fast_heard.specs.HearingLaws.{segment_hears}
use Rattle.fast_bound.specs.declared.Ahead.{Ahead}
use Rattle.fast_bound.specs.Foresee.{Foreseen, bits_clock, foreseen_start, foreseen_heard, foreseen_rest}
use Rattle.fast_bound.specs.Foresee.{emits_unheard, emits_heard}
use Rattle.fast_bound.specs.Bound.{rest_steps, hear_steps, rested_to, heard_to, rest_ahead, hear_ahead, ahead, ahead_of}
use Rattle.fast_bound.specs.Bound.{emit_steps, Alike, CalmFor, CalmIf, Sighted}
use Rattle.fast_bound.specs.Bound.{CalmAmong, AllLast, ReadFrom, NearTo, Underway}
use Rattle.sheet_layout.specs.Limits.{last_clock}
use Rattle.frame_build.specs.Limits.{buffer_octets, shortest_frame}
use Rattle.area_record.specs.Words.{phase_word}

-- ---- two answers, equal or not

equal : (b c : Bool) → not (beq b c) ≡ false → b ≡ c
equal true true h = refl
equal true false h = absurd (true≢false h)
equal false true h = absurd (true≢false h)
equal false false h = refl

unequal : (b c : Bool) → not (beq b c) ≡ true → b ≡ c → ⊥
unequal true true h e = true≢false (sym h)
unequal true false h e = true≢false e
unequal false true h e = true≢false (sym e)
unequal false false h e = true≢false (sym h)

-- ---- in a run of any kind but silence others are heard

module _ (H L : ℕ → Heard) (F : List ℕ) (k d s m : ℕ) where
  line_any : Says H L F k d s Line m → (v : ℕ) → v < m → hears_any (H (s + v)) ≡ true
  line_any h v l = by_clean (L (s + v)) (h v l).1 (λ b e. ap hears_any ((h v l).0 ∙ e))

  from_any : Says H L F k d s From m → (v : ℕ) → v < m → hears_any (H (s + v)) ≡ true
  from_any h v l = ap hears_any (h.2 v l)

  spoiled_any : Says H L F k d s Mixed m → (v : ℕ) → v < m → hears_any (H (s + v)) ≡ true
  spoiled_any h v l = ap hears_any (heard_spoiled (H (s + v)) (h v l))

-- ---- a station that emits nothing

rest_within : (f : Figures) (m : ℕ) (d : Deference) (x : Transmitter) (q : ℕ) (b : Bool) (k : ℕ)
    → k ≡ rest_steps f m d x q b → 0 < k
    → ((b || ltb q shortest_frame) ≡ true) × (k ≤ m) × (k ≤ frames_rest f m d x)
unfolding rest_steps
rest_within f m d x q b k e p =
    by_test (b || ltb q shortest_frame)
    (λ c. let y : k ≡ min m (frames_rest f m d x) = rw c at e in (c, omega arith, omega arith))
    (λ c. let y : k ≡ 0 = rw c at e in absurd (omega arith))

hear_within : (f : Figures) (m : ℕ) (d : Deference) (x : Transmitter) (k : ℕ) → k ≡ hear_steps f m d x
    → (k ≤ m) × (k ≤ heard_rest f m d x)
unfolding hear_steps
hear_within f m d x k e = (omega arith, omega arith)

module _ (a : List ℕ) (r : Readiness a) (j : ℕ) (hj : j < count_at a) (off : emits_at a j ≡ false) (m s n : ℕ)
    (early : clock_at a + (s + n) ≤ last_clock) (within : s + n ≤ m) (g : Ahead)
    (v : Foreseen a r j hj m s g.deference g.transmitter g.bits g.harmless) where
  Next : Ahead → Type 0
  Next h = Foreseen a r j hj m (s + h.len) h.deference h.transmitter h.bits h.harmless

  rest_goes : ((u : ℕ) → u < n → hears a (plan_of a) j (s + u) ≡ Nothing) → (k : ℕ)
      → k ≡ rest_steps (figures_at a) n g.deference g.transmitter g.bits g.harmless → 0 < k
      → Next (rested_to (figures_at a) k g)
  unfolding Next rested_to
  rest_goes none k e pos =
      let q = rest_within (figures_at a) n g.deference g.transmitter g.bits g.harmless k e pos in
      let le = q.1 in
      foreseen_rest a r j hj off s k pos (omega arith) m g.deference g.transmitter g.bits g.harmless v
      (λ u l. none u (omega arith))
      (frames_last (figures_at a) n k g.deference g.transmitter pos q.2) q.0

  hear_goes : ((u : ℕ) → u < n → hears_any (hears a (plan_of a) j (s + u)) ≡ true) → (k : ℕ)
      → k ≡ hear_steps (figures_at a) n g.deference g.transmitter → 0 < k
      → Next (heard_to (figures_at a) k g)
  unfolding Next heard_to
  hear_goes all k e pos =
      let q = hear_within (figures_at a) n g.deference g.transmitter k e in
      let le = q.0 in
      foreseen_heard a r j hj off s k pos (omega arith) m g.deference g.transmitter g.bits g.harmless v n
      (λ u l. all u (omega arith)) q.1 (omega arith)

  -- a run of any kind
  run_goes : (L : ℕ → Heard) (F : List ℕ) (k d : ℕ) (c : Kind) → Says (hears a (plan_of a) j) L F k d s c n
      → 0 < (ahead (figures_at a) c n g).len → Next (ahead (figures_at a) c n g)
  unfolding ahead rest_ahead hear_ahead rested_to heard_to
  run_goes L F k d Silent h pos =
      rest_goes h (rest_steps (figures_at a) n g.deference g.transmitter g.bits g.harmless) refl pos
  run_goes L F k d Line h pos =
      hear_goes (line_any (hears a (plan_of a) j) L F k d s n h)
      (hear_steps (figures_at a) n g.deference g.transmitter) refl pos
  run_goes L F k d From h pos =
      hear_goes (from_any (hears a (plan_of a) j) L F k d s n h)
      (hear_steps (figures_at a) n g.deference g.transmitter) refl pos
  run_goes L F k d Mixed h pos =
      hear_goes (spoiled_any (hears a (plan_of a) j) L F k d s n h)
      (hear_steps (figures_at a) n g.deference g.transmitter) refl pos

module _ (a : List ℕ) (j : ℕ) where
  pub calm_zero : CalmFor a j 0
  unfolding CalmFor
  calm_zero =
      record {
        calm = calm_none (figures_at a) (depth_at a) j (hears a (plan_of a) j) (plan_of a j) a;
        lasts = λ e. omega arith;
      }

  pub under_start : (m : ℕ) (s : Station) (g : Ahead) (x : Receiver) (c : Bool) → s ≡ station_at a j → x ≡ s.receiver
      → c ≡ may_report (address_at a j) (buffer_at a j) m x → g ≡ ahead_of s (not c) → s.emitted ≡ false
      → Underway a j m 0 g
  unfolding Underway ahead_of
  under_start m s g x c es ex ec eg e =
      λ r hj. subst (λ (y : Ahead). Foreseen a r j hj m 0 y.deference y.transmitter y.bits y.harmless)
      (sym (eg ∙ ap (λ (y : Station). ahead_of y (not c)) es))
      (foreseen_start a r j hj m (not c) (ap (λ (y : Station). y.emitted) (sym es) ∙ e)
      (λ h. let z : x ≡ (station_at a j).receiver = ex ∙ ap (λ (y : Station). y.receiver) es in
      ap (λ (y : List ℕ). may_report y (buffer_at a j) m (station_at a j).receiver) (address_in a j)
      ∙ ap (may_report (address_at a j) (buffer_at a j) m) (sym z) ∙ sym ec ∙ not-true c h))

module _ (a : List ℕ) (f : Figures) (j t : ℕ) (w : Near) (k : ℕ) (v : NearTo a f j t w k) where
  bits_most : bits_in (station_at a j).receiver ≤ t
  unfolding NearTo
  bits_most =
      omega (
        arith,
        v.read.clock,
        bits_clock (clock_at a) (station_at a j).receiver
            (v.read.ready.fine j v.station).receiver,
      )

  pub bits_room : (m : ℕ) (s : Station) (x : Receiver) → s ≡ station_at a j → x ≡ s.receiver → t + m ≤ last_clock
      → bits_in x + m < 4294967296
  bits_room m s x es ex h =
      subst (λ (y : Receiver). bits_in y + m < 4294967296) (sym (ex ∙ ap (λ (y : Station). y.receiver) es))
      (omega (arith, bits_most))

  pub start_bits : (s : Station) (b : Bool) (g : Ahead) → s ≡ station_at a j → g ≡ ahead_of s b → g.bits ≤ t + 0
  unfolding ahead_of
  start_bits s b g es eg =
      let y : g.bits ≡ bits_in (station_at a j).receiver = ap (λ (z : Ahead). z.bits)
      (eg ∙ ap (λ (z : Station). ahead_of z b) es) in
      omega (arith, y, bits_most)

  pub calm_end : emits_at a j ≡ false → (m s : ℕ) (g : Ahead) → Underway a j m s g → CalmFor a j s
  unfolding NearTo Underway CalmFor
  calm_end off m s g u =
      record { calm = (u v.read.ready v.station).calm; lasts = λ e. absurd (true≢false (sym e ∙ off)) }

  -- what a run says of what is heard
  run_says : (s : ℕ) (run : Segment) → Segmented a j t w k s run
      → Says (hears a (plan_of a) j) (λ u. arrival_at a j (clock_at a + u)) (held_at a w.from) k w.d1 s run.kind
      run.len
  unfolding NearTo
  run_says s run h =
      segment_hears a a j t w k v.read.ready v.station v.nearest v.bit v.read.clock (λ u. refl) s run h

  module _ (off : emits_at a j ≡ false) (m s : ℕ) (run : Segment) (h : Segmented a j t w k s run) (g next : Ahead)
      (u : Underway a j m s g) (e : next ≡ ahead f run.kind run.len g)
      (hs : s < m) (len : s + run.len ≤ m) (early : t + m ≤ last_clock) where
    under_on : 0 < next.len → Underway a j m (s + next.len) next
    unfolding NearTo Underway Next
    under_on pos =
        let p : next ≡ ahead (figures_at a) run.kind run.len g = e
        ∙ ap (λ (y : Figures). ahead y run.kind run.len g) v.read.figures in
        λ r hj. subst (λ (y : Ahead). Foreseen a r j hj m (s + y.len) y.deference y.transmitter y.bits
        y.harmless) (sym p)
        (run_goes a r j hj off m s run.len (omega (arith, v.read.clock)) (omega arith) g (u r hj)
        (λ u. arrival_at a j (clock_at a + u)) (held_at a w.from) k w.d1 run.kind (run_says s run h)
        (subst (λ (y : Ahead). 0 < y.len) p pos))

    pub under_again : 0 < run.len → run.len ≤ next.len → Underway a j m (s + next.len) next
    under_again p q = under_on (omega arith)

    pub calm_on : CalmFor a j (s + next.len)
    calm_on =
        by_eq next.len 0
        (λ z. let y : s + next.len ≡ s = omega arith in subst (CalmFor a j) (sym y) (calm_end off m s g u))
        (λ z. calm_end off m (s + next.len) next (under_on (omega (arith, z))))

-- ---- a station that emits

frame_held : (x : Transmitter) (z : ℕ) → emits x ≡ true → FrameIn x z → z ≤ buffer_octets
frame_held NoFrame z e h = absurd (true≢false (sym e))
frame_held Waiting z e h = h.1
frame_held (BackingOff w) z e h = h.1
frame_held (Sending k) z e h = h.1
frame_held (Heading k) z e h = h.1
frame_held (Jamming k ends) z e h = h.1

frame_most : (a : List ℕ) (r : Readiness a) (j : ℕ) → j < count_at a → emits_at a j ≡ true
    → (station_at a j).frame ≤ buffer_octets
unfolding emits_at
frame_most a r j hj on = frame_held (station_at a j).transmitter (station_at a j).frame on (r.fine j hj).frame

emit_within : (h : Bool) (s : Station) (k : ℕ) → 0 < k → k ≤ emit_steps h s
    → (keeps_emitting h s ≡ true) × (k ≤ emits_for s.frame s.transmitter)
unfolding emit_steps
emit_within q s k p h =
    by_test (keeps_emitting q s)
    (λ e. (e, rw e at h))
    (λ e. let y : k ≤ 0 = rw e at h in absurd (omega arith))

hears_none : (h : Heard) → hears_any h ≡ false → h ≡ Nothing
hears_none Nothing e = refl
hears_none (Clean b) e = absurd (true≢false e)
hears_none Spoiled e = absurd (true≢false e)

-- what a run says of whether others are heard
run_any : (H L : ℕ → Heard) (F : List ℕ) (k d s m : ℕ) (c : Kind) → Says H L F k d s c m → (v : ℕ) → v < m
    → hears_any (H (s + v)) ≡ is_heard c
run_any H L F k d s m Silent h v l = ap hears_any (h v l)
run_any H L F k d s m Line h v l = line_any H L F k d s m h v l
run_any H L F k d s m From h v l = from_any H L F k d s m h v l
run_any H L F k d s m Mixed h v l = spoiled_any H L F k d s m h v l

module _ (a : List ℕ) (j : ℕ) (q : Bool) where
  pub alike_none : Alike a j q 0
  unfolding Alike
  alike_none = λ v l. absurd (omega arith)

  pub alike_more : (f : Figures) (t : ℕ) (w : Near) (k : ℕ) → NearTo a f j t w k → (s : ℕ) (run : Segment) (b : Bool)
      → Segmented a j t w k s run → b ≡ is_heard run.kind → not (beq b q) ≡ false → Alike a j q s → Alike a j q (s + run.len)
  unfolding Alike
  alike_more f t w k n s run b h e p al =
      λ v l. by_test (ltb v s)
      (λ c. al v (ltb-true v s c))
      (λ c. let g = ltb-false v s c in
      let z : s + (v - s) ≡ v = omega arith in
      subst (λ (y : ℕ). hears_any (hears a (plan_of a) j y) ≡ q) z
      (run_any (hears a (plan_of a) j) (λ u. arrival_at a j (clock_at a + u)) (held_at a w.from) k w.d1 s run.len
      run.kind (run_says a f j t w k n s run h) (v - s) (omega arith) ∙ sym e ∙ equal b q p))

module _ (a : List ℕ) (r : Readiness a) (j : ℕ) (hj : j < count_at a) (on : emits_at a j ≡ true) (k : ℕ) (pos : 0 < k)
    (early : clock_at a + k ≤ last_clock) (emitted : (station_at a j).emitted ≡ true)
    (busy : (station_at a j).deference ≡ Busy true)
    (lasts : k ≤ emits_for (station_at a j).frame (station_at a j).transmitter) where
  emit_goes : (h : Bool) → ((v : ℕ) → v < k → hears_any (hears a (plan_of a) j v) ≡ h)
      → unhurt h (station_at a j).receiver (station_at a j).transmitter ≡ true → CalmFor a j k
  unfolding CalmFor unhurt
  emit_goes false al e =
      record {
        calm = emits_unheard a r j hj k pos early busy emitted lasts (frame_most a r j hj on)
            (λ v l. hears_none (hears a (plan_of a) j v) (al v l)) (is_idle (station_at a j).receiver e);
        lasts = λ w. lasts;
      }
  emit_goes true al e =
      record {
        calm =
            emits_heard a r j hj k pos early busy emitted lasts (frame_most a r j hj on) al
            (not_sending (station_at a j).transmitter e);
        lasts = λ w. lasts;
      }

module _ (a : List ℕ) (f : Figures) (j t : ℕ) (w : Near) (b : ℕ) (v : NearTo a f j t w b) (on : emits_at a j ≡ true)
    (s : Station) (es : s ≡ station_at a j) where
  pub frame_small : s.frame < 65536
  unfolding NearTo
  frame_small = omega (arith, ap (λ (y : Station). y.frame) es, frame_most a v.read.ready j v.station on)

  pub emit_calm : (h : Bool) (m n y k : ℕ) → Alike a j h n → n ≤ m → t + m ≤ last_clock → y ≡ emit_steps h s → k ≡ min n y
      → CalmFor a j k
  unfolding NearTo keeps_emitting Alike
  emit_calm h m n y k al len early ey ek =
      by_eq k 0
      (λ z. subst (CalmFor a j) (sym z) (calm_zero a j))
      (λ z. let x = station_at a j in
      let u = emit_within h x k (omega (arith, z)) (omega (arith, ey ∙ ap (emit_steps h) es)) in
      let p = both_true x.emitted (own_busy x.deference && unhurt h x.receiver x.transmitter) u.0 in
      let o = both_true (own_busy x.deference) (unhurt h x.receiver x.transmitter) p.1 in
      emit_goes a v.read.ready j v.station on k (omega (arith, z)) (omega (arith, v.read.clock)) p.0
      (busy_own x.deference o.0) u.1 h (λ i l. al i (omega arith)) o.1)

-- ---- all stations

module _ (a : List ℕ) (f : Figures) (n t : ℕ) where
  pub read_from : Ready a → f ≡ figures_at a → n ≡ count_at a → t ≡ clock_at a → ReadFrom a f n t
  unfolding ReadFrom Ready
  read_from r p q e = record { ready = r; figures = p; count = q; clock = e }

  pub read_gap : ReadFrom a f n t → f.gap1 + f.gap2 < 65536
  unfolding ReadFrom
  read_gap v =
      subst (λ (g : Figures). g.gap1 + g.gap2 < 65536) (sym v.figures)
      (omega (arith, v.ready.figures.gap1, v.ready.figures.gap2))

  pub near_to : (j : ℕ) (w : Near) (k : ℕ) → ReadFrom a f n t → j < n → w ≡ nearest_of a n j → k ≡ near_bit a w
      → NearTo a f j t w k
  unfolding ReadFrom NearTo
  near_to j w k v hj ew ek =
      record {
        read = record { ready = v.ready; figures = v.figures; count = refl; clock = v.clock };
        station = omega (arith, v.count);
        nearest = ew ∙ ap (λ (m : ℕ). nearest_of a m j) v.count;
        bit = ek;
      }

-- whether station j emits, by the word of its phase
pub emitter_is : (a : List ℕ) (j c : ℕ) → c ≡ get_or (record_at a j) phase_word 0 → leb 3 c ≡ emits_at a j
emitter_is a j c e =
    by_test (leb 3 c)
    (λ y. y ∙ sym (emits_by_code a j c e (leb-true 3 c y)))
    (λ y. y ∙ sym (silent_by_code a j c e (leb-false 3 c y)))

-- what station j hears of
module _ (a : List ℕ) (f : Figures) (t j : ℕ) (ws : List Sight) (d : Sight) (v : ReadFrom a f (length ws) t)
    (es : Sighted a ws) (hj : j < length ws) where
  w : Sight
  w = get_or ws j d

  is_sight : w ≡ sight_of a (length ws) j
  unfolding Sighted w
  is_sight = es j d hj

  near_is : w.near ≡ nearest_of a (length ws) j
  unfolding sight_of sight_by
  near_is = ap (λ (q : Sight). q.near) is_sight

  bit_is : w.bit ≡ near_bit a w.near
  unfolding sight_of sight_by
  bit_is = ap (λ (q : Sight). q.bit) is_sight ∙ ap (near_bit a) (sym near_is)

  pub near_seen : NearTo a f j t (get_or ws j d).near (get_or ws j d).bit
  unfolding w
  near_seen = near_to a f (length ws) t j w.near w.bit v hj near_is bit_is

module _ (a : List ℕ) where
  -- one that is of the other sort
  pub if_other : (q b : Bool) (j r : ℕ) → b ≡ emits_at a j → not (beq b q) ≡ true → CalmIf a q j r
  unfolding CalmIf
  if_other q b j r e n h = absurd (unequal b q n (e ∙ h))

  -- or of this one
  pub emits_same : (q b : Bool) (j : ℕ) → b ≡ emits_at a j → not (beq b q) ≡ false → q ≡ true → emits_at a j ≡ true
  emits_same q b j e n h = sym e ∙ equal b q n ∙ h

  pub silent_same : (q b : Bool) (j : ℕ) → b ≡ emits_at a j → not (beq b q) ≡ false → q ≡ false → emits_at a j ≡ false
  silent_same q b j e n h = sym e ∙ equal b q n ∙ h

  pub if_calm : (q : Bool) (j r : ℕ) → CalmFor a j r → CalmIf a q j r
  unfolding CalmIf
  if_calm q j r c e = c

  for_less : (j k r : ℕ) → r ≤ k → CalmFor a j k → CalmFor a j r
  unfolding CalmFor
  for_less j k r h y =
      record {
        calm = calm_less (figures_at a) (depth_at a) j (hears a (plan_of a) j) (plan_of a j) a k r h y.calm;
        lasts = λ w. omega (arith, y.lasts w);
      }

  module _ (q : Bool) where
    pub among_none : (k : ℕ) → CalmAmong a q 0 k
    unfolding CalmAmong
    among_none k = λ j h. absurd (omega arith)

    pub among_zero : (n : ℕ) → CalmAmong a q n 0
    unfolding CalmAmong CalmIf
    among_zero n = λ j h e. calm_zero a j

    pub among_more : (i k r : ℕ) → CalmAmong a q i k → CalmIf a q i r → r ≤ k → CalmAmong a q (i + 1) r
    unfolding CalmAmong CalmIf
    among_more i k r b c h =
        λ j l e. by_eq j i
        (λ z. subst (λ (y : ℕ). CalmFor a y r) (sym z) (c (ap (emits_at a) (sym z) ∙ e)))
        (λ z. for_less j k r h (b j (omega (arith, z)) e))

    pub among_end : (n i k : ℕ) → i ≤ n → n ≤ i → CalmAmong a q i k → CalmAmong a q n k
    among_end n i k lo up b = let z : i ≡ n = omega arith in subst (λ (y : ℕ). CalmAmong a q y k) z b

  module _ (f : Figures) (n t k r : ℕ) (v : ReadFrom a f n t) (b : CalmAmong a true n k) (c : CalmAmong a false n r)
      (h : r ≤ k) where
    each : (j : ℕ) → j < count_at a → CalmFor a j r
    unfolding CalmAmong CalmIf ReadFrom
    each j l =
        by_test (emits_at a j)
        (λ e. for_less j k r h (b j (omega (arith, v.count)) e))
        (λ e. c j (omega (arith, v.count)) e)

    pub all_calm : AllCalm a (plan_of a) r
    unfolding CalmFor
    all_calm = λ j l. (each j l).calm

    pub all_last : AllLast a r
    unfolding CalmFor AllLast
    all_last = λ j l. (each j l).lasts
