-- Laws of the lines after a window: one for each way through the code, and that the code's plan is the window's.
-- Assumes nothing.
use Prim.Native.Nat.{ℕ, zero, suc, ◌+◌, ◌-◌, ◌*◌, ◌≤◌, ◌<◌, min}
use Rattle.std.specs.Prelude.{◌≡◌, Bool, true, false, eqb, length}
use Rattle.std.proofs.Math.Path.{refl, sym, ap, ap₂, subst}
use Rattle.std.proofs.Common.{◌∙◌, true≢false, arith}
use mathlib.Core.List.{List}
use borrow.Author.Tests.{eq-eqb, ne_eqb, eqb-true, eqb-false}
use Rattle.std.proofs.Math.ListN.{get_or}
use Rattle.octets.specs.Base.{pick}
use Rattle.octets.specs.BaseLaws.{by_test}
use Rattle.octets.specs.Filled.{filled, filled_at, filled_end}
use Rattle.octets.specs.Turns.{turns, turns_none, turns_more, turns_end}
use Rattle.station_symbols.specs.declared.Symbol.{Symbol}
use Rattle.station_symbols.specs.declared.Symbol.TheVariants.{Silence, Bit}
use Rattle.station_symbols.specs.Packet.{packet_bit, symbol_of}
use Rattle.station_state.specs.declared.Transmitter.{Transmitter}
use Rattle.station_state.specs.declared.Transmitter.TheVariants.{NoFrame, Waiting, BackingOff, Sending, Heading}
use Rattle.station_state.specs.declared.Transmitter.TheVariants.{Jamming}
use Rattle.station_spec.specs.Transmit.{octets_held}
use Rattle.area_record.specs.Codec.{transmitter_of, decoded}
use Rattle.area.specs.Places.{Part, clock, layout, frame, Keeps}
use Rattle.area.specs.Area.{clock_at, figures_at, count_at, position_at, distance, space_at, record_at, station_at, frame_at}
use Rattle.area.specs.Area.{symbol_at, max_code}
use Rattle.area.specs.AreaLaws.{clock_by, count_by, space_by, symbol_by, frame_by}
use Rattle.area.specs.CodeLaws.{space_is}
use Rattle.sheet_layout.specs.declared.Figures.{Figures}
use Rattle.bus_spec.specs.Range.{NumberIn, FrameIn}
use Rattle.bus_spec.specs.Ready.{Readiness}
use Rattle.fast_plan.specs.Own.{Others}
use Rattle.fast_plan.specs.Plan.{Plan}
use Rattle.fast_plan.specs.Exact.{own_all, length_own, own_keeps}
use Rattle.fast_plan.specs.Push.{cleared, on_way, ways_to, line_done}
use Rattle.fast_plan.specs.Placed.{LineOnly, clear_only, ways_only, lines_done, done_long, done_keeps, done_codes}
use Rattle.fast_plan.specs.Turned.{all_line}
use Rattle.fast_line.specs.Line.{is_clear, bits_from, jams, Coded, Below, codes_put}
use Rattle.fast_line.specs.LineLaws.{clear_line, way_same, way_silent, way_coded, below_coded, cleared_same}
use Rattle.fast_station.specs.Forms.{emits_for}
use Rattle.fast_heard.specs.Hearing.{goes_on, held_at, plan_of, emits}
use Rattle.fast_lines.specs.declared.Emitter.{Emitter}
use Rattle.fast_lines.specs.declared.Emitter.TheVariants.{Silent, Sender, Jammer}
use Rattle.fast_lines.specs.Lines.{octets_in, bit_in, emitter_of, emitter_at, emitters_of, silence, emitted, plan_by, Enough}
use Rattle.fast_lines.specs.Lines.{AllEnough, CodedFrom, AllCoded, Pushes, pushed_from, Settles}
use Rattle.sheet_layout.specs.Limits.{last_clock, max_stations}
use Rattle.area.specs.Offsets.{ring, frame_room}
use Rattle.area_record.specs.Words.{phase_word, phase_number_word, frame_word}

-- ---- the code: what a station is about to emit

code_silent : (c m z : ℕ) → c < 3 → Silent ≡ emitter_of (transmitter_of c m) z
unfolding transmitter_of
code_silent c m z h =
    by_test (eqb c 0)
    (λ p. rw p)
    (λ p. by_test (eqb c 1)
    (λ q. rw (p, q))
    (λ q. let r : eqb c 2 ≡ true = eq-eqb c 2 (omega (arith, eqb-false c 0 p, eqb-false c 1 q)) in rw (p, q, r)))

code_jams : (c m z : ℕ) → 4 < c → Jammer ≡ emitter_of (transmitter_of c m) z
unfolding transmitter_of
code_jams c m z h =
    rw (
      ne_eqb c 0 (λ y. omega arith),
      ne_eqb c 1 (λ y. omega arith),
      ne_eqb c 2 (λ y. omega arith),
      ne_eqb c 3
          (λ y. omega arith),
      ne_eqb c 4 (λ y. omega arith),
    )

code_sends : (c m z : ℕ) → 3 ≤ c → c ≤ 4 → Sender m z ≡ emitter_of (transmitter_of c m) z
unfolding transmitter_of
code_sends c m z h g =
    let p : eqb c 0 ≡ false = ne_eqb c 0 (λ y. omega arith) in
    let q : eqb c 1 ≡ false = ne_eqb c 1 (λ y. omega arith) in
    let r : eqb c 2 ≡ false = ne_eqb c 2 (λ y. omega arith) in
    by_test (eqb c 3)
    (λ y. rw (p, q, r, y))
    (λ y. let w : eqb c 4 ≡ true = eq-eqb c 4 (omega (arith, eqb-false c 3 y)) in rw (p, q, r, y, w))

module _ (a : List ℕ) (i : ℕ) where
  by_words : emitter_of (transmitter_of (get_or (record_at a i) phase_word 0) (get_or (record_at a i) phase_number_word 0))
      (get_or (record_at a i) frame_word 0)
      ≡ emitter_at a i
  unfolding emitter_at station_at decoded
  by_words = refl

  pub emitter_silent : (c : ℕ) → c ≡ get_or (record_at a i) phase_word 0 → c < 3
      → Silent ≡ emitter_at a i
  emitter_silent c e h =
      code_silent (get_or (record_at a i) phase_word 0) (get_or (record_at a i) phase_number_word 0)
      (get_or (record_at a i) frame_word 0) (omega arith) ∙ by_words

  pub emitter_jams : (c : ℕ) → c ≡ get_or (record_at a i) phase_word 0 → 4 < c
      → Jammer ≡ emitter_at a i
  emitter_jams c e h =
      code_jams (get_or (record_at a i) phase_word 0) (get_or (record_at a i) phase_number_word 0)
      (get_or (record_at a i) frame_word 0) (omega arith) ∙ by_words

  pub emitter_sends : (c m z : ℕ) → z ≡ get_or (record_at a i) frame_word 0 → m ≡ get_or (record_at a i) phase_number_word 0
      → c ≡ get_or (record_at a i) phase_word 0 → 3 ≤ c → c ≤ 4 → Sender m z ≡ emitter_at a i
  emitter_sends c m z ez em e lo up =
      (λ k. Sender (em k) (ez k))
      ∙ code_sends (get_or (record_at a i) phase_word 0) (get_or (record_at a i) phase_number_word 0)
      (get_or (record_at a i) frame_word 0) (omega arith)
      (omega arith)
      ∙ by_words

pub emitters_end : (a : List ℕ) (n i : ℕ) (es : List Emitter) → i ≤ n → n ≤ i → es ≡ filled Silent (emitter_at a) i
    → es ≡ emitters_of a n
unfolding emitters_of
emitters_end a n i es p q r = filled_end Silent (emitter_at a) n i es p q r

-- ---- the code: the symbols of one station to another

none_silent : (s : ℕ) → silence s ≡ Silence
unfolding silence
none_silent s = refl

module _ (j t K i : ℕ) (e : Emitter) (x : List ℕ) where
  pub push_own : i ≡ j → x ≡ pushed_from j t K i e x
  unfolding pushed_from
  push_own h = rw (eq-eqb i j h)

  pub push_silent : Pushes j t K i e x → e ≡ Silent → x ≡ pushed_from j t K i e x
  unfolding pushed_from emitted
  push_silent p h =
      let d = space_at x i j in
      by_test (eqb i j)
      (λ b. rw b)
      (λ b. rw (b, h)
      (sym (way_silent t d K silence j (min d K) x (omega arith) (λ s l. none_silent s) p.codes)))

  push_by : (d : ℕ) (Q : ℕ → Symbol) (z : List ℕ) → (i ≡ j → ⊥) → d ≡ space_at x i j
      → emitted (frame_at x i (octets_in e)) e ≡ Q → z ≡ on_way t d K Q j (min d K) x → z ≡ pushed_from j t K i e x
  unfolding pushed_from
  push_by d Q z ne ed eQ ez =
      rw (ne_eqb i j ne) (ez ∙ ap₂ (λ (g : ℕ) (R : ℕ → Symbol). on_way t g K R j (min g K) x) ed (sym eQ))

  pub push_coded : (cs : List ℕ) (d p q : ℕ) (z : List ℕ) → Pushes j t K i e x → CodedFrom cs K i e x
      → z ≡ codes_put j (t + (K - d + d)) cs (256 * i + (ring - min d K)) (min d K) x → d ≡ distance p q
      → q ≡ position_at x j → p ≡ position_at x i
      → (e ≡ Silent → ⊥) → (i ≡ j → ⊥) → z ≡ pushed_from j t K i e x
  unfolding CodedFrom
  push_coded cs d p q z h c ez ed eq ep some ne =
      let Q = emitted (frame_at x i (octets_in e)) e in
      let w = space_is x i j d p q ed eq ep in
      push_by d Q z ne w refl (ez ∙ way_coded t d K Q j cs (ring * i) x (min d K) (omega (arith, w, h.near))
      (omega arith) (c some))

  -- how far the code's sums go
  pub push_near : Pushes j t K i e x → (d p q : ℕ) → d ≡ distance p q → q ≡ position_at x j → p ≡ position_at x i
      → t + K + d < 4294967296
  push_near h d p q ed eq ep = omega (arith, space_is x i j d p q ed eq ep, h.near, h.early)

  pub push_close : Pushes j t K i e x → (d p q : ℕ) → d ≡ distance p q → q ≡ position_at x j → p ≡ position_at x i
      → d ≤ ring
  push_close h d p q ed eq ep = omega (arith, space_is x i j d p q ed eq ep, h.near)

-- ---- the code: the codes of what is emitted

module _ (K i : ℕ) (e : Emitter) (x cs : List ℕ) where
  pub note_silent : e ≡ Silent → CodedFrom cs K i e x
  unfolding CodedFrom
  note_silent h = λ ne. absurd (ne h)

  pub note_sends : (k z : ℕ) → Coded cs (ring * i) K (bits_from (frame_at x i z) k) → e ≡ Sender k z
      → CodedFrom cs K i e x
  unfolding CodedFrom emitted
  note_sends k z c h = λ ne. rw h c

  pub note_jams : Coded cs (ring * i) K jams → e ≡ Jammer → CodedFrom cs K i e x
  unfolding CodedFrom emitted
  note_jams c h = λ ne. rw h c

  pub note_frame : (k z : ℕ) → Enough K e → e ≡ Sender k z → z ≤ frame_room
  note_frame k z h e = rw e at h.frame

  pub note_enough : (k z : ℕ) → Enough K e → e ≡ Sender k z → k + K ≤ 65 + 8 * z
  note_enough k z h e = h.bits k z e

module _ (K : ℕ) (es : List Emitter) (x : List ℕ) where
  pub all_noted_none : (cs : List ℕ) → AllCoded cs K es x 0
  unfolding AllCoded
  all_noted_none cs i h = absurd (omega arith)

  pub all_noted_more : (n : ℕ) (ds cs : List ℕ) → AllCoded ds K es x n → Below (ring * n) ds cs
      → CodedFrom cs K n (get_or es n Silent) x → AllCoded cs K es x (n + 1)
  unfolding AllCoded CodedFrom
  all_noted_more n ds cs a b c i h =
      by_test (eqb i n)
      (λ p. let z : n ≡ i = sym (eqb-true i n p)
      in subst (λ (k : ℕ). (get_or es k Silent ≡ Silent → ⊥) → Coded cs (ring * k) K
      (emitted (frame_at x k (octets_in (get_or es k Silent))) (get_or es k Silent))) z c)
      (λ p. let z = eqb-false i n p in λ ne. below_coded (ring * i) (ring * n) K _ ds cs b (omega (arith, z))
      (a i (omega (arith, z)) ne))

  pub all_noted_end : (m n : ℕ) (cs : List ℕ) → n ≤ m → m ≤ n → AllCoded cs K es x n → AllCoded cs K es x m
  all_noted_end m n cs p q a = let z : n ≡ m = omega arith in subst (AllCoded cs K es x) z a

  pub enough_at : (n i : ℕ) → AllEnough K es n → i < n → Enough K (get_or es i Silent)
  unfolding AllEnough
  enough_at n i a h = a i h

-- ---- the code: a line cleared

module _ (t j K : ℕ) (x : List ℕ) where
  pub clear_left : (r : Bool) → r ≡ is_clear x j → r ≡ true → ((u : ℕ) → symbol_at x j u ≤ max_code)
      → x ≡ cleared t j (min K ring) x
  clear_left r e h codes = sym (cleared_same t j (min K ring) x (λ s l. clear_line x j (sym e ∙ h) (t + s)) codes)

  pub clear_made : (m : ℕ) (y : List ℕ) → y ≡ cleared t j m x → m ≡ min K ring → y ≡ cleared t j (min K ring) x
  clear_made m y e h = e ∙ ap (λ (k : ℕ). cleared t j k x) h

-- ---- what stays while lines are written

pub record Kept (n : ℕ) (x y : List ℕ) : Type 0 where
  pub long : length y ≡ length x
  pub time : Keeps clock y x
  pub plan : Keeps layout y x
  pub frames : (i : ℕ) → i < max_stations → Keeps (frame i) y x
  pub codes : (i u : ℕ) → i < n → symbol_at y i u ≤ max_code

module _ (n t K : ℕ) (es : List Emitter) (x : List ℕ) (s : Settles n t K es x) where
  settles_on : (y : List ℕ) → Kept n x y → Settles n t K es y
  settles_on y k =
      let few = s.few in
      record {
        few = few;
        count = s.count ∙ sym (count_by y x k.plan);
        time = s.time ∙ sym (clock_by y x k.time);
        long = omega (arith, k.long, s.long);
        early = s.early;
        near = λ i j hi hj. rw (space_by y x i j (omega arith) (omega arith) k.plan) (s.near i j hi hj);
        codes = k.codes;
        enough = s.enough;
      }

  pub all_enough : AllEnough K es n
  unfolding AllEnough
  all_enough i h = s.enough i h

  -- the frames are as they were, and so are the codes
  coded_on : (cs y : List ℕ) → Kept n x y → AllCoded cs K es x n → AllCoded cs K es y n
  unfolding AllCoded CodedFrom
  coded_on cs y k a i h =
      let few = s.few in
      let e = get_or es i Silent in
      let frames = frame_by y x i (octets_in e) (omega arith) (s.enough i h).frame (omega (arith, k.long, s.long))
      s.long (k.frames i (omega arith)) in
      λ ne. subst (λ (F : List ℕ). Coded cs (ring * i) K (emitted F e)) (sym frames) (a i h ne)

  pub line_codes : (j : ℕ) → j < n → (u : ℕ) → symbol_at x j u ≤ max_code
  line_codes j hj u = s.codes j u hj

  module _ (j : ℕ) (hj : j < n) where
    only_kept : (U : List ℕ → List ℕ) → LineOnly n j U → Kept n x (U x)
    only_kept U o =
        let few = s.few in
        record {
          long = o.long x;
          time = o.off clock x (λ u p q. omega arith);
          plan = o.off layout x (λ u p q. omega arith);
          frames = λ i hi. o.off (frame i) x (λ u p q. omega arith);
          codes = o.codes x s.long s.codes;
        }

    lines_kept : (P : Plan) → Kept n x (lines_done x P K j x)
    lines_kept P =
        let few = s.few in
        let c = s.count in
        let le : j ≤ count_at x = omega arith in
        record {
          long = done_long x P K (omega arith) j x le;
          time = done_keeps x P K (omega arith) clock j x le (λ i u h p q. omega arith);
          plan = done_keeps x P K (omega arith) layout j x le (λ i u h p q. omega arith);
          frames = λ i hi. done_keeps x P K (omega arith) (frame i) j x le (λ k u h p q. omega arith);
          codes = λ i u hi. done_codes x P K (omega arith) j x le s.long (λ k v h. s.codes k v (omega arith)) i u
              (omega arith);
        }

  -- ---- the code: the symbols of all stations to one

  module _ (j : ℕ) (hj : j < n) where
    pub ways_none : x ≡ ways_to x (plan_by x es) K j 0 x
    unfolding ways_to
    ways_none = turns_none _ x

    module _ (i : ℕ) (hi : i < n) (y : List ℕ) (ey : y ≡ ways_to x (plan_by x es) K j i x) where
      ways_kept : Kept n x y
      ways_kept =
          let few = s.few in
          subst (Kept n x) (sym ey) (only_kept j hj (λ z. ways_to x (plan_by x es) K j i z)
          (ways_only n j few hj x (plan_by x es) K i))

      pub ways_asks : Pushes j t K i (get_or es i Silent) y
      ways_asks =
          let few = s.few in
          let r = settles_on y ways_kept in
          record {
            from = omega arith;
            to = omega arith;
            long = r.long;
            near = r.near i j hi hj;
            early = r.early;
            codes = λ u. r.codes j u hj;
            enough = r.enough i hi;
          }

      pub ways_coded : (cs : List ℕ) → AllCoded cs K es x n → CodedFrom cs K i (get_or es i Silent) y
      unfolding AllCoded
      ways_coded cs a = coded_on cs y ways_kept a i hi

      pub ways_more : (z : List ℕ) → z ≡ pushed_from j t K i (get_or es i Silent) y
          → z ≡ ways_to x (plan_by x es) K j (i + 1) x
      unfolding ways_to pushed_from plan_by
      ways_more z ez =
          let few = s.few in
          let k = ways_kept in
          let e = get_or es i Silent in
          let time = s.time in
          let space = space_by y x i j (omega arith) (omega arith) k.plan in
          let frames = frame_by y x i (octets_in e) (omega arith) (s.enough i hi).frame
          (omega (arith, k.long, s.long)) s.long (k.frames i (omega arith)) in
          turns_more _ i x y z
          (ez ∙ (λ m. pick (eqb i j) y (on_way (time m) (space m) K (emitted (frames m) e) j (min (space m) K) y)))
          ey

    pub ways_end : (i : ℕ) (y : List ℕ) → i ≤ n → n ≤ i → y ≡ ways_to x (plan_by x es) K j i x
        → y ≡ ways_to x (plan_by x es) K j n x
    unfolding ways_to
    ways_end i y p q e = turns_end _ n i x y p q e

-- ---- a line goes by the clock, the distances and the plan alone

record Alike (K j : ℕ) (a : List ℕ) (P : Plan) (b : List ℕ) (Q : Plan) : Type 0 where
  time : clock_at a ≡ clock_at b
  count : count_at a ≡ count_at b
  space : (i : ℕ) → i < count_at b → space_at a i j ≡ space_at b i j
  plan : (i s : ℕ) → i < count_at b → s < K → P i s ≡ Q i s

module _ (K j : ℕ) (a : List ℕ) (P : Plan) (b : List ℕ) (Q : Plan) (h : Alike K j a P b Q) where
  ways_same : (k : ℕ) (x : List ℕ) → k ≤ count_at b → ways_to a P K j k x ≡ ways_to b Q K j k x
  unfolding ways_to turns
  ways_same zero x l = refl
  ways_same (suc k) x l =
      let ih : ways_to a P K j k x ≡ ways_to b Q K j k x = ways_same k x (omega arith) in
      let d = space_at b k j in
      let y = ways_to b Q K j k x in
      let time = h.time in
      let space = h.space k l in
      (λ m. pick (eqb k j) (ih m) (on_way (time m) (space m) K (P k) j (min (space m) K) (ih m)))
      ∙ ap (pick (eqb k j) y) (way_same (clock_at b) d K (P k) (Q k) j (min d K) y (omega arith)
      (λ s g. h.plan k s l g))

  line_same : (x : List ℕ) → line_done a P K j x ≡ line_done b Q K j x
  unfolding line_done
  line_same x =
      let time = h.time in
      let count = h.count in
      (λ m. ways_to a P K j (count m) (cleared (time m) j (min K ring) x))
      ∙ ways_same (count_at b) (cleared (clock_at b) j (min K ring) x) (omega arith)

lines_same : (K : ℕ) (a : List ℕ) (P : Plan) (b : List ℕ) (Q : Plan) (k : ℕ) (x : List ℕ)
    → ((j : ℕ) → j < k → Alike K j a P b Q) → lines_done a P K k x ≡ lines_done b Q K k x
unfolding lines_done turns
lines_same K a P b Q zero x h = refl
lines_same K a P b Q (suc k) x h =
    ap (line_done a P K k) (lines_same K a P b Q k x (λ j l. h j (omega arith)))
    ∙ line_same K k a P b Q (h k (omega arith)) (lines_done b Q K k x)

-- ---- the code: a line, and all lines

module _ (n t K : ℕ) (es : List Emitter) (x : List ℕ) (s : Settles n t K es x) where
  -- an area of which lines are written makes the same of a line
  kept_alike : (y : List ℕ) → Kept n x y → (j : ℕ) → j < n → Alike K j y (plan_by y es) x (plan_by x es)
  unfolding plan_by
  kept_alike y k j hj =
      let few = s.few in
      let c = s.count in
      record {
        time = clock_by y x k.time;
        count = count_by y x k.plan;
        space = λ i hi. space_by y x i j (omega arith) (omega arith) k.plan;
        plan = λ i u hi hu.
            ap (λ (F : List ℕ). emitted F (get_or es i Silent) u)
            (frame_by y x i (octets_in (get_or es i Silent)) (omega arith) (s.enough i (omega arith)).frame
            (omega (arith, k.long, s.long)) s.long (k.frames i (omega arith)));
      }

  module _ (j : ℕ) (hj : j < n) (y : List ℕ) (ey : y ≡ cleared t j (min K ring) x) where
    clear_kept : Kept n x y
    clear_kept =
        let few = s.few in subst (Kept n x) (sym ey)
        (only_kept n t K es x s j hj (λ z. cleared t j (min K ring) z) (clear_only n j few hj t (min K ring)))

    pub line_asks : Settles n t K es y
    line_asks = settles_on n t K es x s y clear_kept

    pub line_coded : (cs : List ℕ) → AllCoded cs K es x n → AllCoded cs K es y n
    line_coded cs a = coded_on n t K es x s cs y clear_kept a

    pub line_made : (z : List ℕ) → z ≡ ways_to y (plan_by y es) K j n y → z ≡ line_done x (plan_by x es) K j x
    unfolding line_done
    line_made z ez =
        let count = s.count in
        let time = s.time in
        ez
        ∙ ways_same K j y (plan_by y es) x (plan_by x es) (kept_alike y clear_kept j hj) n y (omega arith)
        ∙ ap₂ (λ (m : ℕ) (w : List ℕ). ways_to x (plan_by x es) K j m w) count
        (ey ∙ ap (λ (u : ℕ). cleared u j (min K ring) x) time)

  pub lines_none : x ≡ lines_done x (plan_by x es) K 0 x
  unfolding lines_done
  lines_none = turns_none _ x

  module _ (j : ℕ) (hj : j < n) (y : List ℕ) (ey : y ≡ lines_done x (plan_by x es) K j x) where
    lines_here : Kept n x y
    lines_here = subst (Kept n x) (sym ey) (lines_kept n t K es x s j hj (plan_by x es))

    pub lines_asks : Settles n t K es y
    lines_asks = settles_on n t K es x s y lines_here

    pub lines_coded : (cs : List ℕ) → AllCoded cs K es x n → AllCoded cs K es y n
    lines_coded cs a = coded_on n t K es x s cs y lines_here a

    pub lines_more : (z : List ℕ) → z ≡ line_done y (plan_by y es) K j y → z ≡ lines_done x (plan_by x es) K (j + 1) x
    unfolding lines_done
    lines_more z ez =
        turns_more _ j x y z (ez ∙ line_same K j y (plan_by y es) x (plan_by x es) (kept_alike y lines_here j hj) y) ey

  pub lines_end : (j : ℕ) (y : List ℕ) → j ≤ n → n ≤ j → y ≡ lines_done x (plan_by x es) K j x
      → y ≡ lines_done x (plan_by x es) K n x
  unfolding lines_done
  lines_end j y p q e = turns_end _ n j x y p q e

-- ---- the code's plan is the window's: the emitters are those before it, the frames are as they were

emitter_plan : (x a : List ℕ) (i s : ℕ) (p : Transmitter) (z : ℕ) → FrameIn p z
    → (z ≤ frame_room → frame_at x i z ≡ frame_at a i z)
    → emitted (frame_at x i (octets_in (emitter_of p z))) (emitter_of p z) s ≡ symbol_of (frame_at a i (octets_held p z))
    (goes_on p s)
unfolding emitted silence bits_from jams
emitter_plan x a i s NoFrame z f h = refl
emitter_plan x a i s Waiting z f h = refl
emitter_plan x a i s (BackingOff w) z f h = refl
emitter_plan x a i s (Sending k) z f h = ap (λ (F : List ℕ). Bit (packet_bit F (k + s))) (h (omega (arith, f.1)))
emitter_plan x a i s (Heading k) z f h = ap (λ (F : List ℕ). Bit (packet_bit F (k + s))) (h (omega (arith, f.1)))
emitter_plan x a i s (Jamming n ends) z f h = refl

plan_same : (x a : List ℕ) (n i s : ℕ) → i < n → FrameIn (station_at a i).transmitter (station_at a i).frame
    → ((z : ℕ) → z ≤ frame_room → frame_at x i z ≡ frame_at a i z) → plan_by x (emitters_of a n) i s ≡ plan_of a i s
unfolding plan_by emitters_of plan_of held_at emitter_at
plan_same x a n i s hi f h =
    ap (λ (e : Emitter). emitted (frame_at x i (octets_in e)) e s) (filled_at Silent (emitter_at a) n i Silent hi)
    ∙ emitter_plan x a i s (station_at a i).transmitter (station_at a i).frame f (h (station_at a i).frame)

abbrev is_sender : Emitter → Bool
is_sender Silent = false
is_sender (Sender k z) = true
is_sender Jammer = false

-- an emitter that may go on for K steps has bits enough for them
not_sender : (e : Emitter) → (k z : ℕ) → is_sender e ≡ false → e ≡ Sender k z → ⊥
not_sender e k z n h = true≢false (sym (ap is_sender h) ∙ n)

emitter_enough : (f : Figures) (K : ℕ) (p : Transmitter) (z : ℕ) → NumberIn f z p → FrameIn p z
    → (emits p ≡ true → K ≤ emits_for z p) → Enough K (emitter_of p z)
unfolding emits_for
emitter_enough f K NoFrame z n h l = record { frame = omega arith; bits = λ k y e. absurd (not_sender Silent k y refl e) }
emitter_enough f K Waiting z n h l = record { frame = omega arith; bits = λ k y e. absurd (not_sender Silent k y refl e) }
emitter_enough f K (BackingOff w) z n h l =
    record { frame = omega arith; bits = λ k y e. absurd (not_sender Silent k y refl e) }
emitter_enough f K (Sending j) z n h l =
    record { frame = omega (arith, h.1); bits = λ k y e. omega (arith, ap bit_in e, ap octets_in e, l refl, n.1) }
emitter_enough f K (Heading j) z n h l =
    record { frame = omega (arith, h.1); bits = λ k y e. omega (arith, ap bit_in e, ap octets_in e, l refl, n.1) }
emitter_enough f K (Jamming m ends) z n h l =
    record { frame = omega arith; bits = λ k y e. absurd (not_sender Jammer k y refl e) }

-- the stations have moved on by themselves: what the code asks for, and that it makes the lines of the window
module _ (a : List ℕ) (r : Readiness a) (P : Plan) (K : ℕ) where
  moved_keeps : (p : Part) → ((j : ℕ) → j < max_stations → Others p j) → Keeps p (own_all a P K (count_at a) a) a
  moved_keeps p o = let few = r.spread.few in own_keeps p a P K (count_at a) a (λ j h. o j (omega arith))

  moved_clock : Keeps clock (own_all a P K (count_at a) a) a
  moved_clock =
      moved_keeps clock (λ j h. record {
        station = λ p q. omega arith;
        counters = λ p q. omega arith;
        buffer = λ p q. omega arith;
      })

  moved_layout : Keeps layout (own_all a P K (count_at a) a) a
  moved_layout =
      moved_keeps layout (λ j h. record {
        station = λ p q. omega arith;
        counters = λ p q. omega arith;
        buffer = λ p q. omega arith;
      })

  moved_frame : (i : ℕ) → i < max_stations → Keeps (frame i) (own_all a P K (count_at a) a) a
  moved_frame i hi =
      moved_keeps (frame i) (λ j h. record {
        station = λ p q. omega arith;
        counters = λ p q. omega arith;
        buffer = λ p q. omega arith;
      })

  pub moved_settles : clock_at a + K ≤ last_clock
      → ((i : ℕ) → i < count_at a → emits (station_at a i).transmitter ≡ true → K ≤ emits_for (station_at a i).frame
      (station_at a i).transmitter)
      → Settles (count_at a) (clock_at a) K (emitters_of a (count_at a)) (own_all a P K (count_at a) a)
  unfolding emitters_of emitter_at
  moved_settles early lasts =
      let n = count_at a in
      let few = r.spread.few in
      let x = own_all a P K n a in
      record {
        few = few;
        count = sym (count_by x a moved_layout);
        time = sym (clock_by x a moved_clock);
        long = omega (arith, length_own a P K n a, r.long);
        early = early;
        near = λ i j hi hj. rw (space_by x a i j (omega arith) (omega arith) moved_layout) (r.spread.near i j hi hj);
        codes = λ i u hi. rw (symbol_by x a i u (all_line a P K n i u (omega arith) few)) (r.codes i u hi);
        enough = λ i hi.
            subst (Enough K) (sym (filled_at Silent (emitter_at a) n i Silent hi))
            (emitter_enough (figures_at a) K (station_at a i).transmitter (station_at a i).frame (r.fine i hi).number
            (r.fine i hi).frame (lasts i hi));
      }

  pub moved_lines : (y : List ℕ)
      → let x = own_all a P K (count_at a) a in lines_done x (plan_by x (emitters_of a (count_at a))) K (count_at a) y
      ≡ lines_done a (plan_of a) K (count_at a) y
  moved_lines y =
      let n = count_at a in
      let few = r.spread.few in
      let x = own_all a P K n a in
      lines_same K x (plan_by x (emitters_of a n)) a (plan_of a) n y
      (λ j hj. record {
        time = clock_by x a moved_clock;
        count = count_by x a moved_layout;
        space = λ i hi. space_by x a i j (omega arith) (omega arith) moved_layout;
        plan =
            λ i s hi hs. plan_same x a n i s hi (r.fine i hi).frame
            (λ z hz. frame_by x a i z (omega arith) hz (omega (arith, length_own a P K n a, r.long)) r.long
            (moved_frame i (omega arith)));
      })
