-- An area that passes checks 1 and 2 is ready for steps, and an area that is ready passes them. Assumes nothing.
use Rattle.std.specs.Prelude.{ℕ, zero, suc, ◌+◌, ◌*◌, ◌%◌, ◌^◌, ◌≤◌, ◌<◌, min, ◌≡◌, refl, Bool, true, false, not, ◌||◌, List, [], ◌∷◌, ltb, leb, eqb, length, get_or}
use Rattle.std.proofs.Common.{sym, ap, subst, true≢false, arith}
use borrow.Author.Tests.{ltb-true, ltb-false, leb-true, leb-false, eqb-true, eqb-false, le-ltb, le-leb, lt-leb, eq-eqb}
use borrow.Author.Tests.{ne_eqb}
use Rattle.octets.specs.Base.{pick, some, outside}
use Rattle.octets.specs.BaseLaws.{by_test, by_eq, neither, within, outside_not, none_below, below_none}
use Rattle.octets.specs.Filled.{filled_at}
use Rattle.octets.specs.NumberLaws.{Octets, get_small}
use Rattle.octets.specs.Words.{words_at}
use Rattle.octets.specs.WordsLaws.{Small, word_at, length_words}
use Rattle.sheet_layout.specs.declared.Figures.{Figures}
use Rattle.sheet_layout.specs.declared.Tap.{Tap}
use Rattle.sheet_layout.specs.Layout as lay
use Rattle.sheet_layout.specs.Check.{refusal_of}
use Rattle.sheet_layout.specs.CheckLaws.{Figured, Sound, sound}
use Rattle.station_state.specs.declared.Deference.{Deference}
use Rattle.station_state.specs.declared.Deference.TheVariants.{Quiet, Busy, Gap}
use Rattle.station_state.specs.declared.Transmitter.{Transmitter}
use Rattle.station_state.specs.declared.Transmitter.TheVariants.{NoFrame, Waiting, BackingOff, Sending, Heading}
use Rattle.station_state.specs.declared.Transmitter.TheVariants.{Jamming}
use Rattle.station_state.specs.State.{number_in, counter_count}
use Rattle.station_state.specs.declared.Receiver.{Receiver}
use Rattle.station_state.specs.declared.Receiver.TheVariants.{Listening, Readable, Seeking, Collecting}
use Rattle.station_state.specs.declared.Station.{Station}
use Rattle.area_record.specs.Codec.{flag, deference_of, deference_code, deference_own, deference_count, transmitter_of}
use Rattle.area_record.specs.Codec.{transmitter_code, receiver_of, receiver_code, receiver_number, receiver_spoiled}
use Rattle.area_record.specs.Codec.{receiver_own, decoded, encoded}
use Rattle.area_record.specs.CodecLaws.{code_none}
use Rattle.area.specs.Area.{clock_at, depth_at, figures_at, count_at, position_at, address_at, tap_at, layout_at, distance}
use Rattle.area.specs.Area.{space_at, counters_at, record_at, station_at, frame_at, buffer_at, symbol_at, max_code}
use Rattle.area_check.specs.Valid.{last_phase, deference_wrong, attempts_wrong, number_wrong, transmitter_wrong}
use Rattle.area_check.specs.Valid.{receiver_wrong, held_wrong, readable_wrong}
use Rattle.area_check.specs.Valid.{record_wrong, symbol_wrong, station_wrong, area_wrong, area_refusal}
use Rattle.bus_spec.specs.Range.{GapIn, NumberIn, AttemptsIn, FrameIn, ReceiverIn, Fine}
use Rattle.area.specs.AreaLaws.{symbol_turn}
use Rattle.area_check.specs.AreaCheckLaws.{passes_right}
use Rattle.bus_spec.specs.InPlace.{Spread}
use Rattle.bus_spec.specs.Sizes.{Sized, sized_passes, sized_right}
use Rattle.bus_spec.specs.Ready.{Readiness}
use Rattle.sheet_layout.specs.Limits.{last_clock, max_position, max_stations}
use Rattle.area.specs.Offsets.{area_size, ring, from, the_station, the_counters}
use Rattle.frame_build.specs.Limits.{min_frame, buffer_octets}
use Rattle.area_record.specs.Words.{record_words, deference_word, stretch_word, gap_word, phase_word, deferred_word}
use Rattle.area_record.specs.Words.{reception_word, frame_word, attempts_word, draw_word}
use Rattle.area_record.specs.Words.{phase_number_word, receiver_word, receiver_number_word, spoiled_word}

-- a test that must fail, and what is left then
fails : (b r : Bool) → pick b true r ≡ false → (b ≡ false) × (r ≡ false)
fails true r h = absurd (true≢false h)
fails false r h = (refl, h)

-- ---- a record that passes is in range

gap_passes : (f : Figures) (w : List ℕ) → deference_wrong f w ≡ false
    → GapIn (lay.gap_of f) (deference_of (get_or w deference_word 0) (eqb (get_or w stretch_word 0) 1) (get_or w gap_word 0))
unfolding deference_wrong deference_of
gap_passes f w h =
    let p = fails (ltb 2 (get_or w deference_word 0)) _ h in
    by_test (eqb (get_or w deference_word 0) 0)
    (λ c. rw c tt)
    (λ c. let q = fails (ltb 1 (get_or w stretch_word 0)) _ (rw c at p.1) in
    by_test (eqb (get_or w deference_word 0) 1) (λ d. rw (c, d) tt)
    (λ d. let x = within (get_or w gap_word 0) 1 (lay.gap_of f) (rw d at q.1) in rw (c, d) x))

-- what check 2 says of a transmitter: its code, and then attempts, octets and number
record Sender (f : Figures) (z n : ℕ) (x : Transmitter) : Type 0 where
  number : NumberIn f z x
  attempts : AttemptsIn f.limit x n
  frame : FrameIn x z

-- code 6 stands only where late collisions close frames
ends_only : (f : Figures) (code : ℕ) → f.ends ≤ 1 → code ≤ last_phase f → 4 < code → not (eqb code 5) ≡ true
    → f.ends ≡ 1
unfolding last_phase
ends_only f code le low big h =
    by_test (eqb f.ends 0)
    (λ c. let five : code ≤ 5 = rw c at low in
    let z : code ≡ 5 = omega arith in absurd (true≢false (sym (rw (eq-eqb code 5 z) at h))))
    (λ c. omega (arith, eqb-false f.ends 0 c))

module _ (f : Figures) (code m z n : ℕ) where
  sender_none : code ≡ 0 → attempts_wrong f.limit code n ≡ false → Sender f z n NoFrame
  unfolding attempts_wrong
  sender_none e p = record { number = tt; attempts = ltb-false f.limit n (rw (eq-eqb code 0 e) at p); frame = tt }

  module _ (ne : code ≡ 0 → ⊥) (pa : attempts_wrong f.limit code n ≡ false) (fz : (64 ≤ z) × (z ≤ buffer_octets))
      (pn : number_wrong f code m z ≡ false) (le : f.ends ≤ 1) (low : code ≤ last_phase f) where
    waits_low : code ≤ 2 → n < f.limit
    unfolding attempts_wrong
    waits_low h = leb-false f.limit n (rw (ne_eqb code 0 ne, le-leb code 2 h) at pa)

    sends_low : 2 < code → (1 ≤ n) × (n ≤ f.limit)
    unfolding attempts_wrong
    sends_low h = within n 1 f.limit (rw (ne_eqb code 0 ne, lt-leb code 2 h) at pa)

    sender_some : Sender f z n (transmitter_of code m)
    unfolding transmitter_of number_wrong
    sender_some =
        by_test (eqb code 1)
        (λ c. let e = eqb-true code 1 c in rw (ne_eqb code 0 ne, c) (record {
          number = tt;
          attempts = waits_low (omega arith);
          frame = fz;
        }))
        (λ c. by_test (eqb code 2)
        (λ d. let e = eqb-true code 2 d in
        rw (ne_eqb code 0 ne, c, d) (record {
          number = within m 1 (f.slot * 1023) (rw (c, d) at pn);
          attempts = waits_low (omega arith);
          frame = fz;
        }))
        (λ d. by_test (leb code 4)
        (λ u. let big : 2 < code = omega (arith, ne, eqb-false code 1 c, eqb-false code 2 d) in
        let x : (1 ≤ m) × (m ≤ 64 + 8 * z) = within m 1 (64 + 8 * z) (rw (c, d, u) at pn) in
        by_test (eqb code 3)
        (λ v. rw (ne_eqb code 0 ne, c, d, v) (record { number = x; attempts = sends_low big; frame = fz }))
        (λ v. let e : code ≡ 4 = omega (arith, leb-true code 4 u, eqb-false code 3 v, big) in
        rw (ne_eqb code 0 ne, c, d, v, eq-eqb code 4 e) (record { number = x; attempts = sends_low big; frame = fz })))
        (λ u. let big : 4 < code = leb-false code 4 u in
        rw (ne_eqb code 0 ne, c, d, ne_eqb code 3 (λ e. omega arith), ne_eqb code 4 (λ e. omega arith))
        (record {
          number =
              let x = within m 1 f.jam (rw (c, d, u) at pn) in (x.0, x.1, λ h. ends_only f code le low big h);
          attempts = sends_low (omega arith);
          frame = fz;
        }))))

sender_passes : (f : Figures) (w : List ℕ) → f.ends ≤ 1 → transmitter_wrong f w ≡ false
    → Sender f (get_or w frame_word 0) (get_or w attempts_word 0)
    (transmitter_of (get_or w phase_word 0) (get_or w phase_number_word 0))
unfolding transmitter_wrong
sender_passes f w le h =
    let p = fails (ltb (last_phase f) (get_or w phase_word 0)) _ h in
    let q = fails (attempts_wrong f.limit (get_or w phase_word 0) (get_or w attempts_word 0)) _ p.1 in
    by_test (eqb (get_or w phase_word 0) 0)
    (λ c. none (eqb-true (get_or w phase_word 0) 0 c) q.0)
    (λ c. let u = fails (outside (get_or w frame_word 0) 64 buffer_octets) _ (rw c at q.1) in
    let v = fails (ltb 1 (get_or w deferred_word 0)) _ u.1 in
    sender_some f (get_or w phase_word 0) (get_or w phase_number_word 0) (get_or w frame_word 0) (get_or w attempts_word 0)
    (eqb-false (get_or w phase_word 0) 0 c) q.0
    (within (get_or w frame_word 0) 64 buffer_octets u.0) v.1 le
    (ltb-false (last_phase f) (get_or w phase_word 0) p.0))
  where
    none : get_or w phase_word 0 ≡ 0 → attempts_wrong f.limit (get_or w phase_word 0) (get_or w attempts_word 0) ≡ false
        → Sender f (get_or w frame_word 0) (get_or w attempts_word 0)
        (transmitter_of (get_or w phase_word 0) (get_or w phase_number_word 0))
    none e g =
        subst (Sender f (get_or w frame_word 0) (get_or w attempts_word 0))
        (code_none (get_or w phase_word 0) (get_or w phase_number_word 0) e)
        (sender_none f (get_or w phase_word 0) (get_or w phase_number_word 0) (get_or w frame_word 0) (get_or w attempts_word 0) e g)

receiver_passes : (t : ℕ) (w : List ℕ) → receiver_wrong t w ≡ false
    → ReceiverIn t (receiver_of (get_or w receiver_word 0) (get_or w receiver_number_word 0) (eqb (get_or w spoiled_word 0) 1)
    (eqb (get_or w reception_word 0) 1))
unfolding receiver_wrong receiver_of
receiver_passes t w h =
    let p = fails (ltb 3 (get_or w receiver_word 0)) _ h in
    by_test (eqb (get_or w receiver_word 0) 0)
    (λ c. rw c tt)
    (λ c. by_test (eqb (get_or w receiver_word 0) 1)
    (λ d. rw (c, d) (within (get_or w receiver_number_word 0) 64 buffer_octets (rw (c, d) at p.1)))
    (λ d. let q = fails (ltb 1 (get_or w spoiled_word 0)) _ (rw (c, d) at p.1) in
    let u = fails (ltb 1 (get_or w reception_word 0)) _ q.1 in
    by_test (eqb (get_or w receiver_word 0) 2)
    (λ e. rw (c, d, e) (within (get_or w receiver_number_word 0) 1 511 (rw e at u.1)))
    (λ e. rw (c, d, e) (ltb-false t (get_or w receiver_number_word 0) (rw e at u.1)))))

record_passes : (f : Figures) (d t : ℕ) (w address : List ℕ) → f.ends ≤ 1 → record_wrong f d t w ≡ false
    → get_or w frame_word 0 < 256 ^ 4
    → Fine f d t (decoded w address)
unfolding record_wrong decoded
record_passes f d t w address le h wide =
    let p = fails (deference_wrong f w) _ h in
    let q = fails (transmitter_wrong f w) _ p.1 in
    let r = fails (receiver_wrong t w) _ q.1 in
    let u = fails (leb d (get_or w draw_word 0)) _ r.1 in
    let s = sender_passes f w le q.0 in
    record {
      gap = gap_passes f w p.0;
      number = s.number;
      attempts = s.attempts;
      frame = s.frame;
      receiver = receiver_passes t w r.0;
      draw = leb-false d (get_or w draw_word 0) u.0;
      wide = wide;
    }

-- ---- and a state in range is written as a record that passes

flag_right : (b : Bool) → ltb 1 (flag b) ≡ false
flag_right true = refl
flag_right false = refl

gap_right : (f : Figures) (w : List ℕ) (x : Deference) → get_or w deference_word 0 ≡ deference_code x
    → get_or w stretch_word 0 ≡ flag (deference_own x) → get_or w gap_word 0 ≡ deference_count x
    → GapIn (lay.gap_of f) x → deference_wrong f w ≡ false
unfolding deference_wrong
gap_right f w Quiet p q r v = rw p
gap_right f w (Busy own) p q r v = rw (p, q, flag_right own)
gap_right f w (Gap n own) p q r v = rw (p, q, r, flag_right own) (outside_not n 1 (lay.gap_of f) v.0 v.1)

phase_five : (f : Figures) (k : ℕ) → k ≤ 5 → ltb (last_phase f) k ≡ false
unfolding last_phase
phase_five f k h = by_test (eqb f.ends 0) (λ c. rw c (le-ltb 5 k h)) (λ c. rw c (le-ltb 6 k (omega arith)))

phase_six : (f : Figures) → (f.ends ≡ 0 → ⊥) → ltb (last_phase f) 6 ≡ false
unfolding last_phase
phase_six f ne = rw (ne_eqb f.ends 0 ne)

sender_right : (f : Figures) (w : List ℕ) (x : Transmitter) (d : Bool) → get_or w phase_word 0 ≡ transmitter_code x
    → get_or w phase_number_word 0 ≡ number_in x → get_or w deferred_word 0 ≡ flag d
    → NumberIn f (get_or w frame_word 0) x → AttemptsIn f.limit x (get_or w attempts_word 0)
    → FrameIn x (get_or w frame_word 0)
    → transmitter_wrong f w ≡ false
unfolding transmitter_wrong attempts_wrong number_wrong
sender_right f w NoFrame d p q r m n z =
    rw (p, phase_five f 0 (omega arith), le-ltb f.limit (get_or w attempts_word 0) n)
sender_right f w Waiting d p q r m n z =
    rw (
      p,
      phase_five f 1 (omega arith),
      lt-leb f.limit (get_or w attempts_word 0) n,
      outside_not
          (get_or w frame_word 0) 64 buffer_octets z.0 z.1,
      r,
      flag_right d,
    )
sender_right f w (BackingOff k) d p q r m n z =
    rw (
      p,
      phase_five f 2 (omega arith),
      lt-leb f.limit (get_or w attempts_word 0) n,
      outside_not (get_or w frame_word 0) 64 buffer_octets z.0
          z.1,
      r,
      flag_right d,
      q,
    ) (outside_not k 1 (f.slot * 1023) m.0 m.1)
sender_right f w (Sending k) d p q r m n z =
    rw (
      p,
      phase_five f 3 (omega arith),
      outside_not (get_or w attempts_word 0) 1 f.limit n.0 n.1,
      outside_not (get_or w frame_word 0) 64 buffer_octets z.0
          z.1,
      r,
      flag_right d,
      q,
    ) (outside_not k 1 (64 + 8 * get_or w frame_word 0) m.0 m.1)
sender_right f w (Heading k) d p q r m n z =
    rw (
      p,
      phase_five f 4 (omega arith),
      outside_not (get_or w attempts_word 0) 1 f.limit n.0 n.1,
      outside_not (get_or w frame_word 0) 64 buffer_octets z.0
          z.1,
      r,
      flag_right d,
      q,
    ) (outside_not k 1 (64 + 8 * get_or w frame_word 0) m.0 m.1)
sender_right f w (Jamming k true) d p q r m n z =
    let one = m.2 refl in
    let some : (f.ends ≡ 0 → ⊥) = λ z. omega arith in
    rw (
      p,
      phase_six f some,
      outside_not (get_or w attempts_word 0) 1 f.limit n.0 n.1,
      outside_not (get_or w frame_word 0) 64 buffer_octets z.0
          z.1,
      r,
      flag_right d,
      q,
    ) (outside_not k 1 f.jam m.0 m.1)
sender_right f w (Jamming k false) d p q r m n z =
    rw (
      p,
      phase_five f 5 (omega arith),
      outside_not (get_or w attempts_word 0) 1 f.limit n.0 n.1,
      outside_not (get_or w frame_word 0) 64 buffer_octets z.0
          z.1,
      r,
      flag_right d,
      q,
    ) (outside_not k 1 f.jam m.0 m.1)

receiver_right : (t : ℕ) (w : List ℕ) (x : Receiver) → get_or w receiver_word 0 ≡ receiver_code x
    → get_or w receiver_number_word 0 ≡ receiver_number x
    → get_or w spoiled_word 0 ≡ flag (receiver_spoiled x)
    → get_or w reception_word 0 ≡ flag (receiver_own x) → ReceiverIn t x → receiver_wrong t w ≡ false
unfolding receiver_wrong
receiver_right t w Listening p q r u v = rw p
receiver_right t w (Readable n) p q r u v = rw (p, q) (outside_not n 64 buffer_octets v.0 v.1)
receiver_right t w (Seeking row sp own) p q r u v =
    rw (p, q, r, u, flag_right sp, flag_right own) (outside_not row 1 511 v.0 v.1)
receiver_right t w (Collecting n sp own) p q r u v = rw (p, q, r, u, flag_right sp, flag_right own) (le-ltb t n v)

pub record_right : (f : Figures) (d t : ℕ) (s : Station) → Fine f d t s → record_wrong f d t (encoded s) ≡ false
unfolding record_wrong encoded
record_right f d t s v =
    rw (
      gap_right f (encoded s) s.deference refl refl refl v.gap,
      sender_right f (encoded s) s.transmitter s.deferred refl refl refl v.number v.attempts v.frame,
      receiver_right t (encoded s) s.receiver refl refl refl refl v.receiver,
      lt-leb d s.draw v.draw,
    ) (flag_right s.emitted)

-- ---- the layout

space_small : (a : List ℕ) (i j : ℕ) → position_at a i ≤ max_position → position_at a j ≤ max_position
    → space_at a i j < ring
unfolding space_at distance
space_small a i j p q = omega arith

space_some : (a : List ℕ) (i j : ℕ) → (position_at a i ≡ position_at a j → ⊥) → 0 < space_at a i j
unfolding space_at distance
space_some a i j h = omega (arith, h)

-- the stations that the area counts are those of its layout
pub tap_in_lem : (a : List ℕ) (i : ℕ) → count_at a ≤ max_stations → i < count_at a → lay.tap_at (layout_at a) i ≡ tap_at a i
unfolding layout_at lay.tap_at
tap_in_lem a i few h =
    filled_at lay.blank_tap (tap_at a) (min (count_at a) 16) i (record { position = 0; address = [] }) (omega arith)

module _ (a : List ℕ) (ok : refusal_of (layout_at a) ≡ 0) where
  known : Sound (layout_at a)
  known = sound (layout_at a) ok

  few : (2 ≤ count_at a) × (count_at a ≤ max_stations)
  unfolding layout_at
  few = known.count

  position_there : (i : ℕ) → i < count_at a → lay.position_at (layout_at a) i ≡ position_at a i
  position_there i h = ap (λ (t : Tap). t.position) (tap_in_lem a i few.1 h)

  low : (i : ℕ) → i < count_at a → position_at a i ≤ max_position
  unfolding layout_at
  low i h = rw (← position_there i h) (known.position i h)

  next_up : (i : ℕ) → suc i < count_at a → position_at a i < position_at a (suc i)
  unfolding layout_at
  next_up i h = omega (arith, known.rising i h, position_there i (omega arith), position_there (suc i) h)

  pub rise : (i j : ℕ) → i < j → j < count_at a → position_at a i < position_at a j
  rise i zero l u = absurd (omega arith)
  rise i (suc j) l u =
      by_eq i j
      (λ e. rw e (next_up j u))
      (λ ne. let r = rise i j (omega arith) (omega arith) in let s = next_up j u in omega arith)

  pub layout_figures : Figured (figures_at a)
  unfolding layout_at
  layout_figures = known.figures

  pub layout_spread : Spread (count_at a) a
  layout_spread = record { few = few.1; pos = λ i j hi hj ne. apart i j hi hj ne; near = λ i j hi hj. close i j hi hj }
    where
      close : (i j : ℕ) → i < count_at a → j < count_at a → space_at a i j < ring
      close i j hi hj = space_small a i j (low i hi) (low j hj)

      apart : (i j : ℕ) → i < count_at a → j < count_at a → (i ≡ j → ⊥) → 0 < space_at a i j
      apart i j hi hj ne =
          by_test (ltb i j)
          (λ c. space_some a i j (λ e. let r = rise i j (ltb-true i j c) hj in omega arith))
          (λ c. space_some a i j (λ e. let l = ltb-false i j c in let r = rise j i
          (omega (arith, ne)) hi in omega arith))

-- ---- the area

-- ready, and each record as check 2 wants it: its flags are not in the state that it stands for
pub record Passing (a : List ℕ) : Type 0 where
  pub ready : Readiness a
  pub records : (i : ℕ) → i < count_at a → record_wrong (figures_at a) (depth_at a) (clock_at a) (record_at a i) ≡ false
  pub sizes : (i : ℕ) → i < count_at a → Sized (frame_at a i min_frame) (buffer_at a i) (station_at a i)

record Right (a : List ℕ) : Type 0 where
  layout : refusal_of (layout_at a) ≡ 0
  depth : outside (depth_at a) 1 16 ≡ false
  clock : ltb last_clock (clock_at a) ≡ false
  stations : some (station_wrong a) (count_at a) ≡ false

right : (a : List ℕ) → area_wrong a ≡ false → Right a
unfolding area_wrong
right a = go (eqb (refusal_of (layout_at a)) 0) refl
  where
    go : (s : Bool) → eqb (refusal_of (layout_at a)) 0 ≡ s
        → pick s (pick (outside (depth_at a) 1 16) true
        (pick (ltb last_clock (clock_at a)) true (some (station_wrong a) (count_at a)))) true ≡ false → Right a
    go true p h =
        let u = fails (outside (depth_at a) 1 16) _ h in
        let v = fails (ltb last_clock (clock_at a)) _ u.1 in
        record { layout = eqb-true (refusal_of (layout_at a)) 0 p; depth = u.0; clock = v.0; stations = v.1 }
    go false p h = absurd (true≢false h)

small_by : (ws : List ℕ) → ((j : ℕ) → get_or ws j 0 < 256 ^ 4) → Small ws
small_by [] h = tt
small_by (w ∷ ws) h = (h 0, small_by ws (λ j. h (suc j)))

past : (ws : List ℕ) (j : ℕ) → length ws ≤ j → get_or ws j 0 ≡ 0
past [] j h = refl
past (w ∷ ws) zero h = absurd (omega arith)
past (w ∷ ws) (suc j) h = past ws j (omega arith)

words_small : (n : ℕ) (a : List ℕ) (at : ℕ) → Octets a → (j : ℕ) → get_or (words_at n a at) j 0 < 256 ^ 4
words_small n a at o j =
    by_test (ltb j n)
    (λ c. rw (word_at n a at j (ltb-true j n c)) (get_small 4 a (at + 4 * j) o))
    (λ c. let g = ltb-false j n c in rw (past (words_at n a at) j (omega (arith, length_words n a at))) (omega arith))

pub passes_ready : (a : List ℕ) → Octets a → area_refusal a ≡ 0 → Passing a
unfolding station_wrong symbol_wrong record_at counters_at station_at
passes_ready a o h =
    let p = passes_right a h in
    let r = right a p.1 in
    let one : (i : ℕ) → i < count_at a
    → (record_wrong (figures_at a) (depth_at a) (clock_at a) (record_at a i) ≡ false)
    × ((held_wrong a i || (readable_wrong a i || some (symbol_wrong a i) ring)) ≡ false) =
    λ i hi. neither _ _ (none_below (station_wrong a) (count_at a) i r.stations hi) in
    let two : (i : ℕ) → i < count_at a
    → (held_wrong a i ≡ false) × ((readable_wrong a i || some (symbol_wrong a i) ring) ≡ false) =
    λ i hi. neither _ _ (one i hi).1 in
    let three : (i : ℕ) → i < count_at a → (readable_wrong a i ≡ false) × (some (symbol_wrong a i) ring ≡ false) =
    λ i hi. neither _ _ (two i hi).1 in
    record {
      ready = record {
        long = p.0;
        sound = r.layout;
        figures = layout_figures a r.layout;
        spread = layout_spread a r.layout;
        depth = within (depth_at a) 1 16 r.depth;
        clock = ltb-false last_clock (clock_at a) r.clock;
        fine =
            λ i hi. record_passes (figures_at a) (depth_at a) (clock_at a) (record_at a i) (address_at a i)
            (layout_figures a r.layout).ends (one i hi).0
            (words_small record_words a (from (the_station i)) o 9);
        codes =
            λ i u hi. rw (symbol_turn a i u (u % ring) (omega arith))
            (ltb-false max_code (symbol_at a i (u % ring))
            (none_below (symbol_wrong a i) ring (u % ring) (three i hi).1 (omega arith)));
        counts = λ i hi. small_by (counters_at a i) (words_small counter_count a (from (the_counters i)) o);
      };
      records = λ i hi. (one i hi).0;
      sizes = λ i hi. sized_passes a i (two i hi).0 (three i hi).0;
    }

pub ready_passes : (a : List ℕ) → Passing a → area_refusal a ≡ 0
unfolding area_refusal area_wrong station_wrong symbol_wrong
ready_passes a v =
    let r = v.ready in
    let each : (i : ℕ) → i < count_at a → station_wrong a i ≡ false =
    λ i hi. let z = sized_right a i (v.sizes i hi) in rw (v.records i hi, z.0, z.1)
    (below_none (symbol_wrong a i) ring
    (λ u hu. le-ltb max_code (symbol_at a i u) (r.codes i u hi))) in
    rw (
      le-ltb (length a) area_size r.long,
      eq-eqb (refusal_of (layout_at a)) 0 r.sound,
      outside_not (depth_at a) 1 16 r.depth.0 r.depth.1,
      le-ltb last_clock (clock_at a) r.clock,
      below_none (station_wrong a) (count_at a) each,
    )
