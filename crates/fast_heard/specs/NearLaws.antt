-- Laws of the nearest emitters: what they are, what they bring, and one law for each way through the code that finds
-- them. Assumes nothing.
use Prim.Native.Nat.{ℕ, zero, suc, ◌+◌, ◌-◌, ◌≤◌, ◌<◌}
use Rattle.std.specs.Prelude.{◌≡◌, Bool, true, false, List, eqb, ltb, leb, length, get_or, set}
use Rattle.std.proofs.Math.Path.{refl, sym, ap, ap₂}
use Rattle.std.proofs.Common.{◌∙◌, subst, add-one, leb-true, leb-false, get_or-set_other, get_or-take, length-take-le, take}
use Rattle.std.proofs.Math.Bool.{true≢false}
use native.Mathlib.Omega.{arith}
use borrow.Author.Tests.{eq-eqb, ne_eqb, eqb-true, eqb-false, lt-ltb, le-ltb, ltb-true, ltb-false}
use Rattle.std.proofs.Math.Seq.{get_or-set_same}
use Rattle.octets.specs.Base.{pick}
use Rattle.octets.specs.BaseLaws.{by_test, by_eq}
use Rattle.octets.specs.Turns.{turns, turns_none, turns_end}
use Rattle.station_symbols.specs.declared.Heard.TheVariants.{Nothing, Spoiled}
use Rattle.station_symbols.specs.declared.Symbol.TheVariants.{Silence}
use Rattle.station_symbols.specs.Packet.{symbol_of}
use Rattle.station_state.specs.declared.Transmitter.{Transmitter}
use Rattle.station_state.specs.declared.Transmitter.TheVariants.{NoFrame, Waiting, BackingOff, Sending, Heading}
use Rattle.station_state.specs.declared.Transmitter.TheVariants.{Jamming}
use Rattle.area_record.specs.Codec.{transmitter_of, decoded}
use Rattle.area.specs.Area.{count_at, position_at, distance, space_at, record_at, station_at, alone}
use Rattle.area.specs.CodeLaws.{space_is}
use Rattle.bus_spec.specs.InPlace.{Spread}
use Rattle.bus_meeting.specs.Net.{reaches, heard}
use Rattle.bus_meeting.specs.Gather.{on, gathered_none, gathered_one, gathered_two}
use Rattle.bus_meeting.specs.Reach.{reach_at, reach_none}
use Rattle.fast_plan.specs.Plan.{net_of}
use Rattle.fast_line.specs.Line.{bits_from, jams}
use Rattle.fast_heard.specs.declared.Near.{Near}
use Rattle.fast_heard.specs.Hearing.{goes_on, held_at, plan_of, emits, emits_at, bit_of, no_near, nearer, noted}
use Rattle.fast_heard.specs.Hearing.{space_to, Lists, nearest_of, near_bit, begun, brought}
use Rattle.area.specs.Offsets.{ring}
use Rattle.sheet_layout.specs.Limits.{max_stations}
use Rattle.area_record.specs.Words.{phase_word, phase_number_word}

-- ---- what they are

-- a second emitter, at distance d2
pub record Second (n j : ℕ) (emitter : ℕ → Bool) (d : ℕ → ℕ) (w : Near) : Type 0 where
  pub second : ℕ
  pub station : second < n
  pub other : second ≡ j → ⊥
  pub apart : w.from ≡ second → ⊥
  pub emits : emitter second ≡ true
  pub is : d second ≡ w.d2

-- the nearest emitter other than j
pub record First (n j : ℕ) (emitter : ℕ → Bool) (d : ℕ → ℕ) (w : Near) : Type 0 where
  pub station : w.from < n
  pub other : w.from ≡ j → ⊥
  pub emits : emitter w.from ≡ true
  pub is : d w.from ≡ w.d1

pub record Nearest (n j : ℕ) (emitter : ℕ → Bool) (d : ℕ → ℕ) (w : Near) : Type 0 where
  pub order : w.d1 ≤ w.d2
  pub limit : w.d2 ≤ ring
  pub one : w.d1 < ring → First n j emitter d w
  pub two : w.d2 < ring → Second n j emitter d w
  pub least : (i : ℕ) → i < n → (i ≡ j → ⊥) → emitter i ≡ true → w.d1 ≤ d i
  pub rest : (i : ℕ) → i < n → (i ≡ j → ⊥) → (i ≡ w.from → ⊥) → emitter i ≡ true → w.d2 ≤ d i

module _ (j : ℕ) (em : ℕ → Bool) (d : ℕ → ℕ) where
  -- one station more: it does not emit, or is j itself
  passed_by : (k : ℕ) (w : Near) → ((k ≡ j → ⊥) → em k ≡ true → ⊥) → Nearest k j em d w → Nearest (suc k) j em d w
  passed_by k w dumb v =
      record {
        order = v.order;
        limit = v.limit;
        one =
            λ h. let f = v.one h in let g = f.station in record {
              station = omega arith;
              other = f.other;
              emits = f.emits;
              is = f.is;
            };
        two =
            λ h. let f = v.two h in let g = f.station in record {
              second = f.second;
              station = omega arith;
              other = f.other;
              apart = f.apart;
              emits = f.emits;
              is = f.is;
            };
        least =
            λ i l ne e. by_eq i k (λ z. absurd (dumb (λ q. ne (z ∙ q)) (subst (λ (m : ℕ). em m ≡ true) z e)))
            (λ z. v.least i (omega arith) ne e);
        rest =
            λ i l ne nf e. by_eq i k (λ z. absurd (dumb (λ q. ne (z ∙ q)) (subst (λ (m : ℕ). em m ≡ true) z e)))
            (λ z. v.rest i (omega arith) ne nf e);
      }

  -- the nearest so far
  comes_first : (k : ℕ) (w : Near) → (k ≡ j → ⊥) → em k ≡ true → d k < w.d1 → Nearest k j em d w
      → Nearest (suc k) j em d (record { from = k; d1 = d k; d2 = w.d1 })
  comes_first k w ne e h v =
      let o = v.order in
      let m = v.limit in
      record {
        order = omega arith;
        limit = omega arith;
        one = λ g. record { station = omega arith; other = ne; emits = e; is = refl };
        two =
            λ g. let f = v.one g in let s = f.station in record {
              second = w.from;
              station = omega arith;
              other = f.other;
              apart = λ z. omega arith;
              emits = f.emits;
              is = f.is;
            };
        least =
            λ i l nj ei. by_eq i k (λ z. rw z (omega arith))
            (λ z. let q = v.least i (omega arith) nj ei in omega arith);
        rest = λ i l nj nf ei. v.least i (omega (arith, nf)) nj ei;
      }

  -- the second nearest so far
  comes_second : (k : ℕ) (w : Near) → (k ≡ j → ⊥) → em k ≡ true → w.d1 ≤ d k → d k < w.d2 → Nearest k j em d w
      → Nearest (suc k) j em d (record { from = w.from; d1 = w.d1; d2 = d k })
  comes_second k w ne e lo h v =
      let o = v.order in
      let m = v.limit in
      record {
        order = lo;
        limit = omega arith;
        one =
            λ g. let f = v.one g in let s = f.station in record {
              station = omega arith;
              other = f.other;
              emits = f.emits;
              is = f.is;
            };
        two =
            λ g. let f = v.one (omega arith) in let s = f.station in record {
              second = k;
              station = omega arith;
              other = ne;
              apart = λ z. omega arith;
              emits = e;
              is = refl;
            };
        least = λ i l nj ei. by_eq i k (λ z. rw z lo) (λ z. v.least i (omega arith) nj ei);
        rest =
            λ i l nj nf ei. by_eq i k (λ z. rw z (omega arith))
            (λ z. let q = v.rest i (omega arith) nj nf ei in omega arith);
      }

  -- further away than both
  comes_later : (k : ℕ) (w : Near) → w.d2 ≤ d k → Nearest k j em d w → Nearest (suc k) j em d w
  comes_later k w h v =
      let o = v.order in
      record {
        order = v.order;
        limit = v.limit;
        one =
            λ g. let f = v.one g in let s = f.station in record {
              station = omega arith;
              other = f.other;
              emits = f.emits;
              is = f.is;
            };
        two =
            λ g. let f = v.two g in let s = f.station in record {
              second = f.second;
              station = omega arith;
              other = f.other;
              apart = f.apart;
              emits = f.emits;
              is = f.is;
            };
        least = λ i l ne e. by_eq i k (λ z. rw z (omega arith)) (λ z. v.least i (omega arith) ne e);
        rest = λ i l ne nf e. by_eq i k (λ z. rw z h) (λ z. v.rest i (omega arith) ne nf e);
      }

  noted_nearest : (k : ℕ) (w : Near) → Nearest k j em d w → Nearest (suc k) j em d (noted em d j k w)
  unfolding noted nearer
  noted_nearest k w v =
      by_test (eqb k j)
      (λ b. rw b (passed_by k w (λ ne e. ne (eqb-true k j b)) v))
      (λ b. by_test (em k)
      (λ e. by_test (ltb (d k) w.d1)
      (λ p. rw (b, e, p) (comes_first k w (eqb-false k j b) e (ltb-true (d k) w.d1 p) v))
      (λ p. by_test (ltb (d k) w.d2)
      (λ q. rw (b, e, p, q) (comes_second k w (eqb-false k j b) e (ltb-false (d k) w.d1 p)
      (ltb-true (d k) w.d2 q) v))
      (λ q. rw (b, e, p, q) (comes_later k w (ltb-false (d k) w.d2 q) v))))
      (λ e. rw (b, e) (passed_by k w (λ ne f. true≢false (sym f ∙ e)) v)))

  none_nearest : Nearest 0 j em d no_near
  unfolding no_near
  none_nearest =
      record {
        order = omega arith;
        limit = omega arith;
        one = λ h. absurd (omega arith);
        two = λ h. absurd (omega arith);
        least = λ i l. absurd (omega arith);
        rest = λ i l. absurd (omega arith);
      }

  all_nearest : (n : ℕ) → Nearest n j em d (turns (noted em d j) n no_near)
  unfolding turns
  all_nearest zero = none_nearest
  all_nearest (suc n) = noted_nearest n (turns (noted em d j) n no_near) (all_nearest n)

pub nearest_is : (a : List ℕ) (n j : ℕ) → Nearest n j (emits_at a) (space_to a j) (nearest_of a n j)
unfolding nearest_of
nearest_is a n j = all_nearest j (emits_at a) (space_to a j) n

pub near_station : (a : List ℕ) (n j : ℕ) (w : Near) → w ≡ nearest_of a n j → w.d1 < ring → w.from < n
near_station a n j w e h = ((subst (Nearest n j (emits_at a) (space_to a j)) (sym e) (nearest_is a n j)).one h).station

-- ---- what they bring

plan_on : (f : List ℕ) (x : Transmitter) (s : ℕ) → emits x ≡ true → on (symbol_of f (goes_on x s)) ≡ true
plan_on f NoFrame s e = absurd (true≢false (sym e))
plan_on f Waiting s e = absurd (true≢false (sym e))
plan_on f (BackingOff w) s e = absurd (true≢false (sym e))
plan_on f (Sending k) s e = refl
plan_on f (Heading k) s e = refl
plan_on f (Jamming n ends) s e = refl

plan_off : (f : List ℕ) (x : Transmitter) (s : ℕ) → emits x ≡ false → symbol_of f (goes_on x s) ≡ Silence
plan_off f NoFrame s e = refl
plan_off f Waiting s e = refl
plan_off f (BackingOff w) s e = refl
plan_off f (Sending k) s e = absurd (true≢false e)
plan_off f (Heading k) s e = absurd (true≢false e)
plan_off f (Jamming n ends) s e = absurd (true≢false e)

module _ (a : List ℕ) (i s : ℕ) where
  pub emitter_on : emits_at a i ≡ true → on (plan_of a i s) ≡ true
  unfolding emits_at plan_of
  emitter_on e = plan_on (held_at a i) (station_at a i).transmitter s e

  pub silent_off : emits_at a i ≡ false → plan_of a i s ≡ Silence
  unfolding emits_at plan_of
  silent_off e = plan_off (held_at a i) (station_at a i).transmitter s e

-- the plan of an emitter, as it is put on the lines
module _ (a : List ℕ) (i k s : ℕ) where
  pub plan_sending : (station_at a i).transmitter ≡ Sending k → plan_of a i s ≡ bits_from (held_at a i) k s
  unfolding plan_of bits_from
  plan_sending e = ap (λ (x : Transmitter). symbol_of (held_at a i) (goes_on x s)) e

  pub plan_heading : (station_at a i).transmitter ≡ Heading k → plan_of a i s ≡ bits_from (held_at a i) k s
  unfolding plan_of bits_from
  plan_heading e = ap (λ (x : Transmitter). symbol_of (held_at a i) (goes_on x s)) e

  pub plan_jamming : (ends : Bool) → (station_at a i).transmitter ≡ Jamming k ends → plan_of a i s ≡ jams s
  unfolding plan_of jams
  plan_jamming ends e = ap (λ (x : Transmitter). symbol_of (held_at a i) (goes_on x s)) e

pub begun_yes : (d s : ℕ) → begun d s ≡ true → (d < ring) × (d ≤ s)
unfolding begun
begun_yes d s e =
    by_test (ltb d ring)
    (λ p. by_test (leb d s) (λ q. (ltb-true d ring p, leb-true d s q))
    (λ q. absurd (true≢false (sym (rw (p, q) at e)))))
    (λ p. absurd (true≢false (sym (rw p at e))))

begun_no : (d s : ℕ) → begun d s ≡ false → d < ring → s < d
unfolding begun
begun_no d s e h =
    by_test (leb d s)
    (λ q. absurd (true≢false (rw (lt-ltb d ring h, q) at e)))
    (λ q. leb-false d s q)

module _ (a : List ℕ) (j s : ℕ) (sp : Spread (count_at a) a) (hj : j < count_at a) (w : Near)
    (v : Nearest (count_at a) j (emits_at a) (space_to a j) w) where
  -- where no emitter is heard yet
  early : begun w.d1 s ≡ false → heard (net_of a) (plan_of a) j s ≡ Nothing
  unfolding heard net_of space_to
  early b =
      gathered_none (count_at a) (reaches (space_at a) (plan_of a) j s)
      (λ i hi. reach_none (space_at a) (plan_of a) j s i
      (λ y ne z. by_test (emits_at a i)
      (λ e. let l = v.least i hi ne e in let f = sp.near i j hi hj
      in absurd (omega (arith, begun_no w.d1 s b (omega arith))))
      (λ e. silent_off a i y e)))

  -- where one is
  single : begun w.d1 s ≡ true → begun w.d2 s ≡ false
      → heard (net_of a) (plan_of a) j s ≡ alone (plan_of a w.from (s - w.d1))
  unfolding heard net_of space_to
  single b c =
      let q = begun_yes w.d1 s b in
      let f = v.one q.0 in
      let g = f.is in
      let le = q.1 in
      gathered_one (count_at a) (reaches (space_at a) (plan_of a) j s) w.from f.station
      (λ i hi nf. reach_none (space_at a) (plan_of a) j s i
      (λ y ne z. by_test (emits_at a i)
      (λ e. let l = v.rest i hi ne nf e in let m = sp.near i j hi hj
      in absurd (omega (arith, begun_no w.d2 s c (omega arith))))
      (λ e. silent_off a i y e)))
      ∙ ap alone (reach_at (space_at a) (plan_of a) j s w.from (s - w.d1) f.other (omega arith))

  -- where two are
  double : begun w.d2 s ≡ true → heard (net_of a) (plan_of a) j s ≡ Spoiled
  unfolding heard net_of space_to
  double c =
      let q = begun_yes w.d2 s c in
      let lt = q.0 in
      let le = q.1 in
      let o = v.order in
      let f = v.one (omega arith) in
      let g = v.two lt in
      let fd = f.is in
      let gd = g.is in
      gathered_two (count_at a) (reaches (space_at a) (plan_of a) j s) w.from g.second f.station g.station
      g.apart
      (ap on (reach_at (space_at a) (plan_of a) j s w.from (s - w.d1) f.other (omega arith)) ∙ emitter_on a
      w.from (s - w.d1) f.emits)
      (ap on (reach_at (space_at a) (plan_of a) j s g.second (s - w.d2) g.other (omega arith)) ∙ emitter_on a
      g.second (s - w.d2) g.emits)

  -- "any symbol heard from two or more" is several: what is heard of the plan goes by the two nearest emitters
  pub near_brings : heard (net_of a) (plan_of a) j s ≡ brought w (plan_of a w.from) s
  unfolding brought
  near_brings =
      by_test (begun w.d2 s)
      (λ c. rw c (double c))
      (λ c. by_test (begun w.d1 s) (λ b. rw (c, b) (single b c)) (λ b. rw (c, b) (early b)))

-- ---- the code

-- an emitter by its code
emits_code : (c m : ℕ) → 3 ≤ c → emits (transmitter_of c m) ≡ true
unfolding transmitter_of
emits_code c m h =
    let p : eqb c 0 ≡ false = ne_eqb c 0 (λ z. omega arith) in
    let q : eqb c 1 ≡ false = ne_eqb c 1 (λ z. omega arith) in
    let r : eqb c 2 ≡ false = ne_eqb c 2 (λ z. omega arith) in
    by_test (eqb c 3)
    (λ z. rw (p, q, r, z))
    (λ z. by_test (eqb c 4) (λ y. rw (p, q, r, z, y)) (λ y. rw (p, q, r, z, y)))

silent_code : (c m : ℕ) → c < 3 → (emits (transmitter_of c m) ≡ false) × (0 ≡ bit_of (transmitter_of c m))
unfolding transmitter_of
silent_code c m h =
    by_test (eqb c 0)
    (λ p. (rw p, rw p))
    (λ p. by_test (eqb c 1)
    (λ q. (rw (p, q), rw (p, q)))
    (λ q. let r : eqb c 2 ≡ true = eq-eqb c 2
    (omega (arith, eqb-false c 0 p, eqb-false c 1 q)) in (rw (p, q, r), rw (p, q, r))))

jam_code : (c m : ℕ) → 4 < c → 0 ≡ bit_of (transmitter_of c m)
unfolding transmitter_of
jam_code c m h =
    rw (
      ne_eqb c 0 (λ z. omega arith),
      ne_eqb c 1 (λ z. omega arith),
      ne_eqb c 2 (λ z. omega arith),
      ne_eqb c 3
          (λ z. omega arith),
      ne_eqb c 4 (λ z. omega arith),
    )

bit_code : (c m : ℕ) → 3 ≤ c → c ≤ 4 → m ≡ bit_of (transmitter_of c m)
unfolding transmitter_of
bit_code c m h g =
    let p : eqb c 0 ≡ false = ne_eqb c 0 (λ z. omega arith) in
    let q : eqb c 1 ≡ false = ne_eqb c 1 (λ z. omega arith) in
    let r : eqb c 2 ≡ false = ne_eqb c 2 (λ z. omega arith) in
    by_test (eqb c 3)
    (λ z. rw (p, q, r, z))
    (λ z. let y : eqb c 4 ≡ true = eq-eqb c 4 (omega (arith, eqb-false c 3 z)) in rw (p, q, r, z, y))

code_read : (a : List ℕ) (i : ℕ)
    → (station_at a i).transmitter ≡ transmitter_of (get_or (record_at a i) phase_word 0)
    (get_or (record_at a i) phase_number_word 0)
unfolding station_at decoded
code_read a i = refl

-- whether a station emits, by the code of its transmitter's phase
module _ (a : List ℕ) (i c : ℕ) (e : c ≡ get_or (record_at a i) phase_word 0) where
  pub silent_by_code : c < 3 → emits_at a i ≡ false
  unfolding emits_at
  silent_by_code h =
      ap emits (code_read a i)
      ∙ (silent_code (get_or (record_at a i) phase_word 0) (get_or (record_at a i) phase_number_word 0) (omega arith)).0

  pub emits_by_code : 3 ≤ c → emits_at a i ≡ true
  unfolding emits_at
  emits_by_code h =
      ap emits (code_read a i)
      ∙ emits_code (get_or (record_at a i) phase_word 0) (get_or (record_at a i) phase_number_word 0) (omega arith)

module _ (a : List ℕ) (j i : ℕ) (w : Near) where
  pub note_own : i ≡ j → w ≡ noted (emits_at a) (space_to a j) j i w
  unfolding noted
  note_own e = rw (eq-eqb i j e)

  note_silent : emits_at a i ≡ false → noted (emits_at a) (space_to a j) j i w ≡ w
  unfolding noted
  note_silent x = by_test (eqb i j) (λ b. rw b) (λ b. rw (b, x))

  pub note_more : (d p q : ℕ) (r : Near) → r ≡ nearer w i d → d ≡ distance q p → q ≡ position_at a i → p ≡ position_at a j
      → emits_at a i ≡ true → (i ≡ j → ⊥)
      → r ≡ noted (emits_at a) (space_to a j) j i w
  unfolding noted space_to
  note_more d p q r er ed eq ep x ne = rw (ne_eqb i j ne, x) (er ∙ ap (nearer w i) (space_is a i j d q p ed ep eq))

-- ---- the list of those that emit

module _ (a : List ℕ) where
  abbrev by_list : List ℕ → (j c : ℕ) → Near
  by_list l j c = turns (λ k w. noted (emits_at a) (space_to a j) j (get_or l k 0) w) c no_near

  pub lists_none : (l : List ℕ) → Lists a 0 l 0
  unfolding Lists turns
  lists_none l = (λ k h. absurd (omega arith), λ j. refl)

  -- only the first c matter
  list_same : (l m : List ℕ) (j c : ℕ) → ((k : ℕ) → k < c → get_or l k 0 ≡ get_or m k 0) → by_list l j c ≡ by_list m j c
  unfolding turns
  list_same l m j zero h = refl
  list_same l m j (suc c) h =
      ap₂ (λ (i : ℕ) (w : Near). noted (emits_at a) (space_to a j) j i w) (h c (omega arith))
      (list_same l m j c (λ k g. h k (omega arith)))

  module _ (i c code : ℕ) (l : List ℕ) (ec : code ≡ get_or (record_at a i) phase_word 0) (room : c < length l)
      (v : Lists a i l c) where
    before : (k : ℕ) → k < c → get_or (set l c i) k 0 ≡ get_or l k 0
    before k h = get_or-set_other l c k i 0 (λ z. omega arith)

    same_found : (j : ℕ) → by_list (set l c i) j c ≡ turns (noted (emits_at a) (space_to a j) j) i no_near
    unfolding Lists
    same_found j = list_same (set l c i) l j c before ∙ v.1 j

    listed_more : 3 ≤ code → Lists a (suc i) (set l c i) (suc c)
    unfolding Lists turns
    listed_more h = (
      λ k g. by_eq k c
          (λ z. rw (z, get_or-set_same l c i 0 room) (omega arith, emits_by_code a i code ec h))
          (λ z. let o = v.0 k (omega (arith, z)) in rw (before k (omega (arith, z))) (omega (arith, o.0), o.1)),
      λ j. ap₂ (λ (s : ℕ) (w : Near). noted (emits_at a) (space_to a j) j s w) (get_or-set_same l c i 0 room)
          (same_found j),
    )

    listed_same : code < 3 → Lists a (suc i) (set l c i) c
    unfolding Lists turns
    listed_same h = (
      λ k g. let o = v.0 k g in rw (before k g) (omega (arith, o.0), o.1),
      λ j. same_found j ∙ sym (note_silent a j i (turns (noted (emits_at a) (space_to a j) j) i no_near)
          (silent_by_code a i code ec h)),
    )

    lists_more : (n : ℕ) → n ≡ pick (leb 3 code) (c + 1) c → Lists a (i + 1) (set l c i) n
    lists_more n en =
        by_test (leb 3 code)
        (λ p. let z : suc c ≡ n = sym (en ∙ ap (λ (b : Bool). pick b (c + 1) c) p ∙ add-one c) in rw (add-one i)
        (subst (Lists a (suc i) (set l c i)) z (listed_more (leb-true 3 code p))))
        (λ p. let z : c ≡ n = sym (en ∙ ap (λ (b : Bool). pick b (c + 1) c) p) in rw (add-one i)
        (subst (Lists a (suc i) (set l c i)) z (listed_same (omega (arith, leb-false 3 code p)))))

  pub lists_on : (n i c code next : ℕ) (l ds : List ℕ) → next ≡ pick (leb 3 code) (c + 1) c
      → code ≡ get_or (record_at a i) phase_word 0 → length l ≡ length ds → length ds ≡ 16
      → c ≤ i → i < n → n ≤ max_stations → Lists a i l c → Lists a (i + 1) (set l c i) next
  lists_on n i c code next l ds en ec el ed hc hi hn v = lists_more i c code l ec (omega arith) v next en

  pub lists_end : (n i c : ℕ) (l : List ℕ) → i ≤ n → n ≤ i → Lists a i l c → Lists a n l c
  lists_end n i c l p q v = let z : i ≡ n = omega arith in subst (λ (k : ℕ). Lists a k l c) z v

  -- the part of a list that counts
  pub lists_front : (n c : ℕ) (l : List ℕ) → c ≤ length l → Lists a n l c → Lists a n (take c l) (length (take c l))
  unfolding Lists
  lists_front n c l h v =
      let front : (k : ℕ) → k < c → get_or (take c l) k 0 ≡ get_or l k 0 = λ k g. get_or-take c l k 0 g in
      rw (length-take-le c l h) (
        λ k g. rw (front k g) (v.0 k g),
        λ j. list_same (take c l) l j c front ∙ v.1 j,
      )

  module _ (n c : ℕ) (l : List ℕ) (v : Lists a n l c) where
    pub listed_few : (k : ℕ) → k < c → n ≤ max_stations → get_or l k 0 < max_stations
    unfolding Lists
    listed_few k h few = omega (arith, (v.0 k h).0)

    pub listed_emits : (k : ℕ) → k < c → emits_at a (get_or l k 0) ≡ true
    unfolding Lists
    listed_emits k h = (v.0 k h).1

    pub nearest_end : (j k : ℕ) (w : Near) → k ≤ c → c ≤ k
        → w ≡ turns (λ s u. noted (emits_at a) (space_to a j) j (get_or l s 0) u) k no_near → w ≡ nearest_of a n j
    unfolding Lists nearest_of
    nearest_end j k w p q r = turns_end _ c k no_near w p q r ∙ v.1 j

pub nearest_none : (f : ℕ → Near → Near) → record { from = 16; d1 = ring; d2 = ring } ≡ turns f 0 no_near
unfolding no_near
nearest_none f = turns_none f no_near

module _ (a : List ℕ) (w : Near) where
  pub bit_none : ring ≤ w.d1 → 0 ≡ near_bit a w
  unfolding near_bit
  bit_none h = rw (le-ltb w.d1 ring h)

  bit_of_lem : w.d1 < ring → (x : ℕ)
      → x ≡ bit_of (transmitter_of (get_or (record_at a w.from) phase_word 0)
      (get_or (record_at a w.from) phase_number_word 0)) → x ≡ near_bit a w
  unfolding near_bit
  bit_of_lem h x e = rw (lt-ltb w.d1 ring h) (e ∙ ap bit_of (sym (code_read a w.from)))

  pub bit_silent : (c : ℕ) → w.d1 < ring → c ≡ get_or (record_at a w.from) phase_word 0 → c < 3 → 0 ≡ near_bit a w
  bit_silent c h e l =
      bit_of_lem h 0 (silent_code (get_or (record_at a w.from) phase_word 0) (get_or (record_at a w.from) phase_number_word 0)
      (omega arith)).1

  pub bit_jam : (c : ℕ) → w.d1 < ring → c ≡ get_or (record_at a w.from) phase_word 0 → 4 < c → 0 ≡ near_bit a w
  bit_jam c h e l =
      bit_of_lem h 0 (jam_code (get_or (record_at a w.from) phase_word 0) (get_or (record_at a w.from) phase_number_word 0)
      (omega arith))

  pub bit_next : (c x : ℕ) → x ≡ get_or (record_at a w.from) phase_number_word 0 → w.d1 < ring
      → c ≡ get_or (record_at a w.from) phase_word 0
      → 3 ≤ c → c ≤ 4 → x ≡ near_bit a w
  bit_next c x ex h e l u =
      bit_of_lem h x (ex ∙ bit_code (get_or (record_at a w.from) phase_word 0)
      (get_or (record_at a w.from) phase_number_word 0) (omega arith)
      (omega arith))
