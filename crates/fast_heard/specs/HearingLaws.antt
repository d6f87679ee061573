-- Laws of what is heard in runs of one kind: what a segment says of the plan, and one law for each way through the
-- code. Assumes nothing.
use Rattle.std.specs.Prelude.{ℕ, ◌+◌, ◌-◌, ◌≤◌, ◌<◌, min, ◌≡◌, refl, Bool, List, [], eqb, ltb, leb}
use Rattle.std.proofs.Math.Path.{sym, ap, ap₂, subst}
use Rattle.std.proofs.Common.{◌∙◌, true≢false}
use Rattle.std.proofs.Math.Bool.{true, false}
use native.Mathlib.Omega.{arith}
use borrow.Author.Tests.{eq-eqb, ne_eqb, lt-ltb, le-ltb, ltb-true, ltb-false, le-leb, lt-leb, leb-true, leb-false}
use Rattle.octets.specs.BaseLaws.{by_test, by_eq}
use Rattle.station_symbols.specs.declared.Heard.{Heard}
use Rattle.station_symbols.specs.declared.Heard.TheVariants.{Nothing, Clean, Spoiled}
use Rattle.station_symbols.specs.declared.Symbol.{Symbol}
use Rattle.station_symbols.specs.declared.Symbol.TheVariants.{Bit, Jam}
use Rattle.station_symbols.specs.Packet.{packet_bit, symbol_of}
use Rattle.station_state.specs.declared.Transmitter.{Transmitter}
use Rattle.station_state.specs.declared.Transmitter.TheVariants.{NoFrame, Waiting, BackingOff, Sending, Heading}
use Rattle.station_state.specs.declared.Transmitter.TheVariants.{Jamming}
use Rattle.area.specs.Area.{clock_at, count_at, figures_at, station_at, arrival_at, alone, met}
use Rattle.sheet_layout.specs.declared.Figures.{Figures}
use Rattle.bus_spec.specs.Range.{NumberIn}
use Rattle.bus_spec.specs.Ready.{Readiness}
use Rattle.bus_meeting.specs.Meet.{met_none}
use Rattle.fast_plan.specs.Plan.{line_now, hears}
use Rattle.fast_line.specs.declared.LineRun.{LineRun}
use Rattle.fast_line.specs.declared.LineKind.TheVariants.{Empty}
use Rattle.fast_line.specs.Line.{kind_of, kind_number, kind_at, lasts, run_at, is_clear}
use Rattle.fast_line.specs.LineLaws.{kind_nothing, kind_numbered, lasts_each, clear_line}
use Rattle.fast_heard.specs.declared.Near.{Near}
use Rattle.fast_heard.specs.declared.Kind.{Kind}
use Rattle.fast_heard.specs.declared.Kind.TheVariants.{Silent, Line, From, Mixed}
use Rattle.fast_heard.specs.declared.Segment.{Segment}
use Rattle.fast_heard.specs.Hearing.{goes_on, held_at, plan_of, emits, emits_at, bit_of, space_to, nearest_of, near_bit}
use Rattle.fast_heard.specs.Hearing.{begun, brought, line_from, mixed, sends, before, RunOf, kind_near, kind_heard}
use Rattle.fast_heard.specs.Hearing.{Says, Segmented}
use Rattle.fast_heard.specs.NearLaws.{Nearest, nearest_is, near_brings, begun_yes}
use Rattle.area.specs.Offsets.{ring}

-- ---- what a segment says of the plan

-- the nearest emitter sends what its transmitter is about to
plan_sends : (f : Figures) (z : ℕ) (F : List ℕ) (x : Transmitter) (u : ℕ) → emits x ≡ true → NumberIn f z x
    → symbol_of F (goes_on x u) ≡ sends F (bit_of x) u
unfolding sends
plan_sends f z F NoFrame u e n = absurd (true≢false (sym e))
plan_sends f z F Waiting u e n = absurd (true≢false (sym e))
plan_sends f z F (BackingOff w) u e n = absurd (true≢false (sym e))
plan_sends f z F (Sending k) u e n = rw (ne_eqb k 0 (λ y. omega (arith, n.0)))
plan_sends f z F (Heading k) u e n = rw (ne_eqb k 0 (λ y. omega (arith, n.0)))
plan_sends f z F (Jamming m ends) u e n = refl

-- only what the nearest emits while it is heard matters
pub brought_same : (w : Near) (Q R : ℕ → Symbol) (s : ℕ) → (w.d1 < ring → (u : ℕ) → Q u ≡ R u)
    → brought w Q s ≡ brought w R s
unfolding brought
brought_same w Q R s h =
    by_test (begun w.d2 s)
    (λ c. rw c)
    (λ c. by_test (begun w.d1 s) (λ b. rw (c, b) (ap alone (h (begun_yes w.d1 s b).0 (s - w.d1))))
    (λ b. rw (c, b)))

pub says_same : (H G L M : ℕ → Heard) (F : List ℕ) (k d s : ℕ) (K : Kind) (m : ℕ) → ((v : ℕ) → H v ≡ G v)
    → ((v : ℕ) → L v ≡ M v) → Says H L F k d s K m → Says G M F k d s K m
says_same H G L M F k d s Silent m e f h = λ v l. sym (e (s + v)) ∙ h v l
says_same H G L M F k d s Line m e f h =
    λ v l. (sym (e (s + v)) ∙ (h v l).0 ∙ f (s + v), ap kind_of (sym (f (s + v))) ∙ (h v l).1)
says_same H G L M F k d s From m e f h = (h.0, h.1, λ v l. sym (e (s + v)) ∙ h.2 v l)
says_same H G L M F k d s Mixed m e f h = λ v l. ap kind_of (sym (e (s + v))) ∙ h v l

-- a is the area in which the window begins; x has its lines
module _ (a x : List ℕ) (j t : ℕ) (w : Near) (k : ℕ) (r : Readiness a) (hj : j < count_at a)
    (ew : w ≡ nearest_of a (count_at a) j) (ek : k ≡ near_bit a w) (et : t ≡ clock_at a)
    (same : (u : ℕ) → arrival_at x j u ≡ arrival_at a j u) where
  nearest_here : Nearest (count_at a) j (emits_at a) (space_to a j) w
  nearest_here = subst (Nearest (count_at a) j (emits_at a) (space_to a j)) (sym ew) (nearest_is a (count_at a) j)

  near_sends : w.d1 < ring → (u : ℕ) → plan_of a w.from u ≡ sends (held_at a w.from) k u
  unfolding plan_of emits_at near_bit
  near_sends h u =
      let f = nearest_here.one h in
      let i = w.from in
      let z : bit_of (station_at a i).transmitter ≡ k = sym (ek ∙ rw (lt-ltb w.d1 ring h)) in
      plan_sends (figures_at a) _ (held_at a i) (station_at a i).transmitter u f.emits (r.fine i f.station).number
      ∙ ap (λ (b : ℕ). sends (held_at a i) b u) z

  line_same : (s : ℕ) → line_now a j s ≡ line_from x j t s
  unfolding line_now line_from
  line_same s =
      by_test (ltb s ring) (λ c. rw c (ap (λ (c : ℕ). arrival_at a j (c + s)) (sym et) ∙ sym (same (t + s)))) (λ c. rw c)

  pub hears_mixed : (s : ℕ) → mixed (line_from x j t) w (sends (held_at a w.from) k) s ≡ hears a (plan_of a) j s
  unfolding hears mixed
  hears_mixed s =
      sym (ap₂ met (line_same s) (near_brings a j s r.spread hj w nearest_here ∙ brought_same w (plan_of a w.from)
      (sends (held_at a w.from) k) s near_sends))

  pub segment_hears : (s : ℕ) (g : Segment) → Segmented x j t w k s g
      → Says (hears a (plan_of a) j) (λ v. arrival_at a j (clock_at a + v)) (held_at a w.from) k w.d1 s g.kind
      g.len
  unfolding Segmented
  segment_hears s g h =
      says_same (mixed (line_from x j t) w (sends (held_at a w.from) k)) (hears a (plan_of a) j)
      (λ v. arrival_at x j (t + v)) (λ v. arrival_at a j (clock_at a + v)) (held_at a w.from) k w.d1 s g.kind
      g.len hears_mixed (λ v. same (t + v) ∙ ap (λ (c : ℕ). arrival_at a j (c + v)) et) (h (held_at a w.from))

-- packet bits come from an emitter that is heard and sends
pub segment_from : (x : List ℕ) (j t : ℕ) (w : Near) (k s : ℕ) (g : Segment) → Segmented x j t w k s g → g.kind ≡ From
    → (0 < k) × (w.d1 ≤ s)
unfolding Segmented
segment_from x j t w k s g h e =
    let q = subst (λ (K : Kind). Says (mixed (line_from x j t) w (sends [] k)) (λ v. arrival_at x j (t + v)) [] k
    w.d1 s K g.len) e (h []) in
    (q.0, q.1)

-- ---- the code: when an emitter is heard

module _ (d s m : ℕ) where
  before_long : before d s m ≤ m
  unfolding before
  before_long =
      by_test (leb d s)
      (λ c. rw c (omega arith))
      (λ c. by_test (ltb (d - s) m) (λ b. let q = ltb-true (d - s) m b in rw (c, b) (omega arith))
      (λ b. rw (c, b) (omega arith)))

  -- nothing changes
  before_same : (v : ℕ) → v < before d s m → begun d (s + v) ≡ begun d s
  unfolding before begun
  before_same v h =
      by_test (leb d s)
      (λ c. let q = leb-true d s c in rw (c, le-leb d (s + v) (omega arith)))
      (λ c. let q = leb-false d s c in
      let g : v < d - s = by_test (ltb (d - s) m)
      (λ b. rw (c, b) at h)
      (λ b. let p : v < m = rw (c, b) at h in let y = ltb-false (d - s) m b in omega arith) in
      rw (c, lt-leb d (s + v) (omega arith)))

-- once heard, always
begun_later : (d s v : ℕ) → begun d s ≡ true → begun d (s + v) ≡ true
unfolding begun
begun_later d s v e =
    let q = begun_yes d s e in let le = q.1 in rw (lt-ltb d ring q.0, le-leb d (s + v) (omega arith))

-- ---- the code: the line

module _ (x : List ℕ) (j t s m : ℕ) where
  pub ahead_none : ring ≤ s → RunOf (line_from x j t) s (record { kind = Empty; len = m })
  unfolding RunOf line_from
  ahead_none h v l = rw (le-ltb (s + v) ring (omega arith))

  pub ahead_clear : (b : Bool) → b ≡ is_clear x j → b ≡ true → RunOf (line_from x j t) s (record { kind = Empty; len = m })
  unfolding RunOf line_from
  ahead_clear b e h v l =
      by_test (ltb (s + v) ring) (λ c. rw c (ap kind_of (clear_line x j (sym e ∙ h) (t + (s + v))))) (λ c. rw c)

  pub ahead_run : (r : LineRun) (n : ℕ) → r ≡ run_at x j (t + s) n → n ≡ min (ring - s) m → s < ring → r.len ≤ n
      → RunOf (line_from x j t) s r
  unfolding RunOf line_from run_at kind_at
  ahead_run r n e en h g v l =
      let c : kind_at x j (t + s) ≡ kind_number r.kind =
      sym (kind_numbered (arrival_at x j (t + s))) ∙ ap (λ (q : LineRun). kind_number q.kind) (sym e) in
      let y : r.len ≡ lasts x j (t + s) (kind_at x j (t + s)) n = ap (λ (q : LineRun). q.len) e in
      let z : t + (s + v) ≡ t + s + v = omega arith in
      rw (lt-ltb (s + v) ring (omega arith))
      (ap (kind_at x j) z ∙ lasts_each x j (t + s) (kind_at x j (t + s)) n v (omega arith) ∙ c)

-- ---- the code: a segment

met_spoiled : (h : Heard) → kind_of (met h Spoiled) ≡ 2
met_spoiled Nothing = refl
met_spoiled (Clean b) = refl
met_spoiled Spoiled = refl

met_clean : (h : Heard) (b : Bool) → (kind_of h ≡ 0 → ⊥) → kind_of (met h (Clean b)) ≡ 2
met_clean Nothing b p = absurd (p refl)
met_clean (Clean c) b p = refl
met_clean Spoiled b p = refl

kind_last : (h : Heard) → (kind_of h ≡ 0 → ⊥) → (kind_of h ≡ 1 → ⊥) → kind_of h ≡ 2
kind_last Nothing p q = absurd (p refl)
kind_last (Clean b) p q = absurd (q refl)
kind_last Spoiled p q = refl

module _ (L : ℕ → Heard) (w : Near) (Q : ℕ → Symbol) (u : ℕ) where
  mixed_several : begun w.d2 u ≡ true → kind_of (mixed L w Q u) ≡ 2
  unfolding mixed brought
  mixed_several c = rw c (met_spoiled (L u))

  mixed_far : begun w.d2 u ≡ false → begun w.d1 u ≡ false → mixed L w Q u ≡ L u
  unfolding mixed brought
  mixed_far c b = rw (c, b) (met_none (L u))

  mixed_near : begun w.d2 u ≡ false → begun w.d1 u ≡ true → mixed L w Q u ≡ met (L u) (alone (Q (u - w.d1)))
  unfolding mixed brought
  mixed_near c b = rw (c, b)

sends_bit : (F : List ℕ) (k u : ℕ) → (k ≡ 0 → ⊥) → sends F k u ≡ Bit (packet_bit F (k + u))
unfolding sends
sends_bit F k u q = rw (ne_eqb k 0 q)

sends_jam : (F : List ℕ) (k u : ℕ) → k ≡ 0 → sends F k u ≡ Jam
unfolding sends
sends_jam F k u q = rw (eq-eqb k 0 q)

-- a place of the line in use is one of the 256
in_line : (x : List ℕ) (j t u c : ℕ) → (c ≡ 0 → ⊥) → kind_of (line_from x j t u) ≡ c
    → line_from x j t u ≡ arrival_at x j (t + u)
unfolding line_from
in_line x j t u c ne e = by_test (ltb u ring) (λ p. rw p) (λ p. absurd (ne (sym (rw p at e))))

module _ (x : List ℕ) (j t : ℕ) (w : Near) (k s l c : ℕ) (F : List ℕ)
    (line : (v : ℕ) → v < l → kind_of (line_from x j t (s + v)) ≡ c)
    (one : (v : ℕ) → v < l → begun w.d2 (s + v) ≡ false) where
  H : ℕ → Heard
  H = mixed (line_from x j t) w (sends F k)

  M : ℕ → Heard
  M v = arrival_at x j (t + v)

  -- before the nearest is heard
  says_far : ((v : ℕ) → v < l → begun w.d1 (s + v) ≡ false) → Says H M F k w.d1 s (kind_heard c false k) l
  unfolding H M kind_heard
  says_far far =
      by_eq c 0
      (λ p. rw (eq-eqb c 0 p) (λ v h. mixed_far (line_from x j t) w (sends F k) (s + v) (one v h) (far v h)
      ∙ kind_nothing (line_from x j t (s + v)) (line v h ∙ p)))
      (λ p. by_eq c 1
      (λ q. rw (ne_eqb c 0 p, eq-eqb c 1 q)
      (λ v h. let e = in_line x j t (s + v) c p (line v h) in
      (mixed_far (line_from x j t) w (sends F k) (s + v) (one v h) (far v h) ∙ e, ap kind_of (sym e) ∙ line v h ∙ q)))
      (λ q. rw (ne_eqb c 0 p, ne_eqb c 1 q)
      (λ v h. ap kind_of (mixed_far (line_from x j t) w (sends F k) (s + v) (one v h) (far v h))
      ∙ kind_last (line_from x j t (s + v)) (λ z. p (sym (line v h) ∙ z)) (λ z. q (sym (line v h) ∙ z)))))

  -- while it is
  near_is : begun w.d1 s ≡ true → (v : ℕ) → v < l → ((y : ℕ) → y < l → begun w.d1 (s + y) ≡ true)
      → H (s + v) ≡ met (line_from x j t (s + v)) (alone (sends F k (s - w.d1 + v)))
  unfolding H
  near_is b v h near =
      let le = (begun_yes w.d1 s b).1 in
      let z : s + v - w.d1 ≡ s - w.d1 + v = omega arith in
      mixed_near (line_from x j t) w (sends F k) (s + v) (one v h) (near v h)
      ∙ ap (λ (u : ℕ). met (line_from x j t (s + v)) (alone (sends F k u))) z

  jammed : begun w.d1 s ≡ true → ((v : ℕ) → v < l → begun w.d1 (s + v) ≡ true) → k ≡ 0 → (v : ℕ) → v < l
      → kind_of (H (s + v)) ≡ 2
  jammed b near q v h =
      ap kind_of (near_is b v h near ∙ ap (λ (y : Symbol). met (line_from x j t (s + v)) (alone y))
      (sends_jam F k (s - w.d1 + v) q)) ∙ met_spoiled (line_from x j t (s + v))

  says_near : begun w.d1 s ≡ true → ((v : ℕ) → v < l → begun w.d1 (s + v) ≡ true)
      → Says H M F k w.d1 s (kind_near c k) l
  unfolding kind_near
  says_near b near =
      by_eq k 0
      (λ q. by_test (eqb c 0) (λ p. rw (p, eq-eqb k 0 q) (jammed b near q)) (λ p. rw p (jammed b near q)))
      (λ q. by_eq c 0
      (λ p. rw (eq-eqb c 0 p, ne_eqb k 0 q) (
        omega (arith, q),
        (begun_yes w.d1 s b).1,
        λ v h. let e : k + (s - w.d1 + v) ≡ k + (s - w.d1) + v = omega arith in
            near_is b v h near ∙ ap₂ met (kind_nothing (line_from x j t (s + v)) (line v h ∙ p))
            (ap alone (sends_bit F k (s - w.d1 + v) q) ∙ ap (λ (u : ℕ). Clean (packet_bit F u)) e),
      ))
      (λ p. rw (ne_eqb c 0 p)
      (λ v h. ap kind_of (near_is b v h near ∙ ap (λ (y : Symbol). met (line_from x j t (s + v)) (alone y))
      (sends_bit F k (s - w.d1 + v) q))
      ∙ met_clean (line_from x j t (s + v)) (packet_bit F (k + (s - w.d1 + v))) (λ z. p (sym (line v h) ∙ z)))))

  says_heard : (near : Bool) → near ≡ begun w.d1 s → ((v : ℕ) → v < l → begun w.d1 (s + v) ≡ begun w.d1 s)
      → Says H M F k w.d1 s (kind_heard c near k) l
  unfolding kind_heard
  says_heard true e same = says_near (sym e) (λ v h. same v h ∙ sym e)
  says_heard false e same = says_far (λ v h. same v h ∙ sym e)

module _ (x : List ℕ) (j t : ℕ) (w : Near) (k s m : ℕ) (b : Bool) (eb : b ≡ begun w.d2 s) where
  pub segment_several : b ≡ true → Segmented x j t w k s (record { kind = Mixed; len = m })
  unfolding Segmented
  segment_several h F v l = mixed_several (line_from x j t) w (sends F k) (s + v) (begun_later w.d2 s v (sym eb ∙ h))

  pub segment_one : b ≡ false → (few most : ℕ) (run : LineRun) (near : Bool) (K : Kind)
      → K ≡ kind_heard (kind_number run.kind) near k → near ≡ begun w.d1 s → RunOf (line_from x j t) s run → run.len ≤ most
      → most ≡ before w.d2 s few → few ≡ before w.d1 s m
      → Segmented x j t w k s (record { kind = K; len = run.len })
  unfolding Segmented RunOf H M
  segment_one h few most run near K eK en r len em ef F =
      let long = before_long w.d2 s few in
      subst (λ (q : Kind). Says (mixed (line_from x j t) w (sends F k)) (λ v. arrival_at x j (t + v)) F k w.d1 s q
      run.len) (sym eK)
      (says_heard x j t w k s run.len (kind_number run.kind) F r
      (λ v l. before_same w.d2 s few v (omega arith) ∙ sym eb ∙ h) near en
      (λ v l. before_same w.d1 s m v (omega arith)))
