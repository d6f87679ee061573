-- A law for each way through the code of a run; that the run can go on (run_next) is in proofs/RunLaws. Assumes nothing.
use Prim.Native.Nat.{ℕ, zero, suc, ◌+◌, ◌-◌, ◌*◌, ◌≤◌, ◌<◌}
use Rattle.std.specs.Prelude.{◌≡◌, refl, Bool, true, false, List, [], replicate, Option, Some, None, Result, Err}
use Rattle.std.proofs.Common.{sym, ◌∙◌, subst, add-one}
use Rattle.std.proofs.Math.Path.{ap}
use native.Mathlib.Omega.{arith}
use borrow.Author.Tests.{ne_eqb, lt-ltb, le-ltb}
use Rattle.octets.specs.Base.{pick, some, accepted, refusal_number}
use Rattle.octets.specs.declared.Refusal.{Refusal}
use Rattle.octets.specs.BaseLaws.{refusal_numbered, by_test, by_eq, none_below, some_none, some_more, some_hit}
use Rattle.octets.specs.NumberLaws.{Octets}
use Rattle.octets.specs.Turns.{turns}
use Rattle.station_tally.specs.TallyLaws.{Bounded, counted_bounded, start_bounded}
use Rattle.area.specs.Area.{clock_at}
use Rattle.area_check.specs.Valid.{area_refusal}
use Rattle.bus_spec.specs.declared.Events.{Events}
use Rattle.bus_spec.specs.BitTime.{events_at, step_area, event_at}
use Rattle.bus_spec.specs.Ready.{Ready, Readiness}
use Rattle.bus_spec.specs.Passes.{passes_ready}
use Rattle.bus_spec.specs.declared.course.LateEnd.{LateEnd}
use Rattle.bus_spec.specs.declared.course.RunAnswer.{RunAnswer}
use Rattle.station_tally.specs.Tally.{sent_counted, got_counted}
use Rattle.bus_spec.specs.Run.{tallied, late_at, first, Ran, run_of, run_outcome, ran, stops, late_in, unrun}
use Rattle.sheet_layout.specs.Limits.{last_clock, max_stations}
use Rattle.station_tally.specs.Words.{ends_run, word_count, transmit_word, receive_word}

-- ---- the words have room

pub tallied_bounded : (es : List Events) (n m : ℕ) (ws : List ℕ) → Bounded ws m → Bounded (tallied es n ws) (m + 2 * n)
unfolding tallied turns
tallied_bounded es zero m ws h = start_bounded ws m h
tallied_bounded es (suc n) m ws h =
    let z : m + 2 * n + 1 + 1 ≡ m + 2 * suc n = omega arith in
    subst (Bounded (tallied es (suc n) ws)) z
    (counted_bounded (sent_counted (tallied es n ws) (event_at es n).sent) (receive_word (event_at es n).got)
    (m + 2 * n + 1)
    (counted_bounded (tallied es n ws) (transmit_word (event_at es n).sent) (m + 2 * n) (tallied_bounded es n m ws h)))

pub tally_none : (es : List Events) (ws : List ℕ) → ws ≡ tallied es 0 ws
unfolding tallied turns
tally_none es ws = refl

-- one station more
pub tally_more : (es : List Events) (ws us vs xs : List ℕ) (i : ℕ) (e : Events) → e ≡ event_at es i
    → vs ≡ sent_counted us e.sent → xs ≡ got_counted vs e.got → us ≡ tallied es i ws → xs ≡ tallied es (i + 1) ws
unfolding tallied turns
tally_more es ws us vs xs i e ee ev ex p = ex ∙ rw (ev, p, ee, add-one i)

pub tally_end : (es : List Events) (ws us : List ℕ) (i : ℕ) → us ≡ tallied es i ws → i ≤ max_stations → 16 ≤ i
    → us ≡ tallied es 16 ws
tally_end es ws us i p lo up = let e : i ≡ 16 = omega arith in rw e at p

-- ---- the steps

-- k steps can be made. Shut, so that a search does not enter it
unfoldable pub Runnable : ℕ → List ℕ → Type 0
Runnable k a = Readiness a × (clock_at a + k ≤ last_clock)

pub run_zero : (n : ℕ) (ws a : List ℕ) → run_of (n - 0) 0 ws a ≡ run_of n 0 ws a
run_zero n ws a = let e : n - 0 ≡ n = omega arith in ap (λ (k : ℕ). run_of k 0 ws a) e

pub next_bounded : (es : List Events) (ws vs : List ℕ) (t : ℕ) → vs ≡ tallied es 16 ws → Bounded ws (32 * t)
    → Bounded vs (32 * (t + 1))
next_bounded es ws vs t p h = let e : 32 * t + 2 * 16 ≡ 32 * (t + 1) = omega arith in rw p
    (subst (Bounded (tallied es 16 ws)) e (tallied_bounded es 16 (32 * t) ws h))

-- the first that passes
pub first_hit : (t : ℕ → Bool) (n i : ℕ) (b : Bool) → b ≡ t i → b ≡ true → some t i ≡ false → i < n → first t n ≡ i
unfolding first
first_hit t zero i b p q s h = absurd (omega arith)
first_hit t (suc n) i b p q s h =
    by_eq i n
    (λ e. rw (← e, s) refl)
    (λ ne. let k : i < n = omega arith in rw (← some_hit t n i b p q k) (first_hit t n i b p q s k))

pub first_most : (t : ℕ → Bool) (n : ℕ) → first t n ≤ n
unfolding first
first_most t zero = omega arith
first_most t (suc n) = by_test (some t n) (λ e. rw e (omega (arith, first_most t n))) (λ e. rw e (omega arith))

pub below_first : (t : ℕ → Bool) (n s : ℕ) → s < first t n → t s ≡ false
unfolding first
below_first t zero s h = absurd (omega arith)
below_first t (suc n) s h =
    by_test (some t n) (λ e. below_first t n s (rw e at h)) (λ e. none_below t n s e (rw e at h))

module _ (n t : ℕ) (ws : List ℕ) (a : List ℕ) (R : Ran) where
  -- one step more of those that are left
  pub turn : (k : ℕ) → k ≡ n - t → t < n → run_of (n - t) t ws a ≡ R
      → pick (stops (events_at a))
      (record {
        answer = accepted [];
        steps = t + 1;
        words = tallied (events_at a) 16 ws;
        ended = Some (late_in t (first (late_at (events_at a)) 16));
        octets = step_area a;
      })
      (run_of (n - (t + 1)) (t + 1) (tallied (events_at a) 16 ws) (step_area a)) ≡ R
  unfolding run_of
  turn zero e h p = absurd (omega arith)
  turn (suc k) e h p = let z : n - (t + 1) ≡ k = omega arith in rw z (rw (← e) at p)

  pub run_on_lem : (es : List Events) (vs b : List ℕ) (i : ℕ) → b ≡ step_area a → es ≡ events_at a → vs ≡ tallied es 16 ws
      → some (late_at es) i ≡ false → i ≤ max_stations → 16 ≤ i → t < n
      → run_of (n - t) t ws a ≡ R → run_of (n - (t + 1)) (t + 1) vs b ≡ R
  run_on_lem es vs b i eb ee ev s lo up h p =
      let z : i ≡ 16 = omega arith in
      let f : stops (events_at a) ≡ false = ap (λ (x : List Events). stops x) (sym ee) ∙ ap
      (some (late_at es)) (sym z) ∙ s in
      rw (eb, ev, ee) (rw f at (turn (n - t) refl h p))

  pub run_late : (es : List Events) (vs b : List ℕ) (i : ℕ) (c : Bool) → b ≡ step_area a → es ≡ events_at a
      → vs ≡ tallied es 16 ws → c ≡ late_at es i → c ≡ true
      → some (late_at es) i ≡ false → i < max_stations → t < n → run_of (n - t) t ws a ≡ R
      → record { answer = accepted []; steps = t + 1; words = vs; ended = Some (late_in (t + 1 - 1) i); octets = b } ≡ R
  run_late es vs b i c eb ee ev ec et s hi h p =
      let z : t + 1 - 1 ≡ t = omega arith in
      let hit : stops (events_at a) ≡ true = sym
      (some_hit (late_at (events_at a)) 16 i c (ec ∙ ap (λ (x : List Events). late_at x i) ee) et hi) in
      let at : first (late_at es) 16 ≡ i = first_hit (late_at es) 16 i c ec et s hi in
      rw (z, eb, ev, ← at, ee) (rw hit at (turn (n - t) refl h p))

  pub run_end_lem : (e : Option LateEnd) → e ≡ None → n ≤ t → run_of (n - t) t ws a ≡ R
      → record { answer = accepted []; steps = t; words = ws; ended = e; octets = a } ≡ R
  unfolding run_of
  run_end_lem e q h p = let z : n - t ≡ 0 = omega arith in rw q (rw z at p)

-- none of the first i stations has a late collision. Shut, so that a search does not enter it
unfoldable pub NoneLate : List Events → ℕ → Type 0
NoneLate es i = some (late_at es) i ≡ false

pub none_late_first : (es : List Events) → NoneLate es 0
unfolding NoneLate
none_late_first es = some_none (late_at es)

module _ (es : List Events) (i : ℕ) (e : Events) (b : Bool) (p : b ≡ ends_run e.sent) (q : e ≡ event_at es i) where
  late_is : b ≡ late_at es i
  unfolding late_at
  late_is = p ∙ ap (λ (x : Events). ends_run x.sent) q

  pub none_late_more : b ≡ false → NoneLate es i → NoneLate es (i + 1)
  unfolding NoneLate
  none_late_more r h = some_more (late_at es) i b late_is r h

  -- it has one: the run ends
  pub run_found : (n t : ℕ) (ws a vs y : List ℕ) (R : Ran) (w : Option LateEnd) → b ≡ true → w ≡ Some (late_in (t + 1 - 1) i)
      → y ≡ step_area a → es ≡ events_at a → vs ≡ tallied es 16 ws → NoneLate es i → i < max_stations → t < n
      → run_of (n - t) t ws a ≡ R
      → record { answer = accepted []; steps = t + 1; words = vs; ended = w; octets = y } ≡ R
  unfolding NoneLate
  run_found n t ws a vs y R w r ew ey ee ev h hi lt g =
      rw ew (run_late n t ws a R es vs y i b ey ee ev late_is r h hi lt g)

-- no station has one: the run goes on
pub run_searched : (n t : ℕ) (ws a : List ℕ) (R : Ran) (es : List Events) (vs b : List ℕ) (i : ℕ) → b ≡ step_area a
    → es ≡ events_at a → vs ≡ tallied es 16 ws → NoneLate es i → i ≤ max_stations → 16 ≤ i → t < n
    → run_of (n - t) t ws a ≡ R
    → run_of (n - (t + 1)) (t + 1) vs b ≡ R
unfolding NoneLate
run_searched n t ws a R es vs b i eb ee ev h lo up lt g = run_on_lem n t ws a R es vs b i eb ee ev h lo up lt g

-- what a step asks for
pub run_first : (n : ℕ) (a : List ℕ) → Runnable n a → Runnable (n - 0) a
run_first n a h = let e : n ≡ n - 0 = omega arith in subst (λ (k : ℕ). Runnable k a) e h

pub run_ready : (n t : ℕ) (a : List ℕ) → Runnable (n - t) a → Ready a
unfolding Runnable Ready
run_ready n t a h = h.0

pub run_clock : (n t : ℕ) (a : List ℕ) → Runnable (n - t) a → t < n → clock_at a < last_clock
unfolding Runnable
run_clock n t a h g = omega (arith, h.1)

-- ---- the call

module _ (a : List ℕ) (n : ℕ) where
  pub ran_area : (e : Refusal) → refusal_number e ≡ area_refusal a → run_outcome (Err e) a ≡ ran a n
  unfolding ran
  ran_area e p = rw (← p, ne_eqb (refusal_number e) 0 (refusal_numbered e))

  pub ran_over : (c : ℕ) → 0 ≡ area_refusal a → c ≡ clock_at a → last_clock - c < n → unrun 13 a ≡ ran a n
  unfolding ran
  ran_over c p ec g = rw (← p, ← ec, lt-ltb last_clock (c + n) (omega arith))

  pub ran_made : (R : Ran) (c : ℕ) → R ≡ run_of n 0 (replicate word_count 0) a → 0 ≡ area_refusal a → c ≡ clock_at a
      → c ≤ last_clock → n ≤ last_clock - c → R ≡ ran a n
  unfolding ran
  ran_made R c p e ec l g = p ∙ rw (← e, ← ec, le-ltb last_clock (c + n) (omega arith))

pub run_allowed : (a : List ℕ) (n c : ℕ) → 0 ≡ area_refusal a → Octets a → c ≡ clock_at a → n ≤ last_clock - c → Runnable n a
unfolding Runnable
run_allowed a n c e o ec g = let r = (passes_ready a o (sym e)).ready in (r, omega (arith, r.clock))

pub clock_within : (a : List ℕ) (c : ℕ) → 0 ≡ area_refusal a → Octets a → c ≡ clock_at a → c ≤ last_clock
clock_within a c e o ec = let r = (passes_ready a o (sym e)).ready in omega (arith, r.clock)

-- Two engines that promise `ran` agree, in what they answer and in every octet.
pub engines_agree : (a b c : List ℕ) (n : ℕ) (r s : Result RunAnswer Refusal) → run_outcome r b ≡ ran a n
    → run_outcome s c ≡ ran a n
    → run_outcome r b ≡ run_outcome s c
engines_agree a b c n r s p q = p ∙ sym q
