-- What a way to go on says of a run. Assumes nothing.
use Rattle.std.specs.Prelude.{ℕ, zero, suc, ◌+◌, ◌-◌, ◌*◌, ◌≤◌, ◌<◌, ◌≡◌, true, false, replicate, length}
use Rattle.std.specs.Prelude.{Bool, Some}
use Rattle.std.proofs.Math.Path.{refl, ap}
use Rattle.std.proofs.Common.{sym, ◌∙◌, true≢false}
use mathlib.Core.List.{List, []}
use native.Mathlib.Omega.{arith}
use Rattle.octets.specs.Base.{accepted}
use Rattle.octets.specs.Filled.{blank_at}
use Rattle.octets.specs.Turns.{turns}
use Rattle.station_tally.specs.Tally.{counted}
use Rattle.station_tally.specs.TallyLaws.{Bounded}
use Rattle.area.specs.Area.{clock_at}
use Rattle.bus_spec.specs.declared.Events.{Events}
use Rattle.bus_spec.specs.declared.course.LateEnd.{LateEnd}
use Rattle.bus_spec.specs.BitTime.{no_events, events_at, step_area, event_at}
use Rattle.bus_spec.specs.Ready.{Ready}
use Rattle.bus_spec.specs.Run.{tallied, late_at, late_in, Ran, run_of}
use Rattle.bus_spec.specs.RunLaws.{Runnable, NoneLate, run_searched, run_found, tallied_bounded}
use Rattle.bus_spec.proofs.RunLaws.{run_next}
use Rattle.bus_run.specs.Advance.{quiet, stepped, Advanced}
use Rattle.sheet_layout.specs.Limits.{last_clock, max_stations}
use Rattle.station_tally.specs.Words.{ends_run}

-- ---- one step is a way to go on

module _ (k : ℕ) (a : List ℕ) (h : Runnable k a) where
  pub able_ready : Ready a
  unfolding Runnable Ready
  able_ready = h.0

  pub able_clock : 0 < k → clock_at a < last_clock
  unfolding Runnable
  able_clock p = omega (arith, h.1)

pub advance_once : (es : List Events) (a b : List ℕ) → es ≡ events_at a → b ≡ step_area a → Advanced 1 es a b
unfolding Advanced
advance_once es a b ee eb = stepped refl ee eb

-- ---- steps that are left

module _ (n t r : ℕ) (es : List Events) (a b : List ℕ) where
  pub advance_runs : Runnable (n - t) a → Advanced r es a b → t < n → r ≤ n - t → Runnable (n - (t + r)) b
  unfolding Advanced Runnable
  advance_runs h (quiet ee q) lt le = (q.ready, omega (arith, q.time, h.1))
  advance_runs h (stepped er ee eb) lt le = rw er (run_next n t a b eb h lt)

-- no events: nothing is counted, and no run ends
none_tallied : (n : ℕ) (ws : List ℕ) → tallied (replicate 16 no_events) n ws ≡ ws
unfolding tallied turns counted
none_tallied zero ws = refl
none_tallied (suc n) ws = rw (blank_at 16 n no_events) (none_tallied n ws)

none_late : (i : ℕ) → late_at (replicate 16 no_events) i ≡ false
unfolding late_at
none_late i = ap (λ (e : Events). ends_run e.sent) (blank_at 16 i no_events)

module _ (n t r : ℕ) (es : List Events) (a b ws vs : List ℕ) (R : Ran) (lt : t < n) (le : r ≤ n - t)
    (p : run_of (n - t) t ws a ≡ R) (ev : vs ≡ tallied es 16 ws) where
  -- no station has a late collision: the run goes on
  pub run_goes_on : Advanced r es a b → (i : ℕ) → NoneLate es i → i ≤ max_stations → 16 ≤ i
      → run_of (n - (t + r)) (t + r) vs b ≡ R
  unfolding Advanced
  run_goes_on (quiet ee q) i h lo up =
      let z : r + (n - (t + r)) ≡ n - t = omega arith in
      let e : vs ≡ ws = ev ∙ ap (λ (x : List Events). tallied x 16 ws) ee ∙ none_tallied 16 ws in
      rw e (sym (q.runs (n - (t + r)) t ws) ∙ ap (λ (k : ℕ). run_of k t ws a) z ∙ p)
  run_goes_on (stepped er ee eb) i h lo up = rw er (run_searched n t ws a R es vs b i eb ee ev h lo up lt p)

  -- one has: the run ends
  pub run_stops : Advanced r es a b → (i : ℕ) (e : Events) (c : Bool) (l : LateEnd) → c ≡ ends_run e.sent
      → e ≡ event_at es i → c ≡ true
      → l ≡ late_in (t + r - 1) i → NoneLate es i → i < max_stations
      → record { answer = accepted []; steps = t + r; words = vs; ended = Some l; octets = b } ≡ R
  unfolding Advanced late_at
  run_stops (quiet ee q) i e c l ec eq et el h hi =
      absurd (true≢false (sym et ∙ ec ∙ ap (λ (x : Events). ends_run x.sent)
      (eq ∙ ap (λ (x : List Events). event_at x i) ee) ∙ none_late i))
  run_stops (stepped er ee eb) i e c l ec eq et el h hi =
      rw er (run_found es i e c ec eq n t ws a vs b R (Some l) et (ap Some (rw er at el)) eb ee ev h hi lt p)

-- the words have room
pub run_bounded : (t r : ℕ) (es : List Events) (ws vs : List ℕ) → vs ≡ tallied es 16 ws → Bounded ws (32 * t) → 0 < r
    → Bounded vs (32 * (t + r))
unfolding Bounded
run_bounded t r es ws vs ev h pos j = rw ev (omega (arith, tallied_bounded es 16 (32 * t) ws h j))
