-- A law for each way through the code that goes on; what follows of it for a run and for steps until an event. Assumes
-- nothing.
use Rattle.std.specs.Prelude.{ℕ, ◌+◌, ◌-◌, ◌≤◌, ◌<◌, ◌≡◌, Bool, true, false, replicate, Option, Some, None}
use Rattle.std.proofs.Math.Path.{refl, ap, subst}
use Rattle.std.proofs.Common.{sym, ◌∙◌, true≢false, ne_eqb, eq-eqb}
use mathlib.Core.List.{List}
use native.Mathlib.Omega.{arith}
use Rattle.area.specs.Area.{clock_at}
use Rattle.bus_spec.specs.declared.Events.{Events}
use Rattle.bus_spec.specs.BitTime.{no_events, events_at, step_area}
use Rattle.bus_spec.specs.Ready.{Readiness, Ready}
use Rattle.bus_spec.specs.RunLaws.{Runnable}
use Rattle.bus_spec.specs.Until.{eventful, Stretched, until_event}
use Rattle.bus_spec.specs.UntilLaws.{none_eventful, plus, stretch_on, stretch_hit}
use Rattle.fast_plan.specs.Plan.{steps, Planned}
use Rattle.fast_plan.proofs.Calm.{calm_holds, calm_run, calm_until}
use Rattle.fast_plan.proofs.Happens.{plan_happens}
use Rattle.fast_silence.specs.Jump.{silent_plan, jumped}
use Rattle.fast_silence.specs.Bound.{silent_for, skipped}
use Rattle.fast_silence.proofs.Bound.{silent_most, silence_run, silence_until, silence_plans}
use Rattle.fast_heard.specs.Hearing.{plan_of}
use Rattle.fast_window.specs.Window.{Passed}
use Rattle.bus_run.specs.Advance.{Quiet, quiet, stepped, Advanced}
use Rattle.fast_advance.specs.Advance.{Leapt}
use Rattle.sheet_layout.specs.Limits.{last_clock}

-- ---- many steps at once

pub leap_none : (left : ℕ) (a : List ℕ) → Leapt left None a a
unfolding Leapt
leap_none left a = refl

module _ (left : ℕ) (a : List ℕ) (h : Runnable left a) where
  pub left_ready : Ready a
  unfolding Runnable Ready
  left_ready = h.0

  pub left_room : clock_at a + left ≤ last_clock
  unfolding Runnable
  left_room = h.1

  module _ (r : ℕ) (b : List ℕ) (e : r ≡ silent_for left a) (eb : b ≡ skipped r a) where
    most : r ≤ left
    most = omega (arith, silent_most a left)

    pub leap_silence : (r ≡ 0 → ⊥) → Leapt left (Some r) a b
    unfolding Leapt Runnable skipped
    leap_silence ne =
        let pos : 0 < r = omega (arith, ne) in
        let low : r ≤ silent_for left a = omega arith in
        let early : clock_at a + r ≤ last_clock = omega (arith, h.1, most) in
        let eq : b ≡ jumped r a = rw (ne_eqb r 0 ne) at eb in
        let w : Planned a silent_plan r (jumped r a) = silence_plans a left r h.0 pos low early in (
          pos,
          most,
          subst (Quiet r a) (sym eq)
              (record {
                ready = w.ready;
                time = w.time;
                runs = λ k m ws. silence_run a left r k m ws h.0 pos low early;
                until = λ k. silence_until a left r k h.0 pos low early;
              }),
        )

    unmoved : r ≡ 0 → b ≡ a
    unfolding skipped
    unmoved z = rw (eq-eqb r 0 z) at eb

    pub unmoved_ready : r ≡ 0 → Ready b
    unmoved_ready z = rw (unmoved z) left_ready

    pub unmoved_room : r ≡ 0 → clock_at b + left ≤ last_clock
    unmoved_room z = rw (unmoved z) left_room

    pub leap_window : r ≡ 0 → (o : Option ℕ) (x : List ℕ) → Passed left o b x → Leapt left o a x
    unfolding Leapt Passed Runnable
    leap_window z None x p = p ∙ unmoved z
    leap_window z (Some k) x p =
        let early : clock_at b + k ≤ last_clock = omega (arith, unmoved_room z, p.within) in
        let rd : Readiness b = rw (unmoved z) h.0 in
        let w : Planned b (plan_of b) k (steps k b) = plan_happens b (plan_of b) k rd early
        (calm_holds b (plan_of b) k p.calm) in (
          p.some,
          p.within,
          subst (λ (y : List ℕ). Quiet k y x) (unmoved z)
              (subst (Quiet k b) (sym p.made)
              (record {
                ready = w.ready;
                time = w.time;
                runs = λ i m ws. calm_run b (plan_of b) k p.calm rd early i m ws;
                until = λ i. calm_until b (plan_of b) k p.calm rd early k i (omega arith);
              })),
        )

-- ---- or one

module _ (left : ℕ) (o : Option ℕ) (a b : List ℕ) (w : Leapt left o a b) where
  pub advance_leap : (r k : ℕ) (es : List Events) → o ≡ Some r → k ≡ r → es ≡ replicate 16 no_events → Advanced k es a b
  unfolding Leapt Advanced
  advance_leap r k es eo ek ee = let g = rw eo at w in rw ek (quiet ee g.2)

  pub leap_some : (r k : ℕ) → o ≡ Some r → k ≡ r → 0 < k
  unfolding Leapt
  leap_some r k eo ek = let g = rw eo at w in omega (arith, g.0)

  pub leap_most : (r k : ℕ) → o ≡ Some r → k ≡ r → k ≤ left
  unfolding Leapt
  leap_most r k eo ek = let g = rw eo at w in omega (arith, g.1)

  module _ (z : o ≡ None) where
    stayed : b ≡ a
    unfolding Leapt
    stayed = rw z at w

    pub stayed_ready : Runnable left a → Ready b
    unfolding Runnable Ready
    stayed_ready h = rw stayed h.0

    pub stayed_clock : Runnable left a → 0 < left → clock_at b < last_clock
    unfolding Runnable
    stayed_clock h g = rw stayed (omega (arith, h.1))

    pub advance_step : (es : List Events) (x : List ℕ) → es ≡ events_at b → x ≡ step_area b → Advanced 1 es a x
    unfolding Advanced
    advance_step es x ee ex = stepped refl (ee ∙ ap events_at stayed) (ex ∙ ap step_area stayed)

-- ---- until an event

module _ (n t r : ℕ) (es : List Events) (a b : List ℕ) where
  module _ (R : Stretched) (h : Runnable (n - t) a) (lt : t < n) (le : r ≤ n - t)
      (p : plus t (until_event (n - t) a) ≡ R) where
    pub until_hit : Advanced r es a b → (c : Bool) → c ≡ eventful es → c ≡ true
        → record { steps = t + r; events = es; octets = b } ≡ R
    unfolding Advanced
    until_hit (quiet ee q) c ec et = absurd (true≢false (sym et ∙ ec ∙ ap eventful ee ∙ none_eventful))
    until_hit (stepped er ee eb) c ec et = rw er (stretch_hit n t a R lt p es b c eb ee ec et)

    pub until_on : Advanced r es a b → (c : Bool) → c ≡ eventful es → c ≡ false
        → plus (t + r) (until_event (n - (t + r)) b) ≡ R
    unfolding Advanced
    until_on (quiet ee q) c ec et =
        let z : r + (n - (t + r)) ≡ n - t = omega arith in
        twice (until_event (n - (t + r)) b)
        ∙ ap (plus t) (sym (q.until (n - (t + r))) ∙ ap (λ (k : ℕ). until_event k a) z) ∙ p
      where
        twice : (s : Stretched) → plus (t + r) s ≡ plus t (plus r s)
        twice s = λ i. record { steps = w s.steps i; events = s.events; octets = s.octets }
          where
            w : (k : ℕ) → t + r + k ≡ t + (r + k)
            w k = omega arith
    until_on (stepped er ee eb) c ec et = rw er (stretch_on n t a R lt p es b c eb ee ec et)
