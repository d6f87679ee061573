-- Laws of steps until an event, and one for each way through the code that makes them; what they leave is in
-- proofs/UntilLaws. Assumes nothing.
use Prim.Native.Nat.{ℕ, zero, suc, ◌+◌, ◌-◌, ◌≤◌, ◌<◌}
use Rattle.std.specs.Prelude.{◌≡◌, refl, Bool, true, false, ◌||◌, List, replicate, is_some}
use Rattle.std.proofs.Common.{sym, ◌∙◌}
use Rattle.std.proofs.Math.Path.{ap}
use native.Mathlib.Omega.{arith}
use Rattle.octets.specs.Base.{pick, some}
use Rattle.octets.specs.BaseLaws.{some_none, some_more, some_hit, some_end}
use Rattle.bus_spec.specs.declared.Events.{Events}
use Rattle.bus_spec.specs.BitTime.{no_events, event_at, events_at, step_area}
use Rattle.bus_spec.specs.Until.{has_event, eventful, Stretched, one_more, until_event}
use Rattle.sheet_layout.specs.Limits.{max_stations}

-- ---- whether some station has an event

-- none of the first i. Shut, so that a search does not enter it
unfoldable pub Calm : List Events → ℕ → Type 0
Calm es i = some (λ k. has_event (event_at es k)) i ≡ false

pub event_is : (e : Events) (s g b : Bool) → s ≡ is_some e.sent → g ≡ is_some e.got → b ≡ (s || g)
    → b ≡ has_event e
unfolding has_event
event_is e s g b p q r = r ∙ rw (p, q)

pub calm_none : (es : List Events) → Calm es 0
unfolding Calm
calm_none es = some_none (λ k. has_event (event_at es k))

module _ (es : List Events) (i : ℕ) where
  pub calm_more : (e : Events) (b : Bool) → b ≡ has_event e → e ≡ event_at es i → b ≡ false → Calm es i → Calm es (i + 1)
  unfolding Calm
  calm_more e b p q r h = some_more (λ k. has_event (event_at es k)) i b (p ∙ ap has_event q) r h

  pub calm_hit : (e : Events) (b : Bool) → b ≡ has_event e → e ≡ event_at es i → b ≡ true → i < max_stations
      → true ≡ eventful es
  unfolding eventful
  calm_hit e b p q r h = some_hit (λ k. has_event (event_at es k)) 16 i b (p ∙ ap has_event q) r h

  pub calm_end : i ≤ max_stations → 16 ≤ i → Calm es i → false ≡ eventful es
  unfolding Calm eventful
  calm_end p q h = some_end (λ k. has_event (event_at es k)) 16 i p q h

-- no events are none
pub none_eventful : eventful (replicate 16 no_events) ≡ false
unfolding eventful some has_event
none_eventful = refl

-- ---- steps until an event

-- t steps more, made before
abbrev pub plus : ℕ → Stretched → Stretched
plus t s = record { steps = t + s.steps; events = s.events; octets = s.octets }

pub stretch_first : (n : ℕ) (a : List ℕ) → plus 0 (until_event (n - 0) a) ≡ until_event n a
stretch_first n a =
    let e : n - 0 ≡ n = omega arith in
    rw e (λ i. record {
      steps = z (until_event n a).steps i;
      events = (until_event n a).events;
      octets = (until_event n
          a).octets;
    })
  where
    z : (k : ℕ) → 0 + k ≡ k
    z k = omega arith

module _ (n t : ℕ) (a : List ℕ) (R : Stretched) (h : t < n) (p : plus t (until_event (n - t) a) ≡ R) where
  turn : (k : ℕ) → k ≡ n - t → plus t
      (pick (eventful (events_at a)) (record { steps = 1; events = events_at a; octets = step_area a })
      (one_more (until_event (n - (t + 1)) (step_area a)))) ≡ R
  unfolding until_event
  turn zero e = absurd (omega arith)
  turn (suc k) e = let z : n - (t + 1) ≡ k = omega arith in rw z (rw (← e) at p)

  pub stretch_on : (es : List Events) (b : List ℕ) (c : Bool) → b ≡ step_area a → es ≡ events_at a → c ≡ eventful es
      → c ≡ false → plus (t + 1) (until_event (n - (t + 1)) b) ≡ R
  stretch_on es b c eb ee ec et =
      let f : eventful (events_at a) ≡ false = ap eventful (sym ee) ∙ sym ec ∙ et in
      rw eb (one (until_event (n - (t + 1)) (step_area a)) ∙ (rw f at (turn (n - t) refl)))
    where
      one : (s : Stretched) → plus (t + 1) s ≡ plus t (one_more s)
      one s = λ i. record { steps = z s.steps i; events = s.events; octets = s.octets }
        where
          z : (k : ℕ) → t + 1 + k ≡ t + (k + 1)
          z k = omega arith

  pub stretch_hit : (es : List Events) (b : List ℕ) (c : Bool) → b ≡ step_area a → es ≡ events_at a → c ≡ eventful es
      → c ≡ true → record { steps = t + 1; events = es; octets = b } ≡ R
  stretch_hit es b c eb ee ec et =
      let f : eventful (events_at a) ≡ true = ap eventful (sym ee) ∙ sym ec ∙ et in
      rw (eb, ee) (rw f at (turn (n - t) refl))

pub stretch_end : (n t : ℕ) (a : List ℕ) (R : Stretched) → n ≤ t → plus t (until_event (n - t) a) ≡ R
    → record { steps = t; events = replicate 16 no_events; octets = a } ≡ R
unfolding until_event
stretch_end n t a R h p =
    let z : n - t ≡ 0 = omega arith in
    let e : t ≡ t + 0 = omega arith in
    let q : plus t (until_event 0 a) ≡ R = rw z at p in
    (λ i. record { steps = e i; events = replicate 16 no_events; octets = a }) ∙ q

pub stretch_steps : (n : ℕ) (a : List ℕ) → (until_event n a).steps ≤ n
unfolding until_event
stretch_steps zero a = omega arith
stretch_steps (suc n) a = go (eventful (events_at a)) (stretch_steps n (step_area a))
  where
    go : (b : Bool) → (until_event n (step_area a)).steps ≤ n
        → (pick b (record { steps = 1; events = events_at a; octets = step_area a })
        (one_more (until_event n (step_area a)))).steps ≤ suc n
    go true h = omega arith
    go false h = omega arith

pub stretch_some : (n : ℕ) (a : List ℕ) → 0 < n → 0 < (until_event n a).steps
unfolding until_event
stretch_some zero a h = h
stretch_some (suc n) a h = go (eventful (events_at a))
  where
    go : (b : Bool) → 0 < (pick b (record { steps = 1; events = events_at a; octets = step_area a })
        (one_more (until_event n (step_area a)))).steps
    go true = omega arith
    go false = omega arith
