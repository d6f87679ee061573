-- The end of the steps, and a search for an event. Assumes nothing.
use Rattle.std.specs.Prelude.{ℕ, ◌-◌, ◌≤◌, ◌<◌, ◌≡◌, Bool, true, false, refl, List, replicate, length}
use Rattle.std.specs.Bool.{MatchBool}
use Rattle.std.specs.List.{HoldsAt, AllWithin}
use Rattle.std.proofs.Common.{◌∙◌, sym}
use native.Mathlib.Omega.{arith}
use Rattle.octets.specs.BaseLaws.{some_hit, below_none}
use Rattle.bus_spec.specs.declared.Events.{Events}
use Rattle.bus_spec.specs.BitTime.{no_events, event_at}
use Rattle.bus_spec.specs.Until.{has_event, eventful, Stretched, until_event}
use Rattle.bus_spec.specs.UntilLaws.{plus, stretch_end}
use Rattle.sheet_layout.specs.Limits.{max_stations}

pub onward_end : (n t : ℕ) (a : List ℕ) (R : Stretched) (k : ℕ) (es : List Events) → plus t (until_event (n - t) a) ≡ R
    → n ≤ t
    → k ≡ t → es ≡ replicate 16 no_events → record { steps = k; events = es; octets = a } ≡ R
onward_end n t a R k es p h e f = (λ i. record { steps = e i; events = f i; octets = a }) ∙ stretch_end n t a R h p

-- what a search of the events says
pub any_eventful : (es : List Events) (b : Bool) → length es ≡ max_stations
    → MatchBool b ((k : ℕ) × (k < length es) × HoldsAt (λ e. has_event e ≡ true) es k)
    (AllWithin (λ e. has_event e ≡ false) es 0 (length es))
    → b ≡ eventful es
unfolding eventful
any_eventful es true n (k, l, h) =
    some_hit (λ i. has_event (event_at es i)) 16 k (has_event (event_at es k)) refl (h no_events) (omega arith)
any_eventful es false n h =
    sym (below_none (λ i. has_event (event_at es i)) 16 (λ i l. h i no_events (omega arith) (omega arith)))
