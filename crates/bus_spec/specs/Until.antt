-- Steps until an event: at most n, the last one is the first that has an event. The laws are in UntilLaws. Assumes
-- nothing.
use Rattle.std.specs.Prelude.{ℕ, zero, suc, ◌+◌, Bool, ◌||◌, List, replicate, is_some}
use Rattle.octets.specs.Base.{pick, some}
use Rattle.bus_spec.specs.declared.Events.{Events}
use Rattle.bus_spec.specs.BitTime.{no_events, event_at, events_at, step_area}
use Rattle.bus_spec.specs.declared.course.Stretch.{Stretch}

unfoldable pub has_event : Events → Bool
has_event e = is_some e.sent || is_some e.got

-- whether some station has an event
unfoldable pub eventful : List Events → Bool
eventful es = some (λ i. has_event (event_at es i)) 16

-- steps made, the events of the last one, the area
pub record Stretched : Type 0 where
  pub steps : ℕ
  pub events : List Events
  pub octets : List ℕ

abbrev pub stretch_of : Stretch → List ℕ → Stretched
stretch_of s a = record { steps = s.steps; events = s.events; octets = a }

abbrev pub one_more : Stretched → Stretched
one_more s = record { steps = s.steps + 1; events = s.events; octets = s.octets }

-- at most n steps; the last one is the first that has an event
unfoldable pub until_event : ℕ → List ℕ → Stretched
until_event zero a = record { steps = 0; events = replicate 16 no_events; octets = a }
until_event (suc n) a =
    pick (eventful (events_at a)) (record { steps = 1; events = events_at a; octets = step_area a })
    (one_more (until_event n (step_area a)))
