-- How a run goes on: many steps at once, in which no station has an event, or one step. Assumes nothing.
use Rattle.std.specs.Prelude.{ℕ, ◌+◌, ◌<◌, ◌≡◌, List, replicate}
use Rattle.area.specs.Area.{clock_at}
use Rattle.bus_spec.specs.declared.Events.{Events}
use Rattle.bus_spec.specs.BitTime.{no_events, events_at, step_area}
use Rattle.bus_spec.specs.Ready.{Readiness}
use Rattle.bus_spec.specs.Run.{run_of}
use Rattle.bus_spec.specs.Until.{until_event}
use Rattle.bus_spec.specs.UntilLaws.{plus}

-- b is what r steps leave of a, none of which has an event: a run counts nothing in them, and a stretch until an event
-- goes on past them
pub record Quiet (r : ℕ) (a b : List ℕ) : Type 0 where
  pub ready : Readiness b
  pub time : clock_at b ≡ clock_at a + r
  pub runs : (k m : ℕ) (ws : List ℕ) → run_of (r + k) m ws a ≡ run_of k (m + r) ws b
  pub until : (k : ℕ) → until_event (r + k) a ≡ plus r (until_event k b)

-- r steps from a to b; es are the events of the last
pub data Advance (r : ℕ) (es : List Events) (a b : List ℕ) : Type 0 where
  quiet : es ≡ replicate 16 no_events → Quiet r a b → Advance r es a b
  stepped : r ≡ 1 → es ≡ events_at a → b ≡ step_area a → Advance r es a b

-- shut, so that a search does not enter it
unfoldable pub Advanced : (r : ℕ) → List Events → (a b : List ℕ) → Type 0
Advanced r es a b = Advance r es a b
