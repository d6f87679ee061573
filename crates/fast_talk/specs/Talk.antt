-- A station without its receiver: deference, transmitter, and what they count by. Its steps go by whether anything is
-- heard. The laws are in Talks. Assumes nothing.
use Rattle.std.specs.Prelude.{ℕ, Bool, List}
use Rattle.octets.specs.Turns.{turns}
use Rattle.sheet_layout.specs.declared.Figures.{Figures}
use Rattle.station_symbols.specs.declared.Symbol.{Symbol}
use Rattle.station_symbols.specs.declared.Emission.{Emission}
use Rattle.station_symbols.specs.Packet.{hears_any, is_emission, symbol_of}
use Rattle.station_state.specs.declared.Deference.{Deference}
use Rattle.station_state.specs.declared.Transmitter.{Transmitter}
use Rattle.station_state.specs.declared.Station.{Station}
use Rattle.station_spec.specs.declared.Deferred.{Deferred}
use Rattle.station_spec.specs.declared.Transmitted.{Transmitted}
use Rattle.station_spec.specs.declared.TransmitEvent.{TransmitEvent}
use Rattle.station_spec.specs.Defer.{defer}
use Rattle.station_spec.specs.Transmit.{waits, octets_held, transmit}
use Rattle.station_spec.specs.Step.{tries_after, draw_after, deferred_after}
use Rattle.area.specs.Area.{depth_at, draw_at, figures_at, station_at, frame_at}
use Rattle.fast_plan.specs.Plan.{Plan, hears}

pub record Talker : Type 0 where
  pub deference : Deference
  pub transmitter : Transmitter
  pub frame : ℕ
  pub attempts : ℕ
  pub draw : ℕ
  pub deferred : Bool
  pub emitted : Bool

unfoldable pub talker_of : Station → Talker
talker_of s =
    record {
      deference = s.deference;
      transmitter = s.transmitter;
      frame = s.frame;
      attempts = s.attempts;
      draw = s.draw;
      deferred = s.deferred;
      emitted = s.emitted;
    }

-- ---- a step, on whether anything is heard

abbrev pub deferring_on : Figures → Talker → (on : Bool) → Deferred
deferring_on f t on = defer f t.deference on t.emitted (waits t.transmitter)

abbrev pub sending_on : Figures → Talker → (draw : ℕ) → (on : Bool) → Transmitted
sending_on f t draw on =
    transmit f t.transmitter t.frame (tries_after t.attempts (deferring_on f t on).start) draw
    (deferring_on f t on).start on

unfoldable pub talked : Figures → (draws draw : ℕ) → (on : Bool) → Talker → Talker
talked f draws draw on t =
    record {
      deference = (deferring_on f t on).phase;
      transmitter = (sending_on f t draw on).phase;
      frame = t.frame;
      attempts = tries_after t.attempts (deferring_on f t on).start;
      draw = draw_after t.draw draws (sending_on f t draw on).drew;
      deferred = deferred_after t.deferred (waits t.transmitter) t.attempts (deferring_on f t on).start;
      emitted = is_emission (sending_on f t draw on).emission;
    }

-- m steps, in which something is heard where C says so; g k is draw k
unfoldable pub talked_by : Figures → (draws : ℕ) → (g : ℕ → ℕ) → (C : ℕ → Bool) → (m : ℕ) → Talker → Talker
talked_by f draws g C m t = turns (λ s u. talked f draws (g u.draw) (C s) u) m t

-- ---- in an area, by a plan

-- the carrier
unfoldable pub carrier_at : List ℕ → Plan → (i s : ℕ) → Bool
carrier_at a P i s = hears_any (hears a P i s)

unfoldable pub talker_at : List ℕ → Plan → (i s : ℕ) → Talker
talker_at a P i s =
    talked_by (figures_at a) (depth_at a) (draw_at a i) (carrier_at a P i) s (talker_of (station_at a i))

-- what it emits, and its event
unfoldable pub said_at : List ℕ → Plan → (i s : ℕ) → Transmitted
said_at a P i s =
    sending_on (figures_at a) (talker_at a P i s) (draw_at a i (talker_at a P i s).draw) (carrier_at a P i s)

unfoldable pub symbol_said : List ℕ → Plan → (i s : ℕ) → Symbol
symbol_said a P i s =
    symbol_of (frame_at a i (octets_held (talker_at a P i s).transmitter (talker_at a P i s).frame))
    (said_at a P i s).emission
