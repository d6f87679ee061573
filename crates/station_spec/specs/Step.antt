-- A station's step, from deference, transmitter and receiver (document 01, "One bit time").
-- It is local: a function of the layout's figures, the station's own state, draws and collected octets, and what it
-- hears. The laws are in StepLaws. Assumes nothing.
use Rattle.std.specs.Prelude.{ℕ, ◌+◌, ◌<◌, ◌≤◌, Bool, not, ◌||◌, ◌&&◌, List, eqb}
use Rattle.octets.specs.Base.{pick}
use Rattle.sheet_layout.specs.declared.Figures.{Figures}
use Rattle.station_symbols.specs.declared.Heard.{Heard}
use Rattle.station_spec.specs.declared.Deferred.{Deferred}
use Rattle.station_spec.specs.declared.Transmitted.{Transmitted}
use Rattle.station_spec.specs.declared.Received.{Received}
use Rattle.station_state.specs.declared.Station.{Station}
use Rattle.station_spec.specs.declared.Stepped.{Stepped}
use Rattle.station_symbols.specs.Packet.{hears_any, is_emission}
use Rattle.station_spec.specs.Defer.{defer}
use Rattle.station_spec.specs.Transmit.{waits, octets_held, transmit}
use Rattle.station_state.specs.State.{number_in}
use Rattle.station_spec.specs.Receive.{row_in, bits_in, receive, row_limit}
use Rattle.frame_build.specs.Limits.{buffer_octets}

-- "its attempt counts, in the first step .."
unfoldable pub tries_after : ℕ → (start : Bool) → ℕ
tries_after n start = pick start (n + 1) n

-- "Each station has its own D draws .., used in turn, then from the first again."
unfoldable pub draw_after : (place draws : ℕ) → (drew : Bool) → ℕ
draw_after place draws drew = pick drew (pick (eqb (place + 1) draws) 0 (place + 1)) place

-- "deferred (sent frames that did not start in their first step)": a frame never tried that waits and does not start
unfoldable pub deferred_after : (deferred waiting : Bool) (attempts : ℕ) → (start : Bool) → Bool
deferred_after deferred waiting attempts start = deferred || (waiting && (eqb attempts 0 && not start))

-- "Deference comes first."
abbrev pub deferring : Figures → Station → Heard → Deferred
deferring f s h = defer f s.deference (hears_any h) s.emitted (waits s.transmitter)

abbrev pub sending : Figures → Station → (draw : ℕ) → Heard → Transmitted
sending f s draw h =
    transmit f s.transmitter s.frame (tries_after s.attempts (deferring f s h).start) draw
    (deferring f s h).start (hears_any h)

abbrev pub receiving : Figures → Station → (draw : ℕ) → (buffer : List ℕ) → Heard → Received
receiving f s draw buffer h = receive s.address buffer s.receiver h (is_emission (sending f s draw h).emission)

-- the next state
unfoldable pub next_station : Figures → Station → (draws draw : ℕ) → (buffer : List ℕ) → Heard → Station
next_station f s draws draw buffer h =
    record {
      address = s.address;
      deference = (deferring f s h).phase;
      transmitter = (sending f s draw h).phase;
      receiver = (receiving f s draw buffer h).receiver;
      frame = s.frame;
      attempts = tries_after s.attempts (deferring f s h).start;
      draw = draw_after s.draw draws (sending f s draw h).drew;
      deferred = deferred_after s.deferred (waits s.transmitter) s.attempts (deferring f s h).start;
      emitted = is_emission (sending f s draw h).emission;
    }

-- a step: the next state, what is emitted, whether a frame starts, the events, the collected bit that is stored
unfoldable pub stepped : Figures → Station → (draws draw : ℕ) → (buffer : List ℕ) → Heard → Stepped
stepped f s draws draw buffer h =
    record {
      station = next_station f s draws draw buffer h;
      emission = (sending f s draw h).emission;
      start = (deferring f s h).start;
      sent = (sending f s draw h).event;
      got = (receiving f s draw buffer h).event;
      stored = (receiving f s draw buffer h).stored;
    }

-- room for the code's sums: what a station whose record is in range has, with a buffer of n octets
pub record Roomy (f : Figures) (s : Station) (n : ℕ) : Type 0 where
  pub gap : f.gap1 + f.gap2 < 65536
  pub slot : f.slot < 65536
  pub backoff : f.backoff < 16
  pub frame : octets_held s.transmitter s.frame < 65536
  pub number : number_in s.transmitter < 4294967295
  pub attempts : s.attempts < 4294967295
  pub draw : s.draw < 4294967295
  pub row : row_in s.receiver < row_limit
  pub bits : bits_in s.receiver < 4294967295
  pub buffer : buffer_octets ≤ n
