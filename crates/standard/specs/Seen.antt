-- The same list of bit times by document 01: what a station's steps (station_spec) show. Assumes nothing.
use Rattle.std.specs.Prelude.{ℕ, ◌≤◌, ◌<◌, Bool, true, false, ◌&&◌, List, [], ◌∷◌, ltb}
use Rattle.octets.specs.Base.{pick}
use Rattle.sheet_layout.specs.declared.Figures.{Figures}
use Rattle.station_state.specs.declared.Deference.TheVariants.{Quiet}
use Rattle.station_state.specs.declared.Transmitter.{Transmitter}
use Rattle.station_state.specs.declared.Transmitter.TheVariants.{NoFrame, Waiting, BackingOff, Sending, Heading}
use Rattle.station_state.specs.declared.Transmitter.TheVariants.{Jamming}
use Rattle.station_state.specs.declared.Receiver.TheVariants.{Listening}
use Rattle.station_state.specs.declared.Station.{Station}
use Rattle.station_spec.specs.declared.Stepped.{Stepped}
use Rattle.station_spec.specs.Step.{stepped}
use Rattle.standard.specs.Language.{Draws}
use Rattle.standard.specs.Interpreter.{kept_in}
use Rattle.standard.specs.Reading.{Input, Output}

-- what document 01 asks of a layout's figures, as far as it matters here
pub record Ranges (f : Figures) : Type 0 where
  pub slot : 64 ≤ f.slot
  pub gap2 : 0 < f.gap2
  pub jam : 0 < f.jam
  pub limit : 0 < f.limit
  pub backoff : 0 < f.backoff

-- "A fresh start has .. every station quiet, nothing emitted, heard or held, first draws next"
unfoldable pub fresh_station : List ℕ → Station
fresh_station address =
    record {
      address = address;
      deference = Quiet;
      transmitter = NoFrame;
      receiver = Listening;
      frame = 0;
      attempts = 0;
      draw = 0;
      deferred = false;
      emitted = false;
    }

-- "The station still has a frame."
abbrev pub is_free : Transmitter → Bool
is_free NoFrame = true
is_free Waiting = false
is_free (BackingOff w) = false
is_free (Sending k) = false
is_free (Heading k) = false
is_free (Jamming n ends) = false

-- whether an offer of a frame of z octets is taken: there is one, and the station is free
abbrev pub takes : Station → ℕ → Bool
takes s z = is_free s.transmitter && ltb 0 z

-- an offer, which waits from this step on
unfoldable pub offered_to : Station → ℕ → Station
offered_to s z =
    record {
      address = s.address;
      deference = s.deference;
      transmitter = pick (takes s z) Waiting s.transmitter;
      receiver = s.receiver;
      frame = pick (takes s z) z s.frame;
      attempts = pick (takes s z) 0 s.attempts;
      draw = s.draw;
      deferred = pick (takes s z) false s.deferred;
      emitted = s.emitted;
    }

-- the step, of a station with these draws, and these octets collected
unfoldable pub step_of : Figures → Draws → Station → List ℕ → Input → Stepped
step_of f draws s buffer i =
    stepped f (offered_to s i.offered) draws.depth (draws.value s.draw) buffer i.heard

abbrev pub shown : Stepped → Output
shown o = record { emission = o.emission; sent = o.sent; got = o.got; stored = o.stored }

unfoldable pub seen : Figures → Draws → Station → List ℕ → List Input → List Output
seen f draws s buffer [] = []
seen f draws s buffer (i ∷ l) =
    shown (step_of f draws s buffer i)
    ∷ seen f draws (step_of f draws s buffer i).station (kept_in buffer (step_of f draws s buffer i).stored) l
