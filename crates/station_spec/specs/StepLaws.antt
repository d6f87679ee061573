-- The step from its three parts, as the code puts them together. Assumes nothing.
use Rattle.std.specs.Prelude.{ℕ, ◌+◌, ◌≡◌, refl, Bool, true, false, List}
use Rattle.std.proofs.Common.{◌∙◌, ap}
use Rattle.sheet_layout.specs.declared.Figures.{Figures}
use Rattle.station_symbols.specs.declared.Heard.{Heard}
use Rattle.station_spec.specs.declared.Deferred.{Deferred}
use Rattle.station_spec.specs.declared.Transmitted.{Transmitted}
use Rattle.station_spec.specs.declared.Received.{Received}
use Rattle.station_state.specs.declared.Station.{Station}
use Rattle.station_spec.specs.declared.Stepped.{Stepped}
use Rattle.station_symbols.specs.Packet.{hears_any, is_emission}
use Rattle.station_spec.specs.Defer.{defer}
use Rattle.station_spec.specs.Transmit.{waits, octets_held, transmit}
use Rattle.station_spec.specs.TransmitLaws.{held_transmits}
use Rattle.station_spec.specs.Receive.{receive}
use Rattle.station_spec.specs.Step.{tries_after, draw_after, deferred_after, deferring, sending, receiving}
use Rattle.station_spec.specs.Step.{next_station, stepped}

pub tries_more : (n : ℕ) (start : Bool) → start ≡ true → n + 1 ≡ tries_after n start
unfolding tries_after
tries_more n start p = rw p

pub tries_same : (n : ℕ) (start : Bool) → start ≡ false → n ≡ tries_after n start
unfolding tries_after
tries_same n start p = rw p

-- the next state and the rest, from the three parts
unfoldable pub finished : Station → ℕ → Deferred → Transmitted → Received → ℕ → Bool → Stepped
finished s draws d o q tries emits =
    record {
      station = record {
        address = s.address;
        deference = d.phase;
        transmitter = o.phase;
        receiver = q.receiver;
        frame = s.frame;
        attempts = tries;
        draw = draw_after s.draw draws o.drew;
        deferred = deferred_after s.deferred (waits s.transmitter) s.attempts d.start;
        emitted = emits;
      };
      emission = o.emission;
      start = d.start;
      sent = o.event;
      got = q.event;
      stored = q.stored;
    }

-- the three parts one after the other are the step
parts : (f : Figures) (s : Station) (draws draw : ℕ) (buffer : List ℕ) (h : Heard)
    → finished s draws (deferring f s h) (sending f s draw h) (receiving f s draw buffer h)
    (tries_after s.attempts (deferring f s h).start) (is_emission (sending f s draw h).emission)
    ≡ stepped f s draws draw buffer h
unfolding finished stepped next_station
parts f s draws draw buffer h = refl

pub step_is : (f : Figures) (s : Station) (draws draw : ℕ) (buffer : List ℕ) (h : Heard) (hears waiting emits : Bool)
    (tries z : ℕ)
    (d : Deferred) (o : Transmitted) (q : Received) (r : Stepped)
    → r ≡ finished s draws d o q tries emits → q ≡ receive s.address buffer s.receiver h emits
    → emits ≡ is_emission o.emission
    → o ≡ transmit f s.transmitter z tries draw d.start hears → z ≡ octets_held s.transmitter s.frame
    → tries ≡ tries_after s.attempts d.start
    → d ≡ defer f s.deference hears s.emitted waiting → waiting ≡ waits s.transmitter → hears ≡ hears_any h
    → r ≡ stepped f s draws draw buffer h
step_is f s draws draw buffer h hears waiting emits tries z d o q r er eq ee eo ez et ed ew eh =
    let e : o ≡ transmit f s.transmitter s.frame tries draw d.start hears =
    eo ∙ ap (λ (y : ℕ). transmit f s.transmitter y tries draw d.start hears) ez
    ∙ held_transmits f s.transmitter s.frame tries draw d.start hears in
    er ∙ rw (eq, ee, e, et, ed, ew, eh) (parts f s draws draw buffer h)
