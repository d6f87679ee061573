-- The pair in document 01's words: stations, their frames and buffers, and every symbol emitted so far. Numbers have no
-- bound here. The laws are in Run and Hear. Assumes nothing.
use Rattle.std.specs.Prelude.{ℕ, zero, suc, ◌<◌, ◌≡◌, false, List, [], ◌∷◌, eqb, length}
use Rattle.octets.specs.Base.{pick}
use Rattle.octets.specs.NumberLaws.{Octets}
use Rattle.frame_build.specs.Limits.{refuses_data}
use Rattle.frame_build.specs.Build.{frame_of}
use Rattle.station_symbols.specs.declared.Symbol.{Symbol}
use Rattle.station_symbols.specs.declared.Symbol.TheVariants.{Silence}
use Rattle.station_symbols.specs.Packet.{symbol_of}
use Rattle.station_state.specs.declared.Deference.TheVariants.{Quiet}
use Rattle.station_state.specs.declared.Transmitter.TheVariants.{NoFrame}
use Rattle.station_state.specs.declared.Receiver.TheVariants.{Listening}
use Rattle.station_state.specs.declared.Station.{Station}
use Rattle.station_spec.specs.declared.Stepped.{Stepped}
use Rattle.station_spec.specs.Step.{stepped}
use Rattle.bus_spec.specs.After.{stored_in}
use Rattle.bus_offer.specs.Offer.{holds, offered_station}
use Rattle.bus_meeting.specs.Net.{Net, heard, grown}

-- An offer that is not refused for its data: its destination and data are octets, its value one of two octets.
pub record Offer (P : Net) : Type 0 where
  pub to : ℕ
  pub destination : List ℕ
  pub value : ℕ
  pub payload : List ℕ
  pub six : length destination ≡ 6
  pub octets : Octets destination
  pub small : value < 65536
  pub contents : Octets payload
  pub allowed : refuses_data value (length payload) ≡ false

-- "what the builder makes of its destination, value and data, with the offering station's own address as source"
unfoldable pub frame_for : (P : Net) → Offer P → List ℕ
frame_for P o = frame_of o.destination (P.address o.to) o.value o.payload

-- frame i is that of station i's last accepted offer, buffer i what it collected; past i s is what it emitted in step
-- s, silence from the clock on
pub record World : Type 0 where
  pub clock : ℕ
  pub station : ℕ → Station
  pub frame : ℕ → List ℕ
  pub buffer : ℕ → List ℕ
  pub past : ℕ → ℕ → Symbol

-- ---- a step

unfoldable pub outcome : Net → World → ℕ → Stepped
outcome P w i =
    stepped P.fig (w.station i) P.depth (P.draw i (w.station i).draw) (w.buffer i)
    (heard P w.past i w.clock)

unfoldable pub symbol : Net → World → ℕ → Symbol
symbol P w i = symbol_of (w.frame i) (outcome P w i).emission

unfoldable pub step : Net → World → World
step P w =
    record {
      clock = suc w.clock;
      station = λ i. (outcome P w i).station;
      frame = w.frame;
      buffer = λ i. stored_in (w.buffer i) (outcome P w i).stored;
      past = grown w.clock (symbol P w) w.past;
    }

-- ---- an offer

-- the offer is accepted
unfoldable pub given : (P : Net) → Offer P → World → World
given P o w =
    record {
      clock = w.clock;
      station = λ i. pick (eqb i o.to) (offered_station (w.station i) (length (frame_for P o))) (w.station i);
      frame = λ i. pick (eqb i o.to) (frame_for P o) (w.frame i);
      buffer = w.buffer;
      past = w.past;
    }

-- "The station still has a frame": refused, and nothing changes
unfoldable pub offer : (P : Net) → Offer P → World → World
offer P o w = pick (holds (w.station o.to).transmitter) w (given P o w)

unfoldable pub offers : (P : Net) → List (Offer P) → World → World
offers P [] w = w
offers P (o ∷ os) w = offers P os (offer P o w)

-- ---- an execution: the offers inp t are made before step t

-- a fresh start
unfoldable pub fresh_station : Net → ℕ → Station
fresh_station P i =
    record {
      address = P.address i;
      deference = Quiet;
      transmitter = NoFrame;
      receiver = Listening;
      frame = 0;
      attempts = 0;
      draw = 0;
      deferred = false;
      emitted = false;
    }

unfoldable pub fresh : Net → World
fresh P = record { clock = 0; station = fresh_station P; frame = λ i. []; buffer = P.blank; past = λ i s. Silence }

unfoldable pub before : (P : Net) → (ℕ → List (Offer P)) → ℕ → World
before P inp zero = fresh P
before P inp (suc t) = step P (offers P (inp t) (before P inp t))

unfoldable pub ready : (P : Net) → (ℕ → List (Offer P)) → ℕ → World
ready P inp t = offers P (inp t) (before P inp t)
