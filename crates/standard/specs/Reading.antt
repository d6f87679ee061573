-- The reading of time. Section 4.2 leaves open when, within a bit time, its processes act, and what its physical layer
-- (4.3.3) hands to them; document 01 fixes both ("One bit time"). All of that is here, and listed in docs/STANDARD.md:
-- the signals, the operations that take time, the four moments of a bit time, the processes' order in each.
-- Assumes nothing.
use Rattle.std.specs.Prelude.{ℕ, ◌+◌, ◌-◌, ◌%◌, Bool, true, false, ◌||◌, ◌&&◌, List, [], ◌∷◌, ltb, eqb, take, Option, None, Some}
use Rattle.octets.specs.Base.{pick}
use Rattle.frame_build.specs.Limits.{buffer_bits}
use Rattle.station_symbols.specs.Packet.{hears_any, is_emission}
use Rattle.station_symbols.specs.declared.Heard.{Heard}
use Rattle.station_symbols.specs.declared.Heard.TheVariants.{Nothing, Clean, Spoiled}
use Rattle.station_symbols.specs.declared.Emission.{Emission}
use Rattle.station_symbols.specs.declared.Emission.TheVariants.{Rest}
use Rattle.station_spec.specs.declared.TransmitEvent.{TransmitEvent}
use Rattle.station_spec.specs.declared.ReceiveEvent.{ReceiveEvent}
use Rattle.station_spec.specs.declared.Stored.{Stored}
use Rattle.standard.specs.Language.{with_number, Store, store, Test, Term, Statement, ◌≔◌, ◌≔#◌, emit, ◌⨾◌}
use Rattle.standard.specs.Language.{while, await, Moment, offer, look, bit, over, flag, number, transmitting}
use Rattle.standard.specs.Language.{spoiled, overlapped, real_time, max_back_off, wait_left, drawn}
use Rattle.standard.specs.Interpreter.{Place, turn}

-- ---- signals

-- carrierSense (4.3.3), for Deference. "*Busy* means: hears any other, or emitted at t−1."
abbrev pub carrier_sense : Test
carrier_sense s = hears_any s.signals.heard || s.signals.emitted

-- carrierSense (4.3.3), for the receiver. "A reception is an unbroken stretch of steps in which others are heard."
abbrev pub carrier_heard : Test
carrier_heard s = hears_any s.signals.heard

-- collisionDetect (4.3.3): another is heard while the station transmits
abbrev pub collision_detect : Test
collision_detect s = flag transmitting s && hears_any s.signals.heard

-- what ReceiveBit (4.3.3) hands over. "A jam bit, or any symbol heard from two or more, is stored as 0"
abbrev pub bit_of : Heard → Bool
bit_of Nothing = false
bit_of (Clean b) = b
bit_of Spoiled = false

abbrev pub is_spoiled : Heard → Bool
is_spoiled Nothing = false
is_spoiled (Clean b) = false
is_spoiled Spoiled = true

-- the last eight symbols, the newest first, with one more. "never matches the delimiter"
abbrev pub next_symbols : Heard → List Bool → List Bool
next_symbols Nothing w = []
next_symbols (Clean b) w = b ∷ take 7 w
next_symbols Spoiled w = []

-- "anywhere in the reception, makes the check wrong"; "or the station emitted during it"
abbrev pub note_symbol : Statement
note_symbol =
    spoiled ≔ (λ s. flag spoiled s || is_spoiled s.signals.heard) ⨾
    overlapped ≔ (λ s. flag overlapped s || is_emission s.transmission.emission)

-- bit n of a frame. "Bits past what the receive buffer holds are counted, not kept."
abbrev pub kept_bit : ℕ → Bool → Option Stored
kept_bit n b = pick (ltb n buffer_bits) (Some (record { bit = n; one = b })) None

-- Random (4.2.8). "r = draw mod 2^min(n, backoff limit)"; "Each station has its own D draws .., used in turn, then
-- from the first again."
abbrev pub random : Term
random s = s.signals.draws.value (number drawn s) % number max_back_off s

abbrev pub next_draw : Statement
next_draw =
    drawn ≔# (λ s. pick (eqb (number drawn s + 1) s.signals.draws.depth) 0 (number drawn s + 1))

-- ---- operations that take time

-- `nothing` (4.2.10) of Deference: it looks once in a bit time
abbrev pub nothing : Statement
nothing = await look

-- TransmitBit (4.3.3): a bit goes out at the moment for bits
abbrev pub transmit_bit : (Store → Emission) → Statement
transmit_bit e = await bit ⨾ emit e

-- Wait (4.3.3): waitLeft bit times, each to its end
abbrev pub wait_out : Statement
wait_out = while (λ s. ltb 0 (number wait_left s)) (wait_left ≔# (λ s. number wait_left s - 1) ⨾ await over)

-- StartRealTimeDelay and RealTimeDelay (4.2.8): the timer counts bit times
abbrev pub start_real_time_delay : Statement
start_real_time_delay = real_time ≔# (λ s. 0)

abbrev pub real_time_delay : ℕ → Test
real_time_delay n s = ltb (number real_time s) n

-- ---- five processes over one store

pub data Process : Type 0 where
  FrameTransmitter FrameReceiver BitTransmitter BitReceiver Deference : Process

pub record Machine : Type 0 where
  pub state : Store
  pub frame_transmitter_at : Place
  pub frame_receiver_at : Place
  pub bit_transmitter_at : Place
  pub bit_receiver_at : Place
  pub deference_at : Place

abbrev pub machine : Store → (ft fr bt br df : Place) → Machine
machine s ft fr bt br df =
    record {
      state = s;
      frame_transmitter_at = ft;
      frame_receiver_at = fr;
      bit_transmitter_at = bt;
      bit_receiver_at = br;
      deference_at = df;
    }

-- a process has its turn, and the others stay where they are
unfoldable pub goes_on : Moment → Process → Machine → Machine
goes_on m FrameTransmitter x =
    let r = turn m x.frame_transmitter_at x.state in
    machine r.result r.place x.frame_receiver_at x.bit_transmitter_at x.bit_receiver_at x.deference_at
goes_on m FrameReceiver x =
    let r = turn m x.frame_receiver_at x.state in
    machine r.result x.frame_transmitter_at r.place x.bit_transmitter_at x.bit_receiver_at x.deference_at
goes_on m BitTransmitter x =
    let r = turn m x.bit_transmitter_at x.state in
    machine r.result x.frame_transmitter_at x.frame_receiver_at r.place x.bit_receiver_at x.deference_at
goes_on m BitReceiver x =
    let r = turn m x.bit_receiver_at x.state in
    machine r.result x.frame_transmitter_at x.frame_receiver_at x.bit_transmitter_at r.place x.deference_at
goes_on m Deference x =
    let r = turn m x.deference_at x.state in
    machine r.result x.frame_transmitter_at x.frame_receiver_at x.bit_transmitter_at x.bit_receiver_at r.place

-- ---- a bit time

-- "Deference comes first." What goes out is known before what comes in is judged, and the BitReceiver is ready again
-- when the frame receiver has judged.
abbrev pub order : List Process
order = Deference ∷ FrameTransmitter ∷ BitTransmitter ∷ FrameReceiver ∷ BitReceiver ∷ []

-- A frame may be offered; the medium is looked at; a bit goes out and comes in; it is over.
abbrev pub moments : List Moment
moments = offer ∷ look ∷ bit ∷ over ∷ []

unfoldable pub everyone : List Process → Moment → Machine → Machine
everyone [] m x = x
everyone (p ∷ l) m x = everyone l m (goes_on m p x)

unfoldable pub passes : List Moment → Machine → Machine
passes [] x = x
passes (m ∷ l) x = passes l (everyone order m x)

-- What a bit time brings: the octets of a frame that is offered just before it (0 for none), and what is heard of
-- others in it.
pub record Input : Type 0 where
  pub offered : ℕ
  pub heard : Heard

-- a bit time begins: the signals are set, the timer goes on by a bit time, nothing is emitted or reported yet
abbrev pub signalled : Input → Store → Store
signalled i s =
    store (with_number real_time (s.deference.numbers real_time + 1) s.deference)
    (record { variables = s.transmission.variables; emission = Rest; sent = None })
    (record {
      variables = s.reception.variables;
      row = s.reception.row;
      incoming = s.reception.incoming;
      got = None;
      stored = None;
    })
    (record {
      heard = i.heard;
      emitted = is_emission s.transmission.emission;
      draws = s.signals.draws;
      offered = i.offered;
    })

unfoldable pub begins : Input → Machine → Machine
begins i x =
    machine (signalled i x.state) x.frame_transmitter_at x.frame_receiver_at x.bit_transmitter_at
    x.bit_receiver_at
    x.deference_at

unfoldable pub bit_time : Input → Machine → Machine
bit_time i x = passes moments (begins i x)

-- what a bit time shows
pub record Output : Type 0 where
  pub emission : Emission
  pub sent : Option TransmitEvent
  pub got : Option ReceiveEvent
  pub stored : Option Stored

abbrev pub output_of : Store → Output
output_of s =
    record {
      emission = s.transmission.emission;
      sent = s.transmission.sent;
      got = s.reception.got;
      stored = s.reception.stored;
    }

unfoldable pub executed : Machine → List Input → List Output
executed x [] = []
executed x (i ∷ l) = output_of (bit_time i x).state ∷ executed (bit_time i x) l
