-- The language in which section 4.2's procedures are written down as data: variables and statements. Variables have
-- the section's own names (4.2.7.2 to 4.2.7.4); `jamming`, `spoiled`, `overlapped`, `real_time`, `header_bits`,
-- `outgoing_size`, `wait_left` and `drawn` are added (docs/STANDARD.md). Assumes nothing.
use Rattle.std.specs.Prelude.{ℕ, Bool, List, ltb, eqb, Option}
use Rattle.octets.specs.Base.{pick}
use Rattle.station_symbols.specs.declared.Heard.{Heard}
use Rattle.station_symbols.specs.declared.Emission.{Emission}
use Rattle.station_spec.specs.declared.TransmitEvent.{TransmitEvent}
use Rattle.station_spec.specs.declared.ReceiveEvent.{ReceiveEvent}
use Rattle.station_spec.specs.declared.Stored.{Stored}

-- ---- variables

-- the flags: of deference, of transmission, of reception; each by its place
pub data Flag : Type 0 where
  deferring was_transmitting : Flag
  frame_waiting transmitting transmit_succeeding new_collision late_collision_error jamming deferred : Flag
  receiving receive_succeeding spoiled overlapped : Flag

abbrev pub flag_place : Flag → ℕ
flag_place deferring = 0
flag_place was_transmitting = 1
flag_place frame_waiting = 10
flag_place transmitting = 11
flag_place transmit_succeeding = 12
flag_place new_collision = 13
flag_place late_collision_error = 14
flag_place jamming = 15
flag_place deferred = 16
flag_place receiving = 20
flag_place receive_succeeding = 21
flag_place spoiled = 22
flag_place overlapped = 23

-- the numbers: of deference, of transmission, of reception
pub data Number : Type 0 where
  real_time : Number
  attempts current_transmit_bit last_transmit_bit last_header_bit header_bits max_back_off : Number
  late_collision_count outgoing_size wait_left drawn : Number
  current_receive_bit frame_size excess_bits : Number

abbrev pub number_place : Number → ℕ
number_place real_time = 0
number_place attempts = 10
number_place current_transmit_bit = 11
number_place last_transmit_bit = 12
number_place last_header_bit = 13
number_place header_bits = 14
number_place max_back_off = 15
number_place late_collision_count = 16
number_place outgoing_size = 17
number_place wait_left = 18
number_place drawn = 19
number_place current_receive_bit = 20
number_place frame_size = 21
number_place excess_bits = 22

pub record Variables : Type 0 where
  pub flags : Flag → Bool
  pub numbers : Number → ℕ

abbrev pub with_flag : Flag → Bool → Variables → Variables
with_flag x v p =
    record { flags = λ y. pick (eqb (flag_place x) (flag_place y)) v (p.flags y); numbers = p.numbers }

abbrev pub with_number : Number → ℕ → Variables → Variables
with_number x v p =
    record { flags = p.flags; numbers = λ y. pick (eqb (number_place x) (number_place y)) v (p.numbers y) }

-- What the station has: the variables of its three parts; what it emits and reports in this bit time; of the reception
-- the symbols before the frame, the newest first, and the frame's octets.
pub record Transmission : Type 0 where
  pub variables : Variables
  pub emission : Emission
  pub sent : Option TransmitEvent

pub record Reception : Type 0 where
  pub variables : Variables
  pub row : List Bool
  pub incoming : List ℕ
  pub got : Option ReceiveEvent
  pub stored : Option Stored

-- What it is handed: random numbers, so many, to be used in turn; what is heard of others in this bit time, whether it
-- emitted in the last one, the octets of a frame that is offered (0 for none).
pub record Draws : Type 0 where
  pub value : ℕ → ℕ
  pub depth : ℕ

pub record Signals : Type 0 where
  pub heard : Heard
  pub emitted : Bool
  pub draws : Draws
  pub offered : ℕ

pub record Store : Type 0 where
  pub deference : Variables
  pub transmission : Transmission
  pub reception : Reception
  pub signals : Signals

abbrev pub store : Variables → Transmission → Reception → Signals → Store
store d t r s = record { deference = d; transmission = t; reception = r; signals = s }

-- ---- statements

abbrev pub Test : Type 0
Test = Store → Bool

abbrev pub Term : Type 0
Term = Store → ℕ

-- a bit time has four moments (specs/Reading)
pub data Moment : Type 0 where
  offer look bit over : Moment

infix 70 ◌≔◌
infix 70 ◌≔#◌
infixr 20 ◌⨾◌
pub data Statement : Type 0 where
  ◌≔◌ : Flag → Test → Statement
  ◌≔#◌ : Number → Term → Statement
  emit : (Store → Emission) → Statement
  report : (Store → TransmitEvent) → Statement
  hand : (Store → ReceiveEvent) → Statement
  keep : (Store → Option Stored) → Statement
  row : (Store → List Bool) → Statement
  skip : Statement
  ◌⨾◌ : Statement → Statement → Statement
  test : Test → Statement → Statement → Statement
  while : Test → Statement → Statement
  repeat : Statement → Test → Statement
  cycle : Statement → Statement
  call : Statement → Statement
  await : Moment → Statement

-- ---- a variable is read, or written

-- the part that a place belongs to
abbrev pub part_at : ℕ → Store → Variables
part_at n s = pick (ltb n 10) s.deference (pick (ltb n 20) s.transmission.variables s.reception.variables)

abbrev pub with_part : ℕ → Variables → Store → Store
with_part n p s =
    pick (ltb n 10) (store p s.transmission s.reception s.signals)
    (pick (ltb n 20)
    (store s.deference
    (record { variables = p; emission = s.transmission.emission; sent = s.transmission.sent })
    s.reception
    s.signals)
    (store s.deference s.transmission
    (record {
      variables = p;
      row = s.reception.row;
      incoming = s.reception.incoming;
      got = s.reception.got;
      stored = s.reception.stored;
    })
    s.signals))

abbrev pub flag : Flag → Test
flag x s = (part_at (flag_place x) s).flags x

abbrev pub number : Number → Term
number x s = (part_at (number_place x) s).numbers x

abbrev pub put_flag : Flag → Bool → Store → Store
put_flag x v s = with_part (flag_place x) (with_flag x v (part_at (flag_place x) s)) s

abbrev pub put_number : Number → ℕ → Store → Store
put_number x v s = with_part (number_place x) (with_number x v (part_at (number_place x) s)) s
