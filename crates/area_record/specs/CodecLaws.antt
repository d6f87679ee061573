-- What is encoded reads back; a law for each way through the code. Assumes nothing.
use Rattle.std.specs.Prelude.{ℕ, ◌^◌, ◌<◌, ◌≡◌, refl, Bool, true, false, eqb, length}
use Rattle.std.proofs.Common.{ap, arith}
use Rattle.octets.specs.WordsLaws.{Small}
use Rattle.station_state.specs.declared.Deference.{Deference}
use Rattle.station_state.specs.declared.Deference.TheVariants.{Quiet, Busy, Gap}
use Rattle.station_state.specs.declared.Transmitter.{Transmitter}
use Rattle.station_state.specs.declared.Transmitter.TheVariants.{NoFrame, Waiting, BackingOff, Sending, Heading}
use Rattle.station_state.specs.declared.Transmitter.TheVariants.{Jamming}
use Rattle.station_state.specs.State.{number_in}
use Rattle.station_state.specs.declared.Receiver.{Receiver}
use Rattle.station_state.specs.declared.Receiver.TheVariants.{Listening, Readable, Seeking, Collecting}
use Rattle.station_state.specs.declared.Station.{Station}
use Rattle.area_record.specs.Codec.{flag, deference_of, deference_code, deference_own, deference_count, transmitter_of}
use Rattle.area_record.specs.Codec.{transmitter_code, receiver_of, receiver_code, receiver_number, receiver_spoiled}
use Rattle.area_record.specs.Codec.{receiver_own, decoded, encoded}
use Rattle.area_record.specs.Words.{record_words}

-- ---- what is encoded reads back

flag_back : (b : Bool) → eqb (flag b) 1 ≡ b
flag_back true = refl
flag_back false = refl

deference_back : (d : Deference) → deference_of (deference_code d) (eqb (flag (deference_own d)) 1) (deference_count d) ≡ d
unfolding deference_of
deference_back Quiet = refl
deference_back (Busy own) = ap Busy (flag_back own)
deference_back (Gap n own) = ap (Gap n) (flag_back own)

transmitter_back : (t : Transmitter) → transmitter_of (transmitter_code t) (number_in t) ≡ t
unfolding transmitter_of
transmitter_back NoFrame = refl
transmitter_back Waiting = refl
transmitter_back (BackingOff n) = refl
transmitter_back (Sending n) = refl
transmitter_back (Heading n) = refl
transmitter_back (Jamming n true) = refl
transmitter_back (Jamming n false) = refl

receiver_back : (r : Receiver)
    → receiver_of (receiver_code r) (receiver_number r) (eqb (flag (receiver_spoiled r)) 1) (eqb (flag (receiver_own r)) 1)
    ≡ r
unfolding receiver_of
receiver_back Listening = refl
receiver_back (Readable n) = refl
receiver_back (Seeking row spoiled own) = λ i. Seeking row (flag_back spoiled i) (flag_back own i)
receiver_back (Collecting n spoiled own) = λ i. Collecting n (flag_back spoiled i) (flag_back own i)

pub decoded_encoded : (s : Station) → decoded (encoded s) s.address ≡ s
unfolding decoded encoded
decoded_encoded s =
    λ i. record {
      address = s.address;
      deference = deference_back s.deference i;
      transmitter = transmitter_back s.transmitter i;
      receiver = receiver_back s.receiver i;
      frame = s.frame;
      attempts = s.attempts;
      draw = s.draw;
      deferred = flag_back s.deferred i;
      emitted = flag_back s.emitted i;
    }

pub length_encoded : (s : Station) → length (encoded s) ≡ record_words
unfolding encoded
length_encoded s = refl

-- a state whose numbers fit their words
pub record Fit (s : Station) : Type 0 where
  pub count : deference_count s.deference < 256 ^ 4
  pub number : number_in s.transmitter < 256 ^ 4
  pub received : receiver_number s.receiver < 256 ^ 4
  pub frame : s.frame < 256 ^ 4
  pub attempts : s.attempts < 256 ^ 4
  pub draw : s.draw < 256 ^ 4

flag_small : (b : Bool) → flag b < 256 ^ 4
flag_small true = omega arith
flag_small false = omega arith

deference_small : (d : Deference) → deference_code d < 256 ^ 4
deference_small Quiet = omega arith
deference_small (Busy own) = omega arith
deference_small (Gap n own) = omega arith

transmitter_small : (t : Transmitter) → transmitter_code t < 256 ^ 4
transmitter_small NoFrame = omega arith
transmitter_small Waiting = omega arith
transmitter_small (BackingOff n) = omega arith
transmitter_small (Sending n) = omega arith
transmitter_small (Heading n) = omega arith
transmitter_small (Jamming n true) = omega arith
transmitter_small (Jamming n false) = omega arith

receiver_small : (r : Receiver) → receiver_code r < 256 ^ 4
receiver_small Listening = omega arith
receiver_small (Readable n) = omega arith
receiver_small (Seeking row spoiled own) = omega arith
receiver_small (Collecting n spoiled own) = omega arith

pub encoded_small : (s : Station) → Fit s → Small (encoded s)
unfolding encoded
encoded_small s f = (
  deference_small s.deference,
  (
    flag_small (deference_own s.deference),
    (
      f.count,
      (
        transmitter_small s.transmitter,
        (
          f.number,
          (
            receiver_small s.receiver,
            (
              f.received,
              (
                flag_small (receiver_spoiled s.receiver),
                (
                  flag_small (receiver_own s.receiver),
                  (f.frame, (f.attempts, (f.draw, (flag_small s.deferred, (flag_small s.emitted, tt))))),
                ),
              ),
            ),
          ),
        ),
      ),
    ),
  ),
)

-- ---- the code

module _ (code n : ℕ) where
  pub code_none : code ≡ 0 → NoFrame ≡ transmitter_of code n
  unfolding transmitter_of
  code_none p = rw p
