-- A station's record: fourteen words for its state (the table is in src/lib.rt). The laws are in CodecLaws. Assumes
-- nothing.
use Rattle.std.specs.Prelude.{ℕ, Bool, true, false, not, List, [], ◌∷◌, eqb, get_or}
use Rattle.octets.specs.Base.{pick}
use Rattle.station_state.specs.declared.Deference.{Deference}
use Rattle.station_state.specs.declared.Deference.TheVariants.{Quiet, Busy, Gap}
use Rattle.station_state.specs.declared.Transmitter.{Transmitter}
use Rattle.station_state.specs.declared.Transmitter.TheVariants.{NoFrame, Waiting, BackingOff, Sending, Heading}
use Rattle.station_state.specs.declared.Transmitter.TheVariants.{Jamming}
use Rattle.station_state.specs.State.{number_in}
use Rattle.station_state.specs.declared.Receiver.{Receiver}
use Rattle.station_state.specs.declared.Receiver.TheVariants.{Listening, Readable, Seeking, Collecting}
use Rattle.station_state.specs.declared.Station.{Station}
use Rattle.area_record.specs.Words.{deference_word, stretch_word, gap_word, phase_word, deferred_word, emitted_word}
use Rattle.area_record.specs.Words.{reception_word, frame_word, attempts_word, draw_word}
use Rattle.area_record.specs.Words.{phase_number_word, receiver_word, receiver_number_word, spoiled_word}

abbrev pub flag : Bool → ℕ
flag true = 1
flag false = 0

-- ---- deference

unfoldable pub deference_of : ℕ → Bool → ℕ → Deference
deference_of code own n = pick (eqb code 0) Quiet (pick (eqb code 1) (Busy own) (Gap n own))

abbrev pub deference_code : Deference → ℕ
deference_code Quiet = 0
deference_code (Busy own) = 1
deference_code (Gap n own) = 2

abbrev pub deference_own : Deference → Bool
deference_own Quiet = false
deference_own (Busy own) = own
deference_own (Gap n own) = own

abbrev pub deference_count : Deference → ℕ
deference_count Quiet = 0
deference_count (Busy own) = 0
deference_count (Gap n own) = n

-- ---- transmitter

unfoldable pub transmitter_of : ℕ → ℕ → Transmitter
transmitter_of code n =
    pick (eqb code 0) NoFrame
    (pick (eqb code 1) Waiting
    (pick (eqb code 2) (BackingOff n)
    (pick (eqb code 3) (Sending n)
    (pick (eqb code 4) (Heading n)
    (Jamming n (not (eqb code 5)))))))

abbrev pub transmitter_code : Transmitter → ℕ
transmitter_code NoFrame = 0
transmitter_code Waiting = 1
transmitter_code (BackingOff n) = 2
transmitter_code (Sending n) = 3
transmitter_code (Heading n) = 4
transmitter_code (Jamming n false) = 5
transmitter_code (Jamming n true) = 6

-- ---- receiver

unfoldable pub receiver_of : ℕ → ℕ → Bool → Bool → Receiver
receiver_of code n spoiled own =
    pick (eqb code 0) Listening
    (pick (eqb code 1) (Readable n)
    (pick (eqb code 2) (Seeking n spoiled own)
    (Collecting n spoiled own)))

abbrev pub receiver_code : Receiver → ℕ
receiver_code Listening = 0
receiver_code (Readable n) = 1
receiver_code (Seeking row spoiled own) = 2
receiver_code (Collecting n spoiled own) = 3

abbrev pub receiver_number : Receiver → ℕ
receiver_number Listening = 0
receiver_number (Readable n) = n
receiver_number (Seeking row spoiled own) = row
receiver_number (Collecting n spoiled own) = n

abbrev pub receiver_spoiled : Receiver → Bool
receiver_spoiled Listening = false
receiver_spoiled (Readable n) = false
receiver_spoiled (Seeking row spoiled own) = spoiled
receiver_spoiled (Collecting n spoiled own) = spoiled

abbrev pub receiver_own : Receiver → Bool
receiver_own Listening = false
receiver_own (Readable n) = false
receiver_own (Seeking row spoiled own) = own
receiver_own (Collecting n spoiled own) = own

-- ---- the record

unfoldable pub decoded : List ℕ → List ℕ → Station
decoded w address =
    record {
      address = address;
      deference = deference_of (get_or w deference_word 0) (eqb (get_or w stretch_word 0) 1) (get_or w gap_word 0);
      transmitter = transmitter_of (get_or w phase_word 0) (get_or w phase_number_word 0);
      receiver =
          receiver_of (get_or w receiver_word 0) (get_or w receiver_number_word 0) (eqb (get_or w spoiled_word 0) 1)
          (eqb (get_or w reception_word 0) 1);
      frame = get_or w frame_word 0;
      attempts = get_or w attempts_word 0;
      draw = get_or w draw_word 0;
      deferred = eqb (get_or w deferred_word 0) 1;
      emitted = eqb (get_or w emitted_word 0) 1;
    }

unfoldable pub encoded : Station → List ℕ
encoded s =
    deference_code s.deference
    ∷ flag (deference_own s.deference)
    ∷ deference_count s.deference
    ∷ transmitter_code s.transmitter
    ∷ number_in s.transmitter
    ∷ receiver_code s.receiver
    ∷ receiver_number s.receiver
    ∷ flag (receiver_spoiled s.receiver)
    ∷ flag (receiver_own s.receiver)
    ∷ s.frame
    ∷ s.attempts
    ∷ s.draw
    ∷ flag s.deferred
    ∷ flag s.emitted
    ∷ []
