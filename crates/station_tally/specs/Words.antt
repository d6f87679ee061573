-- The events in document 01's numbers: the word of an event, by its place among those that are counted, and its value;
-- 0 where there is none. Counting, text and the C interface go by these. Assumes nothing.
use Rattle.std.specs.Prelude.{ℕ, Bool, false, not, List, [], ◌∷◌, eqb, Option, None, Some}
use Rattle.octets.specs.Base.{pick}
use Rattle.station_tally.specs.declared.Word.{Word}
use Rattle.station_tally.specs.declared.Word.TheVariants as word
use Rattle.station_spec.specs.declared.ReceiveEvent.{ReceiveEvent}
use Rattle.station_spec.specs.declared.ReceiveEvent.TheVariants.{GotOk, GotTooLong, GotAlignment}
use Rattle.station_spec.specs.declared.ReceiveEvent.TheVariants.{GotCheck, GotLength}
use Rattle.station_spec.specs.declared.TransmitEvent.{TransmitEvent}
use Rattle.station_spec.specs.declared.TransmitEvent.TheVariants.{Collision, Late, Sent, GivenUp}
use Rattle.station_spec.specs.declared.TransmitEvent.TheVariants.{LateEnded}

-- a word's number, "by its place among those that are counted"; 0 where there is none
abbrev pub word_number : Option Word → ℕ
word_number None = 0
word_number (Some word.Collision) = 1
word_number (Some word.Late) = 2
word_number (Some word.Sent) = 3
word_number (Some word.GivenUp) = 4
word_number (Some word.LateEnd) = 5
word_number (Some word.GotOk) = 6
word_number (Some word.GotTooLong) = 7
word_number (Some word.GotAlignment) = 8
word_number (Some word.GotCheck) = 9
word_number (Some word.GotLength) = 10

-- "`collision` or `late` with the bit, `sent` or `given_up` with attempts"; N1: "prints `late_end` with the attempts"
abbrev pub transmit_word : Option TransmitEvent → ℕ
transmit_word None = 0
transmit_word (Some (Collision k)) = 1
transmit_word (Some (Late k closes)) = 2
transmit_word (Some (Sent n)) = 3
transmit_word (Some (GivenUp n)) = 4
transmit_word (Some (LateEnded n)) = 5

abbrev pub transmit_value : Option TransmitEvent → ℕ
transmit_value None = 0
transmit_value (Some (Collision k)) = k
transmit_value (Some (Late k closes)) = k
transmit_value (Some (Sent n)) = n
transmit_value (Some (GivenUp n)) = n
transmit_value (Some (LateEnded n)) = n

-- the last word of a transmit event
abbrev pub last_transmit : ℕ
last_transmit = 5

-- "`got` with ok, too-long, alignment, check or length and octets"
abbrev pub receive_word : Option ReceiveEvent → ℕ
receive_word None = 0
receive_word (Some (GotOk n)) = 6
receive_word (Some (GotTooLong n)) = 7
receive_word (Some (GotAlignment n)) = 8
receive_word (Some (GotCheck n)) = 9
receive_word (Some (GotLength n)) = 10

abbrev pub receive_value : Option ReceiveEvent → ℕ
receive_value None = 0
receive_value (Some (GotOk n)) = n
receive_value (Some (GotTooLong n)) = n
receive_value (Some (GotAlignment n)) = n
receive_value (Some (GotCheck n)) = n
receive_value (Some (GotLength n)) = n

-- the event words
abbrev pub word_count : ℕ
word_count = 10

-- "A run of n bit times ends early after the first step in which any station has a late collision"; N1: with a late
-- collision that closes the frame "a run no longer ends early"
abbrev pub ends_run : Option TransmitEvent → Bool
ends_run None = false
ends_run (Some (Collision k)) = false
ends_run (Some (Late k closes)) = not closes
ends_run (Some (Sent n)) = false
ends_run (Some (GivenUp n)) = false
ends_run (Some (LateEnded n)) = false

-- a word with its value, as an answer's numbers
abbrev pub numbers_of : (word value : ℕ) → List ℕ
numbers_of w v = pick (eqb w 0) (0 ∷ []) (w ∷ v ∷ [])
