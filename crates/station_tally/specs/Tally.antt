-- How many events of each word came (document 01: "a run answers .. how many events of each word came (`got` with each
-- status is a word of its own)"). The laws are in TallyLaws. Assumes nothing.
use Rattle.std.specs.Prelude.{ℕ, ◌+◌, ◌-◌, List, eqb, get_or, set, Option}
use Rattle.octets.specs.Base.{pick}
use Rattle.station_spec.specs.declared.ReceiveEvent.{ReceiveEvent}
use Rattle.station_spec.specs.declared.TransmitEvent.{TransmitEvent}
use Rattle.station_tally.specs.Words.{transmit_word, receive_word}

-- one more of the word at place k
unfoldable pub bumped : List ℕ → ℕ → List ℕ
bumped ws k = set ws k (get_or ws k 0 + 1)

-- one more of word w, if there is one
unfoldable pub counted : List ℕ → ℕ → List ℕ
counted ws w = pick (eqb w 0) ws (bumped ws (w - 1))

abbrev pub sent_counted : List ℕ → Option TransmitEvent → List ℕ
sent_counted ws e = counted ws (transmit_word e)

abbrev pub got_counted : List ℕ → Option ReceiveEvent → List ℕ
got_counted ws e = counted ws (receive_word e)
