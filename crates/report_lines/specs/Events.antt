-- The lines of a step's events (document 01, "The run program"). The laws are in EventsLaws. Assumes nothing.
use Rattle.std.specs.Prelude.{ℕ, zero, suc, ◌-◌, List, [], ◌∷◌, ◌++◌, eqb, get_or}
use Rattle.octets.specs.Base.{pick}
use Rattle.station_tally.specs.Words.{transmit_word, transmit_value, receive_word, receive_value}
use Rattle.bus_spec.specs.declared.Events.{Events}
use Rattle.bus_spec.specs.BitTime.{no_events}
use Rattle.report_text.specs.Text.{line}

-- the words: `collision`, `late`, `sent`, `given_up`, `late_end`, and `got` with `ok`, `too_long`, `alignment`,
-- `check`, `length`
abbrev pub collision_text : List ℕ
collision_text = 99 ∷ 111 ∷ 108 ∷ 108 ∷ 105 ∷ 115 ∷ 105 ∷ 111 ∷ 110 ∷ []

abbrev pub late_text : List ℕ
late_text = 108 ∷ 97 ∷ 116 ∷ 101 ∷ []

abbrev pub sent_text : List ℕ
sent_text = 115 ∷ 101 ∷ 110 ∷ 116 ∷ []

abbrev pub given_up_text : List ℕ
given_up_text = 103 ∷ 105 ∷ 118 ∷ 101 ∷ 110 ∷ 45 ∷ 117 ∷ 112 ∷ []

abbrev pub late_end_text : List ℕ
late_end_text = 108 ∷ 97 ∷ 116 ∷ 101 ∷ 45 ∷ 101 ∷ 110 ∷ 100 ∷ []

abbrev pub got : List ℕ → List ℕ
got status = 103 ∷ 111 ∷ 116 ∷ 32 ∷ status

abbrev pub ok_text : List ℕ
ok_text = got (111 ∷ 107 ∷ [])

abbrev pub too_long_text : List ℕ
too_long_text = got (116 ∷ 111 ∷ 111 ∷ 45 ∷ 108 ∷ 111 ∷ 110 ∷ 103 ∷ [])

abbrev pub alignment_text : List ℕ
alignment_text = got (97 ∷ 108 ∷ 105 ∷ 103 ∷ 110 ∷ 109 ∷ 101 ∷ 110 ∷ 116 ∷ [])

abbrev pub check_text : List ℕ
check_text = got (99 ∷ 104 ∷ 101 ∷ 99 ∷ 107 ∷ [])

abbrev pub length_text : List ℕ
length_text = got (108 ∷ 101 ∷ 110 ∷ 103 ∷ 116 ∷ 104 ∷ [])

-- the text of a word, by its number
unfoldable pub word_text : ℕ → List ℕ
word_text w =
    get_or
    (collision_text ∷ late_text ∷ sent_text ∷ given_up_text ∷ late_end_text ∷ ok_text ∷ too_long_text ∷ alignment_text ∷ check_text
    ∷ length_text ∷
    [])
    (w - 1) []

-- the line of an event of station i in step t, by its word and value: "the bit", "attempts", or "octets (client data
-- for ok, else whole octets collected)"
unfoldable pub event_line : (t i word value : ℕ) → List ℕ
event_line t i w v = pick (eqb w 0) [] (line t i (word_text w) v)

-- "transmit comes before receive"
unfoldable pub station_lines : (t i : ℕ) → Events → List ℕ
station_lines t i e =
    event_line t i (transmit_word e.sent) (transmit_value e.sent)
    ++ event_line t i (receive_word e.got) (receive_value e.got)

-- "In a step, stations rise": the lines of the first n stations in step t
unfoldable pub step_lines : (t : ℕ) → List Events → (n : ℕ) → List ℕ
step_lines t es zero = []
step_lines t es (suc n) = step_lines t es n ++ station_lines t n (get_or es n no_events)
