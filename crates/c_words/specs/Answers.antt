-- The answers of the calls as numbers, and the words that are written into a lent output: of four octets, high octet
-- first. The laws are in AnswersLaws. Assumes nothing.
use Rattle.std.specs.Prelude.{ℕ, ◌+◌, ◌*◌, ◌-◌, ◌<◌, List, [], ◌∷◌, eqb, get_or, Option, Result, IfOk}
use Rattle.std.proofs.lemmas.List.Edits.{sets}
use Rattle.octets.specs.Base.{pick, Answer, number_of, values_of, size_answer}
use Rattle.octets.specs.declared.Refusal.{Refusal}
use Rattle.octets.specs.Number.{put}
use Rattle.octets.specs.Words.{put_words}
use Rattle.octets.specs.Turns.{turns}
use Rattle.sheet_layout.specs.declared.Layout.{Layout}
use Rattle.sheet_layout.specs.declared.Tap.{Tap}
use Rattle.sheet_layout.specs.Fit.{fit_of}
use Rattle.station_spec.specs.declared.ReceiveEvent.{ReceiveEvent}
use Rattle.bus_start.specs.Fresh.{tap_in}
use Rattle.bus_spec.specs.declared.Events.{Events}
use Rattle.bus_spec.specs.BitTime.{event_at}
use Rattle.station_tally.specs.Words.{transmit_word, transmit_value, receive_word, receive_value, last_transmit, word_count}
use Rattle.station_state.specs.State.{counter_count}
use Rattle.sheet_layout.specs.Limits.{max_stations}

-- ---- the octets of the outputs

-- a layout: eight words, the sixteen places, and the late-end field
abbrev pub sheet_out : ℕ
sheet_out = 196

-- what a run input says: its layout, and five words
abbrev pub plan_out : ℕ
plan_out = sheet_out + 20

-- a run: its event words, and three words of how it ended
abbrev pub run_out : ℕ
run_out = 4 * word_count + 12

abbrev pub counters_out : ℕ
counters_out = 4 * counter_count

-- ---- the number that a call returns

-- bit 31, set in a refusal
abbrev pub refusal_bit : ℕ
refusal_bit = 2147483648

-- the highest number of a refusal
abbrev pub max_refusal : ℕ
max_refusal = 21

-- refusal n, or where n is 0 the value
abbrev pub replied : (n value : ℕ) → ℕ
replied n v = pick (eqb n 0) v (refusal_bit + n)

-- the first value of an answer, 0 where it has none
abbrev pub value_of : Answer → ℕ
value_of r = get_or (values_of r) 0 0

-- what a call returns for an answer
abbrev pub code_of : Answer → ℕ
code_of r = replied (number_of r) (value_of r)

-- what it returns for the code's answer
abbrev pub reply_of : Result ℕ Refusal → ℕ
reply_of r = code_of (size_answer r)

-- an answer's value does not reach that bit, so that its number is never a refusal's
abbrev pub Below : Result ℕ Refusal → Type 0
Below r = IfOk r (λ v. v < refusal_bit)

-- ---- a layout

-- slot, gap1, gap2, jam, attempt limit, backoff limit, N, and 1 where the layout fits or 0
unfoldable pub layout_words : Layout → List ℕ
layout_words y =
    y.figures.slot
    ∷ y.figures.gap1
    ∷ y.figures.gap2
    ∷ y.figures.jam
    ∷ y.figures.limit
    ∷ y.figures.backoff
    ∷ y.count
    ∷ value_of (fit_of y)
    ∷ []

-- place i: a station's position, 4 octets, and its address, 6
unfoldable pub tap_put : (position : ℕ) (address : List ℕ) (i : ℕ) → List ℕ → List ℕ
tap_put p d i out = sets (put 4 out (32 + 10 * i) p) (36 + 10 * i) d

-- the first n places
unfoldable pub taps_put : List Tap → ℕ → List ℕ → List ℕ
taps_put ts n out = turns (λ i x. tap_put (tap_in ts i).position (tap_in ts i).address i x) n out

-- the eight words, after them the sixteen places, and last the late-end field
unfoldable pub layout_put : Layout → List ℕ → List ℕ
layout_put y out = put 4 (taps_put y.stations max_stations (put_words 8 out 0 (layout_words y))) 192 y.figures.ends

-- ---- client data

-- where the client data begin in the frame, and how many octets they are; 0 and 0 but with receiveOK
unfoldable pub client_words : Answer → List ℕ
client_words r = pick (eqb (value_of r) 5) 14 0 ∷ get_or (values_of r) 1 0 ∷ []

-- ---- events

-- the code of a receive event: its place among theirs
abbrev pub got_code : Option ReceiveEvent → ℕ
got_code e = receive_word e - last_transmit

-- "transmit comes before receive"
unfoldable pub event_words : Events → List ℕ
event_words e = transmit_word e.sent ∷ transmit_value e.sent ∷ got_code e.got ∷ receive_value e.got ∷ []

-- the first n stations' events, four words each
unfoldable pub events_put : List Events → ℕ → List ℕ → List ℕ
events_put es n out = turns (λ i x. put_words 4 x (16 * i) (event_words (event_at es i))) n out
