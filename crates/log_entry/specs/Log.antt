-- Many windows over one log (document 02, N14). A log is a list of entries; windows are a list of numbers, three to a
-- window: station, first time, time past the last. Assumes nothing.
use Rattle.std.specs.Prelude.{ℕ, suc, ◌+◌, ◌-◌, ◌*◌, ◌/◌, ◌%◌, min, Bool, false, ◌&&◌, ◌||◌, List, [], ◌∷◌, ltb, leb, eqb, length, get_or, Some}
use Rattle.std.proofs.lemmas.List.Edits.{sets}
use Rattle.octets.specs.Base.{pick, some, refused, accepted, Outcome, outcome}
use Rattle.octets.specs.Table.{tabulated}
use Rattle.log_entry.specs.declared.Entry.{Entry}
use Rattle.log_entry.specs.declared.Event.{Event}
use Rattle.log_entry.specs.declared.Event.TheVariants.{Collision, Late, Sent, GivenUp, LateEnd, GotOk}
use Rattle.log_entry.specs.declared.Event.TheVariants.{GotTooLong, GotAlignment, GotCheck, GotLength}
use Rattle.station_tally.specs.Words.{transmit_word, receive_word, word_count}
use Rattle.station_spec.specs.declared.ReceiveEvent.TheVariants as got
use Rattle.station_spec.specs.declared.TransmitEvent.TheVariants as sent

-- the place of an event's word among those that are counted, from 0 on: station_tally/Words numbers them from 1 on
abbrev pub word_of : Event → ℕ
word_of (Collision k) = transmit_word (Some (sent.Collision k)) - 1
word_of (Late k) = transmit_word (Some (sent.Late k false)) - 1
word_of (Sent n) = transmit_word (Some (sent.Sent n)) - 1
word_of (GivenUp n) = transmit_word (Some (sent.GivenUp n)) - 1
word_of (LateEnd n) = transmit_word (Some (sent.LateEnded n)) - 1
word_of (GotOk n) = receive_word (Some (got.GotOk n)) - 1
word_of (GotTooLong n) = receive_word (Some (got.GotTooLong n)) - 1
word_of (GotAlignment n) = receive_word (Some (got.GotAlignment n)) - 1
word_of (GotCheck n) = receive_word (Some (got.GotCheck n)) - 1
word_of (GotLength n) = receive_word (Some (got.GotLength n)) - 1

-- ---- windows: "(station, first time, time past the last)"

-- the most windows of a lookup, and the counts of so many
abbrev pub max_windows : ℕ
max_windows = 64

abbrev pub cell_count : ℕ
cell_count = max_windows * word_count

abbrev pub window_count : List ℕ → ℕ
window_count ws = length ws / 3

abbrev pub station_of : List ℕ → ℕ → ℕ
station_of ws w = get_or ws (3 * w) 0

abbrev pub first_of : List ℕ → ℕ → ℕ
first_of ws w = get_or ws (3 * w + 1) 0

abbrev pub past_of : List ℕ → ℕ → ℕ
past_of ws w = get_or ws (3 * w + 2) 0

-- window w holds what station i reported at time t: from the first time on, and before the time past the last
unfoldable pub holds : List ℕ → ℕ → ℕ → ℕ → Bool
holds ws w t i = eqb (station_of ws w) i && (leb (first_of ws w) t && ltb t (past_of ws w))

-- ---- answers: "for each how many of every event word it holds"

-- how many entries pass a test
unfoldable pub count : (Entry → Bool) → List Entry → ℕ
count p [] = 0
count p (e ∷ es) = pick (p e) (suc (count p es)) (count p es)

-- window w looked up alone: how many entries with the word j it holds. A count that would pass the top of 32 bits stops
-- at it
unfoldable pub alone : List ℕ → ℕ → ℕ → List Entry → ℕ
alone ws w j es = min (count (λ e. holds ws w e.time e.station && eqb (word_of e.event) j) es) 4294967295

-- a count for each window and word, in the order of the windows: "each answer is that of the window looked up alone"
unfoldable pub answers : List ℕ → List Entry → List ℕ
answers ws es = tabulated (λ c. alone ws (c / word_count) (c % word_count) es) 0 (word_count * window_count ws)

-- ---- refusals

-- "a window's or an entry's station" is N or more
abbrev pub astray_window : ℕ → List ℕ → ℕ → Bool
astray_window n ws w = leb n (station_of ws w)

unfoldable pub astray : ℕ → List Entry → Bool
astray n [] = false
astray n (e ∷ es) = leb n e.station || astray n es

-- "a window whose second time is below its first"
abbrev pub reversed_window : List ℕ → ℕ → Bool
reversed_window ws w = ltb (past_of ws w) (first_of ws w)

-- "entries whose times fall", where t is the time before them
unfoldable pub falls : ℕ → List Entry → Bool
falls t [] = false
falls t (e ∷ es) = ltb e.time t || falls e.time es

-- the number of the refusal, 0 where there is none: "10 .. comes before them all", then 16, 20, 21; 15 last, for an
-- output with room for fewer than ten counts a window. `strays` and `fall` say whether an entry's station is N or
-- more, and whether the times fall
unfoldable pub refusal_in : (ws : List ℕ) (n : ℕ) (strays fall : Bool) (room : ℕ) → ℕ
refusal_in ws n strays fall room =
    pick (some (astray_window n ws) (window_count ws) || strays) 10
    (pick (ltb max_windows (window_count ws)) 16
    (pick (some (reversed_window ws) (window_count ws)) 20
    (pick fall 21
    (pick (ltb room (word_count * window_count ws)) 15 0))))

-- a refusal leaves the output as it was; else the counts stand at its front, and what is past them stays
unfoldable pub answered : (x : ℕ) (counts out : List ℕ) → Outcome
answered x counts out = pick (eqb x 0) (outcome (accepted []) (sets out 0 counts)) (outcome (refused x) out)
