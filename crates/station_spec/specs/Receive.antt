-- The receiver (document 01, "One bit time").
-- "A reception is an unbroken stretch of steps in which others are heard." The laws are in ReceiveLaws. Assumes
-- nothing.
use Rattle.std.specs.Prelude.{ℕ, ◌+◌, ◌*◌, ◌/◌, ◌%◌, Bool, true, false, not, ◌||◌, List, ltb, eqb, get_or, take, replicate, Option, None, Some}
use Rattle.octets.specs.Base.{pick, Answer, values_of}
use Rattle.octets.specs.Bits.{digit}
use Rattle.octets.specs.Equal.{equal}
use Rattle.frame_open.specs.Open.{destination_of, frame_too_long, opened}
use Rattle.station_spec.specs.declared.ReceiveEvent.{ReceiveEvent}
use Rattle.station_spec.specs.declared.ReceiveEvent.TheVariants.{GotOk, GotTooLong, GotAlignment}
use Rattle.station_spec.specs.declared.ReceiveEvent.TheVariants.{GotCheck, GotLength}
use Rattle.station_symbols.specs.declared.Heard.{Heard}
use Rattle.station_symbols.specs.declared.Heard.TheVariants.{Nothing, Clean, Spoiled}
use Rattle.station_state.specs.declared.Receiver.{Receiver}
use Rattle.station_state.specs.declared.Receiver.TheVariants.{Listening, Readable, Seeking, Collecting}
use Rattle.station_spec.specs.declared.Stored.{Stored}
use Rattle.station_spec.specs.declared.Received.{Received}
use Rattle.frame_build.specs.Limits.{buffer_octets, buffer_bits, shortest_frame}

-- ---- the delimiter

-- A row of clean symbols is kept as a number: a 1, then the last eight of them, the first highest. The empty row is 1.
abbrev pub no_row : ℕ
no_row = 1

-- each row is below this
abbrev pub row_limit : ℕ
row_limit = 512

unfoldable pub next_row : ℕ → Bool → ℕ
next_row row b = pick (ltb (2 * row + digit b) row_limit) (2 * row + digit b) (256 + (2 * row + digit b) % 256)

-- "10101011" behind the 1
abbrev pub delimiter_row : ℕ
delimiter_row = 427

-- ---- collecting

-- the collected bit n is stored, with this value
abbrev pub storing : ℕ → Bool → Option Stored
storing n b = Some (record { bit = n; one = b })

-- "Bits past what the receive buffer holds are counted, not kept."
unfoldable pub stored_bit : ℕ → Bool → Option Stored
stored_bit n b = pick (ltb n buffer_bits) (storing n b) None

-- a step in which nothing is decided
abbrev pub hearing : Receiver → Option Stored → Received
hearing r s = record { receiver = r; event = None; stored = s }

-- "Bits after the first 10101011 are collected, low bit first."
unfoldable pub seek_bit : (row : ℕ) (b spoiled own : Bool) → Received
seek_bit row b spoiled own =
    hearing (pick (eqb (next_row row b) delimiter_row) (Collecting 0 spoiled own) (Seeking (next_row row b) spoiled own))
    None

-- "A jam bit, or any symbol heard from two or more, is stored as 0, never matches the delimiter and, anywhere in the
-- reception, makes the check wrong."
abbrev pub seek_spoiled : Bool → Received
seek_spoiled own = hearing (Seeking no_row true own) None

unfoldable pub collect_bit : (n : ℕ) (b spoiled own : Bool) → Received
collect_bit n b spoiled own = hearing (Collecting (n + 1) spoiled own) (stored_bit n b)

-- a symbol of a reception, clean or spoiled; own says whether the station emitted during it, this step among it
unfoldable pub seek : (row : ℕ) (spoiled own clean b : Bool) → Received
seek row spoiled own clean b = pick clean (seek_bit row b spoiled own) (seek_spoiled own)

unfoldable pub collect : (n : ℕ) (spoiled own clean b : Bool) → Received
collect n spoiled own clean b = collect_bit n b (spoiled || not clean) own

unfoldable pub hear : Receiver → (clean b emits : Bool) → Received
hear Listening clean b emits = seek no_row false emits clean b
hear (Readable n) clean b emits = seek no_row false emits clean b
hear (Seeking row spoiled own) clean b emits = seek row spoiled (own || emits) clean b
hear (Collecting n spoiled own) clean b emits = collect n spoiled (own || emits) clean b

-- ---- the step after the stretch

-- "destination neither own nor broadcast, nothing"
unfoldable pub addressed : (address buffer : List ℕ) → Bool
addressed address buffer = equal (destination_of buffer) address || equal (destination_of buffer) (replicate 6 255)

-- the opening rules, of n bits collected; of more octets than are kept the frame is too long
unfoldable pub open_answer : (buffer : List ℕ) (n : ℕ) (spoiled : Bool) → Answer
open_answer buffer n spoiled =
    pick (ltb buffer_octets (n / 8)) frame_too_long (opened spoiled (take (n / 8) buffer) (n % 8)).status

-- what a status reports: its first value numbers it, receiveOK has the octets of client data behind that
unfoldable pub got_event : Answer → (octets : ℕ) → Option ReceiveEvent
got_event r n =
    pick (eqb (get_or (values_of r) 0 0) 1) (Some (GotTooLong n))
    (pick (eqb (get_or (values_of r) 0 0) 2) (Some (GotCheck n))
    (pick (eqb (get_or (values_of r) 0 0) 3) (Some (GotAlignment n))
    (pick (eqb (get_or (values_of r) 0 0) 4) (Some (GotLength n))
    (pick (eqb (get_or (values_of r) 0 0) 5) (Some (GotOk (get_or (values_of r) 1 0)))
    None))))

-- "The frame of a receiveOK can be read, whole with its check sequence, until that station's next reception begins."
unfoldable pub readable_after : Answer → (octets : ℕ) → Receiver
readable_after r n = pick (eqb (get_or (values_of r) 0 0) 5) (Readable n) Listening

abbrev pub deciding : Receiver → Option ReceiveEvent → Received
deciding r v = record { receiver = r; event = v; stored = None }

unfoldable pub opening : (buffer : List ℕ) (n : ℕ) (spoiled : Bool) → Received
opening buffer n spoiled =
    deciding (readable_after (open_answer buffer n spoiled) (n / 8)) (got_event (open_answer buffer n spoiled) (n / 8))

-- "The step after the stretch decides: under 512 collected bits, or the station emitted during it, nothing; destination
-- neither own nor broadcast, nothing; else the opening rules."
unfoldable pub decide : (address buffer : List ℕ) (n : ℕ) (spoiled own : Bool) → Received
decide address buffer n spoiled own =
    pick (ltb n shortest_frame) (deciding Listening None)
    (pick own (deciding Listening None)
    (pick (addressed address buffer) (opening buffer n spoiled) (deciding Listening None)))

-- a step in which nothing is heard
unfoldable pub ended : (address buffer : List ℕ) → Receiver → Received
ended address buffer Listening = deciding Listening None
ended address buffer (Readable n) = deciding (Readable n) None
ended address buffer (Seeking row spoiled own) = deciding Listening None
ended address buffer (Collecting n spoiled own) = decide address buffer n spoiled own

-- a step of the receiver: the octets that it collected so far, what it hears, and whether its station emits in this
-- step
unfoldable pub receive : (address buffer : List ℕ) → Receiver → Heard → (emits : Bool) → Received
receive address buffer r Nothing emits = ended address buffer r
receive address buffer r (Clean b) emits = hear r true b emits
receive address buffer r Spoiled emits = hear r false false emits

-- the row, and the bits, that a receiver carries
abbrev pub row_in : Receiver → ℕ
row_in Listening = 0
row_in (Readable n) = 0
row_in (Seeking row spoiled own) = row
row_in (Collecting n spoiled own) = 0

abbrev pub bits_in : Receiver → ℕ
bits_in Listening = 0
bits_in (Readable n) = 0
bits_in (Seeking row spoiled own) = 0
bits_in (Collecting n spoiled own) = n
