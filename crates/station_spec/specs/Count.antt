-- Counters (document 01, "Counters, 32 bits, per station"), sixteen in the document's order; then N1's.
-- Assumes nothing.
use Rattle.std.specs.Prelude.{ℕ, ◌+◌, ◌-◌, min, Bool, ◌&&◌, List, leb, eqb, get_or, set, Option, None, Some}
use Rattle.octets.specs.Base.{pick}
use Rattle.station_state.specs.declared.Receiver.{Receiver}
use Rattle.station_state.specs.declared.Receiver.TheVariants.{Listening, Readable, Seeking, Collecting}
use Rattle.station_spec.specs.declared.Stepped.{Stepped}
use Rattle.station_spec.specs.declared.TransmitEvent.{TransmitEvent}
use Rattle.station_spec.specs.declared.TransmitEvent.TheVariants.{Collision, Late, Sent, GivenUp}
use Rattle.station_spec.specs.declared.TransmitEvent.TheVariants.{LateEnded}
use Rattle.station_spec.specs.declared.ReceiveEvent.{ReceiveEvent}
use Rattle.station_spec.specs.declared.ReceiveEvent.TheVariants.{GotOk, GotTooLong, GotAlignment}
use Rattle.station_spec.specs.declared.ReceiveEvent.TheVariants.{GotCheck, GotLength}

-- "Offered, attempts, collisions, late (also counted as collisions), sent, sent after one collision, sent after
-- several, octets sent (data and pad), deferred .., excessive, received, octets received (data and pad), and one each
-- for the four receive errors."
abbrev pub offered : ℕ
offered = 0

abbrev pub attempts : ℕ
attempts = 1

abbrev pub collisions : ℕ
collisions = 2

abbrev pub late : ℕ
late = 3

abbrev pub sent : ℕ
sent = 4

abbrev pub sent_after_one : ℕ
sent_after_one = 5

abbrev pub sent_after_several : ℕ
sent_after_several = 6

abbrev pub octets_sent : ℕ
octets_sent = 7

abbrev pub deferred_frames : ℕ
deferred_frames = 8

abbrev pub excessive : ℕ
excessive = 9

abbrev pub received : ℕ
received = 10

abbrev pub octets_received : ℕ
octets_received = 11

abbrev pub too_long : ℕ
too_long = 12

abbrev pub check_errors : ℕ
check_errors = 13

abbrev pub alignment_errors : ℕ
alignment_errors = 14

abbrev pub length_errors : ℕ
length_errors = 15

-- N1: "It gets a counter"
abbrev pub late_ended : ℕ
late_ended = 16

-- "A counter that would pass its top stops at it."
abbrev pub top : ℕ
top = 4294967295

-- counter k with n more
unfoldable pub added : List ℕ → (k n : ℕ) → List ℕ
added cs k n = set cs k (min (get_or cs k 0 + n) top)

-- counter k with one more where the test holds
unfoldable pub added_if : Bool → List ℕ → ℕ → List ℕ
added_if b cs k = pick b (added cs k 1) cs

-- a frame of z octets is sent after n attempts: data and pad are the frame less 18. N2: "a frame counts as deferred if
-- it did not start in its first step and was sent on its first attempt"
unfoldable pub count_sent : List ℕ → (n z : ℕ) → (wasDeferred : Bool) → List ℕ
count_sent cs n z wasDeferred =
    added_if (wasDeferred && eqb n 1)
    (added_if (leb 3 n)
    (added_if (eqb n 2)
    (added (added cs sent 1) octets_sent (z - 18))
    sent_after_one)
    sent_after_several)
    deferred_frames

-- what a transmit event adds, of a frame of z octets
unfoldable pub count_transmit : List ℕ → Option TransmitEvent → (z : ℕ) → (wasDeferred : Bool) → List ℕ
count_transmit cs None z wasDeferred = cs
count_transmit cs (Some (Collision k)) z wasDeferred = added cs collisions 1
count_transmit cs (Some (Late k closes)) z wasDeferred = added (added cs collisions 1) late 1
count_transmit cs (Some (Sent n)) z wasDeferred = count_sent cs n z wasDeferred
count_transmit cs (Some (GivenUp n)) z wasDeferred = added cs excessive 1
count_transmit cs (Some (LateEnded n)) z wasDeferred = added cs late_ended 1

-- what a receive event adds, of a frame of z octets
unfoldable pub count_receive : List ℕ → Option ReceiveEvent → (z : ℕ) → List ℕ
count_receive cs None z = cs
count_receive cs (Some (GotOk n)) z = added (added cs received 1) octets_received (z - 18)
count_receive cs (Some (GotTooLong n)) z = added cs too_long 1
count_receive cs (Some (GotAlignment n)) z = added cs alignment_errors 1
count_receive cs (Some (GotCheck n)) z = added cs check_errors 1
count_receive cs (Some (GotLength n)) z = added cs length_errors 1

-- the octets of a frame that can be read
abbrev pub octets_in : Receiver → ℕ
octets_in Listening = 0
octets_in (Readable n) = n
octets_in (Seeking row spoiled own) = 0
octets_in (Collecting n spoiled own) = 0

-- What a step adds: its start an attempt, its transmit event, its receive event, of the frame that it leaves to be
-- read.
unfoldable pub counted : List ℕ → Stepped → List ℕ
counted cs o =
    count_receive
    (count_transmit (added_if o.start cs attempts) o.sent o.station.frame o.station.deferred)
    o.got
    (octets_in o.station.receiver)
