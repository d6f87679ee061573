-- A receiver over many steps in each of which others are heard, and the bits that it stores (document 01, "One bit
-- time": "A reception is an unbroken stretch of steps in which others are heard."). Each is the fold of the receiver's
-- steps. Assumes nothing.
use Rattle.std.specs.Prelude.{ℕ, ◌+◌, ◌<◌, ◌≡◌, Bool, true, not, ◌||◌, ◌&&◌, List, [], eqb, leb, ltb, get_or, Option}
use Rattle.octets.specs.Base.{pick}
use Rattle.octets.specs.Turns.{turns}
use Rattle.station_symbols.specs.declared.Heard.{Heard}
use Rattle.station_symbols.specs.declared.Heard.TheVariants.{Clean, Spoiled}
use Rattle.station_symbols.specs.Packet.{hears_any, packet_bit}
use Rattle.station_state.specs.declared.Receiver.{Receiver}
use Rattle.station_state.specs.declared.Receiver.TheVariants.{Listening, Readable, Seeking, Collecting}
use Rattle.station_spec.specs.declared.Received.{Received}
use Rattle.station_spec.specs.declared.Stored.{Stored}
use Rattle.station_spec.specs.Receive.{addressed, receive}
use Rattle.area.specs.Area.{arrival_at, with_octet}
use Rattle.bus_spec.specs.BitTime.{with_stored}
use Rattle.frame_build.specs.Limits.{shortest_frame}

-- ---- a receiver, and what it stores in the area

pub record Taken : Type 0 where
  pub receiver : Receiver
  pub octets : List ℕ

abbrev pub taken : Receiver → List ℕ → Taken
taken r x = record { receiver = r; octets = x }

-- what a step leaves of station j
unfoldable pub step_taken : ℕ → Received → List ℕ → Taken
step_taken j o x = taken o.receiver (with_stored j o.stored x)

-- m steps in which station j hears H 0, H 1, .., none of them nothing; e: whether it emits in them. What others are
-- heard to emit is all that the receiver's step looks at (`heard_alone` of ReceivedLaws), so it has no address and no
-- octets here
unfoldable pub heard_all : (j : ℕ) → (e : Bool) → (ℕ → Heard) → (m : ℕ) → Taken → Taken
heard_all j e H m p = turns (λ s q. step_taken j (receive [] [] q.receiver (H s) e) q.octets) m p

-- the receiver alone, and what step s stores
unfoldable pub received_by : (e : Bool) → (ℕ → Heard) → (m : ℕ) → Receiver → Receiver
received_by e H m r = turns (λ s q. (receive [] [] q (H s) e).receiver) m r

unfoldable pub kept_by : (e : Bool) → (ℕ → Heard) → Receiver → (s : ℕ) → Option Stored
kept_by e H r s = (receive [] [] (received_by e H s r) (H s) e).stored

-- ---- what is heard

-- symbols that are spoiled: jam, or several at once
unfoldable pub spoils : ℕ → Heard
spoils s = Spoiled

-- what its own line holds for station j from step u on
unfoldable pub line_from : List ℕ → (j u : ℕ) → ℕ → Heard
line_from x j u s = arrival_at x j (u + s)

-- the bits of a packet from bit a on
unfoldable pub bits_from : List ℕ → (a : ℕ) → ℕ → Heard
bits_from F a s = Clean (packet_bit F (a + s))

-- m steps in which something is heard
unfoldable pub AllHeard : (ℕ → Heard) → (m : ℕ) → Type 0
AllHeard H m = (s : ℕ) → s < m → hears_any (H s) ≡ true

-- ---- octets stored

-- the octets of a frame from octet p on, m of them, as octets q, q + 1, .. of what station j collected
unfoldable pub copied : (j q p m : ℕ) → List ℕ → List ℕ → List ℕ
copied j q p m F x = turns (λ u y. with_octet y j (q + u) (get_or F (p + u) 0)) m x

-- ---- the end of a reception

-- "under 512 collected bits, or the station emitted during it, nothing; destination neither own nor broadcast, nothing;
-- else the opening rules": whether a reception that others are heard in for at most `more` steps from now on could be
-- opened when it ends. Its destination is known from 48 bits on
unfoldable pub may_report : (address buffer : List ℕ) → (more : ℕ) → Receiver → Bool
may_report address buffer more Listening = leb shortest_frame more
may_report address buffer more (Readable n) = leb shortest_frame more
may_report address buffer more (Seeking row spoiled own) = leb shortest_frame more && not own
may_report address buffer more (Collecting n spoiled own) =
    leb shortest_frame (n + more) && (not own && (ltb n 48 || addressed address buffer))

-- ---- nothing is heard

-- "The step after the stretch decides": a reception that reports nothing
unfoldable pub calmed : (m : ℕ) → Receiver → Receiver
calmed m Listening = Listening
calmed m (Readable n) = Readable n
calmed m (Seeking row sp own) = pick (eqb m 0) (Seeking row sp own) Listening
calmed m (Collecting n sp own) = pick (eqb m 0) (Collecting n sp own) Listening
