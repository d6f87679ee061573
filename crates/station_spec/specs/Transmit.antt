-- The transmitter (document 01, "One bit time").
-- Assumes nothing.
use Rattle.std.specs.Prelude.{ℕ, ◌+◌, ◌-◌, ◌*◌, ◌%◌, ◌^◌, min, Bool, true, false, ltb, leb, eqb, Option, None, Some}
use Rattle.octets.specs.Base.{pick}
use Rattle.sheet_layout.specs.declared.Figures.{Figures}
use Rattle.station_spec.specs.declared.TransmitEvent.{TransmitEvent}
use Rattle.station_spec.specs.declared.TransmitEvent.TheVariants.{Collision, Late, Sent, GivenUp}
use Rattle.station_spec.specs.declared.TransmitEvent.TheVariants.{LateEnded}
use Rattle.station_symbols.specs.declared.Emission.{Emission}
use Rattle.station_symbols.specs.declared.Emission.TheVariants.{Rest, PacketBit, JamBit}
use Rattle.station_state.specs.declared.Transmitter.{Transmitter}
use Rattle.station_state.specs.declared.Transmitter.TheVariants.{NoFrame, Waiting, BackingOff, Sending, Heading}
use Rattle.station_state.specs.declared.Transmitter.TheVariants.{Jamming}
use Rattle.station_spec.specs.declared.Transmitted.{Transmitted}

-- whether a frame waits; one in backoff does not
abbrev pub waits : Transmitter → Bool
waits NoFrame = false
waits Waiting = true
waits (BackingOff w) = false
waits (Sending k) = false
waits (Heading k) = false
waits (Jamming n ends) = false

-- the octets of the frame that a station holds: what its record has for them, and 0 where it holds none
abbrev pub octets_held : Transmitter → ℕ → ℕ
octets_held NoFrame z = 0
octets_held Waiting z = z
octets_held (BackingOff w) z = z
octets_held (Sending k) z = z
octets_held (Heading k) z = z
octets_held (Jamming n ends) z = z

-- a step that emits nothing, and one that emits without an event
abbrev pub resting : Transmitter → Transmitted
resting t = record { phase = t; emission = Rest; event = None; drew = false }

abbrev pub emitting : Transmitter → Emission → Option TransmitEvent → Transmitted
emitting t e v = record { phase = t; emission = e; event = v; drew = false }

-- "64 header bits, then 512..12,144": the bits of a packet whose frame has so many octets
abbrev pub packet_length : ℕ → ℕ
packet_length frame = 64 + 8 * frame

-- the bits of the shortest packet
abbrev pub shortest_packet : Figures → ℕ
shortest_packet f = 576

-- "Bit k goes out, header bits through 64 too, then jam bits." `ends`: whether the frame ends after them
unfoldable pub after_bit : (jam k : ℕ) → (ends : Bool) → Transmitter
after_bit jam k ends = pick (ltb k 64) (Heading (k + 1)) (Jamming jam ends)

-- N1: "0, the default, retries; 1 reports lateCollisionError": whether a late collision closes the frame
abbrev pub closes_frame : Figures → Bool
closes_frame f = eqb f.ends 1

-- "The first step of an attempt in which a sending station hears another is its collision, at bit k, and late if k >
-- slot."
unfoldable pub collision : Figures → ℕ → Transmitted
collision f k =
    pick (ltb f.slot k) (emitting (after_bit f.jam k (closes_frame f)) (PacketBit k) (Some (Late k (closes_frame f))))
    (emitting (after_bit f.jam k false) (PacketBit k) (Some (Collision k)))

-- "With no collision, the step of the last bit reports sent", with the attempts. Else the next bit follows.
unfoldable pub send_bit : Figures → (frame n k : ℕ) → (hears : Bool) → Transmitted
send_bit f frame n k hears =
    pick hears (collision f k)
    (pick (eqb k (packet_length frame)) (emitting NoFrame (PacketBit k) (Some (Sent n)))
    (emitting (Sending (k + 1)) (PacketBit k) None))

-- a header bit after a collision
unfoldable pub head_bit : Figures → ℕ → Transmitted
head_bit f k = emitting (after_bit f.jam k false) (PacketBit k) None

-- "2^min(n, backoff limit)"; N6: "Work the range out as a power of two from the attempt and the backoff limit."
unfoldable pub backoff_range : (n backoff : ℕ) → ℕ
backoff_range n backoff = 2 ^ min n backoff

-- "r = draw mod 2^min(n, backoff limit) .., and the frame waits again from slot × r + 1 steps later"
unfoldable pub back_off : Figures → (n draw : ℕ) → Transmitter
back_off f n draw =
    pick (eqb (f.slot * (draw % backoff_range n f.backoff)) 0) Waiting
    (BackingOff (f.slot * (draw % backoff_range n f.backoff)))

-- "At the last jam bit, after attempt n: n = limit reports excessiveCollisionError; else r = .."
unfoldable pub last_jam : Figures → (n draw : ℕ) → Transmitted
last_jam f n draw =
    pick (eqb n f.limit) (emitting NoFrame JamBit (Some (GivenUp n)))
    (record { phase = back_off f n draw; emission = JamBit; event = None; drew = true })

-- N1: "1 reports lateCollisionError at the last jam bit, before the attempt limit is looked at"
unfoldable pub jam_bit : Figures → (n draw left : ℕ) → (ends : Bool) → Transmitted
jam_bit f n draw left ends =
    pick (leb left 1) (pick ends (emitting NoFrame JamBit (Some (LateEnded n))) (last_jam f n draw))
    (emitting (Jamming (left - 1) ends) JamBit None)

-- a step of backoff: after the last of them the frame waits
unfoldable pub backoff_bit : ℕ → Transmitted
backoff_bit left = pick (leb left 1) (resting Waiting) (resting (BackingOff (left - 1)))

-- "It emits packet bit 1 then, one bit a step": a waiting frame that starts
unfoldable pub wait_bit : Figures → (frame n : ℕ) → (start hears : Bool) → Transmitted
wait_bit f frame n start hears = pick start (send_bit f frame n 1 hears) (resting Waiting)

-- a step of the transmitter; n is the attempts of its frame, the one that starts in this step among them
unfoldable pub transmit : Figures → Transmitter → (frame n draw : ℕ) → (start hears : Bool) → Transmitted
transmit f NoFrame frame n draw start hears = resting NoFrame
transmit f Waiting frame n draw start hears = wait_bit f frame n start hears
transmit f (BackingOff w) frame n draw start hears = backoff_bit w
transmit f (Sending k) frame n draw start hears = send_bit f frame n k hears
transmit f (Heading k) frame n draw start hears = head_bit f k
transmit f (Jamming left ends) frame n draw start hears = jam_bit f n draw left ends
