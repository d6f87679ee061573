-- A station after m steps of one kind, in closed form: others are heard and it emits nothing; nothing is heard and it
-- emits nothing; it emits in each of them. And how many steps each lasts (document 01, "One bit time"). Assumes
-- nothing.
use Rattle.std.specs.Prelude.{ℕ, ◌+◌, ◌-◌, max, Bool, true, false, not, ◌||◌, ◌&&◌, eqb, leb}
use Rattle.octets.specs.Base.{pick}
use Rattle.sheet_layout.specs.declared.Figures.{Figures}
use Rattle.sheet_layout.specs.Layout.{gap_of}
use Rattle.station_symbols.specs.declared.Emission.{Emission}
use Rattle.station_symbols.specs.declared.Emission.TheVariants.{Rest, PacketBit, JamBit}
use Rattle.station_state.specs.declared.Deference.{Deference}
use Rattle.station_state.specs.declared.Deference.TheVariants.{Quiet, Busy, Gap}
use Rattle.station_state.specs.declared.Transmitter.{Transmitter}
use Rattle.station_state.specs.declared.Transmitter.TheVariants.{NoFrame, Waiting, BackingOff, Sending, Heading}
use Rattle.station_state.specs.declared.Transmitter.TheVariants.{Jamming}
use Rattle.station_state.specs.declared.Receiver.{Receiver}
use Rattle.station_state.specs.declared.Station.{Station}
use Rattle.station_spec.specs.Defer.{goes_back}
use Rattle.station_spec.specs.Transmit.{packet_length}
use Rattle.fast_silence.specs.Bound.{idle}
use Rattle.fast_silence.specs.Rested.{rested_deference, rested_transmitter, has_waited}
use Rattle.fast_receive.specs.Received.{calmed}

-- a station whose deference, transmitter, receiver and flags have changed
unfoldable pub made : Station → Deference → Transmitter → Receiver → (deferred emitted : Bool) → Station
made s d x r df e =
    record {
      address = s.address;
      deference = d;
      transmitter = x;
      receiver = r;
      frame = s.frame;
      attempts = s.attempts;
      draw = s.draw;
      deferred = df;
      emitted = e;
    }

-- "deferred (sent frames that did not start in their first step)": after m steps in which none starts
unfoldable pub deferred_by : ℕ → Station → Bool
deferred_by m s = s.deferred || (eqb s.attempts 0 && has_waited m s.transmitter)

-- ---- others are heard in each of m steps, and the station emits nothing

-- "Gap, count n < G: if others are heard, n < gap1 and the station did not emit in the stretch, back to busy; else n +
-- 1." "Gap, count G: quiet. .. with none waiting, the quiet rule applies": others are heard, so it goes to busy.
unfoldable pub heard_gap : Figures → (m n : ℕ) → (own : Bool) → Deference
heard_gap f m n own =
    pick (goes_back f.gap1 n own true) (Busy false) (pick (leb (n + m) (gap_of f)) (Gap (n + m) own) (Busy false))

-- "Quiet: if busy, go to busy." "Busy: stay while busy."
unfoldable pub heard_deference : Figures → (m : ℕ) → Deference → Deference
heard_deference f m Quiet = pick (eqb m 0) Quiet (Busy false)
heard_deference f m (Busy own) = Busy own
heard_deference f m (Gap n own) = pick (eqb m 0) (Gap n own) (heard_gap f m n own)

-- the steps, of m, in which a frame that waits does not start: "Gap, count G .. A waiting frame starts in this step,
-- carrier or none"
unfoldable pub heard_for : Figures → (m : ℕ) → Deference → ℕ
heard_for f m Quiet = m
heard_for f m (Busy own) = m
heard_for f m (Gap n own) = pick (goes_back f.gap1 n own true) m (gap_of f - n)

-- the steps, of m, in which no frame starts and none goes out
unfoldable pub heard_rest : Figures → (m : ℕ) → Deference → Transmitter → ℕ
heard_rest f m d NoFrame = m
heard_rest f m d Waiting = heard_for f m d
heard_rest f m d (BackingOff w) = max w (heard_for f m d)
heard_rest f m d (Sending k) = 0
heard_rest f m d (Heading k) = 0
heard_rest f m d (Jamming l ends) = 0

-- the station then, with its receiver r
unfoldable pub hear_on : Figures → (m : ℕ) → Receiver → Station → Station
hear_on f m r s =
    made s (heard_deference f m s.deference) (rested_transmitter m s.transmitter) r (deferred_by m s) false

-- ---- nothing is heard in each of m steps, and the station emits nothing

unfoldable pub rest_on : Figures → (m : ℕ) → Station → Station
rest_on f m s =
    made s (rested_deference f m s.deference) (rested_transmitter m s.transmitter) (calmed m s.receiver)
    (deferred_by m s) false

-- ---- the station emits in each of m steps, as in the step before them

-- "It emits packet bit 1 then, one bit a step." "Bit k goes out, header bits through 64 too, then jam bits."
unfoldable pub emits_on : Figures → (m : ℕ) → Transmitter → Transmitter
emits_on f m NoFrame = NoFrame
emits_on f m Waiting = Waiting
emits_on f m (BackingOff w) = BackingOff w
emits_on f m (Sending k) = Sending (k + m)
emits_on f m (Heading k) = pick (leb (k + m) 64) (Heading (k + m)) (Jamming f.jam false)
emits_on f m (Jamming l ends) = Jamming (l - m) ends

-- what goes out in step m
unfoldable pub emitted_at : (m : ℕ) → Transmitter → Emission
emitted_at m NoFrame = Rest
emitted_at m Waiting = Rest
emitted_at m (BackingOff w) = Rest
emitted_at m (Sending k) = PacketBit (k + m)
emitted_at m (Heading k) = PacketBit (k + m)
emitted_at m (Jamming l ends) = JamBit

-- the steps through which it emits without an event, a draw or a change of what it emits; z the octets of its frame
unfoldable pub emits_for : (z : ℕ) → Transmitter → ℕ
emits_for z NoFrame = 0
emits_for z Waiting = 0
emits_for z (BackingOff w) = 0
emits_for z (Sending k) = packet_length z - k
emits_for z (Heading k) = 65 - k
emits_for z (Jamming l ends) = l - 1

-- busy, in a stretch in which it emitted
unfoldable pub own_busy : Deference → Bool
own_busy Quiet = false
own_busy (Busy own) = own
own_busy (Gap n own) = false

unfoldable pub sends : Transmitter → Bool
sends NoFrame = false
sends Waiting = false
sends (BackingOff w) = false
sends (Sending k) = true
sends (Heading k) = false
sends (Jamming n ends) = false

-- others heard, where h, make no collision; nothing heard ends no reception of it
unfoldable pub unhurt : (h : Bool) → Receiver → Transmitter → Bool
unhurt h r x = pick h (not (sends x)) (idle r)

-- it emits as in the step before, and goes on
unfoldable pub keeps_emitting : (h : Bool) → Station → Bool
keeps_emitting h s = s.emitted && (own_busy s.deference && unhurt h s.receiver s.transmitter)

-- the station then, with its receiver r
unfoldable pub emit_on : Figures → (m : ℕ) → Receiver → Station → Station
emit_on f m r s = made s (Busy true) (emits_on f m s.transmitter) r s.deferred true
