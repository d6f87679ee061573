-- The frame transmitter's process (4.2.8): TransmitFrame and what it calls. Assumes nothing.
use Rattle.std.specs.Prelude.{◌+◌, ◌*◌, true, false, not, ◌&&◌, ltb, leb, eqb}
use Rattle.sheet_layout.specs.declared.Figures.{Figures}
use Rattle.station_spec.specs.declared.TransmitEvent.TheVariants.{Collision, Late, Sent, GivenUp, LateEnded}
use Rattle.station_spec.specs.Transmit.{closes_frame}
use Rattle.standard.specs.Language.{Test, Term, Statement, ◌≔◌, ◌≔#◌, report, skip, ◌⨾◌, test, while, repeat}
use Rattle.standard.specs.Language.{cycle, call, await, offer, look, bit, over, flag, number, deferring}
use Rattle.standard.specs.Language.{frame_waiting, transmitting, transmit_succeeding, new_collision}
use Rattle.standard.specs.Language.{late_collision_error, jamming, deferred, attempts, current_transmit_bit}
use Rattle.standard.specs.Language.{last_transmit_bit, last_header_bit, header_bits, max_back_off, late_collision_count}
use Rattle.standard.specs.Language.{outgoing_size, wait_left}
use Rattle.standard.specs.Reading.{collision_detect, random, next_draw, wait_out}

-- ---- WatchForCollision (4.2.8)

-- the number in its packet of the bit that goes out
abbrev pub packet_bit_now : Term
packet_bit_now s = number header_bits s + number current_transmit_bit s

abbrev pub is_late : Figures → Test
is_late f s = ltb f.slot (packet_bit_now s)

abbrev pub collide : Figures → Statement
collide f =
    test (is_late f) (late_collision_error ≔ (λ s. true) ⨾ report (λ s. Late (packet_bit_now s) (closes_frame f)))
    (report (λ s. Collision (packet_bit_now s))) ⨾
    new_collision ≔ (λ s. true) ⨾
    transmit_succeeding ≔ (λ s. false)

abbrev pub watch_now : Figures → Statement
watch_now f = test (λ s. flag transmit_succeeding s && collision_detect s) (collide f) skip ⨾ await over

abbrev pub watch_for_collision : Figures → Statement
watch_for_collision f = await bit ⨾ watch_now f

-- ---- StartTransmit (4.2.8)

abbrev pub start_transmit : Statement
start_transmit =
    current_transmit_bit ≔# (λ s. 1) ⨾
    last_transmit_bit ≔# (λ s. 8 * number outgoing_size s) ⨾
    transmit_succeeding ≔ (λ s. true) ⨾
    transmitting ≔ (λ s. true) ⨾
    last_header_bit ≔# (λ s. 64) ⨾
    header_bits ≔# (λ s. 0) ⨾
    jamming ≔ (λ s. false)

-- ---- BackOff (4.2.8)

abbrev pub back_off : Figures → Statement
back_off f =
    test (λ s. eqb (number attempts s) 1) (max_back_off ≔# (λ s. 2))
    (test (λ s. leb (number attempts s) f.backoff) (max_back_off ≔# (λ s. number max_back_off s * 2)) skip) ⨾
    wait_left ≔# (λ s. f.slot * random s) ⨾
    next_draw ⨾
    wait_out

-- ---- TransmitLinkMgmt (4.2.8)

-- the option to end after a late collision
abbrev pub late_end : Figures → Test
late_end f s = closes_frame f && ltb 0 (number late_collision_count s)

abbrev pub while_deferring : Statement
while_deferring = while (flag deferring) (deferred ≔ (λ s. true) ⨾ await look)

abbrev pub watching : Figures → Statement
watching f = while (flag transmitting) (call (watch_for_collision f))

abbrev pub counting : Statement
counting =
    test (flag late_collision_error) (late_collision_count ≔# (λ s. number late_collision_count s + 1)) skip ⨾
    attempts ≔# (λ s. number attempts s + 1)

abbrev pub send_frame : Figures → Statement
send_frame f = frame_waiting ≔ (λ s. false) ⨾ call start_transmit ⨾ watching f ⨾ counting

abbrev pub await_medium : Figures → Statement
await_medium f =
    frame_waiting ≔ (λ s. true) ⨾
    late_collision_error ≔ (λ s. false) ⨾
    (await look ⨾ while_deferring) ⨾
    send_frame f

abbrev pub trying : Figures → Statement
trying f =
    while (λ s. (ltb (number attempts s) f.limit && not (flag transmit_succeeding s)) && not (late_end f s))
    (test (λ s. ltb 0 (number attempts s)) (call (back_off f)) skip ⨾ await_medium f)

abbrev pub status : Figures → Statement
status f =
    test (flag transmit_succeeding) (report (λ s. Sent (number attempts s)))
    (test (late_end f) (report (λ s. LateEnded (number attempts s))) (report (λ s. GivenUp (number attempts s))))

abbrev pub transmit_link_mgmt : Figures → Statement
transmit_link_mgmt f =
    attempts ≔# (λ s. 0) ⨾
    transmit_succeeding ≔ (λ s. false) ⨾
    late_collision_count ≔# (λ s. 0) ⨾
    deferred ≔ (λ s. false) ⨾
    trying f ⨾
    status f

-- ---- TransmitDataEncap and TransmitFrame (4.2.8), and the client that calls it

abbrev pub transmit_data_encap : Statement
transmit_data_encap = outgoing_size ≔# (λ s. s.signals.offered)

abbrev pub transmit_frame : Figures → Statement
transmit_frame f = call transmit_data_encap ⨾ call (transmit_link_mgmt f)

abbrev pub is_offered : Test
is_offered s = ltb 0 s.signals.offered

abbrev pub frame_transmitter : Figures → Statement
frame_transmitter f = cycle (repeat (await offer) is_offered ⨾ call (transmit_frame f))
