-- The BitTransmitter process (4.2.8). Assumes nothing.
use Rattle.std.specs.Prelude.{◌+◌, true, false, leb}
use Rattle.octets.specs.Base.{pick}
use Rattle.sheet_layout.specs.declared.Figures.{Figures}
use Rattle.station_symbols.specs.declared.Emission.{Emission}
use Rattle.station_symbols.specs.declared.Emission.TheVariants.{PacketBit, JamBit}
use Rattle.standard.specs.Language.{Store, Statement, ◌≔◌, ◌≔#◌, ◌⨾◌, test, while, cycle, call, await, look}
use Rattle.standard.specs.Language.{flag, number, transmitting, new_collision, jamming, current_transmit_bit}
use Rattle.standard.specs.Language.{last_transmit_bit, last_header_bit, header_bits}
use Rattle.standard.specs.Reading.{transmit_bit}

abbrev pub header_bit : Store → Emission
header_bit s = PacketBit (number current_transmit_bit s)

abbrev pub frame_bit : Store → Emission
frame_bit s = pick (flag jamming s) JamBit (PacketBit (number header_bits s + number current_transmit_bit s))

-- ---- StartJam and NextBit (4.2.8)

abbrev pub start_jam : Figures → Statement
start_jam f =
    current_transmit_bit ≔# (λ s. 1) ⨾
    last_transmit_bit ≔# (λ s. f.jam) ⨾
    new_collision ≔ (λ s. false) ⨾
    jamming ≔ (λ s. true)

abbrev pub next_bit : Statement
next_bit =
    current_transmit_bit ≔# (λ s. number current_transmit_bit s + 1) ⨾
    transmitting ≔ (λ s. leb (number current_transmit_bit s) (number last_transmit_bit s))

-- ---- PhysicalSignalEncap (4.2.8)

abbrev pub send_header : Statement
send_header =
    while (λ s. leb (number current_transmit_bit s) (number last_header_bit s))
    (transmit_bit header_bit ⨾ current_transmit_bit ≔# (λ s. number current_transmit_bit s + 1))

abbrev pub behind_header : Figures → Statement
behind_header f =
    test (flag new_collision) (call (start_jam f))
    (current_transmit_bit ≔# (λ s. 1) ⨾ header_bits ≔# (λ s. number last_header_bit s))

abbrev pub physical_signal_encap : Figures → Statement
physical_signal_encap f = send_header ⨾ behind_header f

-- ---- BitTransmitter (4.2.8)

abbrev pub behind_bit : Figures → Statement
behind_bit f = test (flag new_collision) (call (start_jam f)) (call next_bit)

abbrev pub send_frame_bits : Figures → Statement
send_frame_bits f = while (flag transmitting) (transmit_bit frame_bit ⨾ behind_bit f)

abbrev pub bit_transmitter : Figures → Statement
bit_transmitter f =
    cycle (test (flag transmitting) (call (physical_signal_encap f) ⨾ send_frame_bits f) (await look))
