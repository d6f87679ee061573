-- The BitReceiver process (4.2.9). Assumes nothing.
use Rattle.std.specs.Prelude.{◌+◌, ◌-◌, Bool, true, false, not, List, [], ◌∷◌, eqb}
use Rattle.octets.specs.Base.{pick}
use Rattle.standard.specs.Language.{Test, Statement, ◌≔◌, ◌≔#◌, keep, row, skip, ◌⨾◌, test, while, repeat}
use Rattle.standard.specs.Language.{cycle, call, await, bit, over, flag, number, receiving, spoiled, overlapped}
use Rattle.standard.specs.Language.{current_receive_bit, frame_size}
use Rattle.standard.specs.Reading.{carrier_heard, bit_of, next_symbols, note_symbol, kept_bit}

-- ---- PhysicalSignalDecap (4.2.9): symbols are passed over until the delimiter is found

-- 10101011, the newest symbol first
abbrev pub delimiter : List Bool
delimiter = true ∷ true ∷ false ∷ true ∷ false ∷ true ∷ false ∷ true ∷ []

abbrev pub same_bit : Bool → Bool → Bool
same_bit true b = b
same_bit false b = not b

abbrev pub same_bits : List Bool → List Bool → Bool
same_bits [] [] = true
same_bits [] (y ∷ u) = false
same_bits (x ∷ w) [] = false
same_bits (x ∷ w) (y ∷ u) = pick (same_bit x y) (same_bits w u) false

abbrev pub forget : Statement
forget = spoiled ≔ (λ s. false) ⨾ overlapped ≔ (λ s. false) ⨾ row (λ s. [])

abbrev pub seek_symbol : Statement
seek_symbol =
    test carrier_heard (note_symbol ⨾ row (λ s. next_symbols s.signals.heard s.reception.row)) forget

abbrev pub is_delimiter : Test
is_delimiter s = same_bits s.reception.row delimiter

abbrev pub physical_signal_decap : Statement
physical_signal_decap = forget ⨾ repeat (await bit ⨾ seek_symbol) is_delimiter

-- ---- BitReceiver (4.2.9)

abbrev pub append_bit : Statement
append_bit =
    note_symbol ⨾
    keep (λ s. kept_bit (number current_receive_bit s - 1) (bit_of s.signals.heard)) ⨾
    current_receive_bit ≔# (λ s. number current_receive_bit s + 1)

abbrev pub take_bit : Statement
take_bit = test carrier_heard append_bit skip ⨾ receiving ≔ carrier_heard

abbrev pub receive_bits : Statement
receive_bits =
    while (flag receiving)
    (test (λ s. eqb (number current_receive_bit s) 1) (call physical_signal_decap) skip ⨾ await bit ⨾ take_bit)

abbrev pub close_frame : Statement
close_frame = frame_size ≔# (λ s. number current_receive_bit s - 1) ⨾ await over

abbrev pub bit_receiver : Statement
bit_receiver = cycle (receive_bits ⨾ close_frame)
