-- The frame receiver's process (4.2.9): ReceiveFrame and what it calls. Assumes nothing.
use Rattle.std.specs.Prelude.{ℕ, ◌-◌, ◌/◌, ◌%◌, true, not, ◌||◌, ◌&&◌, List, ltb, leb, eqb, length, take, replicate}
use Rattle.octets.specs.Equal.{equal}
use Rattle.frame_build.specs.Limits.{buffer_octets, shortest_frame, max_frame}
use Rattle.frame_open.specs.Open.{destination_of, value_of, data_field, check_wrong, length_wrong, client_size}
use Rattle.station_spec.specs.declared.ReceiveEvent.TheVariants.{GotOk, GotTooLong, GotAlignment, GotCheck}
use Rattle.station_spec.specs.declared.ReceiveEvent.TheVariants.{GotLength}
use Rattle.standard.specs.Language.{Store, Test, Statement, ◌≔◌, ◌≔#◌, hand, skip, ◌⨾◌, test, while, repeat}
use Rattle.standard.specs.Language.{cycle, call, await, over, flag, number, receiving, receive_succeeding}
use Rattle.standard.specs.Language.{spoiled, overlapped, current_receive_bit, frame_size, excess_bits}

-- ---- StartReceive and ReceiveLinkMgmt (4.2.9)

abbrev pub start_receive : Statement
start_receive = current_receive_bit ≔# (λ s. 1) ⨾ receiving ≔ (λ s. true)

abbrev pub while_receiving : Statement
while_receiving = while (flag receiving) (await over)

abbrev pub truncate : Statement
truncate =
    excess_bits ≔# (λ s. number frame_size s % 8) ⨾
    frame_size ≔# (λ s. number frame_size s - number excess_bits s) ⨾
    receive_succeeding ≔ (λ s. leb shortest_frame (number frame_size s) && not (flag overlapped s))

abbrev pub receive_link_mgmt : Statement
receive_link_mgmt = repeat (call start_receive ⨾ while_receiving ⨾ truncate) (flag receive_succeeding)

-- ---- RecognizeAddress and ReceiveDataDecap (4.2.9)

-- the whole octets of the frame, and their number
abbrev pub octets_of : Store → ℕ
octets_of s = number frame_size s / 8

abbrev pub frame_of : Store → List ℕ
frame_of s = take (octets_of s) s.reception.incoming

abbrev pub recognize_address : List ℕ → Test
recognize_address address s =
    equal (destination_of s.reception.incoming) address
    || equal (destination_of s.reception.incoming) (replicate 6 255)

abbrev pub exceeds_max_length : Test
exceeds_max_length s = ltb buffer_octets (octets_of s) || ltb (max_frame (value_of (frame_of s))) (octets_of s)

abbrev pub fcs_valid : Test
fcs_valid s = not (check_wrong (flag spoiled s) (frame_of s))

abbrev pub valid_length : Test
valid_length s = not (length_wrong (value_of (frame_of s)) (length (data_field (frame_of s))))

abbrev pub disassemble : Statement
disassemble =
    test exceeds_max_length (hand (λ s. GotTooLong (octets_of s)))
    (test fcs_valid
    (test valid_length (hand (λ s. GotOk (client_size (value_of (frame_of s)) (length (data_field (frame_of s))))))
    (hand (λ s. GotLength (octets_of s))))
    (test (λ s. eqb (number excess_bits s) 0) (hand (λ s. GotCheck (octets_of s)))
    (hand (λ s. GotAlignment (octets_of s)))))

abbrev pub receive_data_decap : List ℕ → Statement
receive_data_decap address =
    receive_succeeding ≔ recognize_address address ⨾ test (flag receive_succeeding) disassemble skip

-- ---- ReceiveFrame (4.2.9), and the client that calls it

abbrev pub receive_frame : List ℕ → Statement
receive_frame address = repeat (call receive_link_mgmt ⨾ call (receive_data_decap address)) (flag receive_succeeding)

abbrev pub frame_receiver : List ℕ → Statement
frame_receiver address = cycle (call (receive_frame address))
