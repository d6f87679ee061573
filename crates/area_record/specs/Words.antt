-- The words of a station's record, by their names; the table is in src/lib.rt. Assumes nothing.
use Rattle.std.specs.Prelude.{ℕ}

-- deference: 0 quiet, 1 busy, 2 gap
abbrev pub deference_word : ℕ
deference_word = 0

-- own emission in the busy stretch
abbrev pub stretch_word : ℕ
stretch_word = 1

-- gap count
abbrev pub gap_word : ℕ
gap_word = 2

-- the transmitter's phase
abbrev pub phase_word : ℕ
phase_word = 3

-- its number
abbrev pub phase_number_word : ℕ
phase_number_word = 4

-- the receiver's state
abbrev pub receiver_word : ℕ
receiver_word = 5

-- its number
abbrev pub receiver_number_word : ℕ
receiver_number_word = 6

-- a symbol of the reception was spoiled
abbrev pub spoiled_word : ℕ
spoiled_word = 7

-- own emission in the reception
abbrev pub reception_word : ℕ
reception_word = 8

-- octets of the frame held
abbrev pub frame_word : ℕ
frame_word = 9

-- its attempts
abbrev pub attempts_word : ℕ
attempts_word = 10

-- place of the next draw
abbrev pub draw_word : ℕ
draw_word = 11

-- the frame did not start in its first step
abbrev pub deferred_word : ℕ
deferred_word = 12

-- emitted in the last step
abbrev pub emitted_word : ℕ
emitted_word = 13

-- how many they are
abbrev pub record_words : ℕ
record_words = 14
