-- Opening a frame (document 01, "Frames"): f are its octets, e its excess bits.
-- The laws are in OpenLaws, the round trip with the builder in RoundTrip. Assumes nothing.
use Rattle.std.specs.Prelude.{ℕ, ◌-◌, max, Result, Bool, not, ◌||◌, List, [], ◌∷◌, ltb, leb, eqb, length, take, drop}
use Rattle.octets.specs.Base.{pick, Answer, refused, accepted, values_of, answer_by}
use Rattle.octets.specs.declared.Refusal.{Refusal}
use Rattle.octets.specs.Equal.{equal}
use Rattle.octets.specs.Number.{get}
use Rattle.octets.specs.Store.{part}
use Rattle.frame_crc.specs.Crc.{check_sequence}
use Rattle.frame_build.specs.Limits.{min_data, min_frame, max_frame, max_length, min_type}
use Rattle.frame_open.specs.declared.ReceiveStatus.{ReceiveStatus}
use Rattle.frame_open.specs.declared.ReceiveStatus.TheVariants.{Fragment, FrameTooLong, FrameCheckError}
use Rattle.frame_open.specs.declared.ReceiveStatus.TheVariants.{AlignmentError, LengthError, ReceiveOk}

-- ---- the fields

-- "Destination 6, source 6, length/type 2 (high octet first), data .., check sequence 4"
unfoldable pub destination_of : List ℕ → List ℕ
destination_of f = part f 0 6

unfoldable pub source_of : List ℕ → List ℕ
source_of f = part f 6 6

unfoldable pub value_of : List ℕ → ℕ
value_of f = get 2 f 12

-- the data with their padding: all between the length/type field and the check sequence
unfoldable pub data_field : List ℕ → List ℕ
data_field f = part f 14 (length f - 18)

-- ---- the statuses, numbered in the order in which document 01 has them; receiveOK with the octets of client data

abbrev pub fragment : Answer
fragment = accepted (0 ∷ [])

abbrev pub frame_too_long : Answer
frame_too_long = accepted (1 ∷ [])

abbrev pub frame_check_error : Answer
frame_check_error = accepted (2 ∷ [])

abbrev pub alignment_error : Answer
alignment_error = accepted (3 ∷ [])

abbrev pub length_error : Answer
length_error = accepted (4 ∷ [])

abbrev pub receive_ok : ℕ → Answer
receive_ok n = accepted (5 ∷ n ∷ [])

-- the values of each status
abbrev pub status_values : ReceiveStatus → List ℕ
status_values Fragment = values_of fragment
status_values FrameTooLong = values_of frame_too_long
status_values FrameCheckError = values_of frame_check_error
status_values AlignmentError = values_of alignment_error
status_values LengthError = values_of length_error
status_values (ReceiveOk n) = values_of (receive_ok n)

-- what the code's answer stands for
abbrev pub status_answer : Result ReceiveStatus Refusal → Answer
status_answer r = answer_by status_values r

-- what opening gives: the status, and the client data, which are none but with receiveOK
pub record Opening : Type 0 where
  pub status : Answer
  pub client_data : List ℕ

abbrev pub without : Answer → Opening
without r = record { status = r; client_data = [] }

-- ---- the rules

-- "check wrong": the last four octets are not the check sequence of those before them. Of a reception in which a symbol
-- was spoiled the check is wrong whatever its octets are.
unfoldable pub check_wrong : (spoiled : Bool) (f : List ℕ) → Bool
check_wrong spoiled f = spoiled || not (equal (drop (length f - 4) f) (check_sequence (take (length f - 4) f)))

-- "frameCheckError without excess bits, else alignmentError"
unfoldable pub check_error : ℕ → Answer
check_error e = pick (eqb e 0) frame_check_error alignment_error

-- "a value up to 1500 whose data field is not max(46, value) octets, or a value 1501..1535, lengthError"; n octets of
-- data field
unfoldable pub length_wrong : (value n : ℕ) → Bool
length_wrong v n = pick (leb v max_length) (not (eqb n (max min_data v))) (ltb v min_type)

-- "the first `value` octets for a length, all data for a type"
unfoldable pub client_size : (value n : ℕ) → ℕ
client_size v n = pick (leb v max_length) v n

-- the length and padding rules, of a value and a data field
unfoldable pub unpadded : (value : ℕ) (field : List ℕ) → Opening
unpadded v field =
    pick (length_wrong v (length field)) (without length_error)
    (record { status = receive_ok (client_size v (length field)); client_data = take (client_size v (length field)) field })

-- "Order: under 64 octets is a fragment; over 1518, frameTooLong; check wrong ..; .. lengthError; else receiveOK."
-- With N3 the value decides how many are too many. Before them refusal 5: "so too excess bits over 7". "Excess bits with a good check are dropped."
unfoldable pub opened : (spoiled : Bool) (f : List ℕ) (e : ℕ) → Opening
opened spoiled f e =
    pick (ltb 7 e) (without (refused 5))
    (pick (ltb (length f) min_frame) (without fragment)
    (pick (ltb (max_frame (value_of f)) (length f)) (without frame_too_long)
    (pick (check_wrong spoiled f) (without (check_error e))
    (unpadded (value_of f) (data_field f)))))
