-- Document 01's small cases: "P1 to P8 are rows that one proof covers, about the definitions." One computation, `rows`.
use Rattle.std.specs.Prelude.{ℕ, ◌≡◌, refl, Bool, true, false, List, [], ◌∷◌, ◌++◌, map, replicate}
use Rattle.std.proofs.Math.Bool.{xor}
use Rattle.octets.specs.Base.{some, outside, Answer, refused, accepted}
use Rattle.octets.specs.Bits.{low_bits, bits_of, low_first, packed}
use Rattle.octets.specs.Equal.{equal}
use Rattle.octets.specs.Filled.{listed, filled}
use Rattle.octets.specs.Number.{get, spelled}
use Rattle.frame_crc.specs.Crc.{generator, add, complement_first, remainder, dividend, crc_bits, check_sequence}
use Rattle.frame_build.specs.Limits.{max_data, max_frame, refuses_value, refuses_data}
use Rattle.frame_build.specs.Build.{header, padded, covered, frame_of, built}
use Rattle.frame_open.specs.Open.{destination_of, value_of, data_field, check_wrong, check_error, length_wrong, client_size}
use Rattle.frame_open.specs.Open.{unpadded, opened}
use Rattle.sheet_layout.specs.declared.Figures.{Figures}
use Rattle.sheet_layout.specs.Layout.{tap_at, gap_of, span_of, fits_well}
use Rattle.sheet_layout.specs.Check.{gap1_out, figures_out, address_wrong, refusal_of}
use Rattle.sheet_layout.specs.Fit.{fit_of}
use Rattle.sheet_read.specs.Sheet.{field_at, field, figures_in, tap_in, layout_in}
use Rattle.station_spec.specs.Transmit.{after_bit, collision, backoff_range}
use Rattle.station_spec.specs.Receive.{addressed, open_answer, got_event, readable_after, opening, decide}
use Rattle.station_tally.specs.Words.{transmit_word, transmit_value, receive_word, receive_value, numbers_of}

-- a sheet of two stations so far apart, behind a map and its fields
sheet : List ℕ → ℕ → List ℕ
sheet fields span = fields ++ (2 ∷ 0 ∷ 2 ∷ 0 ∷ 0 ∷ 0 ∷ 0 ∷ 1 ∷ span ∷ 2 ∷ 0 ∷ 0 ∷ 0 ∷ 0 ∷ 2 ∷ [])

-- the figures of a sheet on which all fields are absent
figures : Figures
figures = record { slot = 512; gap1 = 64; gap2 = 32; jam = 32; limit = 16; backoff = 10; ends = 0 }

-- a station's address, and a receive buffer whose first 64 octets are a good frame for that station
address : List ℕ
address = 2 ∷ 0 ∷ 0 ∷ 0 ∷ 0 ∷ 1 ∷ []

buffer : List ℕ
buffer = frame_of address (replicate 6 0) 2048 (replicate 46 0) ++ replicate 1458 255

-- fit: whether the layout of a sheet fits. range: the backoff range after an attempt. collide: the event of a collision
-- at a bit. build: a frame of a length/type value and so many octets of data, all 0. gather: the event of the
-- receiver's decision after so many collected bits, a symbol of them spoiled or none.
data Row : Type 0 where
  fit : (fields : List ℕ) (span : ℕ) → Row
  range : (attempt : ℕ) → Row
  collide : (bit : ℕ) → Row
  build : (value size : ℕ) → Row
  gather : (spoiled : Bool) (bits : ℕ) → Row

-- the answer in document 01's numbers; of an event its word's number and its values (station_spec/Events)
answer : Row → Answer
answer (fit fields span) = fit_of (layout_in (sheet fields span))
answer (range n) = accepted (backoff_range n figures.backoff ∷ [])
answer (collide k) = let e = (collision figures k).event in accepted (numbers_of (transmit_word e) (transmit_value e))
answer (build v n) = (built (replicate 1522 0) (replicate 6 0) (replicate 6 0) v (replicate n 0)).answer
answer (gather spoiled n) =
    let e = (decide address buffer n spoiled false).event in accepted (numbers_of (receive_word e) (receive_value e))

rows :
    map answer
    (fit (0 ∷ []) 208 ∷ fit (0 ∷ []) 209 ∷ fit (8 ∷ 32 ∷ []) 10 ∷ fit (8 ∷ 31 ∷ []) 10
    ∷ range 1 ∷ range 10 ∷ range 11
    ∷ collide 512 ∷ collide 513
    ∷ build 2048 0 ∷ build 2048 46 ∷ build 2048 47 ∷ build 2048 1500 ∷ build 33024 1504 ∷ build 33024 1505
    ∷ build 1500 1500 ∷ build 1500 1499 ∷ build 1501 1500 ∷ build 1535 1500 ∷ build 1536 1500 ∷ build 1536 46
    ∷ build 33025 1501
    ∷ gather false 511 ∷ gather false 512 ∷ gather true 512
    ∷ gather false 519 ∷ [])
    -- P1: span 208 fits with absent fields, 209 not
    ≡ accepted (1 ∷ []) ∷ accepted (0 ∷ [])
    -- P2: jam 32 fits with G 96, jam 31 not
    ∷ accepted (1 ∷ []) ∷ accepted (0 ∷ [])
    -- P3: ranges after attempts 1, 10, 11: 2, 1024, 1024
    ∷ accepted (2 ∷ []) ∷ accepted (1024 ∷ []) ∷ accepted (1024 ∷ [])
    -- P4: bit 512 not late (a collision), 513 late
    ∷ accepted (1 ∷ 512 ∷ []) ∷ accepted (2 ∷ 513 ∷ [])
    -- P5: data of 0, 46, 47, 1500 octets: frames 64, 64, 65, 1518; with the tag value 1504: 1522, 1505: refused (N3)
    ∷ accepted (64 ∷ []) ∷ accepted (64 ∷ []) ∷ accepted (65 ∷ []) ∷ accepted (1518 ∷ [])
    ∷ accepted (1522 ∷ []) ∷ refused 11
    -- P6: values 1500, 1501, 1535, 1536: length (which must be the data's), refused, refused, type (with any data);
    -- 8101 hexadecimal is no tag, 1501: refused (N3)
    ∷ accepted (1518 ∷ []) ∷ refused 11 ∷ refused 11 ∷ refused 11 ∷ accepted (1518 ∷ []) ∷ accepted (64 ∷ [])
    ∷ refused 11
    -- P7: 511 bits: nothing; 512: a status (receiveOK with 46 octets; where a symbol is spoiled the check is wrong, of
    -- 64 octets)
    ∷ accepted (0 ∷ []) ∷ accepted (6 ∷ 46 ∷ []) ∷ accepted (9 ∷ 64 ∷ [])
    -- P8: 519 bits, good check: receiveOK
    ∷ accepted (6 ∷ 46 ∷ []) ∷ []
unfolding sheet figures address buffer answer some outside equal get spelled listed filled low_bits bits_of low_first packed generator add complement_first remainder dividend crc_bits check_sequence max_data max_frame refuses_value refuses_data header padded covered frame_of built destination_of value_of data_field check_wrong check_error length_wrong client_size unpadded opened tap_at gap_of span_of fits_well gap1_out figures_out address_wrong refusal_of fit_of field_at field figures_in tap_in layout_in after_bit collision backoff_range addressed open_answer got_event readable_after opening decide xor
rows = refl
