-- The sizes of frames (document 01, "Frames", and refusal 11). Assumes nothing.
use Rattle.std.specs.Prelude.{ℕ, ◌*◌, Bool, true, not, ltb, leb, eqb}
use Rattle.octets.specs.Base.{pick}

-- "data padded with zeros to 46 octets"
abbrev pub min_data : ℕ
min_data = 46

-- "under 64 octets is a fragment"
abbrev pub min_frame : ℕ
min_frame = 64

-- "64 header bits, then 512..": the bits of the shortest frame
abbrev pub shortest_frame : ℕ
shortest_frame = 8 * min_frame

-- The value of the 802.1Q tag, 8100 hexadecimal (N3).
abbrev pub tag_value : ℕ
tag_value = 33024

-- The largest data and the largest frame, by the length/type value.
-- N3: "It refuses data over 1504 with the tag value, and over 1500 otherwise, both under 11."
unfoldable pub max_data : ℕ → ℕ
max_data v = pick (eqb v tag_value) 1504 1500

-- N3: "A frame whose length/type value is 8100 hexadecimal may have 1522 octets; every other value keeps 1518."
unfoldable pub max_frame : ℕ → ℕ
max_frame v = pick (eqb v tag_value) 1522 1518

-- The largest frame of all values, which the receive buffer holds, in octets and in bits.
abbrev pub buffer_octets : ℕ
buffer_octets = 1522

abbrev pub buffer_bits : ℕ
buffer_bits = 8 * buffer_octets

-- "a value up to 1500" is a length; the Type limit is 1536; "a value 1501..1535" is neither
abbrev pub max_length : ℕ
max_length = 1500

abbrev pub min_type : ℕ
min_type = 1536

-- Refusal 11: data over the largest, "a value up to 1500 other than the data's size, or a value 1501..1535."
unfoldable pub refuses_value : (value size : ℕ) → Bool
refuses_value v n = pick (leb v max_length) (not (eqb v n)) (ltb v min_type)

unfoldable pub refuses_data : (value size : ℕ) → Bool
refuses_data v n = pick (ltb (max_data v) n) true (refuses_value v n)
