-- Building a frame (document 01, "Frames"). d is the destination, s the source, v the length/type value, x the data.
-- The laws are in BuildLaws. Assumes nothing.
use Rattle.std.specs.Prelude.{ℕ, ◌-◌, List, [], ◌∷◌, ◌++◌, ltb, length, replicate}
use Rattle.std.proofs.lemmas.List.Edits.{sets}
use Rattle.octets.specs.Base.{pick, refused, accepted, Outcome, outcome}
use Rattle.octets.specs.Number.{spelled}
use Rattle.frame_crc.specs.Crc.{check_sequence}
use Rattle.frame_build.specs.Limits.{min_data, refuses_data}

-- "Destination 6, source 6, length/type 2 (high octet first)"
unfoldable pub header : (d s : List ℕ) (v : ℕ) → List ℕ
header d s v = d ++ s ++ spelled 2 v

-- "data padded with zeros to 46 octets"
unfoldable pub padded : List ℕ → List ℕ
padded x = x ++ replicate (min_data - length x) 0

-- what the check sequence covers: all before it
unfoldable pub covered : (d s : List ℕ) (v : ℕ) (x : List ℕ) → List ℕ
covered d s v x = header d s v ++ padded x

-- "check sequence 4 (802.3's CRC-32)"
unfoldable pub frame_of : (d s : List ℕ) (v : ℕ) (x : List ℕ) → List ℕ
frame_of d s v x = covered d s v x ++ check_sequence (covered d s v x)

-- The builder, into the lent octets l: refusals 11 and 15, or the frame's length. "Octets past what is written stay."
unfoldable pub built : (l d s : List ℕ) (v : ℕ) (x : List ℕ) → Outcome
built l d s v x =
    pick (refuses_data v (length x)) (outcome (refused 11) l)
    (pick (ltb (length l) (length (frame_of d s v x))) (outcome (refused 15) l)
    (outcome (accepted (length (frame_of d s v x) ∷ [])) (sets l 0 (frame_of d s v x))))
