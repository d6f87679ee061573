-- Document 01's two stations: their sheet, an area, and the draws of a fresh start on it. That demand 3 holds of them is in
-- proofs/Two. Assumes nothing.
use Rattle.std.specs.Prelude.{ℕ, List, [], ◌∷◌, replicate}
use Rattle.area.specs.Offsets.{area_size}

-- "sheet 00 02, 00 020000000001, 0A 020000000002"
unfoldable pub two : List ℕ
two = 0 ∷ 2 ∷ 0 ∷ 2 ∷ 0 ∷ 0 ∷ 0 ∷ 0 ∷ 1 ∷ 10 ∷ 2 ∷ 0 ∷ 0 ∷ 0 ∷ 0 ∷ 2 ∷ []

-- an area, and the draws 0 and 1
unfoldable pub blank : List ℕ
blank = replicate area_size 0

unfoldable pub draws : List (List ℕ)
draws = (0 ∷ []) ∷ (1 ∷ []) ∷ []
