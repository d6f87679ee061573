-- The draws of a run input (document 01, "The run program"): l are its octets. Assumes nothing.
use Rattle.std.specs.Prelude.{ℕ, ◌+◌, ◌*◌, List, replicate}
use Rattle.octets.specs.Number.{get}
use Rattle.octets.specs.Filled.{filled}

-- "N × D draws (2 octets)", station by station: where station i's d draws begin, of those from octet `at` on
abbrev pub row_place : (at d i : ℕ) → ℕ
row_place at d i = at + 2 * (i * d)

-- draw k of the row that begins at `at`
unfoldable pub draw_in : List ℕ → (at k : ℕ) → ℕ
draw_in l at k = get 2 l (at + 2 * k)

-- the d draws that begin at `at`, in sixteen places, and zeros after them
unfoldable pub row_in : List ℕ → (at d : ℕ) → List ℕ
row_in l at d = filled 0 (draw_in l at) d

abbrev pub blank_row : List ℕ
blank_row = replicate 16 0

-- the rows of n stations from octet `at` on, in sixteen places, and blank rows after them
unfoldable pub draws_in : List ℕ → (at n d : ℕ) → List (List ℕ)
draws_in l at n d = filled blank_row (λ i. row_in l (row_place at d i) d) n
