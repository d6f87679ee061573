-- A list of stretches as the code has it, the newest last. The laws are in ListedLaws. Assumes nothing.
use Rattle.std.specs.Prelude.{ℕ, zero, suc, ◌+◌, ◌<◌, ◌≤◌, List, [], ◌∷◌, length, get_or}
use Rattle.area.specs.Area.{space_at}
use Rattle.fast_list.specs.declared.Stretch.{Stretch}
use Rattle.fast_list.specs.Stretches.{end_of}
use Rattle.sheet_layout.specs.Limits.{max_stations}

-- what stands past the end of a list
abbrev pub no_stretch : Stretch
no_stretch = record { who = 0; from = 0; bit = 0; bits = 0; jam = 0 }

abbrev pub stretch_at : List Stretch → ℕ → Stretch
stretch_at l k = get_or l k no_stretch

-- the first n of them, the newest first
unfoldable pub list_of : List Stretch → ℕ → List Stretch
list_of l zero = []
list_of l (suc n) = stretch_at l n ∷ list_of l n

-- it is of a station that there is, and reaches station j in steps that the code can count
unfoldable pub Reaches : List ℕ → Stretch → ℕ → Type 0
Reaches a r j = (r.who < max_stations) × (end_of r + space_at a r.who j ≤ 4294967295)

-- all of them do
unfoldable pub Fits : List ℕ → List Stretch → (j : ℕ) → Type 0
Fits a l j = (k : ℕ) → k < length l → Reaches a (stretch_at l k) j
