-- The stations of a layout as plain numbers, for the code of the checks 5 to 8: their positions, and their addresses as
-- the numbers that their six octets spell. That these checks are those of Check is in PlainLaws. Assumes nothing.
use Rattle.std.specs.Prelude.{ℕ, ◌+◌, ◌-◌, ◌/◌, ◌%◌, ◌<◌, min, ◌≡◌, Bool, ◌||◌, List, ltb, leb, eqb, length, get_or}
use Rattle.octets.specs.Base.{pick, some, outside}
use Rattle.octets.specs.Number.{get}
use Rattle.octets.specs.NumberLaws.{Octets}
use Rattle.sheet_layout.specs.declared.Layout.{Layout}
use Rattle.sheet_layout.specs.Layout.{position_at, address_at}
use Rattle.sheet_layout.specs.Limits.{max_position}

-- station i has position p, and an address of six octets that spell q
pub record Spelled (y : Layout) (i p q : ℕ) : Type 0 where
  pub position : p ≡ position_at y i
  pub number : q ≡ get 6 (address_at y i) 0
  pub octets : Octets (address_at y i)
  pub six : length (address_at y i) ≡ 6

-- so for each of the first n
unfoldable pub Laid : Layout → ℕ → List ℕ → List ℕ → Type 0
Laid y n ps qs = (i : ℕ) → i < n → Spelled y i (get_or ps i 0) (get_or qs i 0)

-- the checks of the stations on plain numbers
abbrev pub high_at : List ℕ → ℕ → Bool
high_at ps i = ltb max_position (get_or ps i 0)

abbrev pub drops_at : List ℕ → ℕ → Bool
drops_at ps i = leb (get_or ps (i + 1) 0) (get_or ps i 0)

abbrev pub same_at : List ℕ → ℕ → ℕ → Bool
same_at qs i j = eqb (get_or qs j 0) (get_or qs i 0)

-- the first of six octets is the number by 256 ^ 5
unfoldable pub wrong_at : List ℕ → ℕ → Bool
wrong_at qs i = eqb (get_or qs i 0 / 1099511627776 % 2) 1 || some (same_at qs i) i

unfoldable pub plain_refusal : ℕ → List ℕ → List ℕ → ℕ
plain_refusal n ps qs =
    pick (some (high_at ps) (min n 16)) 5
    (pick (outside n 2 16) 6
    (pick (some (drops_at ps) (n - 1)) 7
    (pick (some (wrong_at qs) n) 8
    0)))
