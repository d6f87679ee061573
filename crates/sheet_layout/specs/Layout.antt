-- The layout that a sheet describes: its figures, its stations, its span, and whether it fits (document 01, "The
-- sheet"). Assumes nothing.
use Rattle.std.specs.Prelude.{ℕ, ◌+◌, ◌-◌, ◌*◌, Bool, ◌&&◌, List, [], leb, get_or, replicate}
use Rattle.octets.specs.Filled.{filled}
use Rattle.sheet_layout.specs.declared.Figures.{Figures}
use Rattle.sheet_layout.specs.declared.Tap.{Tap}
use Rattle.sheet_layout.specs.declared.Layout.{Layout}
use Rattle.sheet_layout.specs.Limits.{max_stations}

-- what stands in a place that no station has
abbrev pub blank_tap : Tap
blank_tap = record { position = 0; address = replicate 6 0 }

-- the places where the first n hold what t gives for each, and the others are blank
abbrev pub places_of : (ℕ → Tap) → ℕ → List Tap
places_of t n = filled blank_tap t n

-- a layout of nothing
abbrev pub blank_figures : Figures
blank_figures = record { slot = 0; gap1 = 0; gap2 = 0; jam = 0; limit = 0; backoff = 0; ends = 0 }

abbrev pub blank_layout : Layout
blank_layout = record { figures = blank_figures; count = 0; stations = replicate max_stations blank_tap }

-- station i: its position and its address
unfoldable pub tap_at : Layout → ℕ → Tap
tap_at y i = get_or y.stations i (record { position = 0; address = [] })

abbrev pub position_at : Layout → ℕ → ℕ
position_at y i = (tap_at y i).position

abbrev pub address_at : Layout → ℕ → List ℕ
address_at y i = (tap_at y i).address

-- "G is gap1 + gap2."
unfoldable pub gap_of : Figures → ℕ
gap_of f = f.gap1 + f.gap2

-- "The span S is last position less first."
unfoldable pub span_of : Layout → ℕ
span_of y = position_at y (y.count - 1) - position_at y 0

-- "A layout fits if 2 × S + G ≤ slot and G ≤ 64 + jam."
unfoldable pub fits_well : Layout → Bool
fits_well y =
    leb (2 * span_of y + gap_of y.figures) y.figures.slot && leb (gap_of y.figures) (64 + y.figures.jam)
