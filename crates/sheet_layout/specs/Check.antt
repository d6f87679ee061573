-- The checks of a layout's values, refusals 5 to 8 (document 01, "The sheet" and "Refusals, in checking order").
-- The laws, and what a layout that passes is known to be, are in CheckLaws. Assumes nothing.
use Rattle.std.specs.Prelude.{ℕ, suc, ◌-◌, ◌*◌, ◌%◌, min, Bool, ◌||◌, List, ltb, leb, eqb, get_or}
use Rattle.octets.specs.Base.{pick, some, outside}
use Rattle.octets.specs.Equal.{equal}
use Rattle.sheet_layout.specs.declared.Figures.{Figures}
use Rattle.sheet_layout.specs.declared.Layout.{Layout}
use Rattle.sheet_layout.specs.Layout.{position_at, address_at}
use Rattle.sheet_layout.specs.Limits.{max_slot, max_position, max_stations, max_attempts}

-- 5: "A field is outside its range": the table's column `range`
unfoldable pub gap1_out : Figures → Bool
gap1_out f = outside f.gap1 0 255 || ltb (2 * f.gap2) f.gap1

unfoldable pub figures_out : Figures → Bool
figures_out f =
    outside f.slot 64 max_slot
    || (gap1_out f
    || (outside f.gap2 1 255
    || (outside f.jam 1 64
    || (outside f.limit 1 max_attempts
    || (outside f.backoff 1 10
    || outside f.ends 0 1)))))

-- "position (1 octet, ..)", of each station in use
abbrev pub position_out : Layout → ℕ → Bool
position_out y i = ltb max_position (position_at y i)

-- 7: "Positions do not strictly rise": from one station to the next
abbrev pub falls : Layout → ℕ → Bool
falls y i = leb (position_at y (suc i)) (position_at y i)

-- 8: "An address has the low bit of its first octet set, or repeats": one that stands before it
abbrev pub is_group : List ℕ → Bool
is_group a = eqb (get_or a 0 0 % 2) 1

abbrev pub same_address : Layout → ℕ → ℕ → Bool
same_address y i j = equal (address_at y j) (address_at y i)

unfoldable pub address_wrong : Layout → ℕ → Bool
address_wrong y i = is_group (address_at y i) || some (same_address y i) i

-- The number of the first check that refuses the layout, 0 where none does. 6: "N is outside 2..16."
unfoldable pub refusal_of : Layout → ℕ
refusal_of y =
    pick (figures_out y.figures) 5
    (pick (some (position_out y) (min y.count max_stations)) 5
    (pick (outside y.count 2 max_stations) 6
    (pick (some (falls y) (y.count - 1)) 7
    (pick (some (address_wrong y) y.count) 8
    0))))
