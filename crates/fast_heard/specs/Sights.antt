-- What each station hears of before a window. The laws are in SightLaws. Assumes nothing.
use Rattle.std.specs.Prelude.{ℕ, List, eqb}
use Rattle.octets.specs.Base.{pick}
use Rattle.octets.specs.Filled.{filled}
use Rattle.area.specs.Area.{station_at}
use Rattle.fast_heard.specs.declared.Near.{Near}
use Rattle.fast_heard.specs.declared.Sight.{Sight}
use Rattle.fast_heard.specs.Hearing.{nearest_of, near_bit}
use Rattle.area.specs.Offsets.{ring}

-- what station j, of n, hears of: the nearest emitters, and the frame of the nearest, where it sends one
unfoldable pub sight_by : List ℕ → Near → (k : ℕ) → Sight
sight_by a w k =
    record {
      near = w;
      bit = k;
      from = pick (eqb k 0) 0 w.from;
      octets = pick (eqb k 0) 0 (station_at a w.from).frame;
    }

unfoldable pub sight_of : List ℕ → (n j : ℕ) → Sight
sight_of a n j = sight_by a (nearest_of a n j) (near_bit a (nearest_of a n j))

abbrev pub unseen : Sight
unseen = record { near = record { from = 16; d1 = ring; d2 = ring }; bit = 0; from = 0; octets = 0 }

-- a place of an array that holds nothing
abbrev pub blank_sight : Sight
blank_sight = record { near = record { from = 0; d1 = 0; d2 = 0 }; bit = 0; from = 0; octets = 0 }

unfoldable pub sights_of : List ℕ → ℕ → List Sight
sights_of a n = filled unseen (sight_of a n) n
