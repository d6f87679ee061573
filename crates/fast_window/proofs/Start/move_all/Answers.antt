use Rattle.fast_window.specs.MovedLaws.{sight_from, sight_octets, sight_bit}
use mathlib.Core.Path.{refl}
use native.Mathlib.Omega.{arith}
use Rattle.fast_window.specs.MovedLaws.{all_none, all_moving, all_more, all_end, begins_gap}
use Rattle.fast_window.proofs.Start.move_all.Goals as goal

-- src/lib.rt:161:5
pub loop-j-init : goal.loop-j-init
loop-j-init c = (refl, search all_none)

-- src/lib.rt:163:9
pub move_station-requires : goal.move_station-requires
move_station-requires c = (
  omega arith,
  omega arith,
  omega arith,
  search sight_bit,
  search sight_from,
  search sight_octets,
  search begins_gap,
  search all_moving,
)

-- src/lib.rt:161:5
pub loop-j-preserved : goal.loop-j-preserved
loop-j-preserved c = (omega arith, search all_more)

-- src/lib.rt:148:1
pub returns : goal.returns
returns c = search all_end
