use Rattle.fast_lines.specs.LinesLaws.{ways_none, ways_asks, ways_coded, ways_more, ways_end}
use mathlib.Core.Path.{refl}
use native.Mathlib.Omega.{arith}
use Rattle.fast_lines.proofs.push_all.Goals as goal

-- src/lib.rt:143:5
pub loop-i-init : goal.loop-i-init
loop-i-init c = (omega arith, refl, search ways_none)

-- src/lib.rt:145:9
pub push_from-requires : goal.push_from-requires
push_from-requires c = (search ways_asks, omega arith, search ways_coded)

-- src/lib.rt:143:5
pub loop-i-preserved : goal.loop-i-preserved
loop-i-preserved c = (omega arith, omega arith, search ways_more)

-- src/lib.rt:130:1
pub returns : goal.returns
returns c = search ways_end
