use mathlib.Core.Path.{refl}
use native.Mathlib.Omega.{arith}
use Rattle.fast_move.specs.AdvanceLaws.{moving_able, moving_movable, moving_held, advance_all, advance_one}
use borrow.Author.Rules.{rules}
use Rattle.fast_move.proofs.advance.Goals as goal

-- src/lib.rt:196:8
pub can_move-requires : goal.can_move-requires
can_move-requires c =
    (omega arith, omega arith, omega arith, search moving_movable, search moving_held, search rules)

-- src/lib.rt:197:9
pub move_at_once-requires : goal.move_at_once-requires
move_at_once-requires c =
    (omega arith, omega arith, search moving_movable, search rules, omega arith, omega arith, search rules)

-- src/lib.rt:198:9
pub returns-then-can_move-clause-moved : goal.returns-then-can_move-clause-moved
returns-then-can_move-clause-moved c = advance_all _ _ _ _ _ c.requires.6 _ _ _ _ _ _ _ _ _ c.requires.2 c.requires.3 c.requires.7 c.read_station-s.ensures refl c.is_emitting-e.ensures c.can_move.ensures c.if-can_move.true c.move_at_once.ensures

pub returns-then-can_move-clause-bound : goal.returns-then-can_move-clause-bound
returns-then-can_move-clause-bound c = (omega arith, omega arith)

-- src/lib.rt:201:5
pub turn_alone-requires : goal.turn_alone-requires
turn_alone-requires c = (omega arith, omega arith, search moving_able)

-- src/lib.rt:178:1
pub returns-clause-moved : goal.returns-clause-moved
returns-clause-moved c = search advance_one

pub returns-clause-bound : goal.returns-clause-bound
returns-clause-bound c = (omega arith, omega arith)
