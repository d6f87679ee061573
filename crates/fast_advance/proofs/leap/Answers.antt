-- `fast_advance::leap` meets its contract. Assumes nothing.
use native.Mathlib.Omega.{arith}
use Rattle.fast_advance.specs.AdvanceLaws.{leap_none, left_ready, left_room, leap_silence}
use Rattle.fast_advance.specs.AdvanceLaws.{unmoved_ready, unmoved_room, leap_window}
use Rattle.fast_advance.proofs.leap.Goals as goal

pub returns-then-left-lt-LEAST : goal.returns-then-left-lt-LEAST
returns-then-left-lt-LEAST c = search leap_none

pub skip-steps-requires : goal.skip-steps-requires
skip-steps-requires c = (omega arith, search left_room, search left_ready)

pub returns-then-steps-ne0 : goal.returns-then-steps-ne0
returns-then-steps-ne0 c = search leap_silence

pub pass-requires : goal.pass-requires
pass-requires c = (omega arith, search unmoved_room, search unmoved_ready)

pub returns : goal.returns
returns c = search leap_window
