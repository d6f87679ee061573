-- `fast_receive::hear_spoiled` meets its contract. Assumes nothing.
use native.Mathlib.Omega.{arith}
use Rattle.fast_receive.specs.CodeLaws.{spoiled_none, spoiled_idles, spoiled_seeks}
use Rattle.fast_receive.specs.CodeLaws.{spoiled_collects, collecting_room, collecting_most}
use Rattle.fast_receive.proofs.hear_spoiled.Goals as goal

pub returns-then-m-eq0-clause-heard : goal.returns-then-m-eq0-clause-heard
returns-then-m-eq0-clause-heard c = search spoiled_none

pub overflow_add-result : goal.overflow_add-result
overflow_add-result c = search collecting_room

pub returns-in-Listening-clause-heard : goal.returns-in-Listening-clause-heard
returns-in-Listening-clause-heard c = spoiled_idles _ _ _ _ _ c.in-Listening.is c.if-m-eq0.false

pub returns-in-Seeking-clause-heard : goal.returns-in-Seeking-clause-heard
returns-in-Seeking-clause-heard c = search spoiled_seeks

pub returns-in-Collecting-clause-heard : goal.returns-in-Collecting-clause-heard
returns-in-Collecting-clause-heard c = search spoiled_collects

pub returns-in-Collecting-clause-range : goal.returns-in-Collecting-clause-range
returns-in-Collecting-clause-range c = (omega arith, collecting_most _ _ _ _ c.in-Collecting.is _ _ (omega arith))
