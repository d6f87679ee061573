-- `fast_heard::nearest` meets its contract. Assumes nothing.
use Rattle.octets.specs.Turns.{turns_more}
use borrow.Author.Rules.{rules}
use native.Mathlib.Omega.{arith}
use Rattle.fast_heard.specs.NearLaws.{nearest_none, listed_few, listed_emits, nearest_end}
use Rattle.fast_heard.proofs.nearest.Goals as goal

pub loop-i-init : goal.loop-i-init
loop-i-init c = search nearest_none

pub note-near-requires : goal.note-near-requires
note-near-requires c = (search listed_few, omega arith, search rules, search listed_emits)

pub loop-i-preserved : goal.loop-i-preserved
loop-i-preserved c = search turns_more

pub returns : goal.returns
returns c = search nearest_end
