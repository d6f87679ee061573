-- `report_whole::parts::next` meets its contract. Assumes nothing.
use native.Mathlib.Omega.{arith}
use Rattle.report_whole.specs.PartLaws.{next_ok, next_is, next_within}
use Rattle.report_whole.proofs.parts.next.Goals as goal

pub unwrap-requires : goal.unwrap-requires
unwrap-requires c = next_ok _ _ _ _ _ (omega arith) _ _ c.requires.0 c.advance.ensures

pub returns-clause-piece : goal.returns-clause-piece
returns-clause-piece c = next_is _ _ _ _ _ (omega arith) _ _ c.unwrap.ensures _ c.requires.0 c.advance.ensures

pub returns-clause-size : goal.returns-clause-size
returns-clause-size c = next_within _ _ _ _ _ (omega arith) _ _ c.unwrap.ensures _ c.requires.0 c.advance.ensures
