-- `report_whole::parts::first` meets its contract. Assumes nothing.
use native.Mathlib.Omega.{arith}
use Rattle.report_whole.specs.PartLaws.{first_ok, first_is, first_within}
use Rattle.report_whole.proofs.parts.first.Goals as goal

pub unwrap-requires : goal.unwrap-requires
unwrap-requires c = first_ok _ _ _ _ _ (omega arith) _ c.requires.0 c.begin.ensures

pub returns-clause-piece : goal.returns-clause-piece
returns-clause-piece c = first_is _ _ _ _ _ (omega arith) _ _ c.unwrap.ensures c.requires.0 c.begin.ensures

pub returns-clause-size : goal.returns-clause-size
returns-clause-size c = first_within _ _ _ _ _ (omega arith) _ _ c.unwrap.ensures c.requires.0 c.begin.ensures
