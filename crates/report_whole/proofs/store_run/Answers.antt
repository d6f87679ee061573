-- `report_whole::store_run` meets its contract. Assumes nothing.
use Rattle.report_whole.specs.PartLaws.{begun_along}
use Rattle.report_whole.specs.PrintLaws.{begun_store, begun_text, begun_area}
use native.Mathlib.Omega.{arith}
use Rattle.report_whole.proofs.store_run.Goals as goal

pub store-requires : goal.store-requires
store-requires c = search begun_store

pub store_rest-requires : goal.store_rest-requires
store_rest-requires c = (search begun_along, omega arith)

pub returns-clause-text : goal.returns-clause-text
returns-clause-text c = search begun_text

pub returns-clause-area : goal.returns-clause-area
returns-clause-area c = search begun_area
