-- `c_views::margin` meets its contract. Assumes nothing.
use Rattle.c_views.specs.ViewLaws.{margin_below}
use Rattle.c_views.proofs.margin.Goals as goal

pub returns-clause-told : goal.returns-clause-told
returns-clause-told c = margin_below _ _ _ c.in_ok-outward.ensures c.unwrap_or.ensures
