-- `area::read_layout` meets its contract. Assumes nothing.
use Rattle.area.specs.CodeLaws.{layout_is}
use Rattle.area.proofs.read_layout.Goals as goal

pub returns : goal.returns
returns c = layout_is _ _ _ _ _ (c.taps-stations.ensures _ (λ i x h p. p)) c.places.ensures.value c.read_count-count.ensures c.read_figures-figures.ensures
