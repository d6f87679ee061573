-- `bus_quick::easy::gap_on` meets its contract. Assumes nothing.
use Rattle.bus_quick.specs.Easy.{gap_now}
use Rattle.bus_quick.specs.Quick.{not_taken, calm_more}
use native.Mathlib.Omega.{arith}
use Rattle.bus_quick.proofs.easy.gap_on.Goals as goal

pub count_down-requires : goal.count_down-requires
count_down-requires c = (
  omega arith,
  omega arith,
  λ z. calm_more _ _ c.read_word-c.ensures _
      c.calm.ensures c.if-calm.true z,
)

pub returns-then-calm : goal.returns-then-calm
returns-then-calm c =
    gap_now _ _ _ _ _ _ c.requires.0 c.requires.1 c.requires.2 c.requires.4 c.requires.5 _ _ _ _ _ c.requires.6 c.write_word.ensures c.count_down.ensures c.calm.ensures c.if-calm.true c.read_word-c.ensures c.if-count-f.true c.requires.3 c.read_word-count.ensures

pub returns-else-calm : goal.returns-else-calm
returns-else-calm c = search not_taken

pub returns-else-count-f : goal.returns-else-count-f
returns-else-count-f c = search not_taken
