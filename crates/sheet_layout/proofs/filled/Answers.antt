-- `sheet_layout::filled` meets its contract. Assumes nothing.
use Rattle.octets.specs.Filled.{filled_none, filled_more}
use Rattle.sheet_layout.proofs.filled.Goals as goal

pub loop-i-init : goal.loop-i-init
loop-i-init g c = λ t h. filled_none _ t

pub loop-i-preserved : goal.loop-i-preserved
loop-i-preserved g c = λ t h. filled_more _ t _ _ _ _ (h _ _ c.loop-i-test.true c.give.ensures) c.loop-i-test.true
    c.requires.most (c.loop-i.invariant t h)
