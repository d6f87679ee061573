-- `octets_words::store_words` meets its contract. Assumes nothing.
use Rattle.octets.specs.WordsLaws.{put_none, put_more}
use Rattle.octets_words.proofs.store_words.Goals as goal

pub loop-k-init : goal.loop-k-init
loop-k-init c = search put_none

pub loop-k-preserved : goal.loop-k-preserved
loop-k-preserved c = put_more _ _ _ _ _ _ c.put32.ensures c.loop-k.invariant
