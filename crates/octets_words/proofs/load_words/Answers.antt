-- `octets_words::load_words` meets its contract. Assumes nothing.
use Rattle.octets.specs.WordsLaws.{load_none, load_more}
use Rattle.octets_words.proofs.load_words.Goals as goal

pub loop-k-init : goal.loop-k-init
loop-k-init c = search load_none

pub loop-k-preserved : goal.loop-k-preserved
loop-k-preserved c = search load_more
