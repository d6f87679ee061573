-- `octets_words::put16` meets its contract. Assumes nothing.
use Rattle.octets.specs.NumberLaws.{put_bytes}
use Rattle.octets_words.proofs.put16.Goals as goal

pub returns : goal.returns
returns c = search put_bytes
