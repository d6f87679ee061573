-- `octets_words::put32` meets its contract. Assumes nothing.
use Rattle.octets.specs.NumberLaws.{put_bytes}
use Rattle.octets_words.proofs.put32.Goals as goal

pub returns : goal.returns
returns c = search put_bytes
