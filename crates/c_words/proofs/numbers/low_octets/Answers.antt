-- `c_words::numbers::low_octets` meets its contract. Assumes nothing.
use Rattle.c_words.specs.AnswersLaws.{low_spelled}
use Rattle.c_words.proofs.numbers.low_octets.Goals as goal

pub returns : goal.returns
returns g c =
    let h = rw c.unwrap.ensures at c.last_chunk.ensures.cases in
    low_spelled _ _ _ _ c.to_be_bytes.ensures c.requires h.1.same
