-- `c_calls::client_data` meets its contract. Assumes nothing.
use Rattle.c_calls.specs.CallLaws.{client_value}
use Rattle.c_calls.proofs.client_data.Goals as goal

pub client_words-words-requires : goal.client_words-words-requires
client_words-words-requires c = search (client_value, c.in_ok-s.ensures)
