-- The answer of a lookup from the state after all entries. Assumes nothing.
use Rattle.std.specs.Prelude.{ℕ, ◌*◌, List, length, take}
use Rattle.octets.specs.Base.{Outcome}
use Rattle.station_tally.specs.Words.{word_count}
use Rattle.log_entry.specs.Log.{window_count, refusal_in, answered}
use Rattle.log_entry.specs.declared.State.{State}

unfoldable pub closed_of : (ws : List ℕ) (s : State) (out : List ℕ) → Outcome
closed_of ws s out =
    answered (refusal_in ws s.stations s.astray s.falls (length out))
    (take (word_count * window_count ws) s.counts) out
