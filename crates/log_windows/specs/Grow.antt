-- What the functions that make the tallies grow compute, and the state after a log. That this gives the answers of
-- log_entry/Log is in Whole. Assumes nothing.
use Rattle.std.specs.Prelude.{ℕ, ◌+◌, ◌*◌, min, false, ◌||◌, List, [], ◌∷◌, ltb, leb, get_or, set, replicate}
use Rattle.octets.specs.Base.{pick}
use Rattle.octets.specs.Turns.{turns}
use Rattle.station_tally.specs.Words.{word_count}
use Rattle.log_entry.specs.Log.{word_of, max_windows, cell_count, window_count, holds}
use Rattle.log_entry.specs.declared.Entry.{Entry}
use Rattle.log_entry.specs.declared.State.{State}

-- one more, and the top where it would pass it
unfoldable pub capped : ℕ → ℕ
capped c = min (c + 1) 4294967295

-- the counts l after what station i reported at time t with the word j was added to window w
unfoldable pub added : List ℕ → ℕ → ℕ → ℕ → ℕ → List ℕ → List ℕ
added ws t i j w l = pick (holds ws w t i) (set l (word_count * w + j) (capped (get_or l (word_count * w + j) 0))) l

-- the windows that have a place among the counts
unfoldable pub used : List ℕ → ℕ
used ws = min max_windows (window_count ws)

unfoldable pub added_all : List ℕ → ℕ → ℕ → ℕ → List ℕ → List ℕ
added_all ws t i j l = turns (λ w x. added ws t i j w x) (used ws) l

unfoldable pub opened_of : ℕ → State
opened_of n = record { stations = n; astray = false; falls = false; last = 0; counts = replicate cell_count 0 }

unfoldable pub entered_of : List ℕ → State → Entry → State
entered_of ws s e =
    record {
      stations = s.stations;
      astray = s.astray || leb s.stations e.station;
      falls = s.falls || ltb e.time s.last;
      last = e.time;
      counts = added_all ws e.time e.station (word_of e.event) s.counts;
    }

-- "The tallies grow together, entry by entry": the state after the entries of a list
unfoldable pub over : List ℕ → State → List Entry → State
over ws s [] = s
over ws s (e ∷ es) = over ws (entered_of ws s e) es
