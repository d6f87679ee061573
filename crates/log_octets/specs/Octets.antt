-- A log as octets, six to an entry: time (4, high octet first), station, event. Assumes nothing.
use Rattle.std.specs.Prelude.{ℕ, ◌+◌, ◌*◌, ◌/◌, Bool, List, eqb, length, get_or}
use Rattle.octets.specs.Base.{pick, some, outside, refused, Outcome, outcome}
use Rattle.octets.specs.Number.{get}
use Rattle.octets.specs.Table.{tabulated}
use Rattle.station_tally.specs.Words.{word_count}
use Rattle.log_entry.specs.declared.Entry.{Entry}
use Rattle.log_entry.specs.declared.Event.{Event}
use Rattle.log_entry.specs.declared.Event.TheVariants.{Collision, Late, Sent, GivenUp, LateEnd, GotOk, GotTooLong}
use Rattle.log_entry.specs.declared.Event.TheVariants.{GotAlignment, GotCheck, GotLength}
use Rattle.log_lookup.specs.Lookup.{looked_up}

-- the event of a number, as station_tally/Words numbers the words
unfoldable pub event_of : ℕ → Event
event_of c =
    pick (eqb c 1) (Collision 0)
    (pick (eqb c 2) (Late 0)
    (pick (eqb c 3) (Sent 0)
    (pick (eqb c 4) (GivenUp 0)
    (pick (eqb c 5) (LateEnd 0)
    (pick (eqb c 6) (GotOk 0)
    (pick (eqb c 7) (GotTooLong 0)
    (pick (eqb c 8) (GotAlignment 0)
    (pick (eqb c 9) (GotCheck 0) (GotLength 0)))))))))

-- entry k, and whether its event stands for nothing
unfoldable pub entry_at : List ℕ → ℕ → Entry
entry_at l k = record { time = get 4 l (6 * k); station = get_or l (6 * k + 4) 0; event = event_of (get_or l (6 * k + 5) 0) }

abbrev pub unknown_at : List ℕ → ℕ → Bool
unknown_at l k = outside (get_or l (6 * k + 5) 0) 1 word_count

abbrev pub entries_of : List ℕ → List Entry
entries_of l = tabulated (entry_at l) 0 (length l / 6)

-- the answer, and the lent output afterwards. "A field is outside its range": 5, before all others
unfoldable pub octets_looked_up : (n : ℕ) (ws : List ℕ) (l : List ℕ) (out : List ℕ) → Outcome
octets_looked_up n ws l out =
    pick (some (unknown_at l) (length l / 6)) (outcome (refused 5) out) (looked_up n ws (entries_of l) out)
