-- Many steps at once, in which no station has an event, or none. Assumes nothing.
use Rattle.std.specs.Prelude.{ℕ, ◌≤◌, ◌<◌, ◌≡◌, List, Option}
use Rattle.std.specs.Option.{MatchOption}
use Rattle.bus_run.specs.Advance.{Quiet}

-- of the steps left some are made at once, or none. Shut, so that a search does not enter it
unfoldable pub Leapt : (left : ℕ) → Option ℕ → (a b : List ℕ) → Type 0
Leapt left o a b = MatchOption o (b ≡ a) (λ r. (0 < r) × (r ≤ left) × Quiet r a b)
