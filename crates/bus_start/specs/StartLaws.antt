-- What the checks of a fresh start give. Assumes nothing.
use Rattle.bus_start.specs.Start.{started}
use Rattle.area.specs.Offsets.{area_size}
use borrow.Author.Tests.{lt-ltb}
use Rattle.std.specs.Prelude.{ℕ, ◌≤◌, ◌≡◌, Bool, false, List, ◌<◌, length}
use Rattle.std.proofs.Common.{sym, ◌∙◌}
use Rattle.std.proofs.lemmas.Bool.Decides.{nat_tests}
use Rattle.std.proofs.lemmas.Result.{err_from_is_err_and}
use Rattle.octets.specs.Base.{outside, outcome, refused}
use Rattle.octets.specs.BaseLaws.{within, refusal_numbered}
use Rattle.sheet_layout.specs.declared.Layout.{Layout}
use Rattle.sheet_layout.specs.Check.{refusal_of}
use Rattle.sheet_layout.specs.CheckLaws.{sound}
use Rattle.sheet_layout.specs.Limits.{max_stations, max_draws}

pub start_few : (y : Layout) → 0 ≡ refusal_of y → y.count ≤ max_stations
start_few y p = (sound y (sym p)).count.1

pub start_shallow : (d : ℕ) (b : Bool) → b ≡ outside d 1 16 → b ≡ false → d ≤ max_draws
start_shallow d b p q = (within d 1 16 (sym p ∙ q)).1

pub ruleset starting = (nat_tests, err_from_is_err_and, refusal_numbered, start_few, start_shallow)

-- an area that is short
pub start_short : (a : List ℕ) (y : Layout) (d : ℕ) (ds : List (List ℕ)) → length a < area_size
    → outcome (refused 1) a ≡ started a y d ds
unfolding started
start_short a y d ds h = rw (lt-ltb (length a) area_size h)
