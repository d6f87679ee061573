-- A fresh start (document 01, refusals 1, 5 to 9). The draws are rows of sixteen, as many of each in use as D says, so
-- there are always N × D of them. The laws are in StartLaws. Assumes nothing.
use Rattle.std.specs.Prelude.{ℕ, List, [], ltb, eqb, length}
use Rattle.octets.specs.Base.{pick, outside, refused, accepted, Outcome, outcome}
use Rattle.sheet_layout.specs.declared.Layout.{Layout}
use Rattle.sheet_layout.specs.Check.{refusal_of}
use Rattle.area.specs.Offsets.{area_size}
use Rattle.bus_start.specs.Fresh.{fresh}

unfoldable pub started : List ℕ → Layout → ℕ → List (List ℕ) → Outcome
started a y d draws =
    pick (ltb (length a) area_size) (outcome (refused 1) a)
    (pick (eqb (refusal_of y) 0)
    (pick (outside d 1 16) (outcome (refused 9) a)
    (outcome (accepted []) (fresh y d draws a)))
    (outcome (refused (refusal_of y)) a))
