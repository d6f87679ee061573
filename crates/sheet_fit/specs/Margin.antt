-- The margin of a layout: how far its last tap may move outward so that the layout still fits. The laws are in
-- MarginLaws; that it fits exactly up to there is in MarginTheorems. Assumes nothing.
use Rattle.std.specs.Prelude.{ℕ, ◌+◌, ◌-◌, ◌*◌, ◌/◌, min, List, [], ◌∷◌, eqb, set, Option, Some, None, Result}
use Rattle.octets.specs.declared.Refusal.{Refusal}
use Rattle.octets.specs.Base.{pick, Answer, answer_by, refused, accepted}
use Rattle.sheet_layout.specs.declared.Layout.{Layout}
use Rattle.sheet_layout.specs.Layout.{position_at, address_at, gap_of, span_of, fits_well}
use Rattle.sheet_layout.specs.Check.{refusal_of}
use Rattle.sheet_layout.specs.Limits.{max_position}

-- the layout with its last tap d bit times farther out
unfoldable pub moved_out : Layout → ℕ → Layout
moved_out y d =
    record {
      figures = y.figures;
      count = y.count;
      stations =
          set y.stations (y.count - 1)
          (record { position = position_at y (y.count - 1) + d; address = address_at y (y.count - 1) });
    }

-- half of what 2 × S + G leaves of slot, or what is left of the largest position
unfoldable pub outward_of : Layout → ℕ
outward_of y =
    min ((y.figures.slot - (2 * span_of y + gap_of y.figures)) / 2) (max_position - position_at y (y.count - 1))

-- what the code's answer stands for
abbrev pub margin_values : Option ℕ → List ℕ
margin_values None = []
margin_values (Some d) = d ∷ []

abbrev pub margin_answer : Result (Option ℕ) Refusal → Answer
margin_answer r = answer_by margin_values r

-- so many bit times where the layout fits; none where it does not; the refusal of one that does not pass 5 to 8
unfoldable pub margin_of : Layout → Answer
margin_of y =
    pick (eqb (refusal_of y) 0) (pick (fits_well y) (accepted (outward_of y ∷ [])) (accepted [])) (refused (refusal_of y))
