-- Whether a layout fits, in document 01's numbers. Assumes nothing.
use Rattle.std.specs.Prelude.{Bool, [], ◌∷◌, eqb, Result}
use Rattle.octets.specs.declared.Refusal.{Refusal}
use Rattle.octets.specs.Base.{pick, Answer, answer_by, refused, accepted}
use Rattle.sheet_layout.specs.declared.Layout.{Layout}
use Rattle.sheet_layout.specs.Layout.{fits_well}
use Rattle.sheet_layout.specs.Check.{refusal_of}

-- what the code's answer stands for: 0 no, 1 yes
abbrev pub fit_answer : Result Bool Refusal → Answer
fit_answer r = answer_by (λ b. pick b 1 0 ∷ []) r

-- the fit of every layout that passes 5 to 8, and the refusal otherwise
unfoldable pub fit_of : Layout → Answer
fit_of y = pick (eqb (refusal_of y) 0) (pick (fits_well y) (accepted (1 ∷ [])) (accepted (0 ∷ []))) (refused (refusal_of y))
