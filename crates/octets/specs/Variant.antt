-- Which variant an enum's value is, where a `let .. else` says only that its place is one of the first six. Assumes
-- nothing.
use Rattle.std.specs.Prelude.{ℕ, ◌<◌, [], ◌∷◌}
use Rattle.std.proofs.Common.{⊎_elim, arith}
use types.Run.{OneOf}

pub first_six : (x : ℕ) → OneOf (0 ∷ 1 ∷ 2 ∷ 3 ∷ 4 ∷ 5 ∷ []) x → x < 6
first_six x =
    ⊎_elim (λ e. omega arith)
    (⊎_elim (λ e. omega arith)
    (⊎_elim (λ e. omega arith)
    (⊎_elim (λ e. omega arith)
    (⊎_elim (λ e. omega arith)
    (λ e. omega arith)))))
