-- Case splits: the scrutinee first, then a continuation for each case. Assumes nothing.
use Rattle.std.specs.Prelude.{◌≡◌, refl, Bool, true, false, ◌&&◌, ◌⊎◌, ℕ, ◌≤◌, ◌<◌}
use Rattle.std.proofs.Common.{sym, ◌∙◌, true≢false, inl, inr, arith}
use Rattle.std.proofs.Math.Decide.{dec_le}

pub either : {A B C : Type 0} → A ⊎ B → (A → C) → (B → C) → C
either (inl a) f g = f a
either (inr b) f g = g b

pub by_le : {C : Type 0} (a b : ℕ) → (a ≤ b → C) → (b < a → C) → C
by_le {C} a b f g = go (dec_le a b)
  where
    go : Dec (a ≤ b) → C
    go (yes h) = f h
    go (no h) = g (omega arith)

-- a test does not come out both ways
pub clash : {C : Type 0} {b : Bool} → b ≡ true → b ≡ false → C
clash {C} {b} p q = absurd (true≢false (sym p ∙ q))

pub and_left : (a b : Bool) → (a && b) ≡ true → a ≡ true
and_left true b e = refl
and_left false b e = e
