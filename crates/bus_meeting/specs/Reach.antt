-- What one station brings to another in a step. Assumes nothing.
use Rattle.std.specs.Prelude.{ℕ, ◌+◌, ◌-◌, ◌≡◌, leb, eqb}
use native.Mathlib.Omega.{arith}
use borrow.Author.Tests.{ne_eqb, eqb-false, leb-true, le-leb}
use Rattle.octets.specs.BaseLaws.{by_test}
use Rattle.station_symbols.specs.declared.Symbol.{Symbol}
use Rattle.station_symbols.specs.declared.Symbol.TheVariants.{Silence}
use Rattle.bus_meeting.specs.Net.{reaches}

module _ (d : ℕ → ℕ → ℕ) (E : ℕ → ℕ → Symbol) (j u i : ℕ) where
  pub reach_at : (y : ℕ) → (i ≡ j → ⊥) → y + d i j ≡ u → reaches d E j u i ≡ E i y
  unfolding reaches
  reach_at y ne w = let z : u - d i j ≡ y = omega arith in rw (ne_eqb i j ne, le-leb (d i j) u (omega arith), z)

  pub reach_none : ((y : ℕ) → (i ≡ j → ⊥) → y + d i j ≡ u → E i y ≡ Silence) → reaches d E j u i ≡ Silence
  unfolding reaches
  reach_none h =
      by_test (eqb i j) (λ e. rw e)
      (λ e. by_test (leb (d i j) u)
      (λ f. let q = leb-true (d i j) u f in rw (e, f) (h (u - d i j) (eqb-false i j e) (omega arith)))
      (λ f. rw (e, f)))
