-- What a silence is: nobody emits and nothing arrives for K steps. And the jump: each record in closed form, the clock K
-- later, and all else as it was. That the steps make this jump is in proofs/Jump. Assumes nothing.
use Prim.Native.Nat.{ℕ, ◌+◌, ◌<◌}
use Rattle.std.specs.Prelude.{◌≡◌}
use mathlib.Core.List.{List}
use Rattle.octets.specs.Turns.{turns}
use Rattle.station_symbols.specs.declared.Symbol.TheVariants.{Silence}
use Rattle.area.specs.Area.{clock_at, with_clock, figures_at, count_at, station_at, with_station}
use Rattle.area.specs.Area.{symbol_at}
use Rattle.fast_plan.specs.Plan.{Plan}
use Rattle.fast_silence.specs.Rested.{rested, Rests}
use Rattle.area.specs.Offsets.{ring}

-- ---- what a silence is

-- nobody emits in the next K steps, and nothing arrives
pub record Silent (a : List ℕ) (K : ℕ) : Type 0 where
  pub empty : (j s : ℕ) → j < count_at a → s < K → s < ring → symbol_at a j (clock_at a + s) ≡ 0
  pub calm : (i : ℕ) → i < count_at a → Rests (figures_at a) K (station_at a i)

-- the first k stations written
unfoldable pub rested_all : List ℕ → (K k : ℕ) → List ℕ → List ℕ
rested_all a K k x = turns (λ i y. with_station y i (rested (figures_at a) K (station_at a i))) k x

unfoldable pub jumped : ℕ → List ℕ → List ℕ
jumped K a = with_clock (rested_all a K (count_at a) a) (clock_at a + K)

-- ---- one station

unfoldable pub silent_plan : Plan
silent_plan i s = Silence
