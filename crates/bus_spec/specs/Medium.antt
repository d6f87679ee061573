-- The pair as a medium: a symbol that a station emits is on its way to the others. The laws are in MediumLaws. Assumes
-- nothing.
use Rattle.std.specs.Prelude.{ℕ, ◌+◌, Bool, true, false, List, eqb}
use Rattle.octets.specs.Base.{pick}
use Rattle.octets.specs.Turns.{turns}
use Rattle.station_symbols.specs.declared.Symbol.{Symbol}
use Rattle.station_symbols.specs.declared.Symbol.TheVariants.{Silence, Bit, Jam}
use Rattle.area.specs.Area.{space_at, arrival_at, with_arrival, joined, with_symbol}

-- "What station i emits at t is heard at j≠i at t + |p(i)−p(j)|": the symbol s is on its way to station j
unfoldable pub send_to : (t i : ℕ) → Symbol → (j : ℕ) → List ℕ → List ℕ
send_to t i s j x = pick (eqb j i) x (with_arrival x j (t + space_at x i j) (joined (arrival_at x j (t + space_at x i j)) s))

abbrev pub is_silence : Symbol → Bool
is_silence Silence = true
is_silence (Bit b) = false
is_silence Jam = false

-- and to each of n stations; silence is not put anywhere
unfoldable pub pushed : (n t i : ℕ) → Symbol → List ℕ → List ℕ
pushed n t i s x = pick (is_silence s) x (turns (send_to t i s) n x)

-- ---- the same for the code

-- a symbol on its way, by its code
unfoldable pub code_to : (t i c j : ℕ) → List ℕ → List ℕ
code_to t i c j x = pick (eqb j i) x (with_symbol x j (t + space_at x i j) c)
