-- A layout, what was emitted, and what of it a station hears (document 01: "What station i emits at t is heard at j≠i
-- at t + |p(i)−p(j)|"). Numbers have no bound here. The laws are in Gather and Meet. Assumes nothing.
use Rattle.std.specs.Prelude.{ℕ, zero, suc, ◌-◌, List, leb, eqb}
use Rattle.octets.specs.Base.{pick}
use Rattle.sheet_layout.specs.declared.Figures.{Figures}
use Rattle.station_symbols.specs.declared.Heard.{Heard}
use Rattle.station_symbols.specs.declared.Heard.TheVariants.{Nothing}
use Rattle.station_symbols.specs.declared.Symbol.{Symbol}
use Rattle.station_symbols.specs.declared.Symbol.TheVariants.{Silence}
use Rattle.area.specs.Area.{joined}

-- What does not change: the layout, the draws (depth of them, draw i k is draw k of station i), and what the buffers
-- hold at the start.
pub record Net : Type 0 where
  pub n : ℕ
  pub fig : Figures
  pub depth : ℕ
  pub draw : ℕ → ℕ → ℕ
  pub address : ℕ → List ℕ
  pub d : ℕ → ℕ → ℕ
  pub blank : ℕ → List ℕ

-- what the symbols c 0, .., c (k - 1) come to where they meet
unfoldable pub gathered : ℕ → (ℕ → Symbol) → Heard
gathered zero c = Nothing
gathered (suc k) c = joined (gathered k c) (c k)

-- what station i emitted that reaches station j in step u
unfoldable pub reaches : (d : ℕ → ℕ → ℕ) (E : ℕ → ℕ → Symbol) (j u i : ℕ) → Symbol
reaches d E j u i = pick (eqb i j) Silence (pick (leb (d i j) u) (E i (u - d i j)) Silence)

-- what station j hears in step u
unfoldable pub heard : Net → (E : ℕ → ℕ → Symbol) (j u : ℕ) → Heard
heard P E j u = gathered P.n (reaches P.d E j u)

-- the history with what each station emits in step t
unfoldable pub grown : ℕ → (ℕ → Symbol) → (ℕ → ℕ → Symbol) → ℕ → ℕ → Symbol
grown t e E i s = pick (eqb s t) (e i) (E i s)
