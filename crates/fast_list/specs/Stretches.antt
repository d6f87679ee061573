-- A plan as a list of stretches: what one station emits from a step on, packet bits and then jam bits. The newest stands
-- first. The laws are in Sounding and Reaching. Assumes nothing.
use Rattle.std.specs.Prelude.{ℕ, ◌+◌, ◌-◌, Bool, false, ◌||◌, List, [], ◌∷◌, eqb, ltb}
use Rattle.octets.specs.Base.{pick}
use Rattle.station_symbols.specs.declared.Symbol.{Symbol}
use Rattle.station_symbols.specs.declared.Symbol.TheVariants.{Silence, Bit, Jam}
use Rattle.fast_plan.specs.Plan.{Plan}
use Rattle.fast_list.specs.declared.Stretch.{Stretch}

-- the step after its last one
abbrev pub end_of : Stretch → ℕ
end_of r = r.from + r.bits + r.jam

-- what it emits in step s; B i k is packet bit k of station i
unfoldable pub symbol_in : (ℕ → ℕ → Symbol) → Stretch → ℕ → Symbol
symbol_in B r s =
    pick (ltb s r.from) Silence
    (pick (ltb s (r.from + r.bits)) (B r.who (r.bit + (s - r.from))) (pick (ltb s (end_of r)) Jam Silence))

abbrev pub over : Symbol → Symbol → Symbol
over Silence y = y
over (Bit b) y = Bit b
over Jam y = Jam

-- the plan of a list
unfoldable pub plan_in : (ℕ → ℕ → Symbol) → List Stretch → Plan
plan_in B [] i s = Silence
plan_in B (r ∷ l) i s = over (pick (eqb r.who i) (symbol_in B r s) Silence) (plan_in B l i s)

-- ---- what is heard of it

-- whether a stretch is heard at station j in step s
unfoldable pub sounds : (d : ℕ → ℕ → ℕ) → Stretch → (j s : ℕ) → Bool
sounds d r j s =
    pick (eqb r.who j) false
    (pick (ltb s (r.from + d r.who j)) false (ltb s (end_of r + d r.who j)))

-- whether one of station i's is
unfoldable pub sounds_of : (d : ℕ → ℕ → ℕ) → List Stretch → (i j s : ℕ) → Bool
sounds_of d [] i j s = false
sounds_of d (r ∷ l) i j s = pick (eqb r.who i) (sounds d r j s) false || sounds_of d l i j s

-- whether any is
unfoldable pub sounds_any : (d : ℕ → ℕ → ℕ) → List Stretch → (j s : ℕ) → Bool
sounds_any d [] j s = false
sounds_any d (r ∷ l) j s = sounds d r j s || sounds_any d l j s
