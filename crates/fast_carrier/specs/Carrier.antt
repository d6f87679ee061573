-- How long the carrier at a station stays as it is: by its line, and by a list of stretches. Assumes nothing.
use Rattle.std.specs.Prelude.{ℕ, ◌+◌, ◌-◌, ◌≤◌, ◌<◌, min, ◌≡◌, refl, Bool, true, false, List, length}
use Rattle.std.proofs.Math.Path.{sym}
use Rattle.std.proofs.Common.{◌∙◌, ap, arith, lt-ltb, le-ltb}
use Rattle.std.proofs.Math.Bool.{or-true}
use Rattle.station_symbols.specs.declared.Heard.{Heard}
use Rattle.station_symbols.specs.declared.Heard.TheVariants.{Nothing, Clean, Spoiled}
use Rattle.station_symbols.specs.Packet.{hears_any}
use Rattle.area.specs.Area.{clock_at, arrival_at}
use Rattle.fast_plan.specs.Plan.{line_now}
use Rattle.fast_line.specs.declared.LineKind.{LineKind}
use Rattle.fast_line.specs.declared.LineKind.TheVariants.{Empty, Bits, Noise}
use Rattle.fast_line.specs.declared.LineRun.{LineRun}
use Rattle.fast_line.specs.Line.{kind_of, kind_number, kind_at, lasts, run_at}
use Rattle.fast_line.specs.LineLaws.{kind_numbered, lasts_each}
use Rattle.fast_list.specs.declared.Stretch.{Stretch}
use Rattle.fast_hear.specs.Listed.{list_of}
use Rattle.fast_hear.specs.Sound.{Sounds}
use Rattle.fast_agree.specs.Agree.{carrier_in}
use Rattle.area.specs.Offsets.{ring}

-- from step s on and before step u, line j is in use, or not, as b says
unfoldable pub LineUsed : List ℕ → (j s u : ℕ) → Bool → Type 0
LineUsed a j s u b = (v : ℕ) → s ≤ v → v < u → hears_any (line_now a j v) ≡ b

-- something is heard at j in these steps, or nothing is, by its line and the list of stretches
unfoldable pub CarrierFor : List ℕ → List Stretch → (j s u : ℕ) → Bool → Type 0
CarrierFor a l j s u b = (v : ℕ) → s ≤ v → v < u → carrier_in a (list_of l (length l)) j v ≡ b

-- ---- the line

-- whether places of this kind are in use
abbrev pub is_used : LineKind → Bool
is_used Empty = false
is_used Bits = true
is_used Noise = true

any_kind : (h : Heard) (k : LineKind) → kind_of h ≡ kind_number k → hears_any h ≡ is_used k
any_kind Nothing Empty e = refl
any_kind Nothing Bits e = absurd (omega (arith, e))
any_kind Nothing Noise e = absurd (omega (arith, e))
any_kind (Clean b) Empty e = absurd (omega (arith, e))
any_kind (Clean b) Bits e = refl
any_kind (Clean b) Noise e = refl
any_kind Spoiled Empty e = absurd (omega (arith, e))
any_kind Spoiled Bits e = refl
any_kind Spoiled Noise e = refl

kind_there : (a : List ℕ) (j t s v n len : ℕ) → t ≡ clock_at a → s ≤ v → v - s < len
    → len ≡ lasts a j (t + s) (kind_at a j (t + s)) n → kind_of (arrival_at a j (clock_at a + v)) ≡ kind_at a j (t + s)
unfolding kind_at
kind_there a j t s v n len et p q el =
    let z : clock_at a + v ≡ t + s + (v - s) = omega arith in
    ap (λ (u : ℕ). kind_of (arrival_at a j u)) z
    ∙ lasts_each a j (t + s) (kind_at a j (t + s)) n (v - s) (omega arith)

module _ (a : List ℕ) (j s : ℕ) where
  pub line_past : (m : ℕ) → ring ≤ s → LineUsed a j s m false
  unfolding LineUsed line_now
  line_past m h v p q = rw (le-ltb v ring (omega arith))

  pub line_run : (t n u : ℕ) (r : LineRun) (b : Bool) → r ≡ run_at a j (t + s) n → t ≡ clock_at a → n ≡ ring - s
      → s < ring → r.len ≤ n → u ≡ s + r.len → b ≡ is_used r.kind → LineUsed a j s u b
  unfolding LineUsed line_now run_at kind_at
  line_run t n u r b e et en h le eu eb v p q =
      rw (lt-ltb v ring (omega arith))
      (any_kind (arrival_at a j (clock_at a + v)) r.kind
      (kind_there a j t s v n r.len et p (omega arith) (ap (λ (x : LineRun). x.len) e)
      ∙ sym (kind_numbered (arrival_at a j (t + s))) ∙ ap (λ (x : LineRun). kind_number x.kind) (sym e)) ∙ sym eb)

-- ---- both

module _ (a : List ℕ) (l : List Stretch) (j s : ℕ) where
  pub by_line : (u : ℕ) (b : Bool) → LineUsed a j s u b → b ≡ true → CarrierFor a l j s u true
  unfolding LineUsed CarrierFor carrier_in
  by_line u b h e v p q = rw (h v p q, e)

  pub by_list_lem : (u : ℕ) (b : Bool) → Sounds a l j s u b → b ≡ true → CarrierFor a l j s u true
  unfolding Sounds CarrierFor carrier_in
  by_list_lem u b h e v p q = rw (h v p q, e) (or-true (hears_any (line_now a j v)))

  pub by_none : (x y u : ℕ) (b c : Bool) → LineUsed a j s x b → Sounds a l j s y c → b ≡ false → c ≡ false → u ≡ min x y
      → CarrierFor a l j s u false
  unfolding LineUsed Sounds CarrierFor carrier_in
  by_none x y u b c h g eb ec e v p q = rw (h v p (omega arith), eb) (g v p (omega arith) ∙ ec)
