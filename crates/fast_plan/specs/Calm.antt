-- A window without events: each station, by itself on what it hears by the plan, emits what the plan says and has no
-- event. That such a window is what happens is in proofs/Calm. Assumes nothing.
use Prim.Native.Nat.{ℕ, ◌+◌, ◌-◌, ◌≤◌, ◌<◌}
use Rattle.std.specs.Prelude.{◌≡◌, Bool, true, ltb}
use Rattle.std.proofs.Math.Path.{refl, ap}
use Rattle.std.proofs.Common.{◌∙◌, ltb-true, ltb-false}
use Rattle.std.proofs.Math.Bool.{false}
use mathlib.Core.List.{List}
use native.Mathlib.Omega.{arith}
use Rattle.sheet_layout.specs.declared.Figures.{Figures}
use Rattle.station_symbols.specs.declared.Heard.{Heard}
use Rattle.station_symbols.specs.declared.Symbol.{Symbol}
use Rattle.area.specs.Area.{depth_at, figures_at, count_at}
use Rattle.bus_spec.specs.declared.Act.{Act}
use Rattle.bus_spec.specs.BitTime.{events_of, no_events}
use Rattle.fast_plan.specs.Own.{act_on, by_itself, itself_split}
use Rattle.fast_plan.specs.Plan.{Plan, hears}

-- for m steps from x on station i, which hears H, emits Q and has no event
pub record Calm (f : Figures) (d i : ℕ) (H : ℕ → Heard) (Q : ℕ → Symbol) (m : ℕ) (x : List ℕ) : Type 0 where
  pub emits : (s : ℕ) → s < m → (act_on f d i (H s) (by_itself f d i H s x)).symbol ≡ Q s
  pub quiet : (s : ℕ) → s < m → events_of (act_on f d i (H s) (by_itself f d i H s x)) ≡ no_events

module _ (f : Figures) (d i : ℕ) (H : ℕ → Heard) (Q : ℕ → Symbol) (x : List ℕ) where
  pub calm_none : Calm f d i H Q 0 x
  calm_none = record { emits = λ s h. absurd (omega arith); quiet = λ s h. absurd (omega arith) }

  pub calm_less : (m k : ℕ) → k ≤ m → Calm f d i H Q m x → Calm f d i H Q k x
  calm_less m k h c = record { emits = λ s l. c.emits s (omega arith); quiet = λ s l. c.quiet s (omega arith) }

  -- some steps, and then others
  later : (m s : ℕ) → m ≤ s
      → act_on f d i (H s) (by_itself f d i H s x) ≡ act_on f d i (H (m + (s - m)))
      (by_itself f d i (λ u. H (m + u)) (s - m) (by_itself f d i H m x))
  later m s h =
      let e : s ≡ m + (s - m) = omega arith in
      ap (λ (u : ℕ). act_on f d i (H u) (by_itself f d i H u x)) e
      ∙ ap (act_on f d i (H (m + (s - m)))) (itself_split f d i H m (s - m) x)

  pub calm_then : (m k : ℕ) → Calm f d i H Q m x → Calm f d i (λ s. H (m + s)) (λ s. Q (m + s)) k (by_itself f d i H m x)
      → Calm f d i H Q (m + k) x
  calm_then m k p q =
      record {
        emits = λ s h. (go s h (ltb s m) refl).0;
        quiet = λ s h. (go s h (ltb s m) refl).1;
      }
    where
      go : (s : ℕ) → s < m + k → (b : Bool) → ltb s m ≡ b
          → ((act_on f d i (H s) (by_itself f d i H s x)).symbol ≡ Q s)
          × (events_of (act_on f d i (H s) (by_itself f d i H s x)) ≡ no_events)
      go s h true e = let l = ltb-true s m e in (p.emits s l, p.quiet s l)
      go s h false e =
          let l = ltb-false s m e in
          let z : m + (s - m) ≡ s = omega arith in
          let w = later m s l in (
            ap (λ (r : Act). r.symbol) w ∙ q.emits (s - m) (omega arith) ∙ ap Q z,
            ap events_of w ∙ q.quiet (s - m)
                (omega arith),
          )

-- every station
abbrev pub AllCalm : List ℕ → Plan → ℕ → Type 0
AllCalm a P K = (i : ℕ) → i < count_at a → Calm (figures_at a) (depth_at a) i (hears a P i) (P i) K a
