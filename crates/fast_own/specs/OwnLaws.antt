-- A law for each way through the code of a station's turn by itself. Assumes nothing.
use Rattle.std.specs.Prelude.{ℕ, ◌≡◌, List}
use Rattle.std.proofs.Common.{sym, ◌∙◌}
use Rattle.std.proofs.Math.Path.{ap, subst}
use Rattle.sheet_layout.specs.declared.Figures.{Figures}
use Rattle.station_symbols.specs.declared.Heard.{Heard}
use Rattle.station_spec.specs.declared.Stepped.{Stepped}
use Rattle.station_state.specs.declared.Station.{Station}
use Rattle.station_spec.specs.Step.{stepped}
use Rattle.area.specs.Area.{station_at, draw_at, buffer_at}
use Rattle.bus_spec.specs.InPlace.{Kept}
use Rattle.fast_plan.specs.Own.{outcome_on, act_on, own_left, own_turn, on_kept}

module _ (f : Figures) (d i : ℕ) (h : Heard) (a : List ℕ) where
  pub outcome_is : (s : Station) (w : ℕ) (b : List ℕ) (r : Stepped) → s ≡ station_at a i → w ≡ draw_at a i s.draw
      → b ≡ buffer_at a i → r ≡ stepped f s d w b h → r ≡ outcome_on f d i h a
  unfolding outcome_on
  outcome_is s w b r p q e g = g ∙ rw (q, e, p)

  pub outcome_kept : (o : Stepped) → o ≡ outcome_on f d i h a → Kept o.stored
  unfolding act_on
  outcome_kept o e = subst (λ (x : Stepped). Kept x.stored) (sym e) (on_kept f d i h a)

  pub turn_is : (o : Stepped) (b : List ℕ) → o ≡ outcome_on f d i h a → b ≡ own_left i o a → b ≡ own_turn f d i h a
  unfolding own_turn act_on
  turn_is o b e g = g ∙ ap (λ (x : Stepped). own_left i x a) e
