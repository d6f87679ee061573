-- Only a plan's first K steps matter for K steps: what is heard, what each station does, whether the plan holds. So a
-- plan may grow past the steps for which it holds already. Assumes nothing.
use Rattle.std.specs.Prelude.{ℕ, suc, ◌-◌, ◌≤◌, ◌<◌, ◌≡◌, false, List}
use Rattle.std.proofs.Common.{sym, ◌∙◌, arith}
use Rattle.std.proofs.Math.Path.{ap, ap₂}
use Rattle.octets.specs.BaseLaws.{by_eq}
use Rattle.station_symbols.specs.declared.Symbol.{Symbol}
use Rattle.area.specs.Area.{figures_at, depth_at, count_at, met}
use Rattle.bus_spec.specs.declared.Act.{Act}
use Rattle.fast_plan.specs.Own.{act_on, itself_heard}
use Rattle.fast_plan.specs.Plan.{Plan, net_of, line_now, hears, own_after, act_after, Holds}
use Rattle.fast_plan.specs.Happens.{heard_by_lem}
use Rattle.fast_plan.specs.Prefix.{Unhurt}
use Rattle.station_tally.specs.Words.{ends_run}

-- two plans say the same for K steps
unfoldable pub Alike : List ℕ → Plan → Plan → ℕ → Type 0
Alike a P Q K = (i s : ℕ) → i < count_at a → s < K → P i s ≡ Q i s

module _ (a : List ℕ) (P Q : Plan) (K : ℕ) (like : Alike a P Q K) where
  pub hears_alike : (j s : ℕ) → s < K → hears a P j s ≡ hears a Q j s
  unfolding hears net_of Alike
  hears_alike j s h =
      ap (met (line_now a j s))
      (heard_by_lem (net_of a) P Q j s (λ i hi ne le. like i (s - (net_of a).d i j) hi (omega arith)))

  pub act_alike : (i s : ℕ) → s < K → act_after a P i s ≡ act_after a Q i s
  unfolding act_after own_after
  act_alike i s h =
      ap₂ (act_on (figures_at a) (depth_at a) i) (hears_alike i s h)
      (itself_heard (figures_at a) (depth_at a) i (hears a P i) (hears a Q i) s a (λ u l. hears_alike i u (omega arith)))

  -- Theorem 3: both hold, or neither
  pub holds_alike : Holds a P K → Holds a Q K
  unfolding Holds Alike
  holds_alike h s i hs hi =
      ap (λ (r : Act). r.symbol) (sym (act_alike i s hs)) ∙ h s i hs hi ∙ like i s hi hs

  pub unhurt_alike : Unhurt a P K → Unhurt a Q K
  unfolding Unhurt
  unhurt_alike u s i hs hi = ap (λ (r : Act). ends_run r.outcome.sent) (sym (act_alike i s hs)) ∙ u s i hs hi

-- one step more, in which each does what the plan says
pub holds_more : (a : List ℕ) (P : Plan) (K : ℕ) → Holds a P K
    → ((i : ℕ) → i < count_at a → (act_after a P i K).symbol ≡ P i K) → Holds a P (suc K)
unfolding Holds
holds_more a P K h n s i hs hi =
    by_eq s K (λ e. rw e (n i hi)) (λ e. h s i (omega arith) hi)
