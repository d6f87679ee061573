-- A plan: what each station is to emit in the steps from now on; what each hears by it, and what is on its way after
-- some steps. The plan holds where each station, by itself on what it hears by the plan, emits what the plan says.
-- Assumes nothing.
use Rattle.std.specs.Prelude.{ℕ, ◌+◌, ◌≤◌, ◌<◌, ◌≡◌, List, ltb, length, get_or}
use Rattle.octets.specs.Base.{pick}
use Rattle.octets.specs.Turns.{turns}
use Rattle.station_symbols.specs.declared.Heard.{Heard}
use Rattle.station_symbols.specs.declared.Heard.TheVariants.{Nothing}
use Rattle.station_symbols.specs.declared.Symbol.{Symbol}
use Rattle.station_symbols.specs.declared.Symbol.TheVariants.{Silence}
use Rattle.area.specs.Places.{clock, depth, Keeps}
use Rattle.area.specs.Whole.{Still}
use Rattle.area.specs.Area.{clock_at, with_clock, depth_at, draw_at, figures_at, count_at, address_at, space_at, buffer_at}
use Rattle.area.specs.Area.{arrival_at, met}
use Rattle.bus_spec.specs.declared.Act.{Act}
use Rattle.bus_spec.specs.BitTime.{step_area}
use Rattle.bus_spec.specs.Ready.{Readiness}
use Rattle.bus_meeting.specs.Net.{Net, heard}
use Rattle.fast_plan.specs.Own.{act_on, by_itself, Stays, OwnSame}
use Rattle.area.specs.Offsets.{ring}
use Rattle.sheet_layout.specs.Limits.{max_stations}

-- P i s: what station i emits in step s from now
abbrev pub Plan : Type 0
Plan = ℕ → ℕ → Symbol

-- its first K steps
unfoldable pub cut : ℕ → Plan → Plan
cut K P i s = pick (ltb s K) (P i s) Silence

-- n stations and their distances, as `heard` wants them
unfoldable pub net_of : List ℕ → Net
net_of a = record {
  n = count_at a;
  fig = figures_at a;
  depth = depth_at a;
  draw = draw_at a;
  address = address_at a;
  d = space_at a;
  blank = buffer_at a;
}

-- L_j: what is on its way to station j now, and reaches it v steps from now
unfoldable pub line_now : List ℕ → (j v : ℕ) → Heard
line_now a j v = pick (ltb v ring) (arrival_at a j (clock_at a + v)) Nothing

-- H_j(s): what station j hears by the plan, s steps from now
unfoldable pub hears : List ℕ → Plan → (j s : ℕ) → Heard
hears a P j s = met (line_now a j s) (heard (net_of a) P j s)

-- L'_j: what is on its way to station j after K steps by the plan, and reaches it v steps from now
unfoldable pub line_after : List ℕ → Plan → (K j v : ℕ) → Heard
line_after a P K j v = met (line_now a j v) (heard (net_of a) (cut K P) j v)

-- station i after s turns by the plan, by itself; and what it does then
unfoldable pub own_after : List ℕ → Plan → (i s : ℕ) → List ℕ
own_after a P i s = by_itself (figures_at a) (depth_at a) i (hears a P i) s a

unfoldable pub act_after : List ℕ → Plan → (i s : ℕ) → Act
act_after a P i s = act_on (figures_at a) (depth_at a) i (hears a P i s) (own_after a P i s)

-- each emits what the plan says, in each of K steps
unfoldable pub Holds : List ℕ → Plan → ℕ → Type 0
Holds a P K = (s i : ℕ) → s < K → i < count_at a → (act_after a P i s).symbol ≡ P i s

-- ---- what happens

unfoldable pub steps : ℕ → List ℕ → List ℕ
steps K a = turns (λ s x. step_area x) K a

-- x is what K steps by the plan leave of a: the clock; of each station its own parts, as it leaves them by itself; in
-- each line what was on its way and what the plan put there; and all else as it was
pub record Planned (a : List ℕ) (P : Plan) (K : ℕ) (x : List ℕ) : Type 0 where
  pub ready : Readiness x
  pub long : length x ≡ length a
  pub time : clock_at x ≡ clock_at a + K
  pub stamp : 0 < K → Keeps clock x (with_clock a (clock_at a + K))
  pub depth : Keeps depth x a
  pub stays : (i : ℕ) → i < max_stations → Stays i x a
  pub own : (i : ℕ) → i < count_at a → OwnSame i x (own_after a P i K)
  pub line : (j v : ℕ) → j < count_at a → K ≤ v → v < K + ring → arrival_at x j (clock_at a + v) ≡ line_after a P K j v
  pub rest : (k : ℕ) → Still (count_at a) k → get_or x k 0 ≡ get_or a k 0
