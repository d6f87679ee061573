-- What a station hears in a window, by what it heard of before it; and what a window is. Assumes nothing.
use Rattle.std.specs.Prelude.{ℕ, ◌+◌, ◌-◌, ◌≤◌, ◌<◌, ◌≡◌, List, Option}
use Rattle.std.specs.Option.{MatchOption}
use Rattle.sheet_layout.specs.declared.Figures.{Figures}
use Rattle.station_symbols.specs.declared.Heard.{Heard}
use Rattle.area.specs.Area.{clock_at, depth_at, figures_at, count_at}
use Rattle.bus_spec.specs.Ready.{Readiness}
use Rattle.fast_plan.specs.Plan.{steps}
use Rattle.fast_plan.specs.Calm.{AllCalm}
use Rattle.fast_plan.specs.Exact.{own_all}
use Rattle.fast_plan.specs.Placed.{lines_done}
use Rattle.fast_heard.specs.declared.Near.{Near}
use Rattle.fast_heard.specs.Hearing.{plan_of, line_from, mixed, sends}
use Rattle.fast_bound.specs.Bound.{AllLast}
use Rattle.fast_window.specs.declared.Start.{Start}

-- ---- one station

-- the packet bit that an emitter at distance d, whose next bit is k, brings after s steps
abbrev pub bit_at : (k d s : ℕ) → ℕ
bit_at k d s = k + (s - d)

-- what was on its way to station j of area x at clock t, joined with what the nearest emitters bring, where the nearest
-- sends the frame F from its packet bit k on; k is 0 where it jams
unfoldable pub heard_by : List ℕ → (j t : ℕ) → Near → (F : List ℕ) (k : ℕ) → ℕ → Heard
heard_by x j t w F k = mixed (line_from x j t) w (sends F k)

-- from step s on
unfoldable pub heard_from : List ℕ → (j t : ℕ) → Near → (F : List ℕ) (k s : ℕ) → ℕ → Heard
heard_from x j t w F k s v = heard_by x j t w F k (s + v)

-- ---- all stations

-- what is read of a ready area before a window
pub record Starts (a : List ℕ) (f : Figures) (d n t : ℕ) : Type 0 where
  pub ready : Readiness a
  pub figures : f ≡ figures_at a
  pub depth : d ≡ depth_at a
  pub count : n ≡ count_at a
  pub clock : t ≡ clock_at a

-- shut, so that a search does not enter it
unfoldable pub Begins : List ℕ → Figures → (d n t : ℕ) → Type 0
Begins a f d n t = Starts a f d n t

abbrev pub Began : List ℕ → Start → (n : ℕ) → Type 0
Began a s n = Begins a s.figures s.depth n s.clock

-- the stations after r steps, and then the lines
unfoldable pub settled_of : List ℕ → (r : ℕ) → List ℕ
settled_of a r = lines_done a (plan_of a) r (count_at a) (own_all a (plan_of a) r (count_at a) a)

-- each emitter emits through all of r steps, of which there are some
pub record Lasts (a : List ℕ) (r : ℕ) : Type 0 where
  pub some : 0 < r
  pub lasts : AllLast a r

unfoldable pub Lasting : List ℕ → (r : ℕ) → Type 0
Lasting a r = Lasts a r

-- of m steps r are made, in none of which a station starts or has an event
pub record Window (m r : ℕ) (a b : List ℕ) : Type 0 where
  pub some : 0 < r
  pub within : r ≤ m
  pub calm : AllCalm a (plan_of a) r
  pub made : b ≡ steps r a

-- some steps are, or none
unfoldable pub Passed : (m : ℕ) → Option ℕ → (a b : List ℕ) → Type 0
Passed m o a b = MatchOption o (b ≡ a) (λ r. Window m r a b)
