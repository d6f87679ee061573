-- Every execution keeps the rules of a trace on a layout whose gap is no longer than the shortest run. Assumes nothing.
use Rattle.std.specs.Prelude.{ℕ, ◌+◌, ◌≤◌, List}
use Rattle.sheet_layout.specs.Layout.{gap_of}
use Rattle.trace.specs.Trace.{Lawful}
use Rattle.bus_meeting.specs.Net.{Net}
use Rattle.trace.specs.World.{Offer}
use Rattle.trace.specs.Run.{emits, Sound}
use Rattle.trace.specs.Keep.{rules}

-- ---- the induction

module _ (P : Net) (inp : ℕ → List (Offer P)) (span : ℕ) (L : Sound P span) where
  -- ---- the rules

  pub lawful : gap_of P.fig ≤ 64 + P.fig.jam
      → Lawful P.n span (gap_of P.fig) (64 + P.fig.jam) P.d (emits P inp)
  lawful g = record { metric = L.metric; rules = rules P inp span L; fits = g }
