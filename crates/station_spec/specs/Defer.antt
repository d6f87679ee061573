-- Deference: when a station may start (document 01, "One bit time").
-- "Each station is in just one of quiet, busy or gap, and a gap carries its count of quiet bits; busy and gap also
-- remember whether the station itself emitted in that busy stretch." Assumes nothing.
use Rattle.std.specs.Prelude.{ℕ, ◌+◌, Bool, true, false, not, ◌||◌, ◌&&◌, ltb, leb}
use Rattle.octets.specs.Base.{pick}
use Rattle.sheet_layout.specs.declared.Figures.{Figures}
use Rattle.sheet_layout.specs.Layout.{gap_of}
use Rattle.station_state.specs.declared.Deference.{Deference}
use Rattle.station_state.specs.declared.Deference.TheVariants.{Quiet, Busy, Gap}
use Rattle.station_spec.specs.declared.Deferred.{Deferred}

-- "*Busy* means: hears any other, or emitted at t−1."
abbrev pub is_busy : (hears emitted : Bool) → Bool
is_busy hears emitted = hears || emitted

-- the next phase, with no frame started
abbrev pub to : Deference → Deferred
to d = record { phase = d; start = false }

-- "Quiet: if busy, go to busy." Else it ends quiet, and a waiting frame starts.
unfoldable pub quiet_rule : (hears emitted waits : Bool) → Deferred
quiet_rule hears emitted waits =
    pick (is_busy hears emitted) (to (Busy emitted)) (record { phase = Quiet; start = waits })

-- "Busy: stay while busy; the first step that isn't busy makes gap, count 1."
unfoldable pub busy_rule : (own hears emitted : Bool) → Deferred
busy_rule own hears emitted = pick (is_busy hears emitted) (to (Busy (own || emitted))) (to (Gap 1 own))

-- "if others are heard, n < gap1 and the station did not emit in the stretch"
unfoldable pub goes_back : (gap1 n : ℕ) (own hears : Bool) → Bool
goes_back gap1 n own hears = hears && (ltb n gap1 && not own)

-- "Gap, count G: quiet. A waiting frame starts in this step, carrier or none; with none waiting, the quiet rule
-- applies."
unfoldable pub gap_over : (hears emitted waits : Bool) → Deferred
gap_over hears emitted waits = pick waits (record { phase = Quiet; start = true }) (quiet_rule hears emitted false)

-- "Gap, count n < G: if .., back to busy; else n + 1."
unfoldable pub gap_rule : Figures → (n : ℕ) (own hears emitted waits : Bool) → Deferred
gap_rule f n own hears emitted waits =
    pick (leb (gap_of f) n) (gap_over hears emitted waits)
    (pick (goes_back f.gap1 n own hears) (to (Busy own)) (to (Gap (n + 1) own)))

unfoldable pub defer : Figures → Deference → (hears emitted waits : Bool) → Deferred
defer f Quiet hears emitted waits = quiet_rule hears emitted waits
defer f (Busy own) hears emitted waits = busy_rule own hears emitted
defer f (Gap n own) hears emitted waits = gap_rule f n own hears emitted waits
