-- How long a silence lasts, as a number: the least of what each station and each line allows. That so many steps are
-- one jump is in proofs/Bound. Assumes nothing.
use Rattle.std.specs.Prelude.{ℕ, zero, suc, ◌+◌, ◌≤◌, ◌<◌, min, max, ◌≡◌, Bool, true, false, not, List, eqb, ltb}
use Rattle.std.proofs.Common.{sym, ◌∙◌, ap, true≢false, arith, eqb-true}
use Rattle.octets.specs.Base.{pick, some}
use Rattle.octets.specs.BaseLaws.{by_test, by_eq, none_below}
use Rattle.sheet_layout.specs.declared.Figures.{Figures}
use Rattle.station_state.specs.declared.Deference.{Deference}
use Rattle.station_state.specs.declared.Transmitter.{Transmitter}
use Rattle.station_state.specs.declared.Transmitter.TheVariants.{NoFrame, Waiting, BackingOff, Sending, Heading}
use Rattle.station_state.specs.declared.Transmitter.TheVariants.{Jamming}
use Rattle.station_state.specs.declared.Receiver.{Receiver}
use Rattle.station_state.specs.declared.Receiver.TheVariants.{Listening, Readable, Seeking, Collecting}
use Rattle.station_state.specs.declared.Station.{Station}
use Rattle.area.specs.Area.{clock_at, figures_at, count_at, station_at, symbol_at}
use Rattle.bus_spec.specs.Run.{first}
use Rattle.bus_spec.specs.RunLaws.{first_most, below_first}
use Rattle.fast_silence.specs.Rested.{rests_for, Idle}
use Rattle.fast_silence.specs.Jump.{jumped}
use Rattle.area.specs.Offsets.{ring}

-- ---- a station, of m steps asked

unfoldable pub frames_rest : Figures → (m : ℕ) → Deference → Transmitter → ℕ
frames_rest f m d NoFrame = m
frames_rest f m d Waiting = rests_for f d
frames_rest f m d (BackingOff w) = max w (rests_for f d)
frames_rest f m d (Sending k) = 0
frames_rest f m d (Heading k) = 0
frames_rest f m d (Jamming k ends) = 0

unfoldable pub idle : Receiver → Bool
idle Listening = true
idle (Readable n) = true
idle (Seeking row sp own) = false
idle (Collecting n sp own) = false

unfoldable pub station_rests : Figures → (m : ℕ) → Station → ℕ
station_rests f m s = pick s.emitted 0 (pick (idle s.receiver) (frames_rest f m s.deference s.transmitter) 0)

pub is_idle : (r : Receiver) → idle r ≡ true → Idle r
unfolding idle
is_idle Listening e = tt
is_idle (Readable n) e = tt
is_idle (Seeking row sp own) e = absurd (true≢false (sym e))
is_idle (Collecting n sp own) e = absurd (true≢false (sym e))

-- ---- a line: to its first place in use, of m steps asked

unfoldable pub used : List ℕ → (j s : ℕ) → Bool
used a j s = not (eqb (symbol_at a j (clock_at a + s)) 0)

unfoldable pub line_rests : List ℕ → (m j : ℕ) → ℕ
line_rests a m j = pick (some (used a j) (min m ring)) (first (used a j) (min m ring)) m

not_used : (c : ℕ) → not (eqb c 0) ≡ false → c ≡ 0
not_used c h = by_test (eqb c 0) (λ e. eqb-true c 0 e) (λ e. absurd (true≢false (sym (ap not e) ∙ h)))

pub line_most : (a : List ℕ) (m j : ℕ) → line_rests a m j ≤ m
unfolding line_rests
line_most a m j =
    by_test (some (used a j) (min m ring))
    (λ e. rw e (omega (arith, first_most (used a j) (min m ring))))
    (λ e. rw e (omega arith))

pub line_rests_lem : (a : List ℕ) (m j s : ℕ) → s < line_rests a m j → s < ring → symbol_at a j (clock_at a + s) ≡ 0
unfolding line_rests used
line_rests_lem a m j s h g =
    by_test (some (used a j) (min m ring))
    (λ e. not_used (symbol_at a j (clock_at a + s)) (below_first (used a j) (min m ring) s (rw e at h)))
    (λ e. let l : s < m = rw e at h in
    not_used (symbol_at a j (clock_at a + s)) (none_below (used a j) (min m ring) s e (omega arith)))

-- ---- all of them: the least, found one after the other

-- what the first i stations allow of m steps
unfoldable pub stations_rest : List ℕ → (m i : ℕ) → ℕ
stations_rest a m zero = m
stations_rest a m (suc i) = min (station_rests (figures_at a) (stations_rest a m i) (station_at a i)) (stations_rest a m i)

-- and the first i lines
unfoldable pub lines_rest : List ℕ → (m i : ℕ) → ℕ
lines_rest a m zero = m
lines_rest a m (suc i) = line_rests a (lines_rest a m i) i

-- fewer than five steps are not worth a jump
unfoldable pub worth : ℕ → ℕ
worth m = pick (ltb m 5) 0 m

-- how many of the next m steps are made as one jump; 0 where none is
unfoldable pub silent_for : (m : ℕ) → List ℕ → ℕ
silent_for m a = worth (lines_rest a (worth (stations_rest a m (count_at a))) (count_at a))

-- what a jump of r steps leaves, none for 0
unfoldable pub skipped : (r : ℕ) → List ℕ → List ℕ
skipped r a = pick (eqb r 0) a (jumped r a)

pub worth_most : (m : ℕ) → worth m ≤ m
unfolding worth
worth_most m = by_test (ltb m 5) (λ e. rw e (omega arith)) (λ e. rw e (omega arith))

-- they fall
pub stations_fall : (a : List ℕ) (m i n : ℕ) → i ≤ n → stations_rest a m n ≤ stations_rest a m i
unfolding stations_rest
stations_fall a m i zero h = let e : i ≡ 0 = omega arith in rw e (omega arith)
stations_fall a m i (suc n) h =
    by_eq i (suc n) (λ e. rw e (omega arith)) (λ ne. omega (arith, stations_fall a m i n (omega arith)))

pub lines_fall : (a : List ℕ) (m i n : ℕ) → i ≤ n → lines_rest a m n ≤ lines_rest a m i
unfolding lines_rest
lines_fall a m i zero h = let e : i ≡ 0 = omega arith in rw e (omega arith)
lines_fall a m i (suc n) h =
    by_eq i (suc n) (λ e. rw e (omega arith))
    (λ ne. omega (arith, line_most a (lines_rest a m n) n, lines_fall a m i n (omega arith)))
