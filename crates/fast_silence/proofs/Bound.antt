-- So many steps as every station and every line allows (the specs' Bound) are one jump. Assumes nothing.
use Rattle.std.specs.Prelude.{ℕ, suc, ◌+◌, ◌≤◌, ◌<◌, ◌≡◌, refl, Bool, List}
use Rattle.std.proofs.Common.{◌∙◌, ap, arith}
use Rattle.octets.specs.Base.{pick}
use Rattle.octets.specs.BaseLaws.{by_test}
use Rattle.sheet_layout.specs.declared.Figures.{Figures}
use Rattle.station_state.specs.declared.Deference.{Deference}
use Rattle.station_state.specs.declared.Transmitter.{Transmitter}
use Rattle.station_state.specs.declared.Transmitter.TheVariants.{NoFrame, Waiting, BackingOff, Sending, Heading}
use Rattle.station_state.specs.declared.Transmitter.TheVariants.{Jamming}
use Rattle.station_state.specs.declared.Station.{Station}
use Rattle.area.specs.Area.{clock_at, figures_at, count_at, station_at}
use Rattle.bus_spec.specs.Ready.{Readiness}
use Rattle.bus_spec.specs.Run.{run_of}
use Rattle.bus_spec.specs.Until.{until_event}
use Rattle.bus_spec.specs.UntilLaws.{plus}
use Rattle.fast_plan.specs.Plan.{Holds, Planned, steps}
use Rattle.fast_silence.specs.Rested.{Lasts, Rests}
use Rattle.fast_silence.specs.Jump.{Silent, silent_plan, jumped}
use Rattle.fast_silence.proofs.Jump.{silence_holds, silence_jumps, jump_planned}
use Rattle.fast_silence.proofs.Jump.{run_jumps, until_jumps}
use Rattle.sheet_layout.specs.Limits.{last_clock}
use Rattle.fast_silence.specs.Bound.{frames_rest, idle, station_rests, is_idle, line_rests, line_rests_lem}
use Rattle.fast_silence.specs.Bound.{stations_rest, lines_rest, worth, silent_for, worth_most, stations_fall}
use Rattle.fast_silence.specs.Bound.{lines_fall}

-- ---- a station, of m steps asked

pub frames_last : (f : Figures) (m K : ℕ) (d : Deference) (x : Transmitter) → 0 < K → K ≤ frames_rest f m d x
    → Lasts f K d x
unfolding frames_rest
frames_last f m K d NoFrame p h = tt
frames_last f m K d Waiting p h = h
frames_last f m K d (BackingOff w) p h = h
frames_last f m K d (Sending k) p h = absurd (omega arith)
frames_last f m K d (Heading k) p h = absurd (omega arith)
frames_last f m K d (Jamming k ends) p h = absurd (omega arith)

pub rested_for : (f : Figures) (m K : ℕ) (s : Station) → 0 < K → K ≤ station_rests f m s → Rests f K s
unfolding station_rests
rested_for f m K s p h =
    by_test s.emitted
    (λ e. absurd (zero_none K p
    (ap (λ (b : Bool). pick b 0 (pick (idle s.receiver) (frames_rest f m s.deference s.transmitter) 0)) e)
    h))
    (λ e. by_test (idle s.receiver)
    (λ i. record {
      lasts = frames_last f m K s.deference s.transmitter p (below K (value e i) h);
      idle = is_idle
          s.receiver i;
      silent = e;
    })
    (λ i. absurd (zero_none K p (value e i) h)))
  where
    zero_none : (K : ℕ) {v : ℕ} → 0 < K → v ≡ 0 → K ≤ v → ⊥
    zero_none K {v} p e h = omega (arith, e, h)

    below : (K : ℕ) {v w : ℕ} → v ≡ w → K ≤ v → K ≤ w
    below K {v} {w} e h = omega (arith, e, h)

    value : {b c : Bool} → s.emitted ≡ b → idle s.receiver ≡ c
        → pick s.emitted 0 (pick (idle s.receiver) (frames_rest f m s.deference s.transmitter) 0) ≡ pick b 0
        (pick c (frames_rest f m s.deference s.transmitter) 0)
    value {b} {c} e i =
        ap (λ (u : Bool). pick u 0 (pick (idle s.receiver) (frames_rest f m s.deference s.transmitter) 0)) e
        ∙ ap (λ (u : Bool). pick b 0 (pick u (frames_rest f m s.deference s.transmitter) 0)) i

-- ---- all of them: the least, found one after the other

stations_one : (a : List ℕ) (m i : ℕ)
    → stations_rest a m (suc i) ≤ station_rests (figures_at a) (stations_rest a m i) (station_at a i)
unfolding stations_rest
stations_one a m i = omega arith

lines_one : (a : List ℕ) (m i : ℕ) → lines_rest a m (suc i) ≡ line_rests a (lines_rest a m i) i
unfolding lines_rest
lines_one a m i = refl

module _ (a : List ℕ) (m : ℕ) where
  n : ℕ
  n = count_at a

  fewer : ℕ
  fewer = worth (stations_rest a m n)

  most_lines : silent_for m a ≤ lines_rest a fewer n
  unfolding silent_for fewer n
  most_lines = worth_most (lines_rest a (worth (stations_rest a m (count_at a))) (count_at a))

  most_stations : silent_for m a ≤ stations_rest a m n
  unfolding fewer lines_rest
  most_stations = omega (arith, most_lines, lines_fall a fewer 0 n (omega arith), worth_most (stations_rest a m n))

  pub silent_most : silent_for m a ≤ m
  unfolding stations_rest
  silent_most = omega (arith, most_stations, stations_fall a m 0 n (omega arith))

  pub silent_for_lem : (K : ℕ) → 0 < K → K ≤ silent_for m a → Silent a K
  unfolding n
  silent_for_lem K pos h =
      record {
        empty = λ j s hj hs near. line_rests_lem a (lines_rest a fewer j) j s
            (omega (arith, most_lines, lines_fall a fewer (suc j) n hj, lines_one a fewer j)) near;
        calm = λ i hi. rested_for (figures_at a) (stations_rest a m i) K (station_at a i) pos
            (omega (arith, most_stations, stations_fall a m (suc i) n hi, stations_one a m i));
      }

  -- Stage 1 with its length
  pub silence_run : (K k r : ℕ) (ws : List ℕ) → Readiness a → 0 < K → K ≤ silent_for m a → clock_at a + K ≤ last_clock
      → run_of (K + k) r ws a ≡ run_of k (r + K) ws (jumped K a)
  silence_run K k r ws ready pos h early = run_jumps a K ready (silent_for_lem K pos h) k r ws pos early

  pub silence_until : (K k : ℕ) → Readiness a → 0 < K → K ≤ silent_for m a → clock_at a + K ≤ last_clock
      → until_event (K + k) a ≡ plus K (until_event k (jumped K a))
  silence_until K k ready pos h early = until_jumps a K ready (silent_for_lem K pos h) k pos early

  pub silence_plans : (K : ℕ) → Readiness a → 0 < K → K ≤ silent_for m a → clock_at a + K ≤ last_clock
      → Planned a silent_plan K (jumped K a)
  silence_plans K ready pos h early = jump_planned a K ready (silent_for_lem K pos h) pos early

  pub silence_steps : (K : ℕ) → Readiness a → 0 < K → K ≤ silent_for m a → clock_at a + K ≤ last_clock
      → (steps K a ≡ jumped K a) × Holds a silent_plan K
  silence_steps K ready pos h early =
      (silence_jumps a K ready (silent_for_lem K pos h) pos early, silence_holds a K ready (silent_for_lem K pos h))
