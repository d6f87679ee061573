-- N1: "With 1, a run no longer ends early": where late collisions close frames, a run that is not refused makes all its
-- steps, on any layout and from any area that passes. Assumes nothing.
use Rattle.std.specs.Prelude.{ℕ, zero, suc, ◌+◌, ◌≤◌, ◌≡◌, refl, Bool, true, false, not, List, [], ltb, leb, eqb, replicate, None}
use Rattle.std.proofs.Common.{◌∙◌, ap, arith, eqb-true, ltb-false, eq-eqb}
use Rattle.octets.specs.Base.{accepted}
use Rattle.octets.specs.BaseLaws.{by_test, below_none, refused_none}
use Rattle.octets.specs.NumberLaws.{Octets}
use Rattle.sheet_layout.specs.declared.Figures.{Figures}
use Rattle.sheet_layout.specs.Limits.{last_clock}
use Rattle.station_state.specs.declared.Transmitter.{Transmitter}
use Rattle.station_state.specs.declared.Transmitter.TheVariants.{NoFrame, Waiting, BackingOff, Sending, Heading}
use Rattle.station_state.specs.declared.Transmitter.TheVariants.{Jamming}
use Rattle.station_spec.specs.Transmit.{packet_length, collision, send_bit, head_bit, last_jam, jam_bit}
use Rattle.station_spec.specs.Transmit.{backoff_bit, wait_bit, transmit}
use Rattle.station_tally.specs.Words.{ends_run, word_count}
use Rattle.station_spec.specs.Step.{stepped, next_station}
use Rattle.area.specs.Area.{clock_at, figures_at, count_at, station_at}
use Rattle.area.specs.AreaLaws.{figures_by}
use Rattle.area_check.specs.Valid.{area_refusal}
use Rattle.bus_spec.specs.declared.Events.{Events}
use Rattle.bus_spec.specs.BitTime.{act_at, act_in, outcome_in, events_of, events_at, step_area}
use Rattle.bus_spec.specs.Ready.{Readiness}
use Rattle.bus_spec.specs.Passes.{passes_ready}
use Rattle.bus_spec.proofs.Stays.{step_layout, step_ready, step_clock}
use Rattle.bus_spec.specs.Run.{tallied, late_at, stops, run_of, ran}
use Rattle.delivery.specs.Traced.{event_is}
use Rattle.delivery.proofs.Theorem.{no_station}
use Rattle.trace.specs.Basic.{by_le}

-- ---- a step

bit_goes_on : (f : Figures) (z n k : ℕ) (h : Bool) → f.ends ≡ 1 → ends_run (send_bit f z n k h).event ≡ false
unfolding send_bit collision
bit_goes_on f z n k true e =
    by_test (ltb f.slot k) (λ c. rw c (ap not (eq-eqb f.ends 1 e))) (λ c. rw c)
bit_goes_on f z n k false e = by_test (eqb k (packet_length z)) (λ c. rw c) (λ c. rw c)

jam_goes_on : (f : Figures) (n draw left : ℕ) (ends : Bool) → ends_run (jam_bit f n draw left ends).event ≡ false
unfolding jam_bit last_jam
jam_goes_on f n draw left ends =
    by_test (leb left 1)
    (λ c. by_test ends (λ d. rw (c, d))
    (λ d. by_test (eqb n f.limit) (λ b. rw (c, d, b)) (λ b. rw (c, d, b))))
    (λ c. rw c)

send_goes_on : (f : Figures) (x : Transmitter) (z n draw : ℕ) (start h : Bool) → f.ends ≡ 1
    → ends_run (transmit f x z n draw start h).event ≡ false
unfolding transmit wait_bit head_bit backoff_bit
send_goes_on f NoFrame z n draw start h e = refl
send_goes_on f Waiting z n draw true h e = bit_goes_on f z n 1 h e
send_goes_on f Waiting z n draw false h e = refl
send_goes_on f (BackingOff w) z n draw start h e = by_test (leb w 1) (λ c. rw c) (λ c. rw c)
send_goes_on f (Sending k) z n draw start h e = bit_goes_on f z n k h e
send_goes_on f (Heading k) z n draw start h e = refl
send_goes_on f (Jamming left ends) z n draw start h e = jam_goes_on f n draw left ends

act_goes_on : (a : List ℕ) (i : ℕ) → (figures_at a).ends ≡ 1 → ends_run (events_of (act_at a i)).sent ≡ false
unfolding act_at act_in outcome_in stepped next_station
act_goes_on a i e = send_goes_on (figures_at a) (station_at a i).transmitter (station_at a i).frame _ _ _ _ e

pub never_stops : (a : List ℕ) → (figures_at a).ends ≡ 1 → stops (events_at a) ≡ false
unfolding late_at
never_stops a e =
    below_none (late_at (events_at a)) 16
    (λ i hi. by_le (count_at a) i
    (λ c. ap (λ (v : Events). ends_run v.sent) (no_station a i c))
    (λ c. ap (λ (v : Events). ends_run v.sent) (event_is a i c) ∙ act_goes_on a i e))

-- ---- a run

run_all : (k m : ℕ) (ws a : List ℕ) → Readiness a → clock_at a + k ≤ last_clock → (figures_at a).ends ≡ 1
    → ((run_of k m ws a).ended ≡ None) × ((run_of k m ws a).steps ≡ m + k)
unfolding run_of
run_all zero m ws a r h e = (refl, omega arith)
run_all (suc k) m ws a r h e =
    let s = step_ready a r (omega arith) in
    let c = step_clock a r in
    let f = ap (λ (x : Figures). x.ends) (figures_by (step_area a) a (step_layout a r)) ∙ e in
    let q = run_all k (m + 1) (tallied (events_at a) 16 ws) (step_area a) s (omega arith) f in
    rw (never_stops a e) (q.0, q.1 ∙ omega arith)

-- A run that is not refused makes all its steps.
pub ran_all : (a : List ℕ) (n : ℕ) → Octets a → (figures_at a).ends ≡ 1 → (ran a n).answer ≡ accepted []
    → ((ran a n).ended ≡ None) × ((ran a n).steps ≡ n)
unfolding ran
ran_all a n o e h =
    by_test (eqb (area_refusal a) 0)
    (λ c. by_test (ltb last_clock (clock_at a + n))
    (λ d. refused_none 13 [] (rw (c, d) at h))
    (λ d. let r = (passes_ready a o (eqb-true (area_refusal a) 0 c)).ready in
    let q = run_all n 0 (replicate word_count 0) a r (ltb-false last_clock (clock_at a + n) d) e in
    rw (c, d) (q.0, q.1 ∙ omega arith)))
    (λ c. refused_none (area_refusal a) [] (rw c at h))
