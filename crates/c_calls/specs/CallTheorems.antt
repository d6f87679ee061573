-- What a caller may rely on: a reply with bit 31 is a refusal, and what was lent is then as it was. So no answer
-- reaches that bit. Assumes nothing.
use Rattle.std.specs.Prelude.{ℕ, zero, suc, ◌+◌, ◌≤◌, ◌<◌, ◌≡◌, refl, true, false, List, ltb, leb, eqb, length, replicate, Result, Ok, Err}
use Rattle.std.proofs.Common.{sym, ap, arith, eq-eqb, ltb-false, leb-false, eqb-true}
use Rattle.octets.specs.Base.{pick, outside, Outcome, outcome, size_answer, number_of}
use Rattle.octets.specs.declared.Refusal.{Refusal}
use Rattle.octets.specs.BaseLaws.{by_test, by_eq}
use Rattle.octets.specs.NumberLaws.{Octets, length_spelled}
use Rattle.octets.specs.Number.{spelled}
use Rattle.octets.specs.Words.{put_words}
use Rattle.sheet_layout.specs.declared.Layout.{Layout}
use Rattle.sheet_layout.specs.Check.{refusal_of}
use Rattle.sheet_read.specs.Sheet.{read_sheet}
use Rattle.plan_draws.specs.Draws.{draws_in}
use Rattle.frame_build.specs.Limits.{max_frame, refuses_data, buffer_octets}
use Rattle.frame_build.specs.Build.{frame_of, built}
use Rattle.frame_open.specs.Open.{value_of as lengthType, data_field, check_wrong, check_error, length_wrong, unpadded}
use Rattle.frame_open.specs.Open.{opened}
use Rattle.station_spec.specs.Count.{octets_in}
use Rattle.area.specs.Area.{clock_at, count_at, station_at}
use Rattle.area_check.specs.Valid.{area_refusal}
use Rattle.bus_spec.specs.BitTime.{events_at, step_area}
use Rattle.bus_start.specs.Start.{started}
use Rattle.bus_offer.specs.Offer.{holds, offered}
use Rattle.bus_step.specs.Step.{stepped_once}
use Rattle.bus_step.specs.Counters.{counters_read}
use Rattle.bus_spec.specs.declared.course.RunAnswer.{RunAnswer}
use Rattle.bus_spec.specs.Run.{tallied, Ran, run_of, run_outcome, ran, stops}
use Rattle.bus_read.specs.Read.{is_readable, frame_read}
use Rattle.bus_read.specs.ReadLaws.{read_room}
use Rattle.c_words.specs.Answers.{refusal_bit, Below, value_of, layout_put, client_words, events_put}
use Rattle.c_words.specs.Answers.{counters_out, run_out, sheet_out}
use Rattle.c_tables.specs.RunWords.{run_put}
use Rattle.c_calls.specs.Calls.{Given, given, Left, left, code_given, unless, kept, both_kept, short, sheet_given}
use Rattle.c_calls.specs.Calls.{build_given, client_given, draws_refusal, drawn_given, start_given, offer_given}
use Rattle.c_calls.specs.Calls.{step_left, run_left, frame_given, counters_given}
use Rattle.c_calls.specs.Numbers.{sheet_small, build_size}
use Rattle.sheet_layout.specs.Limits.{last_clock}
use Rattle.area.specs.Offsets.{area_size}
use Rattle.station_tally.specs.Words.{word_count}
use Rattle.station_state.specs.State.{counter_count}

-- a call that was lent l and gives x: where its reply has bit 31, l is as it was
abbrev pub Keeps : List ℕ → Given → Type 0
Keeps l x = refusal_bit ≤ x.result → x.octets ≡ l

-- of one that was lent a work area and an output, both are
abbrev pub BothKept : (area out : List ℕ) → Left → Type 0
BothKept a out x = refusal_bit ≤ x.result → (x.area ≡ a) × (x.out ≡ out)

-- a check before it, and what is no refusal
pub checks : (n : ℕ) (l : List ℕ) (x : Given) → Keeps l x → Keeps l (unless n (kept l) x)
checks n l x h = by_test (eqb n 0) (λ p. rw p h) (λ p. rw p (λ z. refl))

both_check : (n : ℕ) (a out : List ℕ) (x : Left) → BothKept a out x → BothKept a out (unless n (both_kept a out) x)
both_check n a out x h = by_test (eqb n 0) (λ p. rw p h) (λ p. rw p (λ z. (refl, refl)))

-- no refusal: an answer below the bit
pub answers : (r : ℕ) (l o : List ℕ) → r < refusal_bit → Keeps l (given r o)
answers r l o p h = absurd (omega arith)

both_answer : (r : ℕ) (a out b o : List ℕ) → r < refusal_bit → BothKept a out (left r b o)
both_answer r a out b o p h = absurd (omega arith)

-- an answer below the bit, and octets that a refusal leaves as they were
abbrev pub Told : List ℕ → Outcome → Type 0
Told l o = (value_of o.answer < refusal_bit) × ((number_of o.answer ≡ 0 → ⊥) → o.octets ≡ l)

pub coded : (l : List ℕ) (o : Outcome) → Told l o → Keeps l (code_given o)
coded l o t h =
    by_eq (number_of o.answer) 0
    (λ e. let z : refusal_bit ≤ value_of o.answer = rw (eq-eqb (number_of o.answer) 0 e) at h
    in absurd (omega (arith, t.0)))
    t.1

-- ---- sheets and frames

pub sheet_keeps : (l out : List ℕ) → Keeps out (sheet_given l out)
unfolding sheet_given
sheet_keeps l out =
    checks (number_of (read_sheet l).answer) out _
    (checks (short sheet_out out) out _
    (answers (value_of (read_sheet l).answer) out (layout_put (read_sheet l).layout out)
    (omega (arith, sheet_small l))))

build_same : (out d s : List ℕ) (v : ℕ) (x : List ℕ) → (number_of (built out d s v x).answer ≡ 0 → ⊥)
    → (built out d s v x).octets ≡ out
unfolding built
build_same out d s v x =
    by_test (refuses_data v (length x)) (λ p. rw p (λ h. refl))
    (λ p. by_test (ltb (length out) (length (frame_of d s v x))) (λ q. rw (p, q) (λ h. refl))
    (λ q. rw (p, q) (λ h. absurd (h refl))))

pub build_keeps : (d s v : ℕ) (x out : List ℕ) → Keeps out (build_given d s v x out)
unfolding build_given
build_keeps d s v x out =
    coded out (built out (spelled 6 d) (spelled 6 s) v x) (
      omega (arith, build_size out (spelled 6 d) (spelled 6 s) v x (length_spelled 6 d) (length_spelled 6 s)),
      build_same
          out (spelled 6 d) (spelled 6 s) v x,
    )

check_small : (e : ℕ) → value_of (check_error e) ≤ 5
unfolding check_error
check_small e = by_test (eqb e 0) (λ p. rw p (omega arith)) (λ p. rw p (omega arith))

rules_small : (v : ℕ) (l : List ℕ) → value_of (unpadded v l).status ≤ 5
unfolding unpadded
rules_small v l = by_test (length_wrong v (length l)) (λ p. rw p (omega arith)) (λ p. rw p (omega arith))

status_small : (f : List ℕ) (e : ℕ) → value_of (opened false f e).status ≤ 5
unfolding opened
status_small f e =
    by_test (ltb 7 e) (λ p. rw p (omega arith))
    (λ p. by_test (ltb (length f) 64) (λ q. rw (p, q) (omega arith))
    (λ q. by_test (ltb (max_frame (lengthType f)) (length f)) (λ r. rw (p, q, r) (omega arith))
    (λ r. by_test (check_wrong false f) (λ s. rw (p, q, r, s) (check_small e))
    (λ s. rw (p, q, r, s) (rules_small (lengthType f) (data_field f))))))

pub client_keeps : (f : List ℕ) (e : ℕ) (out : List ℕ) → Keeps out (client_given f e out)
unfolding client_given
client_keeps f e out =
    checks (number_of (opened false f e).status) out _
    (checks (short 8 out) out _ (answers (value_of (opened false f e).status) out
    (put_words 2 out 0 (client_words (opened false f e).status)) (omega (arith, status_small f e))))

-- ---- calls on a work area

start_told : (a : List ℕ) (y : Layout) (d : ℕ) (ds : List (List ℕ)) → Told a (started a y d ds)
unfolding started
start_told a y d ds =
    by_test (ltb (length a) area_size) (λ p. rw p (omega arith, λ h. refl))
    (λ p. by_test (eqb (refusal_of y) 0)
    (λ q. by_test (outside d 1 16) (λ r. rw (p, q, r) (omega arith, λ h. refl))
    (λ r. rw (p, q, r) (omega arith, λ h. absurd (h refl))))
    (λ q. rw (p, q) (omega arith, λ h. refl)))

drawn_keeps : (a : List ℕ) (y : Layout) (d : ℕ) (l : List ℕ) → Keeps a (drawn_given a y d l)
unfolding drawn_given
drawn_keeps a y d l =
    checks (draws_refusal y.count d (length l)) a _
    (coded a (started a y d (draws_in l 0 y.count d)) (start_told a y d (draws_in l 0 y.count d)))

pub start_keeps : (a s : List ℕ) (d : ℕ) (l : List ℕ) → Keeps a (start_given a s d l)
unfolding start_given
start_keeps a s d l =
    checks (pick (ltb (length a) area_size) 1 0) a _
    (checks (number_of (read_sheet s).answer) a _ (drawn_keeps a (read_sheet s).layout d l))

offer_told : (a : List ℕ) (i : ℕ) (d : List ℕ) (v : ℕ) (x : List ℕ) → Told a (offered a i d v x)
unfolding offered
offer_told a i d v x =
    by_test (eqb (area_refusal a) 0)
    (λ p. by_test (leb (count_at a) i) (λ q. rw (p, q) (omega arith, λ h. refl))
    (λ q. by_test (refuses_data v (length x)) (λ r. rw (p, q, r) (omega arith, λ h. refl))
    (λ r. by_test (holds (station_at a i).transmitter) (λ s. rw (p, q, r, s) (omega arith, λ h. refl))
    (λ s. rw (p, q, r, s) (omega arith, λ h. absurd (h refl))))))
    (λ p. rw p (omega arith, λ h. refl))

pub offer_keeps : (a : List ℕ) (i d v : ℕ) (x : List ℕ) → Keeps a (offer_given a i d v x)
unfolding offer_given
offer_keeps a i d v x = coded a (offered a i (spelled 6 d) v x) (offer_told a i (spelled 6 d) v x)

pub step_keeps : (a out : List ℕ) → BothKept a out (step_left a out)
unfolding step_left
step_keeps a out =
    both_check (number_of (stepped_once a).answer) a out _
    (both_check (short 256 out) a out _
    (both_answer 0 a out (stepped_once a).octets (events_put (stepped_once a).events 16 out) (omega arith)))

-- a run makes at most the steps asked
steps_most : (k m : ℕ) (ws a : List ℕ) → (run_of k m ws a).steps ≤ m + k
unfolding run_of
steps_most zero m ws a = omega arith
steps_most (suc k) m ws a =
    by_test (stops (events_at a)) (λ p. rw p (omega arith))
    (λ p. rw p (omega (arith, steps_most k (m + 1) (tallied (events_at a) 16 ws) (step_area a))))

run_small : (a : List ℕ) (n : ℕ) → (ran a n).steps ≤ last_clock
unfolding ran
run_small a n =
    by_test (eqb (area_refusal a) 0)
    (λ p. by_test (ltb last_clock (clock_at a + n)) (λ q. rw (p, q) (omega arith))
    (λ q. rw (p, q) (omega (arith, steps_most n 0 (replicate word_count 0) a, ltb-false last_clock (clock_at a + n) q))))
    (λ p. rw p (omega arith))

-- so what a run answers is below the bit
pub run_told : (a b : List ℕ) (n : ℕ) (r : Result RunAnswer Refusal) (w : RunAnswer) → r ≡ Ok w
    → run_outcome r b ≡ ran a n → w.steps < refusal_bit
run_told a b n r w p q =
    let o : run_outcome (Ok w) b ≡ ran a n = rw p at q in
    let k : w.steps ≡ (ran a n).steps = ap (λ (z : Ran). z.steps) o in
    omega (arith, run_small a n)

pub run_keeps : (a : List ℕ) (n : ℕ) (out : List ℕ) → BothKept a out (run_left a n out)
unfolding run_left
run_keeps a n out =
    both_check (number_of (ran a n).answer) a out _
    (both_check (short run_out out) a out _
    (both_answer (ran a n).steps a out (ran a n).octets (run_put (ran a n).words (ran a n).ended out)
    (omega (arith, run_small a n))))

-- ---- readings

frame_told : (a : List ℕ) (i : ℕ) (out : List ℕ) → Octets a → Told out (frame_read a i out)
unfolding frame_read
frame_told a i out o =
    by_test (eqb (area_refusal a) 0)
    (λ p. by_test (leb (count_at a) i) (λ q. rw (p, q) (omega arith, λ h. refl))
    (λ q. by_test (is_readable (station_at a i).receiver)
    (λ r. by_test (ltb (length out) (octets_in (station_at a i).receiver))
    (λ s. rw (p, q, r, s) (omega arith, λ h. refl))
    (λ s. rw (p, q, r, s) (omega (arith, size p q), λ h. absurd (h refl))))
    (λ r. rw (p, q, r) (omega arith, λ h. refl))))
    (λ p. rw p (omega arith, λ h. refl))
  where
    size : eqb (area_refusal a) 0 ≡ true → leb (count_at a) i ≡ false → octets_in (station_at a i).receiver ≤ buffer_octets
    size p q =
        read_room a (count_at a) i (octets_in (station_at a i).receiver) (station_at a i)
        (sym (eqb-true (area_refusal a) 0 p)) o refl (leb-false (count_at a) i q) refl refl

-- so what is answered is below the bit
pub frame_below : (a out x : List ℕ) (i : ℕ) (r : Result ℕ Refusal) → outcome (size_answer r) x ≡ frame_read a i out
    → Octets a → Below r
frame_below a out x i (Err e) p o = tt
frame_below a out x i (Ok n) p o =
    let u : n ≡ value_of (frame_read a i out).answer = ap (λ (z : Outcome). value_of z.answer) p in
    omega (arith, (frame_told a i out o).0)

-- the area holds octets, as every lent slice of them does
pub frame_keeps : (a : List ℕ) (i : ℕ) (out : List ℕ) → Octets a → Keeps out (frame_given a i out)
unfolding frame_given
frame_keeps a i out o = coded out (frame_read a i out) (frame_told a i out o)

pub counters_keeps : (a : List ℕ) (i : ℕ) (out : List ℕ) → Keeps out (counters_given a i out)
unfolding counters_given
counters_keeps a i out =
    checks (number_of (counters_read a i).answer) out _
    (checks (short counters_out out) out _
    (answers 0 out (put_words counter_count out 0 (counters_read a i).words) (omega arith)))
