-- What the proofs of the calls go by: that what is asked for at a place of the code holds there, and what a run of bit
-- times leaves where it is refused. Assumes nothing.
use Rattle.std.specs.Prelude.{ℕ, zero, suc, ◌+◌, ◌*◌, ◌≤◌, ◌<◌, ◌≡◌, refl, Bool, ltb, eqb, length, get_or, replicate, Result, Ok, Err, IsErrAnd}
use Rattle.std.proofs.Common.{sym, ◌∙◌, ap, mul-le-mul, arith, ne_eqb}
use Rattle.std.proofs.Math.Bool.{true, false}
use Rattle.std.proofs.lemmas.Bool.Decides.{nat_tests}
use Rattle.std.proofs.lemmas.Result.{err_from_is_err_and}
use mathlib.Core.List.{List}
use Rattle.octets.specs.Base.{pick, outside, Answer, Outcome, outcome, size_answer, number_of, values_of, refusal_number}
use Rattle.octets.specs.BaseLaws.{within, refusal_numbered}
use Rattle.octets.specs.declared.Refusal.{Refusal}
use Rattle.octets.specs.Number.{spelled}
use Rattle.octets.specs.NumberLaws.{length_spelled}
use Rattle.sheet_read.specs.declared.Sheet.{Sheet}
use Rattle.sheet_read.specs.Sheet.{Reading, read_sheet, sheet_reading}
use Rattle.frame_open.specs.declared.ReceiveStatus.{ReceiveStatus}
use Rattle.frame_build.specs.Build.{built}
use Rattle.frame_open.specs.Open.{status_answer, opened}
use Rattle.area.specs.Area.{clock_at}
use Rattle.area_check.specs.Valid.{area_refusal}
use Rattle.area_check.specs.AreaCheckLaws.{passes_long}
use Rattle.bus_spec.specs.BitTime.{events_at, step_area}
use Rattle.bus_spec.specs.declared.course.RunAnswer.{RunAnswer}
use Rattle.bus_spec.specs.Run.{tallied, Ran, run_of, run_outcome, unrun, ran, stops}
use Rattle.bus_spec.specs.RunLaws.{clock_within}
use Rattle.c_words.specs.Answers.{value_of, reply_of, refusal_bit}
use Rattle.c_words.specs.AnswersLaws.{below_refused}
use Rattle.c_calls.specs.Calls.{left, run_left, time_refusal}
use Rattle.c_calls.specs.Numbers.{sheet_small, sheet_few, open_small, build_size, build_small}
use Rattle.sheet_layout.specs.Limits.{last_clock, max_stations, max_draws}
use Rattle.station_tally.specs.Words.{word_count}

-- ---- sheets

module _ (l : List ℕ) (s : Sheet) (p : sheet_reading (Ok s) ≡ read_sheet l) where
  pub sheet_count : s.layout.count ≤ max_stations
  sheet_count = rw (ap (λ (z : Reading). z.layout) p) (sheet_few l)

  pub sheet_value : s.used < 4294967296
  sheet_value =
      let u : s.used ≡ value_of (read_sheet l).answer = ap (λ (z : Reading). value_of z.answer) p
      in omega (arith, sheet_small l)

  pub sheet_told : s.used < refusal_bit
  sheet_told =
      let u : s.used ≡ value_of (read_sheet l).answer = ap (λ (z : Reading). value_of z.answer) p
      in omega (arith, sheet_small l)

-- ---- frames

pub build_value : (out o d s x : List ℕ) (dn sn v n : ℕ) → outcome (size_answer (Ok n)) o ≡ built out d s v x
    → d ≡ spelled 6 dn → s ≡ spelled 6 sn → n < 4294967296
build_value out o d s x dn sn v n p e f =
    let q : outcome (size_answer (Ok n)) o ≡ built out (spelled 6 dn) (spelled 6 sn) v x = p ∙ rw (e, f) in
    let u : n ≡ value_of (built out (spelled 6 dn) (spelled 6 sn) v x).answer = ap (λ (z : Outcome). value_of z.answer) q
    in omega (arith, build_small out dn sn v x)

pub build_told : (out o d s x : List ℕ) (dn sn v n : ℕ) → outcome (size_answer (Ok n)) o ≡ built out d s v x
    → d ≡ spelled 6 dn → s ≡ spelled 6 sn → n < refusal_bit
build_told out o d s x dn sn v n p e f =
    let q : outcome (size_answer (Ok n)) o ≡ built out (spelled 6 dn) (spelled 6 sn) v x = p ∙ rw (e, f) in
    let u : n ≡ value_of (built out (spelled 6 dn) (spelled 6 sn) v x).answer = ap (λ (z : Outcome). value_of z.answer) q
    in omega (arith, build_size out (spelled 6 dn) (spelled 6 sn) v x (length_spelled 6 dn) (length_spelled 6 sn))

pub client_value : (f : List ℕ) (x : ℕ) (s : ReceiveStatus) → status_answer (Ok s) ≡ (opened false f x).status
    → get_or (values_of (status_answer (Ok s))) 1 0 < 4294967296
client_value f x s p =
    let u : get_or (values_of (status_answer (Ok s))) 1 0 ≡ get_or (values_of (opened false f x).status) 1 0 =
    ap (λ (r : Answer). get_or (values_of r) 1 0) p in
    omega (arith, open_small false f x)

-- ---- fresh start: N × D with both at most sixteen

pub draws_few : (n d : ℕ) (b : Bool) → n ≤ max_stations → b ≡ outside d 1 16 → b ≡ false → n * d ≤ 256
draws_few n d b p q r = mul-le-mul p (within d 1 16 (sym q ∙ r)).1

pub draws_deep : (d : ℕ) (b : Bool) → b ≡ outside d 1 16 → b ≡ false → d ≤ max_draws
draws_deep d b q r = (within d 1 16 (sym q ∙ r)).1

pub draws_room : (l : List ℕ) (n d : ℕ) → length l ≡ 2 * (n * d) → 0 + 2 * (n * d) ≤ length l
draws_room l n d h = omega arith

-- ---- bit times

-- a run that is made has no refusal
run_accepted : (k m : ℕ) (ws a : List ℕ) → number_of (run_of k m ws a).answer ≡ 0
unfolding run_of
run_accepted zero m ws a = refl
run_accepted (suc k) m ws a =
    go (stops (events_at a)) _ _ refl (run_accepted k (m + 1) (tallied (events_at a) 16 ws) (step_area a))
  where
    go : (b : Bool) (x y : Ran) → number_of x.answer ≡ 0 → number_of y.answer ≡ 0
        → number_of (pick b x y).answer ≡ 0
    go true x y p h = p
    go false x y p h = h

pub run_number : (a : List ℕ) (n : ℕ) → number_of (ran a n).answer ≡ time_refusal a n
unfolding ran time_refusal
run_number a n = go (eqb (area_refusal a) 0) (ltb last_clock (clock_at a + n))
  where
    go : (b c : Bool) → number_of (pick b (pick c (unrun 13 a) (run_of n 0 (replicate word_count 0) a))
        (unrun (area_refusal a) a)).answer ≡ pick b (pick c 13 0) (area_refusal a)
    go true true = refl
    go true false = run_accepted n 0 (replicate word_count 0) a
    go false c = refl

run_kept : (a : List ℕ) (n : ℕ) → (number_of (ran a n).answer ≡ 0 → ⊥) → (ran a n).octets ≡ a
unfolding ran
run_kept a n = go (eqb (area_refusal a) 0) (ltb last_clock (clock_at a + n))
  where
    go : (b c : Bool) → (number_of (pick b (pick c (unrun 13 a) (run_of n 0 (replicate word_count 0) a))
        (unrun (area_refusal a) a)).answer ≡ 0 → ⊥)
        → (pick b (pick c (unrun 13 a) (run_of n 0 (replicate word_count 0) a)) (unrun (area_refusal a) a)).octets ≡ a
    go true true h = refl
    go true false h = absurd (h (run_accepted n 0 (replicate word_count 0) a))
    go false c h = refl

-- a run that is refused, where a `?` hands the refusal on
pub run_refused : (a b out : List ℕ) (n : ℕ) (r : Result RunAnswer Refusal) (s : Result ℕ Refusal) (e : Refusal)
    → r ≡ Err e → IsErrAnd s (λ y. y ≡ e) → run_outcome r b ≡ ran a n → left (reply_of s) b out ≡ run_left a n out
unfolding run_left
run_refused a b out n r s e p h q =
    let o : run_outcome (Err e) b ≡ ran a n = rw p at q in
    let k : refusal_number e ≡ number_of (ran a n).answer = ap (λ (z : Ran). number_of z.answer) o in
    let w : b ≡ a = ap (λ (z : Ran). z.octets) o ∙ run_kept a n (λ z. refusal_numbered e (k ∙ z)) in
    let t = err_from_is_err_and s h in
    rw (w, t.1, t.2, ← k, ne_eqb (refusal_number e) 0 (refusal_numbered e))

-- ---- by the functions

pub ruleset starts = (nat_tests, err_from_is_err_and, refusal_numbered, below_refused, draws_few, draws_deep, draws_room)

pub ruleset times = (nat_tests, err_from_is_err_and, refusal_numbered, passes_long, clock_within)

pub ruleset runs = (nat_tests, err_from_is_err_and, refusal_numbered, run_number)
