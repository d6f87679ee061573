-- The C interface: what each call returns, and what it leaves in the octets lent to it. A call returns one number of 32
-- bits: "A refusal returns its number alone", with bit 31; what is below is the answer. What is written into the lent
-- output stands here in words of four octets, high octet first; those words, and the numbers of answers, are in
-- `c_words`. The laws are in CallLaws. Assumes nothing.
use Rattle.std.specs.Prelude.{ℕ, ◌+◌, ◌*◌, false, List, ltb, eqb, length}
use Rattle.octets.specs.Base.{pick, outside, Outcome, number_of}
use Rattle.octets.specs.Number.{spelled}
use Rattle.octets.specs.Words.{put_words}
use Rattle.sheet_layout.specs.declared.Layout.{Layout}
use Rattle.sheet_layout.specs.Fit.{fit_of}
use Rattle.sheet_read.specs.Sheet.{read_sheet}
use Rattle.plan_draws.specs.Draws.{draws_in}
use Rattle.frame_open.specs.Open.{opened}
use Rattle.frame_build.specs.Build.{built}
use Rattle.area.specs.Offsets.{area_size}
use Rattle.area.specs.Area.{clock_at}
use Rattle.area_check.specs.Valid.{area_refusal}
use Rattle.bus_start.specs.Start.{started}
use Rattle.bus_offer.specs.Offer.{offered}
use Rattle.bus_step.specs.Step.{stepped_once}
use Rattle.bus_step.specs.Counters.{counters_read}
use Rattle.bus_spec.specs.Run.{ran}
use Rattle.bus_read.specs.Read.{frame_read}
use Rattle.c_words.specs.Answers.{replied, value_of, code_of, layout_put, client_words, events_put}
use Rattle.c_words.specs.Answers.{counters_out, run_out, sheet_out}
use Rattle.c_tables.specs.RunWords.{run_put}
use Rattle.sheet_layout.specs.Limits.{last_clock}
use Rattle.station_state.specs.State.{counter_count}

-- ---- what a call gives: the number, and the octets lent to it

-- where one slice is lent to be written: a work area or an output
pub record Given : Type 0 where
  pub result : ℕ
  pub octets : List ℕ

abbrev pub given : ℕ → List ℕ → Given
given r l = record { result = r; octets = l }

-- where both a work area and an output are lent
pub record Left : Type 0 where
  pub result : ℕ
  pub area : List ℕ
  pub out : List ℕ

abbrev pub left : ℕ → (area out : List ℕ) → Left
left r a o = record { result = r; area = a; out = o }

-- an answer and the octets beside it, as a call gives them
abbrev pub code_given : Outcome → Given
code_given o = given (code_of o.answer) o.octets

-- "A refusal .. changes nothing lent": x where refusal n does not stand (n is 0), else that refusal, with what was lent
-- as it was
abbrev pub unless : {A : Type 0} → ℕ → (ℕ → A) → A → A
unless n kept x = pick (eqb n 0) x (kept (replied n 0))

-- the slice as it was, beside what the call returns
abbrev pub kept : List ℕ → ℕ → Given
kept l r = given r l

-- and both of them
abbrev pub both_kept : (area out : List ℕ) → ℕ → Left
both_kept a o r = left r a o

-- 15: "The lent output is too short", k octets being written
abbrev pub short : ℕ → List ℕ → ℕ
short k out = pick (ltb (length out) k) 15 0

-- ---- reading a sheet

-- "Reading answers the layout and how many octets it used"; refusals 3 to 8, 15
unfoldable pub sheet_given : (sheet out : List ℕ) → Given
sheet_given l out =
    unless (number_of (read_sheet l).answer) (kept out)
    (unless (short sheet_out out) (kept out)
    (given (value_of (read_sheet l).answer) (layout_put (read_sheet l).layout out)))

-- 1 where the layout of a sheet fits, else 0; refusals 3 to 8
unfoldable pub fits_given : (sheet : List ℕ) → ℕ
fits_given l = unless (number_of (read_sheet l).answer) (λ r. r) (code_of (fit_of (read_sheet l).layout))

-- ---- frames

-- an address is the six low octets of its number, the first the highest
unfoldable pub build_given : (destination source value : ℕ) (x out : List ℕ) → Given
build_given d s v x out = code_given (built out (spelled 6 d) (spelled 6 s) v x)

-- 0 fragment, 1 frameTooLong, 2 frameCheckError, 3 alignmentError, 4 lengthError, 5 receiveOK
unfoldable pub status_given : (frame : List ℕ) (excess : ℕ) → ℕ
status_given f e = code_of (opened false f e).status

-- the status, and where the client data lie; refusals 5, 15
unfoldable pub client_given : (frame : List ℕ) (excess : ℕ) (out : List ℕ) → Given
client_given f e out =
    unless (number_of (opened false f e).status) (kept out)
    (unless (short 8 out) (kept out)
    (given (value_of (opened false f e).status) (put_words 2 out 0 (client_words (opened false f e).status))))

-- ---- fresh start and offers

-- 9: "D is outside 1..16, or the draws aren't N × D numbers", of 2 octets each; m octets are there
unfoldable pub draws_refusal : (n d m : ℕ) → ℕ
draws_refusal n d m = pick (outside d 1 16) 9 (pick (eqb m (2 * (n * d))) 0 9)

-- on layout y, with these octets of draws, station by station
unfoldable pub drawn_given : (area : List ℕ) → Layout → (d : ℕ) (draws : List ℕ) → Given
drawn_given a y d l =
    unless (draws_refusal y.count d (length l)) (kept a)
    (code_given (started a y d (draws_in l 0 y.count d)))

-- the layout is that of a sheet; refusals 1, 3 to 8, 9
unfoldable pub start_given : (area sheet : List ℕ) (d : ℕ) (draws : List ℕ) → Given
start_given a s d l =
    unless (pick (ltb (length a) area_size) 1 0) (kept a)
    (unless (number_of (read_sheet s).answer) (kept a)
    (drawn_given a (read_sheet s).layout d l))

-- to station i; refusals 1, 2, 10, 11, 12
unfoldable pub offer_given : (area : List ℕ) (i destination value : ℕ) (x : List ℕ) → Given
offer_given a i d v x = code_given (offered a i (spelled 6 d) v x)

-- ---- steps and runs

-- one bit time; refusals 1, 2, 13, and after them 15, with the area as it was
unfoldable pub step_left : (area out : List ℕ) → Left
step_left a out =
    unless (number_of (stepped_once a).answer) (both_kept a out)
    (unless (short 256 out) (both_kept a out)
    (left 0 (stepped_once a).octets (events_put (stepped_once a).events 16 out)))

-- a run of n bit times answers the steps made; refusals 1, 2, 13, and after them 15, with the area as it was
unfoldable pub run_left : (area : List ℕ) (n : ℕ) (out : List ℕ) → Left
run_left a n out =
    unless (number_of (ran a n).answer) (both_kept a out)
    (unless (short run_out out) (both_kept a out)
    (left (ran a n).steps (ran a n).octets (run_put (ran a n).words (ran a n).ended out)))

-- the refusal of n bit times, 1, 2 or 13, whatever output is lent; that a step and a run have it is in CallLaws
unfoldable pub time_refusal : (area : List ℕ) (n : ℕ) → ℕ
time_refusal a n = pick (eqb (area_refusal a) 0) (pick (ltb last_clock (clock_at a + n)) 13 0) (area_refusal a)

-- ---- readings

-- the frame that station i received; refusals 1, 2, 10, 14, 15
unfoldable pub frame_given : (area : List ℕ) (i : ℕ) (out : List ℕ) → Given
frame_given a i out = code_given (frame_read a i out)

-- the seventeen counters of station i; refusals 1, 2, 10, 15
unfoldable pub counters_given : (area : List ℕ) (i : ℕ) (out : List ℕ) → Given
counters_given a i out =
    unless (number_of (counters_read a i).answer) (kept out)
    (unless (short counters_out out) (kept out)
    (given 0 (put_words counter_count out 0 (counters_read a i).words)))
