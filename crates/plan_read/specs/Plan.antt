-- Reading a run input (document 01, "The run program"): l are its octets, "all high octet first".
-- The laws are in PlanLaws. Assumes nothing.
use Rattle.std.specs.Prelude.{ℕ, zero, suc, ◌+◌, ◌*◌, Bool, ◌||◌, not, List, [], ltb, eqb, length, get_or, Result, Ok, Err}
use Rattle.octets.specs.declared.Refusal.{Refusal}
use Rattle.octets.specs.Base.{pick, some, outside, Answer, refused, accepted, number_of, refusal_number}
use Rattle.octets.specs.Number.{get}
use Rattle.octets.specs.Store.{part}
use Rattle.sheet_layout.specs.declared.Layout.{Layout}
use Rattle.sheet_layout.specs.Layout.{blank_layout}
use Rattle.sheet_read.specs.Sheet.{count_in, layout_in, sheet_size, read_sheet}
use Rattle.plan_read.specs.declared.Plan.{Plan}
use Rattle.plan_read.specs.declared.Offered.{Offered}
use Rattle.sheet_layout.specs.Limits.{last_clock}

-- ---- D; the draws are in `plan_draws`

-- "sheet; D": D, where it stands at u, just after the sheet
abbrev pub depth_in : List ℕ → (u : ℕ) → ℕ
depth_in l u = get_or l u 0

-- ---- the offers

-- "offer count (2)": where it stands, after the N × D draws
abbrev pub offers_place : List ℕ → (u n : ℕ) → ℕ
offers_place l u n = u + 1 + 2 * (n * depth_in l u)

-- the number of offers, where it stands at c
abbrev pub offers_in : List ℕ → (c : ℕ) → ℕ
offers_in l c = get 2 l c

-- "per offer time (4), station (1), destination (6), value (2), size (2), data": the offer that begins at p
abbrev pub offer_time : List ℕ → (p : ℕ) → ℕ
offer_time l p = get 4 l p

abbrev pub offer_station : List ℕ → (p : ℕ) → ℕ
offer_station l p = get_or l (p + 4) 0

abbrev pub offer_destination : List ℕ → (p : ℕ) → List ℕ
offer_destination l p = part l (p + 5) 6

abbrev pub offer_value : List ℕ → (p : ℕ) → ℕ
offer_value l p = get 2 l (p + 11)

abbrev pub offer_size : List ℕ → (p : ℕ) → ℕ
offer_size l p = get 2 l (p + 13)

unfoldable pub offer_data : List ℕ → (p size : ℕ) → List ℕ
offer_data l p size = part l (p + 15) size

-- its fixed fields
unfoldable pub offer_in : List ℕ → (p : ℕ) → Offered
offer_in l p =
    record {
      time = offer_time l p;
      station = offer_station l p;
      destination = offer_destination l p;
      value = offer_value l p;
      size = offer_size l p;
    }

-- where offer k begins, of those from octet `at` on
unfoldable pub offer_place : List ℕ → (at k : ℕ) → ℕ
offer_place l at zero = at
offer_place l at (suc k) = offer_place l at k + 15 + offer_size l (offer_place l at k)

-- "bit times (4), one run over all offers": where they stand, after the offers, and their number
abbrev pub times_place : List ℕ → (c : ℕ) → ℕ
times_place l c = offer_place l (c + 2) (offers_in l c)

abbrev pub times_in : List ℕ → (c : ℕ) → ℕ
times_in l c = get 4 l (times_place l c)

-- ---- the refusals

-- 9: "D is outside 1..16, or the draws aren't N × D numbers; so too a run input that ends before its last draw."
unfoldable pub draws_wrong : List ℕ → (u n : ℕ) → Bool
draws_wrong l u n = ltb (length l) (u + 1) || (outside (depth_in l u) 1 16 || ltb (length l) (offers_place l u n))

-- "offer times that fall": the time before offer k's, 0 before the first; whether one of the first n is less than the
-- one before it
unfoldable pub time_before : List ℕ → (at k : ℕ) → ℕ
time_before l at zero = 0
time_before l at (suc k) = offer_time l (offer_place l at k)

abbrev pub time_falls : List ℕ → (at k : ℕ) → Bool
time_falls l at k = ltb (offer_time l (offer_place l at k)) (time_before l at k)

-- "is short, has octets left over .. or offer times that fall": n offers from octet `at` on, and the bit times
unfoldable pub offers_wrong : List ℕ → (at n : ℕ) → Bool
offers_wrong l at n = some (time_falls l at) n || not (eqb (length l) (offer_place l at n + 4))

-- 16: "The plan is over 16,384 octets with its sheet, is short, has octets left over, over 64 offers, or offer times
-- that fall."
unfoldable pub plan_wrong : List ℕ → (c : ℕ) → Bool
plan_wrong l c =
    ltb 16384 (length l) || (ltb (length l) (c + 2) || (ltb 64 (offers_in l c) || offers_wrong l (c + 2) (offers_in l c)))

-- 13: "Clock plus the bit times asked exceeds 16,777,216. A run input makes this check last."
unfoldable pub last_refusal : List ℕ → (c : ℕ) → ℕ
last_refusal l c = pick (plan_wrong l c) 16 (pick (ltb last_clock (times_in l c)) 13 0)

unfoldable pub after_sheet : List ℕ → (u n : ℕ) → ℕ
after_sheet l u n = pick (draws_wrong l u n) 9 (last_refusal l (offers_place l u n))

-- 3 to 8: what the reader of sheets refuses, everything after the sheet at hand
abbrev pub sheet_refusal : List ℕ → ℕ
sheet_refusal l = number_of (read_sheet l).answer

-- the number of the refusal, 0 where there is none
unfoldable pub plan_refusal : List ℕ → ℕ
plan_refusal l = pick (eqb (sheet_refusal l) 0) (after_sheet l (sheet_size l) (count_in l)) (sheet_refusal l)

-- ---- reading

-- what reading gives: the answer, the layout, D, where the draws begin, the number of offers, where the first begins,
-- and the bit times. The draws are drawsIn of that place, N and D
pub record Planned : Type 0 where
  pub answer : Answer
  pub layout : Layout
  pub depth : ℕ
  pub drawn : ℕ
  pub offers : ℕ
  pub first : ℕ
  pub times : ℕ

-- all blank with a refusal
abbrev pub unplanned : ℕ → Planned
unplanned n =
    record { answer = refused n; layout = blank_layout; depth = 0; drawn = 0; offers = 0; first = 0; times = 0 }

-- of layout y and D, the draws from octet `at` on, and the offer count at c
abbrev pub whole_of : List ℕ → Layout → (d at c : ℕ) → Planned
whole_of l y d at c =
    record {
      answer = accepted [];
      layout = y;
      depth = d;
      drawn = at;
      offers = offers_in l c;
      first = c + 2;
      times = times_in l c;
    }

-- of layout y, with D at u
abbrev pub whole_from : List ℕ → Layout → (u : ℕ) → Planned
whole_from l y u = whole_of l y (depth_in l u) (u + 1) (offers_place l u y.count)

-- what is answered with refusal n, or with none of them what was read
abbrev pub unless : ℕ → Planned → Planned
unless n r = pick (eqb n 0) r (unplanned n)

unfoldable pub plan_as_read : List ℕ → Planned
plan_as_read l = unless (plan_refusal l) (whole_from l (layout_in l) (sheet_size l))

-- what the code's answer stands for
abbrev pub plan_reading : Result Plan Refusal → Planned
plan_reading (Ok r) =
    record {
      answer = accepted [];
      layout = r.layout;
      depth = r.depth;
      drawn = r.drawn;
      offers = r.offers;
      first = r.first;
      times = r.times;
    }
plan_reading (Err e) = unplanned (refusal_number e)

abbrev pub plan_answer : Result Plan Refusal → Answer
plan_answer r = (plan_reading r).answer
