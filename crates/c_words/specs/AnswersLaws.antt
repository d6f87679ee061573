-- The octets of a number, and what the proofs of the calls go by. Assumes nothing.
use Rattle.std.specs.Prelude.{ℕ, zero, suc, ◌+◌, ◌-◌, ◌≤◌, ◌≡◌, refl, List, length, drop, Result, IsErrAnd}
use Rattle.std.specs.Int.{bytes_high_first}
use Rattle.std.proofs.Common.{◌∙◌, ap, arith}
use Rattle.std.proofs.lemmas.Bool.Decides.{nat_tests}
use Rattle.std.proofs.lemmas.Result.{err_from_is_err_and}
use Rattle.octets.specs.Base.{refusal_number}
use Rattle.octets.specs.BaseLaws.{refusal_numbered}
use Rattle.octets.specs.declared.Refusal.{Refusal}
use Rattle.octets.specs.declared.Refusal.TheVariants.{AreaShort, AreaWrong, SheetShort, MapBits, OutOfRange, StationCount}
use Rattle.octets.specs.declared.Refusal.TheVariants.{Positions, Addresses, Draws, NoSuchStation, FrameData, FrameHeld}
use Rattle.octets.specs.declared.Refusal.TheVariants.{ClockTop, NothingReadable, OutputShort, PlanWrong, NoSuchMark}
use Rattle.octets.specs.declared.Refusal.TheVariants.{MarksFull, WindowReversed, TimesFall}
use Rattle.octets.specs.Number.{spelled}
use Rattle.octets.specs.NumberLaws.{spelled_bytes}
use Rattle.c_words.specs.Answers.{max_refusal, Below}

-- ---- the last octets of those that the library gives for a number

bytes_low : (j k m n : ℕ) → m ≡ j + k → drop j (bytes_high_first m n) ≡ bytes_high_first k n
bytes_low zero k m n p = let e : m ≡ k = omega arith in rw e
bytes_low (suc j) k m n p = let e : m ≡ suc (j + k) = omega arith in rw e (bytes_low j k (j + k) n refl)

-- the last k of the eight
pub low_spelled : (k n : ℕ) (l x : List ℕ) → l ≡ bytes_high_first 8 n → k ≤ 8 → x ≡ drop (length l - k) l → x ≡ spelled k n
low_spelled k n l x p h q =
    let e : length l ≡ 8 = ap length p in
    q ∙ rw (e, p) (bytes_low (8 - k) k 8 n (omega arith) ∙ spelled_bytes k n)

-- ---- the numbers of the refusals

pub refusal_most : (e : Refusal) → refusal_number e ≤ max_refusal
refusal_most AreaShort = omega arith
refusal_most AreaWrong = omega arith
refusal_most SheetShort = omega arith
refusal_most MapBits = omega arith
refusal_most OutOfRange = omega arith
refusal_most StationCount = omega arith
refusal_most Positions = omega arith
refusal_most Addresses = omega arith
refusal_most Draws = omega arith
refusal_most NoSuchStation = omega arith
refusal_most FrameData = omega arith
refusal_most FrameHeld = omega arith
refusal_most ClockTop = omega arith
refusal_most NothingReadable = omega arith
refusal_most OutputShort = omega arith
refusal_most PlanWrong = omega arith
refusal_most NoSuchMark = omega arith
refusal_most MarksFull = omega arith
refusal_most WindowReversed = omega arith
refusal_most TimesFall = omega arith

-- a refusal that a `?` hands on
pub below_refused : (r : Result ℕ Refusal) (P : Refusal → Type 0) → IsErrAnd r P → Below r
below_refused r P h = let t = err_from_is_err_and r h in rw t.1 tt

-- ---- what the proofs of the calls go by

pub ruleset replies = (nat_tests, err_from_is_err_and, refusal_numbered, below_refused)
