-- What every crate's definitions use: a choice by a test, a search, a range, an answer in document 01's numbers, what a
-- call leaves. The laws are in BaseLaws. Assumes nothing.
use Rattle.std.specs.Prelude.{ℕ, zero, suc, Bool, true, false, ◌||◌, List, [], ◌∷◌, ◌++◌, ltb, Result, Ok, Err, ⊤}
use Rattle.octets.specs.declared.Refusal.{Refusal}
use Rattle.octets.specs.declared.Refusal.TheVariants.{AreaShort, AreaWrong, SheetShort, MapBits, OutOfRange, StationCount}
use Rattle.octets.specs.declared.Refusal.TheVariants.{Positions, Addresses, Draws, NoSuchStation, FrameData, FrameHeld}
use Rattle.octets.specs.declared.Refusal.TheVariants.{ClockTop, NothingReadable, OutputShort, PlanWrong, NoSuchMark}
use Rattle.octets.specs.declared.Refusal.TheVariants.{MarksFull, WindowReversed, TimesFall}

-- a where the test holds, else b
abbrev pub pick : {A : Type 0} → Bool → A → A → A
pick true a b = a
pick false a b = b

-- whether some number below n passes the test
unfoldable pub some : (ℕ → Bool) → ℕ → Bool
some t zero = false
some t (suc n) = some t n || t n

-- whether x is outside a..b
unfoldable pub outside : (x a b : ℕ) → Bool
outside x a b = ltb x a || ltb b x

-- An answer as document 01 gives it: a refusal with its number, or what was asked for with its values.
-- "A refusal returns its number alone."
pub data Answer : Type 0 where
  refused : (number : ℕ) → Answer
  accepted : (values : List ℕ) → Answer

-- the number of a refusal, 0 where there is none
abbrev pub number_of : Answer → ℕ
number_of (refused n) = n
number_of (accepted vs) = 0

-- the values of an accepted answer, none of a refusal
abbrev pub values_of : Answer → List ℕ
values_of (refused n) = []
values_of (accepted vs) = vs

-- the number of a refusal, as the C interface and the run program give it
abbrev pub refusal_number : Refusal → ℕ
refusal_number AreaShort = 1
refusal_number AreaWrong = 2
refusal_number SheetShort = 3
refusal_number MapBits = 4
refusal_number OutOfRange = 5
refusal_number StationCount = 6
refusal_number Positions = 7
refusal_number Addresses = 8
refusal_number Draws = 9
refusal_number NoSuchStation = 10
refusal_number FrameData = 11
refusal_number FrameHeld = 12
refusal_number ClockTop = 13
refusal_number NothingReadable = 14
refusal_number OutputShort = 15
refusal_number PlanWrong = 16
refusal_number NoSuchMark = 17
refusal_number MarksFull = 18
refusal_number WindowReversed = 20
refusal_number TimesFall = 21

-- what the code's answer stands for: what was asked for with its values, or the refusal by its number
abbrev pub answer_by : {T : Type 0} → (T → List ℕ) → Result T Refusal → Answer
answer_by v (Ok x) = accepted (v x)
answer_by v (Err e) = refused (refusal_number e)

-- of a call that gives nothing but its being done
abbrev pub done_answer : Result ⊤ Refusal → Answer
done_answer r = answer_by (λ x. []) r

-- of a call that gives how many octets there are
abbrev pub size_answer : Result ℕ Refusal → Answer
size_answer r = answer_by (λ n. n ∷ []) r

-- of a check: the number of the refusal, 0 where there is none
abbrev pub refusal_in : Result ⊤ Refusal → ℕ
refusal_in r = number_of (done_answer r)

-- What a call leaves: its answer, and the octets that it was lent.
pub record Outcome : Type 0 where
  pub answer : Answer
  pub octets : List ℕ

abbrev pub outcome : Answer → List ℕ → Outcome
outcome r l = record { answer = r; octets = l }

-- the same with more octets behind those that were lent, which stay
abbrev pub beside : List ℕ → Outcome → Outcome
beside z o = outcome o.answer (o.octets ++ z)
