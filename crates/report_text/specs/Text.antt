-- Numbers and lines as text (document 01, "The run program"): octets of ASCII. The laws are in TextLaws. Assumes
-- nothing.
use Rattle.std.specs.Prelude.{ℕ, zero, suc, ◌+◌, ◌/◌, ◌%◌, List, [], ◌∷◌, ◌++◌, eqb, length}
use Rattle.std.proofs.lemmas.List.Edits.{sets}
use Rattle.octets.specs.Base.{pick}

-- ---- writing

-- what writing leaves: where the text ends, and the octets
pub record Written : Type 0 where
  pub end : ℕ
  pub octets : List ℕ

abbrev pub written : ℕ → List ℕ → Written
written r l = record { end = r; octets = l }

-- text s written over l from `at` on
abbrev pub puts : (l : List ℕ) (at : ℕ) (s : List ℕ) → Written
puts l at s = record { end = at + length s; octets = sets l at s }

-- ---- "Printed, in decimal"

-- the last w digits of n
unfoldable pub digits : (w n : ℕ) → List ℕ
digits zero n = []
digits (suc w) n = digits w (n / 10) ++ ((48 + n % 10) ∷ [])

-- digits without the zeros that lead; the last digit stays
unfoldable pub lean : List ℕ → List ℕ
lean [] = []
lean (d ∷ []) = d ∷ []
lean (d ∷ e ∷ ds) = pick (eqb d 48) (lean (e ∷ ds)) (d ∷ e ∷ ds)

-- a number of 32 bits has at most ten digits
unfoldable pub decimal : ℕ → List ℕ
decimal n = lean (digits 10 n)

-- ---- lines

abbrev pub space : ℕ
space = 32

-- "Every line ends in a newline."
abbrev pub newline : ℕ
newline = 10

-- a number with an octet after it
unfoldable pub numbered : (n after : ℕ) → List ℕ
numbered n after = decimal n ++ (after ∷ [])

-- a word, and a number with an octet after it
unfoldable pub counted : (word : List ℕ) (n after : ℕ) → List ℕ
counted word n after = (word ++ (space ∷ [])) ++ numbered n after

-- "time, station"
unfoldable pub placed : (t i : ℕ) → List ℕ
placed t i = numbered t space ++ numbered i space

-- "The others are time, station, event": an event is a word and its number
unfoldable pub line : (t i : ℕ) (word : List ℕ) (n : ℕ) → List ℕ
line t i word n = placed t i ++ counted word n newline

-- `stations`
abbrev pub stations_word : List ℕ
stations_word = 115 ∷ 116 ∷ 97 ∷ 116 ∷ 105 ∷ 111 ∷ 110 ∷ 115 ∷ []

-- `fit yes`, `fit no`
abbrev pub fit_yes : List ℕ
fit_yes = 102 ∷ 105 ∷ 116 ∷ 32 ∷ 121 ∷ 101 ∷ 115 ∷ newline ∷ []

abbrev pub fit_no : List ℕ
fit_no = 102 ∷ 105 ∷ 116 ∷ 32 ∷ 110 ∷ 111 ∷ newline ∷ []

-- `refused`
abbrev pub refused_word : List ℕ
refused_word = 114 ∷ 101 ∷ 102 ∷ 117 ∷ 115 ∷ 101 ∷ 100 ∷ []

-- `end`
abbrev pub end_word : List ℕ
end_word = 101 ∷ 110 ∷ 100 ∷ []

-- "The first line gives N and whether the layout fits, `yes` or `no`."
unfoldable pub first_line : (n : ℕ) → (fit : List ℕ) → List ℕ
first_line n fit = counted stations_word n space ++ fit

-- "A refused input prints `refused n`."
unfoldable pub refused_line : (n : ℕ) → List ℕ
refused_line n = counted refused_word n newline

-- "refused, it prints `time station refused n`"
unfoldable pub refused_offer : (t i n : ℕ) → List ℕ
refused_offer t i n = line t i refused_word n

-- "`end` gives the clock."
unfoldable pub end_line : (t : ℕ) → List ℕ
end_line t = counted end_word t newline
