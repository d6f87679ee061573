-- The C interface of the run program: what is printed for an input, piece by piece or the whole, and what the calls
-- leave in the octets lent to them. Where a run stands is lent as four words, p. The laws are in TextCallLaws. Assumes
-- nothing.
use Rattle.std.specs.Prelude.{ℕ, not, List, [], ◌∷◌, ◌++◌, ltb, eqb, length, take, drop}
use Rattle.octets.specs.Base.{pick, Answer, number_of}
use Rattle.octets.specs.Number.{get}
use Rattle.octets.specs.Words.{put_words}
use Rattle.area.specs.Offsets.{area_size}
use Rattle.area_check.specs.Valid.{area_refusal}
use Rattle.report_spec.specs.declared.Progress.{Progress}
use Rattle.report_spec.specs.Pieces.{standing, Hand, begun, advanced}
use Rattle.report_whole.specs.Print.{Print, printed_into}
use Rattle.c_words.specs.Answers.{replied, code_of}
use Rattle.c_calls.specs.Calls.{Left, left}

-- ---- where a run stands

-- the octet of the input at which the next offer begins, the offers left, the bit times left, and 1 where the last line
-- is handed out
unfoldable pub progress_words : Progress → List ℕ
progress_words g = g.at ∷ g.offers ∷ g.times ∷ pick g.ended 1 0 ∷ []

-- the same, read: a last word that is not 0 stands for the end
unfoldable pub progress_in : List ℕ → Progress
progress_in p = standing (get 4 p 0) (get 4 p 4) (get 4 p 8) (not (eqb (get 4 p 12) 0))

-- "A refusal .. changes nothing lent": the words after answer r
unfoldable pub progress_put : (r : Answer) → Progress → List ℕ → List ℕ
progress_put r g p = pick (eqb (number_of r) 0) (put_words 4 p 0 (progress_words g)) p

-- ---- piece by piece

-- what a call leaves: the number, the area, where the run stands, the output
pub record Lent : Type 0 where
  pub result : ℕ
  pub area : List ℕ
  pub progress : List ℕ
  pub out : List ℕ

abbrev pub lent : ℕ → (area progress out : List ℕ) → Lent
lent r a p o = record { result = r; area = a; progress = p; out = o }

-- the octets of the piece, and where the run stands after it
abbrev pub hand_lent : Hand → List ℕ → Lent
hand_lent h p = lent (code_of h.answer) h.octets (progress_put h.answer h.progress p) h.out

-- the first piece; refusals 1, 15
unfoldable pub begun_lent : List ℕ → (a p o : List ℕ) → Lent
begun_lent l a p o =
    pick (ltb (length p) 16) (lent (replied (pick (ltb (length a) area_size) 1 15) 0) a p o) (hand_lent (begun l a o) p)

-- no plan has more octets, and of a longer input no more are looked at
abbrev pub plan_octets : ℕ
plan_octets = 16384

-- the next piece; refusals 1, 2, 13, 15, 16. Where the words are too short for a place, 13 and 16 cannot be asked
unfoldable pub advanced_lent : List ℕ → (a p o : List ℕ) → Lent
advanced_lent l a p o =
    pick (ltb (length p) 16) (lent (replied (pick (eqb (area_refusal a) 0) 15 (area_refusal a)) 0) a p o)
    (hand_lent (advanced (take plan_octets l) a o (progress_in p)) p)

-- ---- the whole

-- the largest number that a reply can tell: bit 31 is a refusal's
abbrev pub most_told : ℕ
most_told = 2147483647

-- what the call leaves of an output o, the front of which it was lent
abbrev pub print_front : (o : List ℕ) → Print → Left
print_front o x = left (code_of x.answer) x.area (x.out ++ drop most_told o)

-- how many octets are printed; refusals 1, 15. Of a longer output no more octets are used than a reply can tell
unfoldable pub print_left : List ℕ → (a o : List ℕ) → Left
print_left l a o = print_front o (printed_into l a (take most_told o))
