-- The whole text of a run input at once, on lent octets: the input l, a work area a, and octets o for the text. The
-- laws are in PrintLaws. Assumes nothing.
use Rattle.std.specs.Prelude.{ℕ, List, [], ◌∷◌, ◌++◌, ltb, length, take, drop}
use Rattle.std.proofs.lemmas.List.Edits.{sets}
use Rattle.octets.specs.Base.{pick, Answer, refused, accepted}
use Rattle.area.specs.Offsets.{area_size}
use Rattle.report_spec.specs.Printed.{input_course, printed}

-- what the call leaves: its answer, the area, the lent output
pub record Print : Type 0 where
  pub answer : Answer
  pub area : List ℕ
  pub out : List ℕ

abbrev pub print : Answer → (a o : List ℕ) → Print
print r a o = record { answer = r; area = a; out = o }

-- 1, and 15 ("The lent output is too short"); else how many octets are printed, with the text at the front of the
-- output and the area that the run leaves. "Octets past what is written stay", of the output and of a longer area.
unfoldable pub printed_into : List ℕ → (a o : List ℕ) → Print
printed_into l a o =
    pick (ltb (length a) area_size) (print (refused 1) a o)
    (pick (ltb (length o) (length (printed l))) (print (refused 15) a o)
    (print (accepted (length (printed l) ∷ [])) ((input_course l (take area_size a)).octets ++ drop area_size a)
    (sets o 0 (printed l))))
