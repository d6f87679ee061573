-- The C interface: the calls that only look. A reception's status, checks 1 and 2 of a work area, checks 5 to 8 of a
-- layout, a run input as it is read, and the shortest sheet. The laws are in CheckCallLaws. Assumes nothing.
use Rattle.std.specs.Prelude.{ℕ, ◌+◌, ◌*◌, not, List, [], ◌∷◌, ltb, eqb, length}
use Rattle.octets.specs.Base.{pick, number_of}
use Rattle.octets.specs.Number.{get}
use Rattle.octets.specs.Words.{put_words}
use Rattle.octets.specs.Store.{part}
use Rattle.sheet_layout.specs.declared.Figures.{Figures}
use Rattle.sheet_layout.specs.declared.Tap.{Tap}
use Rattle.sheet_layout.specs.declared.Layout.{Layout}
use Rattle.sheet_layout.specs.Layout.{places_of}
use Rattle.sheet_layout.specs.Check.{refusal_of}
use Rattle.frame_open.specs.Open.{opened}
use Rattle.area_check.specs.Valid.{area_refusal}
use Rattle.sheet_read.specs.Sheet.{read_sheet}
use Rattle.sheet_write.specs.Write.{sheet_written}
use Rattle.plan_read.specs.Plan.{Planned, plan_as_read}
use Rattle.c_words.specs.Answers.{replied, code_of, layout_put, plan_out, sheet_out}
use Rattle.c_calls.specs.Calls.{code_given, Given, given, unless, kept, short}

-- ---- a reception

-- the status, 0 to 5; a number that is not 0 stands for "A jam bit, or any symbol heard from two or more"; refusal 5
unfoldable pub reception_given : (frame : List ℕ) (excess spoiled : ℕ) → ℕ
reception_given f e s = code_of (opened (not (eqb s 0)) f e).status

-- ---- a work area

-- 0; refusals 1, 2
unfoldable pub area_given : (area : List ℕ) → ℕ
area_given a = replied (area_refusal a) 0

-- ---- a layout, as `layout_put` writes one

-- the figures: in the first six words, and the last one after the stations
unfoldable pub figures_written : List ℕ → Figures
figures_written l =
    record {
      slot = get 4 l 0;
      gap1 = get 4 l 4;
      gap2 = get 4 l 8;
      jam = get 4 l 12;
      limit = get 4 l 16;
      backoff = get 4 l 20;
      ends = get 4 l 192;
    }

-- place i: a station's position, 4 octets, and its address, 6
unfoldable pub tap_written : List ℕ → ℕ → Tap
tap_written l i = record { position = get 4 l (32 + 10 * i); address = part l (36 + 10 * i) 6 }

-- the seventh word is N; the eighth, whether it fits, is not looked at
unfoldable pub layout_written : List ℕ → Layout
layout_written l = record { figures = figures_written l; count = get 4 l 24; stations = places_of (tap_written l) 16 }

-- 0; refusals 3 (short), 5 to 8
unfoldable pub layout_given : (layout : List ℕ) → ℕ
layout_given l = unless (pick (ltb (length l) sheet_out) 3 0) (λ r. r) (replied (refusal_of (layout_written l)) 0)

-- ---- a run input

-- D, the octet at which the draws begin, the number of offers, the octet at which the first begins, the bit times
unfoldable pub plan_words : Planned → List ℕ
plan_words r = r.depth ∷ r.drawn ∷ r.offers ∷ r.first ∷ r.times ∷ []

-- the layout as a sheet's, and these words after it; refusals 3 to 9, 13, 16, and after them 15
unfoldable pub plan_given : (input out : List ℕ) → Given
plan_given l out =
    unless (number_of (plan_as_read l).answer) (kept out)
    (unless (short plan_out out) (kept out)
    (given 0 (put_words 5 (layout_put (plan_as_read l).layout out) sheet_out (plan_words (plan_as_read l)))))

-- ---- a sheet, written

-- the shortest sheet of the layout that a sheet gives, and its octets; refusals 3 to 8, 15
unfoldable pub write_given : (sheet out : List ℕ) → Given
write_given l out =
    unless (number_of (read_sheet l).answer) (kept out) (code_given (sheet_written (read_sheet l).layout out))
