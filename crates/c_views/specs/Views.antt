-- The C interface: a station's state in numbers, and the margin of a sheet. The laws are in ViewLaws, what a caller may
-- rely on in ViewTheorems. Assumes nothing.
use Rattle.std.specs.Prelude.{ℕ, ◌+◌, ◌*◌, List, [], ◌∷◌, leb, eqb, get_or}
use Rattle.octets.specs.Base.{pick, number_of, values_of}
use Rattle.octets.specs.Words.{put_words}
use Rattle.sheet_read.specs.Sheet.{read_sheet}
use Rattle.sheet_fit.specs.Margin.{margin_of}
use Rattle.area_record.specs.Codec.{encoded}
use Rattle.area_record.specs.Words.{record_words}
use Rattle.area.specs.Area.{clock_at, count_at, station_at, heard_code, arrival_at}
use Rattle.area_check.specs.Valid.{area_refusal}
use Rattle.c_words.specs.Answers.{replied}
use Rattle.c_calls.specs.Calls.{Given, given, unless, kept, short}

-- ---- a station

-- sixteen words: the record's fourteen, and two
abbrev pub station_out : ℕ
station_out = 4 * record_words + 8

-- 1 and 2 of the area; 10 where station i is not counted; 0 where none stands
unfoldable pub station_refusal : (area : List ℕ) (i : ℕ) → ℕ
station_refusal a i = pick (eqb (area_refusal a) 0) (pick (leb (count_at a) i) 10 0) (area_refusal a)

-- the words that stand for its state (the table is in area_record/src/lib.rt; a word that the state does not use is 0);
-- what it hears in the next step, 0 nothing, 1 and 2 the bits 0 and 1, 3 spoiled; the clock
unfoldable pub station_put : (area : List ℕ) (i : ℕ) (out : List ℕ) → List ℕ
station_put a i out =
    put_words 2 (put_words record_words out 0 (encoded (station_at a i))) (4 * record_words)
    (heard_code (arrival_at a i (clock_at a)) ∷ clock_at a ∷ [])

-- refusals 1, 2, 10, and after them 15
unfoldable pub station_given : (area : List ℕ) (i : ℕ) (out : List ℕ) → Given
station_given a i out =
    unless (station_refusal a i) (kept out) (unless (short station_out out) (kept out) (given 0 (station_put a i out)))

-- ---- the margin of a sheet

-- past every margin: no position is over 255
abbrev pub no_margin : ℕ
no_margin = 256

-- the margin, or `no_margin` where the layout does not fit; refusals 3 to 8
unfoldable pub margin_given : (sheet : List ℕ) → ℕ
margin_given l =
    unless (number_of (read_sheet l).answer) (λ r. r)
    (replied (number_of (margin_of (read_sheet l).layout)) (get_or (values_of (margin_of (read_sheet l).layout)) 0 no_margin))
