-- Reading a sheet (document 01, "The sheet"): l are the octets, m its map.
-- The laws are in SheetLaws. Assumes nothing.
use Rattle.std.specs.Prelude.{ℕ, zero, suc, ◌+◌, ◌*◌, ◌/◌, ◌%◌, ◌^◌, min, Bool, List, [], ◌∷◌, ltb, eqb, length, get_or, Result, Ok, Err}
use Rattle.octets.specs.declared.Refusal.{Refusal}
use Rattle.octets.specs.Base.{pick, Answer, refused, accepted, refusal_number}
use Rattle.octets.specs.Number.{get}
use Rattle.octets.specs.Store.{part}
use Rattle.sheet_layout.specs.declared.Figures.{Figures}
use Rattle.sheet_layout.specs.declared.Tap.{Tap}
use Rattle.sheet_layout.specs.declared.Layout.{Layout}
use Rattle.sheet_read.specs.declared.Sheet.{Sheet}
use Rattle.sheet_layout.specs.Layout.{blank_layout, places_of}
use Rattle.sheet_layout.specs.Check.{refusal_of}
use Rattle.sheet_layout.specs.Limits.{max_stations}

-- ---- the map and its fields

-- "Octet 0 is a map."
abbrev pub map_of : List ℕ → ℕ
map_of l = get_or l 0 0

-- whether bit k stands
abbrev pub stands : ℕ → ℕ → Bool
stands m k = eqb (m / 2 ^ k % 2) 1

-- The table: of each field, in the order of the bits, its octets and what it is "if absent".
pub record Field : Type 0 where
  pub width : ℕ
  pub absent : ℕ

abbrev pub fields : List Field
fields =
    record { width = 2; absent = 512 }
    ∷ record { width = 1; absent = 64 }
    ∷ record { width = 1; absent = 32 }
    ∷ record { width = 1; absent = 32 }
    ∷ record { width = 1; absent = 16 }
    ∷ record { width = 1; absent = 10 }
    ∷ record { width = 1; absent = 0 }
    ∷ []

abbrev pub field_count : ℕ
field_count = 7

abbrev pub row : ℕ → Field
row k = get_or fields k (record { width = 0; absent = 0 })

abbrev pub width : ℕ → ℕ
width k = (row k).width

-- "Only fields whose bit stands follow, in this order": where the field of bit k begins, or would
unfoldable pub field_at : ℕ → ℕ → ℕ
field_at m zero = 1
field_at m (suc k) = field_at m k + pick (stands m k) (width k) 0

-- the field of bit k, "high octet first", or what stands for it
unfoldable pub field : List ℕ → ℕ → ℕ
field l k = pick (stands (map_of l) k) (get (width k) l (field_at (map_of l) k)) (row k).absent

-- the fields by their bits
unfoldable pub figures_in : List ℕ → Figures
figures_in l =
    record {
      slot = field l 0;
      gap1 = field l 1;
      gap2 = field l 2;
      jam = field l 3;
      limit = field l 4;
      backoff = field l 5;
      ends = field l 6;
    }

-- ---- the stations

-- "Then one octet N": where it stands, and N
abbrev pub count_place : List ℕ → ℕ
count_place l = field_at (map_of l) field_count

abbrev pub count_in : List ℕ → ℕ
count_in l = get_or l (count_place l) 0

-- "then N stations: position (1 octet ..) and a six-octet address": the station that begins at octet `at`
unfoldable pub tap_in : List ℕ → ℕ → Tap
tap_in l at = record { position = get_or l at 0; address = part l (at + 1) 6 }

-- station i, of those that begin at octet `at`
abbrev pub taps_from : List ℕ → ℕ → ℕ → Tap
taps_from l at i = tap_in l (at + 7 * i)

-- the layout as it is written; of more than sixteen stations the first sixteen
unfoldable pub layout_in : List ℕ → Layout
layout_in l =
    record {
      figures = figures_in l;
      count = count_in l;
      stations = places_of (taps_from l (count_place l + 1)) (min (count_in l) max_stations);
    }

-- ---- reading

-- what the map and N require: the map, the fields, N and the stations
unfoldable pub sheet_size : List ℕ → ℕ
sheet_size l = count_place l + 1 + 7 * count_in l

-- what reading gives: the answer, with the octets used, and the layout; with a refusal a blank one
pub record Reading : Type 0 where
  pub answer : Answer
  pub layout : Layout

abbrev pub unread : ℕ → Reading
unread n = record { answer = refused n; layout = blank_layout }

-- 3: "The sheet is shorter than its map and N require (unknown map bits adding nothing; no octet for the map or N
-- counts as short)." 4: "Map bit 6 or 7 stands", since N1 bit 7 alone. Then 5 to 8 of the layout, its defaults filled
-- in.
unfoldable pub read_sheet : List ℕ → Reading
read_sheet l =
    pick (ltb (length l) (sheet_size l)) (unread 3)
    (pick (stands (map_of l) 7) (unread 4)
    (pick (eqb (refusal_of (layout_in l)) 0) (record { answer = accepted (sheet_size l ∷ []); layout = layout_in l })
    (unread (refusal_of (layout_in l)))))

-- what the code's answer stands for
abbrev pub sheet_reading : Result Sheet Refusal → Reading
sheet_reading (Ok r) = record { answer = accepted (r.used ∷ []); layout = r.layout }
sheet_reading (Err e) = unread (refusal_number e)

abbrev pub sheet_answer : Result Sheet Refusal → Answer
sheet_answer r = (sheet_reading r).answer
