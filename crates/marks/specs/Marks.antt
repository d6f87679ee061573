-- Bookmarks in a run (document 02, N5; refusals 1, 2, 15, 17, 18). The laws are in proofs/MarkLaws. Assumes nothing.
use Rattle.std.specs.Prelude.{ℕ, zero, suc, ◌+◌, ◌*◌, Bool, ◌&&◌, not, List, [], ltb, eqb, length, get_or, set, take, Option, Some, None}
use Rattle.std.proofs.lemmas.List.Edits.{sets}
use Rattle.octets.specs.Base.{pick, refused, accepted, Outcome, outcome}
use Rattle.octets.specs.Equal.{equal}
use Rattle.octets.specs.Store.{part}
use Rattle.area.specs.Offsets.{area_size}
use Rattle.area_check.specs.Valid.{area_wrong, area_refusal}

-- ---- the store

-- "A second lent store holds up to four marks, each an octet that is 1 where the mark stands, an eight-octet name and
-- the whole work area"
abbrev pub mark_count : ℕ
mark_count = 4

abbrev pub name_size : ℕ
name_size = 8

abbrev pub mark_size : ℕ
mark_size = 1 + name_size + area_size

abbrev pub store_size : ℕ
store_size = mark_count * mark_size

-- where place k begins, its name, and its area
abbrev pub mark_from : ℕ → ℕ
mark_from k = mark_size * k

abbrev pub name_from : ℕ → ℕ
name_from k = mark_from k + 1

abbrev pub copy_from : ℕ → ℕ
copy_from k = mark_from k + (1 + name_size)

unfoldable pub stands : (store : List ℕ) (k : ℕ) → Bool
stands s k = eqb (get_or s (mark_from k) 0) 1

unfoldable pub name_at : (store : List ℕ) (k : ℕ) → List ℕ
name_at s k = part s (name_from k) name_size

unfoldable pub copy_at : (store : List ℕ) (k : ℕ) → List ℕ
copy_at s k = part s (copy_from k) area_size

-- ---- finding a place: its number, markCount where there is none

-- the number of the place that the code found
abbrev pub place_number : Option ℕ → ℕ
place_number (Some k) = k
place_number None = mark_count

-- the first number from k on, of n, that passes the test; k + n where none does
unfoldable pub first_from : (ℕ → Bool) → (k n : ℕ) → ℕ
first_from t k zero = k
first_from t k (suc n) = pick (t k) k (first_from t (k + 1) n)

-- "Where a name stands twice, the first counts."
unfoldable pub named : (store name : List ℕ) (k : ℕ) → Bool
named s name k = stands s k && equal (name_at s k) name

unfoldable pub found : (store name : List ℕ) → ℕ
found s name = first_from (named s name) 0 mark_count

-- "the first place whose octet is not 1"
unfoldable pub vacant : (store : List ℕ) (k : ℕ) → Bool
vacant s k = not (stands s k)

unfoldable pub free : (store : List ℕ) → ℕ
free s = first_from (vacant s) 0 mark_count

-- "Marking under a standing name replaces it; .. a new name takes the first place whose octet is not 1."
unfoldable pub place_for : (store name : List ℕ) → ℕ
place_for s name = pick (eqb (found s name) mark_count) (free s) (found s name)

-- ---- the calls: the answer, and the slice that is written

-- the store with a mark at place k: the octet, the name, and of the area "only the first octets, as many as 1 asks for"
unfoldable pub with_head : (store : List ℕ) (k : ℕ) (name : List ℕ) → List ℕ
with_head s k name = set (sets s (name_from k) name) (mark_from k) 1

unfoldable pub with_mark : (store : List ℕ) (k : ℕ) (name area : List ℕ) → List ℕ
with_mark s k name a = sets (with_head s k name) (copy_from k) (take area_size a)

-- "marking checks its area under 1 and 2 first"; 15: "a store too short for four marks"; "as 18, a new name while four
-- others stand". The store afterwards
unfoldable pub marked : (area store name : List ℕ) → Outcome
marked a s name =
    pick (eqb (area_refusal a) 0)
    (pick (ltb (length s) store_size) (outcome (refused 15) s)
    (pick (eqb (place_for s name) mark_count) (outcome (refused 18) s)
    (outcome (accepted []) (with_mark s (place_for s name) name a))))
    (outcome (refused (area_refusal a)) s)

-- "Returning puts back every octet, clock and draw places included." "a return checks only the length of the area it
-- overwrites": 1; 15; "as 17, a return or drop of a name not marked"; "a return to a marked area that 2 would refuse
-- under 2". The area afterwards
unfoldable pub returned : (area store name : List ℕ) → Outcome
returned a s name =
    pick (ltb (length a) area_size) (outcome (refused 1) a)
    (pick (ltb (length s) store_size) (outcome (refused 15) a)
    (pick (eqb (found s name) mark_count) (outcome (refused 17) a)
    (pick (area_wrong (copy_at s (found s name))) (outcome (refused 2) a)
    (outcome (accepted []) (sets a 0 (copy_at s (found s name)))))))

-- "a drop sets only that octet to 0"; 15, 17. The store afterwards
unfoldable pub dropped : (store name : List ℕ) → Outcome
dropped s name =
    pick (ltb (length s) store_size) (outcome (refused 15) s)
    (pick (eqb (found s name) mark_count) (outcome (refused 17) s)
    (outcome (accepted []) (set s (mark_from (found s name)) 0)))
