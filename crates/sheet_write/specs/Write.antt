-- Writing a sheet (document 02, N4): "the sheet written from a layout: shortest, no field that equals its default".
-- The fields are the rows of sheet_read's table. The laws are in WriteLaws and WriteTheorems. Assumes nothing.
use Rattle.std.specs.Prelude.{ℕ, zero, suc, ◌+◌, ◌*◌, Bool, List, [], ◌∷◌, ◌++◌, ltb, eqb, length, get_or}
use Rattle.std.proofs.lemmas.List.Edits.{sets}
use Rattle.octets.specs.Base.{pick, refused, accepted, Outcome, outcome}
use Rattle.octets.specs.Number.{spelled}
use Rattle.sheet_layout.specs.declared.Figures.{Figures}
use Rattle.sheet_layout.specs.declared.Tap.{Tap}
use Rattle.sheet_layout.specs.declared.Layout.{Layout}
use Rattle.sheet_layout.specs.Layout.{tap_at}
use Rattle.sheet_layout.specs.Check.{refusal_of}
use Rattle.sheet_read.specs.Sheet.{field_count, row, width}

-- n parts, one after the other
unfoldable pub joined : (ℕ → List ℕ) → ℕ → List ℕ
joined t zero = []
joined t (suc n) = joined t n ++ t n

-- ---- the fields

-- the figures by their bits
abbrev pub values_of : Figures → List ℕ
values_of f = f.slot ∷ f.gap1 ∷ f.gap2 ∷ f.jam ∷ f.limit ∷ f.backoff ∷ f.ends ∷ []

-- whether v is what the field of bit k is "if absent"
abbrev pub is_absent : ℕ → ℕ → Bool
is_absent v k = eqb v (row k).absent

-- the map of the n fields from bit k on, which hold vs: a bit stands for each field that does not equal its default
unfoldable pub map_from : List ℕ → ℕ → ℕ → ℕ
map_from vs k zero = 0
map_from vs k (suc n) = pick (is_absent (get_or vs k 0) k) 0 1 + 2 * map_from vs (suc k) n

-- the octets of the field of bit k that holds v: none where v is its default
unfoldable pub field_octets : ℕ → ℕ → List ℕ
field_octets v k = pick (is_absent v k) [] (spelled (width k) v)

-- the first n fields, which hold vs
abbrev pub fields_octets : List ℕ → ℕ → List ℕ
fields_octets vs n = joined (λ k. field_octets (get_or vs k 0) k) n

-- the map and the fields
unfoldable pub head_octets : Figures → List ℕ
head_octets f = spelled 1 (map_from (values_of f) 0 field_count) ++ fields_octets (values_of f) field_count

-- ---- the stations

-- position and address
unfoldable pub tap_octets : Tap → List ℕ
tap_octets t = spelled 1 t.position ++ t.address

-- the first n
abbrev pub taps_octets : Layout → ℕ → List ℕ
taps_octets y n = joined (λ i. tap_octets (tap_at y i)) n

-- ---- the sheet

unfoldable pub written : Layout → List ℕ
written y = head_octets y.figures ++ (spelled 1 y.count ++ taps_octets y y.count)

-- "It refuses layout values under 5 to 8 and a short output under 15."
unfoldable pub sheet_written : Layout → List ℕ → Outcome
sheet_written y out =
    pick (eqb (refusal_of y) 0)
    (pick (ltb (length out) (length (written y))) (outcome (refused 15) out)
    (outcome (accepted (length (written y) ∷ [])) (sets out 0 (written y))))
    (outcome (refused (refusal_of y)) out)
