-- Document 01's whole case, and what is refused of inputs near it, as rows that one computation covers.
use Rattle.std.specs.Prelude.{ℕ, ◌≡◌, refl, List, [], ◌∷◌, ◌++◌, map, replicate, take}
use Rattle.octets.specs.Base.{some, outside}
use Rattle.octets.specs.Equal.{equal}
use Rattle.octets.specs.Number.{get}
use Rattle.octets.specs.Filled.{listed, filled}
use Rattle.sheet_layout.specs.Layout.{tap_at, gap_of, span_of}
use Rattle.sheet_layout.specs.Check.{gap1_out, figures_out, address_wrong, refusal_of}
use Rattle.sheet_read.specs.Sheet.{field_at, field, figures_in, tap_in, layout_in, sheet_size, read_sheet}
use Rattle.plan_draws.specs.Draws.{blank_row, draw_in, row_in, draws_in}
use Rattle.plan_read.specs.Plan.{offer_place, draws_wrong, time_before, offers_wrong, plan_wrong, last_refusal}
use Rattle.plan_read.specs.Plan.{after_sheet, plan_refusal, Planned, plan_as_read}

sheet : List ℕ
sheet = 0 ∷ 2 ∷ 0 ∷ 2 ∷ 0 ∷ 0 ∷ 0 ∷ 0 ∷ 1 ∷ 10 ∷ 2 ∷ 0 ∷ 0 ∷ 0 ∷ 0 ∷ 2 ∷ []

-- D, and two draws
draws : ℕ → List ℕ
draws d = d ∷ 0 ∷ 0 ∷ 0 ∷ 1 ∷ []

-- an offer at time t of station i to the station whose address ends in k
offer : (t i k : ℕ) → List ℕ
offer t i k = 0 ∷ 0 ∷ 0 ∷ t ∷ i ∷ 2 ∷ 0 ∷ 0 ∷ 0 ∷ 0 ∷ k ∷ 8 ∷ 0 ∷ 0 ∷ 46 ∷ replicate 46 0

input : (d t high : ℕ) → List ℕ
input d t high = sheet ++ draws d ++ (0 ∷ 2 ∷ []) ++ offer t 0 2 ++ offer 0 1 1 ++ (high ∷ 0 ∷ 5 ∷ 220 ∷ [])

rows :
    map plan_refusal
    -- the whole case, 149 octets
    (input 1 0 0
    -- cut in the sheet, before D, in the draws; D 0 and 17
    ∷ take 15 (input 1 0 0) ∷ take 16 (input 1 0 0) ∷ take 20 (input 1 0 0) ∷ input 0 0 0 ∷ input 17 0 0
    -- cut in the offer count, in an offer, in the bit times; one octet left over; a time that falls
    ∷ take 22 (input 1 0 0) ∷ take 90 (input 1 0 0) ∷ take 148 (input 1 0 0) ∷ (input 1 0 0 ++ (0 ∷ [])) ∷ input 1 1 0
    -- too many bit times, and then with one octet left over
    ∷ input 1 0 2 ∷ (input 1 0 2 ++ (0 ∷ [])) ∷ [])
    ≡ 0 ∷ 3 ∷ 9 ∷ 9 ∷ 9 ∷ 9 ∷ 16 ∷ 16 ∷ 16 ∷ 16 ∷ 16 ∷ 13 ∷ 16 ∷ []
unfolding sheet draws offer input some outside equal get listed filled tap_at gap_of span_of gap1_out figures_out address_wrong refusal_of field_at field figures_in tap_in layout_in sheet_size read_sheet offer_place draws_wrong time_before offers_wrong plan_wrong last_refusal after_sheet plan_refusal
rows = refl

-- what is read of the whole case: D, where the draws begin, two offers, where the first begins, 1500 bit times; and the
-- draws
numbers : Planned → List ℕ
numbers r = r.depth ∷ r.drawn ∷ r.offers ∷ r.first ∷ r.times ∷ []

whole_case : numbers (plan_as_read (input 1 0 0)) ≡ 1 ∷ 17 ∷ 2 ∷ 23 ∷ 1500 ∷ []
unfolding sheet draws offer input some outside equal get listed filled tap_at gap_of span_of gap1_out figures_out address_wrong refusal_of field_at field figures_in tap_in layout_in sheet_size read_sheet offer_place draws_wrong time_before offers_wrong plan_wrong last_refusal after_sheet plan_refusal numbers plan_as_read
whole_case = refl

whole_draws : draws_in (input 1 0 0) 17 2 1 ≡ blank_row ∷ (1 ∷ replicate 15 0) ∷ replicate 14 blank_row
unfolding sheet draws offer input get listed filled draw_in row_in draws_in
whole_draws = refl
