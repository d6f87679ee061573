-- A fresh start (document 01: "A fresh start has clock 0, every station quiet, nothing emitted, heard or held, first
-- draws next, counters 0"). A record, counters and a line of zeros stand for that. The laws are in FreshLaws. Assumes
-- nothing.
use Rattle.std.specs.Prelude.{ℕ, List, [], ◌∷◌, get_or}
use Rattle.std.proofs.lemmas.List.Edits.{sets}
use Rattle.octets.specs.Number.{put}
use Rattle.octets.specs.Turns.{turns, blanked}
use Rattle.octets.specs.Words.{put_words}
use Rattle.sheet_layout.specs.declared.Figures.{Figures}
use Rattle.sheet_layout.specs.declared.Tap.{Tap}
use Rattle.sheet_layout.specs.declared.Layout.{Layout}
use Rattle.area.specs.Offsets.{area_size, from, the_layout, the_depth, address_from, draw_from, tap_from}

-- ---- the layout: its figures and N, and its stations

unfoldable pub with_figures : Figures → ℕ → List ℕ → List ℕ
with_figures f n a =
    put_words 8 a (from the_layout) (f.slot ∷ f.gap1 ∷ f.gap2 ∷ f.jam ∷ f.limit ∷ f.backoff ∷ n ∷ f.ends ∷ [])

unfoldable pub with_tap : (position : ℕ) (address : List ℕ) (i : ℕ) → List ℕ → List ℕ
with_tap position address i a = sets (put 4 a (tap_from i) position) (address_from i) address

-- each of the first n
abbrev pub tap_in : List Tap → ℕ → Tap
tap_in ts i = get_or ts i (record { position = 0; address = [] })

unfoldable pub with_taps : List Tap → ℕ → List ℕ → List ℕ
with_taps ts n a = turns (λ i x. with_tap (tap_in ts i).position (tap_in ts i).address i x) n a

-- ---- D, and the D draws of each station: number k of row i is draw k of station i

unfoldable pub with_depth : ℕ → List ℕ → List ℕ
with_depth d a = put 4 a (from the_depth) d

unfoldable pub with_draw : (i k v : ℕ) → List ℕ → List ℕ
with_draw i k v a = put 2 a (draw_from i k) v

unfoldable pub with_row : List ℕ → (i d : ℕ) → List ℕ → List ℕ
with_row row i d a = turns (λ k x. with_draw i k (get_or row k 0) x) d a

unfoldable pub with_draws : List (List ℕ) → (n d : ℕ) → List ℕ → List ℕ
with_draws draws n d a = turns (λ i x. with_row (get_or draws i []) i d x) n a

-- ---- the area: zeros, and over them layout, D and draws

unfoldable pub with_plan : Layout → ℕ → List (List ℕ) → List ℕ → List ℕ
with_plan y d draws a =
    with_draws draws y.count d (with_depth d
    (with_taps y.stations y.count (with_figures y.figures y.count a)))

unfoldable pub fresh : Layout → ℕ → List (List ℕ) → List ℕ → List ℕ
fresh y d draws a = with_plan y d draws (blanked area_size a)
