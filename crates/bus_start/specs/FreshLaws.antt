-- A law for each way through the code of a fresh start, and what is read of the area that it leaves. Assumes nothing.
use Rattle.std.specs.Prelude.{ℕ, zero, suc, ◌+◌, ◌*◌, ◌^◌, ◌≤◌, ◌<◌, ◌≡◌, get_or}
use Rattle.std.proofs.Math.Path.{refl, ap}
use Rattle.std.proofs.Common.{sym, ◌∙◌, ap₂, not-suc-le-zero, arith}
use mathlib.Core.List.{List, [], ◌∷◌, ◌++◌}
use Rattle.octets.specs.BaseLaws.{by_eq}
use Rattle.std.proofs.Math.ListN.{length}
use Rattle.std.proofs.lemmas.List.Edits.{sets}
use Rattle.std.proofs.Math.Seq.{length-sets}
use Rattle.octets.specs.Number.{get, put}
use Rattle.octets.specs.NumberLaws.{length_put, get_put_same, get_put_other}
use Rattle.octets.specs.Store.{part, part_same, Apart}
use Rattle.octets.specs.Region.{Same, same_refl, same_part, same_trans, sets_leaves, put_leaves, words_leave}
use Rattle.octets.specs.Region.{get_goes_by, part_goes_by}
use Rattle.octets.specs.Turns.{turns, turns_none, turns_more, length_turns, blanked, blanked_same, length_blanked}
use Rattle.octets.specs.Words.{words_at}
use Rattle.octets.specs.WordsLaws.{length_put_words, get_words_same}
use Rattle.sheet_layout.specs.declared.Figures.{Figures}
use Rattle.sheet_layout.specs.declared.Tap.{Tap}
use Rattle.sheet_layout.specs.declared.Layout.{Layout}
use Rattle.sheet_layout.specs.CheckLaws.{Figured}
use Rattle.station_symbols.specs.declared.Heard.TheVariants.{Nothing}
use Rattle.area.specs.AreaLaws.{symbol_zero}
use Rattle.area.specs.Area.{clock_at, depth_at, draw_at, figures_at, count_at, position_at, address_at, record_at, counters_at}
use Rattle.area.specs.Area.{symbol_at, arrival_at, heard_of}
use Rattle.bus_start.specs.Fresh.{with_figures, with_tap, tap_in, with_taps, with_depth, with_draw, with_row, with_draws}
use Rattle.bus_start.specs.Fresh.{with_plan, fresh}
use Rattle.area.specs.Offsets.{area_size, from, the_layout, the_depth, the_draws, the_station, the_counters, address_from}
use Rattle.area.specs.Offsets.{draw_from, tap_from}
use Rattle.sheet_layout.specs.Limits.{max_draws, max_stations}
use Rattle.station_state.specs.State.{counter_count}
use Rattle.area_record.specs.Words.{record_words}

-- ---- the code

pub taps_none : (ts : List Tap) (a : List ℕ) → a ≡ with_taps ts 0 a
unfolding with_taps
taps_none ts a = turns_none (λ j z. with_tap (tap_in ts j).position (tap_in ts j).address j z) a

pub row_none : (row : List ℕ) (i : ℕ) (a : List ℕ) → a ≡ with_row row i 0 a
unfolding with_row
row_none row i a = turns_none (λ j z. with_draw i j (get_or row j 0) z) a

pub draws_none : (ds : List (List ℕ)) (d : ℕ) (a : List ℕ) → a ≡ with_draws ds 0 d a
unfolding with_draws
draws_none ds d a = turns_none (λ j z. with_row (get_or ds j []) j d z) a

-- one more
pub taps_more : (ts : List Tap) (i : ℕ) (a : List ℕ)
    → with_taps ts (i + 1) a ≡ with_tap (tap_in ts i).position (tap_in ts i).address i (with_taps ts i a)
unfolding with_taps
taps_more ts i a =
    sym (turns_more (λ j z. with_tap (tap_in ts j).position (tap_in ts j).address j z) i a (with_taps ts i a) _ refl refl)

pub row_more : (row : List ℕ) (i k : ℕ) (a : List ℕ)
    → with_row row i (k + 1) a ≡ with_draw i k (get_or row k 0) (with_row row i k a)
unfolding with_row
row_more row i k a = sym (turns_more (λ j z. with_draw i j (get_or row j 0) z) k a (with_row row i k a) _ refl refl)

pub draws_more : (ds : List (List ℕ)) (i d : ℕ) (a : List ℕ)
    → with_draws ds (i + 1) d a ≡ with_row (get_or ds i []) i d (with_draws ds i d a)
unfolding with_draws
draws_more ds i d a = sym (turns_more (λ j z. with_row (get_or ds j []) j d z) i a (with_draws ds i d a) _ refl refl)

-- ---- what each writer leaves as it was

figures_leave : (b n : ℕ) (f : Figures) (c : ℕ) (x : List ℕ) → Apart b n (from the_layout) 32
    → Same b n (with_figures f c x) x
unfolding with_figures
figures_leave b n f c x o = words_leave b n 8 (from the_layout) x _ o

depth_leaves : (b n d : ℕ) (x : List ℕ) → Apart b n (from the_depth) 4 → Same b n (with_depth d x) x
unfolding with_depth
depth_leaves b n d x o = put_leaves b n 4 (from the_depth) d x o

tap_leaves : (b n p : ℕ) (d : List ℕ) (i : ℕ) (x : List ℕ) → length d ≡ 6 → Apart b n (tap_from i) 16
    → Same b n (with_tap p d i x) x
unfolding with_tap
tap_leaves b n p d i x e o =
    same_trans b n (sets (put 4 x (tap_from i) p) (address_from i) d) (put 4 x (tap_from i) p) x
    (sets_leaves b n (address_from i) d (put 4 x (tap_from i) p) (λ u v. o (omega arith) (omega arith)))
    (put_leaves b n 4 (tap_from i) p x (λ u v. o (omega arith) (omega arith)))

-- the first n addresses are addresses
abbrev pub Formed : List Tap → ℕ → Type 0
Formed ts n = (i : ℕ) → i < n → length (tap_in ts i).address ≡ 6

taps_leave : (b n : ℕ) (ts : List Tap) (k : ℕ) (x : List ℕ) → Formed ts k → Apart b n 64 (16 * k)
    → Same b n (with_taps ts k x) x
unfolding with_taps turns
taps_leave b n ts zero x w o = same_refl b n x
taps_leave b n ts (suc k) x w o =
    same_trans b n (with_tap (tap_in ts k).position (tap_in ts k).address k (with_taps ts k x)) (with_taps ts k x) x
    (tap_leaves b n (tap_in ts k).position (tap_in ts k).address k (with_taps ts k x) (w k (omega arith))
    (λ u v. o (omega arith) (omega arith)))
    (taps_leave b n ts k x (λ i h. w i (omega arith)) (λ u v. o (omega arith) v))

row_leaves : (b n : ℕ) (row : List ℕ) (i k : ℕ) (x : List ℕ) → k ≤ max_draws → Apart b n (from the_draws + 32 * i) 32
    → Same b n (with_row row i k x) x
unfolding with_row turns with_draw
row_leaves b n row i zero x h o = same_refl b n x
row_leaves b n row i (suc k) x h o =
    same_trans b n (put 2 (with_row row i k x) (draw_from i k) (get_or row k 0)) (with_row row i k x) x
    (put_leaves b n 2 (draw_from i k) (get_or row k 0) (with_row row i k x)
    (λ u v. o (omega arith) (omega arith)))
    (row_leaves b n row i k x (omega arith) o)

draws_leave : (b n : ℕ) (ds : List (List ℕ)) (k d : ℕ) (x : List ℕ) → d ≤ max_draws → Apart b n (from the_draws) (32 * k)
    → Same b n (with_draws ds k d x) x
unfolding with_draws turns
draws_leave b n ds zero d x h o = same_refl b n x
draws_leave b n ds (suc k) d x h o =
    same_trans b n (with_row (get_or ds k []) k d (with_draws ds k d x)) (with_draws ds k d x) x
    (row_leaves b n (get_or ds k []) k d (with_draws ds k d x) h (λ u v. o (omega arith) (omega arith)))
    (draws_leave b n ds k d x h (λ u v. o (omega arith) v))

-- ---- lengths

length_figures : (f : Figures) (c : ℕ) (x : List ℕ) → length (with_figures f c x) ≡ length x
unfolding with_figures
length_figures f c x = length_put_words 8 x (from the_layout) _

length_taps : (ts : List Tap) (k : ℕ) (x : List ℕ) → length (with_taps ts k x) ≡ length x
unfolding with_taps with_tap
length_taps ts k x =
    length_turns (λ i y. sets (put 4 y (tap_from i) (tap_in ts i).position) (address_from i) (tap_in ts i).address) k x
    (λ i y. length-sets (put 4 y (tap_from i) (tap_in ts i).position) (address_from i) (tap_in ts i).address
    ∙ length_put 4 y (tap_from i) (tap_in ts i).position)

length_depth : (d : ℕ) (x : List ℕ) → length (with_depth d x) ≡ length x
unfolding with_depth
length_depth d x = length_put 4 x (from the_depth) d

length_row : (row : List ℕ) (i k : ℕ) (x : List ℕ) → length (with_row row i k x) ≡ length x
unfolding with_row with_draw
length_row row i k x = length_turns _ k x (λ j y. length_put 2 y _ _)

length_draws : (ds : List (List ℕ)) (k d : ℕ) (x : List ℕ) → length (with_draws ds k d x) ≡ length x
unfolding with_draws
length_draws ds k d x = length_turns _ k x (λ i y. length_row (get_or ds i []) i d y)

-- ---- what was written is read back

taps_back : (ts : List Tap) (i k : ℕ) (x : List ℕ) → i < k → Formed ts k
    → Same (tap_from i) 16 (with_taps ts k x) (with_tap (tap_in ts i).position (tap_in ts i).address i (with_taps ts i x))
unfolding with_taps turns
taps_back ts i zero x h w = absurd (not-suc-le-zero h)
taps_back ts i (suc k) x h w =
    by_eq i k
    (λ e. rw e (same_refl (tap_from k) 16 (with_tap (tap_in ts k).position (tap_in ts k).address k (with_taps ts k x))))
    (λ e. same_trans (tap_from i) 16 (with_tap (tap_in ts k).position (tap_in ts k).address k (with_taps ts k x))
    (with_taps ts k x) (with_tap (tap_in ts i).position (tap_in ts i).address i (with_taps ts i x))
    (tap_leaves (tap_from i) 16 (tap_in ts k).position (tap_in ts k).address k (with_taps ts k x) (w k (omega arith))
    (λ u v. e (omega arith)))
    (taps_back ts i k x (omega arith) (λ j g. w j (omega arith))))

draws_back : (ds : List (List ℕ)) (i k d : ℕ) (x : List ℕ) → i < k → d ≤ max_draws
    → Same (from the_draws + 32 * i) 32 (with_draws ds k d x) (with_row (get_or ds i []) i d (with_draws ds i d x))
unfolding with_draws turns
draws_back ds i zero d x h g = absurd (not-suc-le-zero h)
draws_back ds i (suc k) d x h g =
    by_eq i k
    (λ e. rw e (same_refl (from the_draws + 32 * k) 32 (with_row (get_or ds k []) k d (with_draws ds k d x))))
    (λ e. same_trans (from the_draws + 32 * i) 32 (with_row (get_or ds k []) k d (with_draws ds k d x)) (with_draws ds k d x)
    (with_row (get_or ds i []) i d (with_draws ds i d x))
    (row_leaves (from the_draws + 32 * i) 32 (get_or ds k []) k d (with_draws ds k d x) g (λ u v. e (omega arith)))
    (draws_back ds i k d x (omega arith) g))

row_back : (row : List ℕ) (i j k : ℕ) (x : List ℕ) → j < k → k ≤ max_draws → from the_draws + 32 * i + 32 ≤ length x
    → get_or row j 0 < 256 ^ 2
    → get 2 (with_row row i k x) (draw_from i j) ≡ get_or row j 0
unfolding with_row turns with_draw
row_back row i j zero x h g b s = absurd (not-suc-le-zero h)
row_back row i j (suc k) x h g b s =
    by_eq j k
    (λ e. rw e (get_put_same 2 (with_row row i k x) (draw_from i k) (get_or row k 0)
    (omega (arith, length_row row i k x)) (rw e at s)))
    (λ e. get_put_other 2 2 (with_row row i k x) (draw_from i k) (draw_from i j)
    (get_or row k 0) (λ u v. e (omega arith))
    ∙ row_back row i j k x (omega arith) (omega arith) b s)

six_back : (e x : List ℕ) (at : ℕ) → length e ≡ 6 → at + 6 ≤ length x → part (sets x at e) at 6 ≡ e
six_back e x at n h = ap (part (sets x at e) at) (sym n) ∙ part_same e x at (omega arith)

-- ---- the area that a fresh start leaves

get_zero : (w : ℕ) (l : List ℕ) (at : ℕ) → ((k : ℕ) → at ≤ k → k < at + w → get_or l k 0 ≡ 0) → get w l at ≡ 0
unfolding get
get_zero zero l at h = refl
get_zero (suc zero) l at h = h at (omega arith) (omega arith)
get_zero (suc (suc w)) l at h =
    rw (get_zero (suc w) l at (λ k p q. h k p (omega arith)), h (at + suc w) (omega arith) (omega arith))

words_zero : (n : ℕ) (l : List ℕ) (at : ℕ) → ((k : ℕ) → at ≤ k → k < at + 4 * n → get_or l k 0 ≡ 0)
    → words_at n l at ≡ words_at n [] at
unfolding words_at
words_zero zero l at h = refl
words_zero (suc n) l at h =
    ap₂ (λ (ws : List ℕ) (w : ℕ). ws ++ (w ∷ [])) (words_zero n l at (λ k p q. h k p (omega arith)))
    (get_zero 4 l (at + 4 * n) (λ k p q. h k (omega arith) (omega arith))
    ∙ sym (get_zero 4 [] (at + 4 * n) (λ k p q. refl)))

module _ (y : Layout) (d : ℕ) (ds : List (List ℕ)) (a : List ℕ) (big : area_size ≤ length a)
    (few : y.count ≤ max_stations) (shallow : d ≤ max_draws) (formed : Formed y.stations y.count) where
  z₀ : List ℕ
  z₀ = blanked area_size a

  z₁ : List ℕ
  z₁ = with_figures y.figures y.count z₀

  z₂ : List ℕ
  z₂ = with_taps y.stations y.count z₁

  z₃ : List ℕ
  z₃ = with_depth d z₂

  z : List ℕ
  z = with_draws ds y.count d z₃

  is_fresh : fresh y d ds a ≡ z
  unfolding fresh with_plan z z₃ z₂ z₁ z₀
  is_fresh = refl

  long₀ : length z₀ ≡ length a
  unfolding z₀
  long₀ = length_blanked area_size a

  long₁ : length z₁ ≡ length a
  unfolding z₁
  long₁ = length_figures y.figures y.count z₀ ∙ long₀

  long₂ : length z₂ ≡ length a
  unfolding z₂
  long₂ = length_taps y.stations y.count z₁ ∙ long₁

  long₃ : length z₃ ≡ length a
  unfolding z₃
  long₃ = length_depth d z₂ ∙ long₂

  pub fresh_length : length (fresh y d ds a) ≡ length a
  unfolding z
  fresh_length = ap length is_fresh ∙ length_draws ds y.count d z₃ ∙ long₃

  -- outside the plan it is zeros
  blank : (b n : ℕ) → Apart b n 4 828 → Same b n z z₀
  unfolding z z₃ z₂ z₁
  blank b n o =
      same_trans b n z z₃ z₀ (draws_leave b n ds y.count d z₃ shallow (λ u v. o (omega arith) (omega arith)))
      (same_trans b n z₃ z₂ z₀ (depth_leaves b n d z₂ (λ u v. o (omega arith) (omega arith)))
      (same_trans b n z₂ z₁ z₀ (taps_leave b n y.stations y.count z₁ formed
      (λ u v. o (omega arith) (omega arith)))
      (figures_leave b n y.figures y.count z₀ (λ u v. o (omega arith) (omega arith)))))

  zero_at : (k : ℕ) → k < area_size → Apart k 1 4 828 → get_or z k 0 ≡ 0
  unfolding Same z₀
  zero_at k h o = blank k 1 o k (omega arith) (omega arith) ∙ blanked_same area_size k a h big

  pub fresh_clock : clock_at (fresh y d ds a) ≡ 0
  unfolding clock_at
  fresh_clock =
      ap (λ (x : List ℕ). get 4 x 0) is_fresh ∙ get_zero 4 z 0 (λ k p q. zero_at k (omega arith) (λ u v. omega arith))

  pub fresh_record : (i : ℕ) → i < max_stations
      → record_at (fresh y d ds a) i ≡ words_at record_words [] (from (the_station i))
  unfolding record_at
  fresh_record i h =
      ap (λ (x : List ℕ). words_at record_words x (from (the_station i))) is_fresh
      ∙ words_zero record_words z (from (the_station i)) (λ k p q. zero_at k (omega arith) (λ u v. omega arith))

  pub fresh_counters : (i : ℕ) → i < max_stations
      → counters_at (fresh y d ds a) i ≡ words_at counter_count [] (from (the_counters i))
  unfolding counters_at
  fresh_counters i h =
      ap (λ (x : List ℕ). words_at counter_count x (from (the_counters i))) is_fresh
      ∙ words_zero counter_count z (from (the_counters i)) (λ k p q. zero_at k (omega arith) (λ u v. omega arith))

  pub fresh_symbol : (i u : ℕ) → i < max_stations → symbol_at (fresh y d ds a) i u ≡ 0
  fresh_symbol i u h =
      ap (λ (x : List ℕ). symbol_at x i u) is_fresh
      ∙ symbol_zero z i u (λ k lo up. zero_at k (omega arith) (λ p q. omega arith))

  pub fresh_arrival : (i u : ℕ) → i < max_stations → arrival_at (fresh y d ds a) i u ≡ Nothing
  unfolding arrival_at heard_of
  fresh_arrival i u h = rw (fresh_symbol i u h)

  -- and the plan is there
  pub fresh_depth : d < 256 ^ 4 → depth_at (fresh y d ds a) ≡ d
  unfolding depth_at z z₃ with_depth
  fresh_depth s =
      ap (λ (x : List ℕ). get 4 x 4) is_fresh
      ∙ get_goes_by 4 (from the_depth) z z₃
      (draws_leave (from the_depth) 4 ds y.count d z₃ shallow (λ u v. omega arith))
      ∙ get_put_same 4 z₂ (from the_depth) d (omega (arith, long₂)) s

  -- a part of the layout: as the figures and the taps left it
  planned : (b n : ℕ) → from the_layout ≤ b → b + n ≤ from the_draws → Same b n z z₂
  unfolding z z₃
  planned b n p q =
      same_trans b n z z₃ z₂ (draws_leave b n ds y.count d z₃ shallow (λ u v. omega arith))
      (depth_leaves b n d z₂ (λ u v. omega arith))

  numbers : List ℕ
  numbers =
      y.figures.slot ∷ y.figures.gap1 ∷ y.figures.gap2 ∷ y.figures.jam ∷ y.figures.limit ∷ y.figures.backoff
      ∷ y.count ∷ y.figures.ends ∷ []

  number_back : (k : ℕ) → k < 8 → get_or numbers k 0 < 256 ^ 4 → get 4 z (from the_layout + 4 * k) ≡ get_or numbers k 0
  unfolding z₂ z₁ with_figures numbers
  number_back k h s =
      get_goes_by 4 (from the_layout + 4 * k) z z₂ (planned (from the_layout + 4 * k) 4 (omega arith) (omega arith))
      ∙ get_goes_by 4 (from the_layout + 4 * k) z₂ z₁
      (taps_leave (from the_layout + 4 * k) 4 y.stations y.count z₁ formed (λ u v. omega arith))
      ∙ get_words_same 8 z₀ (from the_layout) k numbers (omega (arith, long₀)) h s

  pub fresh_count : y.count < 256 ^ 4 → count_at (fresh y d ds a) ≡ y.count
  unfolding count_at numbers
  fresh_count s = ap (λ (x : List ℕ). get 4 x 32) is_fresh ∙ number_back 6 (omega arith) s

  pub fresh_figures : Figured y.figures → figures_at (fresh y d ds a) ≡ y.figures
  unfolding figures_at numbers
  fresh_figures g =
      ap figures_at is_fresh
      ∙ (λ i. record {
        slot = number_back 0 (omega arith) (omega (arith, g.slot)) i;
        gap1 = number_back 1 (omega arith) (omega (arith, g.gap1)) i;
        gap2 = number_back 2 (omega arith) (omega (arith, g.gap2)) i;
        jam = number_back 3 (omega arith) (omega (arith, g.jam)) i;
        limit = number_back 4 (omega arith) (omega (arith, g.limit)) i;
        backoff = number_back 5 (omega arith) (omega (arith, g.backoff)) i;
        ends = number_back 7 (omega arith) (omega (arith, g.ends)) i;
      })

  tap_back : (i : ℕ) → i < y.count
      → Same (tap_from i) 16 z (with_tap (tap_in y.stations i).position (tap_in y.stations i).address i
      (with_taps y.stations i z₁))
  unfolding z₂
  tap_back i h =
      same_trans (tap_from i) 16 z z₂ _ (planned (tap_from i) 16 (omega arith) (omega arith))
      (taps_back y.stations i y.count z₁ h formed)

  pub fresh_position : (i : ℕ) → i < y.count → (tap_in y.stations i).position < 256 ^ 4
      → position_at (fresh y d ds a) i ≡ (tap_in y.stations i).position
  unfolding position_at with_tap
  fresh_position i h s =
      let x = with_taps y.stations i z₁ in
      let p = (tap_in y.stations i).position in
      let e = (tap_in y.stations i).address in
      ap (λ (x : List ℕ). get 4 x (tap_from i)) is_fresh
      ∙ get_goes_by 4 (tap_from i) z (sets (put 4 x (tap_from i) p) (address_from i) e)
      (same_part (tap_from i) 16 (tap_from i) 4 z _ (omega arith) (omega arith) (tap_back i h))
      ∙ get_goes_by 4 (tap_from i) (sets (put 4 x (tap_from i) p) (address_from i) e) (put 4 x (tap_from i) p)
      (sets_leaves (tap_from i) 4 (address_from i) e (put 4 x (tap_from i) p) (λ u v. omega arith))
      ∙ get_put_same 4 x (tap_from i) p (omega (arith, length_taps y.stations i z₁, long₁)) s

  pub fresh_address : (i : ℕ) → i < y.count → address_at (fresh y d ds a) i ≡ (tap_in y.stations i).address
  unfolding address_at with_tap z
  fresh_address i h =
      let x = with_taps y.stations i z₁ in
      let p = (tap_in y.stations i).position in
      let e = (tap_in y.stations i).address in
      let n : length (put 4 x (tap_from i) p) ≡ length a = length_put 4 x (tap_from i) p
      ∙ length_taps y.stations i z₁ ∙ long₁ in
      ap (λ (x : List ℕ). part x (address_from i) 6) is_fresh
      ∙ part_goes_by 6 (address_from i) z (sets (put 4 x (tap_from i) p) (address_from i) e)
      (omega (arith, length_draws ds y.count d z₃, long₃))
      (omega (arith, length-sets (put 4 x (tap_from i) p) (address_from i) e, n))
      (same_part (tap_from i) 16 (address_from i) 6 z _ (omega arith) (omega arith) (tap_back i h))
      ∙ six_back e (put 4 x (tap_from i) p) (address_from i) (formed i h) (omega (arith, n))

  pub fresh_draw : (i k : ℕ) → i < y.count → k < d → get_or (get_or ds i []) k 0 < 256 ^ 2
      → draw_at (fresh y d ds a) i k ≡ get_or (get_or ds i []) k 0
  unfolding draw_at z
  fresh_draw i k h g s =
      ap (λ (x : List ℕ). get 2 x (draw_from i k)) is_fresh
      ∙ get_goes_by 2 (draw_from i k) z (with_row (get_or ds i []) i d (with_draws ds i d z₃))
      (same_part (from the_draws + 32 * i) 32 (draw_from i k) 2 z _ (omega arith) (omega arith)
      (draws_back ds i y.count d z₃ h shallow))
      ∙ row_back (get_or ds i []) i k d (with_draws ds i d z₃) g shallow (omega (arith, length_draws ds i d z₃, long₃)) s
