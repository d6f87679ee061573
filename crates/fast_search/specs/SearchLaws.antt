-- A law for each way through the code that finds how long a silence lasts. Assumes nothing.
use Prim.Native.Nat.{ℕ, zero, suc, ◌+◌, ◌%◌, ◌≤◌, ◌<◌, min, max}
use Rattle.std.specs.Prelude.{◌≡◌, Bool, List, get_or}
use Rattle.std.proofs.Math.Path.{refl, sym, ap}
use Rattle.std.proofs.Common.{◌∙◌, subst, true≢false}
use Rattle.std.proofs.Math.Bool.{true, false, not}
use Rattle.std.proofs.Math.Numerals.{add-one}
use native.Mathlib.Omega.{arith}
use borrow.Author.Tests.{eq-eqb, ne_eqb, lt-ltb}
use Rattle.std.proofs.Math.Dec.{eqb}
use Rattle.octets.specs.Base.{some}
use Rattle.octets.specs.BaseLaws.{by_test, by_eq, below_none, some_none, some_more, some_hit, some_end}
use Rattle.sheet_layout.specs.declared.Figures.{Figures}
use Rattle.station_state.specs.declared.Station.{Station}
use Rattle.area_record.specs.Codec.{decoded}
use Rattle.area.specs.Area.{clock_at, figures_at, count_at, record_at, station_at, symbol_at}
use Rattle.area.specs.AreaLaws.{symbol_turn}
use Rattle.bus_spec.specs.Ready.{Ready}
use Rattle.bus_spec.specs.RunLaws.{first_hit}
use Rattle.fast_silence.specs.Bound.{station_rests, used, line_rests, stations_rest, lines_rest, worth, silent_for}
use Rattle.fast_silence.specs.Bound.{worth_most, stations_fall, lines_fall}
use Rattle.sheet_layout.specs.Limits.{last_clock}
use Rattle.area.specs.Offsets.{ring}
use Rattle.area_record.specs.Words.{emitted_word}

-- ---- who emitted

unfoldable pub emitted_at : List ℕ → ℕ → Bool
emitted_at a i = (station_at a i).emitted

pub emitted_is : (a : List ℕ) (i c : ℕ) → c ≡ get_or (record_at a i) emitted_word 0 → eqb c 1 ≡ emitted_at a i
unfolding emitted_at station_at decoded
emitted_is a i c p = rw p

-- none of the first i. Shut, so that a search does not enter it
unfoldable pub NoneEmitted : List ℕ → ℕ → Type 0
NoneEmitted a i = some (emitted_at a) i ≡ false

pub emitted_none : (a : List ℕ) → NoneEmitted a 0
unfolding NoneEmitted
emitted_none a = some_none (emitted_at a)

module _ (a : List ℕ) (i : ℕ) where
  pub emitted_more : (b : Bool) → b ≡ emitted_at a i → b ≡ false → NoneEmitted a i → NoneEmitted a (i + 1)
  unfolding NoneEmitted
  emitted_more b p q h = some_more (emitted_at a) i b p q h

  pub emitted_hit : (n : ℕ) (b : Bool) → b ≡ emitted_at a i → b ≡ true → i < n → true ≡ some (emitted_at a) n
  emitted_hit n b p q h = some_hit (emitted_at a) n i b p q h

  pub emitted_end : (n : ℕ) → i ≤ n → n ≤ i → NoneEmitted a i → false ≡ some (emitted_at a) n
  unfolding NoneEmitted
  emitted_end n p q h = some_end (emitted_at a) n i p q h

-- ---- the stations

few_worth : (m k : ℕ) → k ≤ m → m < 5 → 0 ≡ worth k
unfolding worth
few_worth m k h g = rw (lt-ltb k 5 (omega arith))

module _ (a : List ℕ) (m : ℕ) where
  pub stations_none : m ≡ stations_rest a m 0
  unfolding stations_rest
  stations_none = refl

  pub stations_more : (f : Figures) (i k r : ℕ) (s : Station) → f ≡ figures_at a → s ≡ station_at a i
      → r ≡ min (station_rests f k s) k → k ≡ stations_rest a m i → r ≡ stations_rest a m (i + 1)
  unfolding stations_rest
  stations_more f i k r s ef es p q = p ∙ rw (ef, es, q, add-one i)

  pub stations_few : (n i k : ℕ) → k ≡ stations_rest a m i → k < 5 → i ≤ n → 0 ≡ worth (stations_rest a m n)
  stations_few n i k p h g = few_worth k (stations_rest a m n) (omega (arith, stations_fall a m i n g)) h

  -- ---- the lines

  pub lines_none : m ≡ lines_rest a m 0
  unfolding lines_rest
  lines_none = refl

  pub lines_more : (i k r : ℕ) → r ≡ line_rests a k i → k ≡ lines_rest a m i → r ≡ lines_rest a m (i + 1)
  unfolding lines_rest
  lines_more i k r p q = p ∙ rw (q, add-one i)

  pub lines_few : (n i k : ℕ) → k ≡ lines_rest a m i → k < 5 → i ≤ n → 0 ≡ worth (lines_rest a m n)
  lines_few n i k p h g = few_worth k (lines_rest a m n) (omega (arith, lines_fall a m i n g)) h

  pub lines_within : (t i k : ℕ) → k ≡ lines_rest a m i → t + m ≤ last_clock → t + k ≤ last_clock
  unfolding lines_rest
  lines_within t i k p h = omega (arith, lines_fall a m 0 i (omega arith))

-- ---- a line

-- the first u codes are no more than this. Shut, so that a search does not enter it
unfoldable pub AtMost : (top : ℕ) → List ℕ → (i u : ℕ) → Type 0
AtMost top a i u = (v : ℕ) → v < u → symbol_at a i v ≤ top

pub most_none : (a : List ℕ) (i : ℕ) → AtMost 0 a i 0
unfolding AtMost
most_none a i v h = absurd (omega arith)

pub most_more : (a : List ℕ) (i u c p q : ℕ) → c ≡ symbol_at a i u → q ≡ max p c → AtMost p a i u
    → AtMost q a i (u + 1)
unfolding AtMost
most_more a i u c p q ec eq h v g =
    by_eq v u (λ e. let z : symbol_at a i v ≡ c = ap (symbol_at a i) e ∙ sym ec in omega (arith, z))
    (λ ne. omega (arith, h v (omega arith)))

pub most_end : (a : List ℕ) (i u p : ℕ) → AtMost p a i u → ring ≤ u → AtMost p a i ring
unfolding AtMost
most_end a i u p h le v g = h v (omega arith)

pub line_clear : (a : List ℕ) (i m p : ℕ) → AtMost p a i ring → p ≡ 0 → m ≡ line_rests a m i
unfolding AtMost line_rests used
line_clear a i m p h e =
    rw (below_none (used a i) (min m ring) (λ s g. ap (λ (z : ℕ). not (eqb z 0)) (zero_at s)))
  where
    zero_at : (s : ℕ) → symbol_at a i (clock_at a + s) ≡ 0
    zero_at s =
        let u = (clock_at a + s) % ring in
        let q : symbol_at a i (clock_at a + s) ≡ symbol_at a i u = symbol_turn a i (clock_at a + s) u (omega arith) in
        omega (arith, q, h u (omega arith))

-- none of its next s places is in use. Shut, so that a search does not enter it
unfoldable pub NoneUsed : List ℕ → (i s : ℕ) → Type 0
NoneUsed a i s = some (used a i) s ≡ false

pub used_none : (a : List ℕ) (i : ℕ) → NoneUsed a i 0
unfolding NoneUsed
used_none a i = some_none (used a i)

module _ (a : List ℕ) (i s t c : ℕ) (et : t ≡ clock_at a) (p : c ≡ symbol_at a i (t + s)) where
  used_is : (b : Bool) → eqb c 0 ≡ b → not b ≡ used a i s
  unfolding used
  used_is b e = sym (ap not (ap (λ (z : ℕ). eqb z 0) (sym (p ∙ ap (λ (u : ℕ). symbol_at a i (u + s)) et)) ∙ e))

  pub used_more : c ≡ 0 → NoneUsed a i s → NoneUsed a i (s + 1)
  unfolding NoneUsed
  used_more z h = some_more (used a i) s false (used_is true (eq-eqb c 0 z)) refl h

  pub used_hit : (m k : ℕ) → (c ≡ 0 → ⊥) → NoneUsed a i s → k ≡ min m ring → s < k → s ≡ line_rests a m i
  unfolding NoneUsed line_rests
  used_hit m k ne h e lt =
      let u : true ≡ used a i s = used_is false (ne_eqb c 0 ne) in
      let g : s < min m ring = omega arith in
      rw (← some_hit (used a i) (min m ring) s true u refl g)
      (sym (first_hit (used a i) (min m ring) s true u refl h g))

pub used_end : (a : List ℕ) (i s m k : ℕ) → NoneUsed a i s → k ≡ min m ring → s ≤ k → k ≤ s → m ≡ line_rests a m i
unfolding NoneUsed line_rests
used_end a i s m k h e lo up = let z : s ≡ min m ring = omega arith in rw (← z, h)

-- ---- all

module _ (a : List ℕ) (m : ℕ) where
  first_few : (k : ℕ) → 0 ≡ worth k → 0 ≡ worth (lines_rest a (worth k) (count_at a))
  unfolding lines_rest
  first_few k e =
      rw (← e) (few_worth 0 (lines_rest a 0 (count_at a)) (lines_fall a 0 0 (count_at a) (omega arith)) (omega arith))

  pub silent_few : m < 5 → 0 ≡ silent_for m a
  unfolding silent_for stations_rest
  silent_few h = first_few (stations_rest a m (count_at a))
      (few_worth m (stations_rest a m (count_at a)) (stations_fall a m 0 (count_at a) (omega arith)) h)

  pub silent_is : (n k r : ℕ) → n ≡ count_at a → k ≡ worth (stations_rest a m n) → r ≡ worth (lines_rest a k n)
      → r ≡ silent_for m a
  unfolding silent_for
  silent_is n k r e p q = q ∙ rw (p, e)

  pub silent_within : (t n k : ℕ) → t ≡ clock_at a → k ≡ worth (stations_rest a m n) → clock_at a + m ≤ last_clock
      → t + k ≤ last_clock
  unfolding stations_rest
  silent_within t n k e p h = omega (arith, worth_most (stations_rest a m n), stations_fall a m 0 n (omega arith))

  -- one that emitted allows none
  one_emitted : (i : ℕ) → emitted_at a i ≡ true → stations_rest a m (suc i) ≡ 0
  unfolding emitted_at stations_rest station_rests
  one_emitted i e = rw e (omega arith)

  emitted_found : (n : ℕ) → some (emitted_at a) n ≡ true → stations_rest a m n ≡ 0
  unfolding some
  emitted_found zero e = absurd (true≢false (sym e))
  emitted_found (suc n) e =
      by_test (some (emitted_at a) n)
      (λ b. omega (arith, emitted_found n b, stations_fall a m n (suc n) (omega arith)))
      (λ b. one_emitted n (rw b at e))

  pub silent_emitted : (n : ℕ) (b : Bool) → n ≡ count_at a → b ≡ some (emitted_at a) n → b ≡ true → 0 ≡ silent_for m a
  unfolding silent_for
  silent_emitted n b e p q =
      let z : stations_rest a m (count_at a) ≡ 0 = emitted_found (count_at a)
      (ap (some (emitted_at a)) (sym e) ∙ sym p ∙ q) in
      first_few (stations_rest a m (count_at a))
      (few_worth 0 (stations_rest a m (count_at a)) (omega (arith, z)) (omega arith))

pub ready_gap : (a : List ℕ) (f : Figures) → f ≡ figures_at a → Ready a → f.gap1 + f.gap2 < 65536
unfolding Ready
ready_gap a f e r =
    subst (λ (g : Figures). g.gap1 + g.gap2 < 65536) (sym e) (omega (arith, r.figures.gap1, r.figures.gap2))
