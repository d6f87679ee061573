-- The whole area as code makes it: each station's own update, each line cleared and pushed to, the clock. Assumes
-- nothing.
use Prim.Native.Nat.{ℕ, zero, suc, ◌+◌, ◌-◌, ◌≤◌, ◌<◌, min}
use Rattle.std.specs.Prelude.{◌≡◌, Bool, List, eqb, length, get_or}
use Rattle.std.proofs.Math.Path.{refl}
use Rattle.std.proofs.Common.{sym, ◌∙◌, subst, arith}
use Rattle.octets.specs.Base.{pick}
use Rattle.octets.specs.BaseLaws.{by_test, by_eq}
use Rattle.octets.specs.Turns.{turns}
use Rattle.station_symbols.specs.declared.Heard.{Heard}
use Rattle.station_symbols.specs.declared.Heard.TheVariants.{Nothing}
use Rattle.station_symbols.specs.declared.Symbol.{Symbol}
use Rattle.area.specs.Places.{Part, place, Off, Keeps}
use Rattle.area.specs.Area.{clock_at, count_at, space_at, symbol_at, arrival_at, with_arrival, joined, max_code}
use Rattle.area.specs.Whole.{Still, arrival_still}
use Rattle.area.specs.AreaLaws.{keeps_refl, keeps_trans, arrival_by, arrival_keeps, symbol_same, code_small}
use Rattle.area.specs.AreaLaws.{length_arrival}
use Rattle.bus_spec.specs.InPlace.{Spread}
use Rattle.fast_plan.specs.Plan.{Plan, line_after}
use Rattle.fast_plan.specs.Push.{cleared, joined_at, on_way, ways_to, line_done, pushed_line}
use Rattle.area.specs.Offsets.{area_size, ring}
use Rattle.sheet_layout.specs.Limits.{max_stations}

-- U writes places of the line of station j, codes of symbols all of them
pub record LineOnly (n j : ℕ) (U : List ℕ → List ℕ) : Type 0 where
  pub long : (x : List ℕ) → length (U x) ≡ length x
  pub off : (p : Part) (x : List ℕ) → ((u : ℕ) → Off p (place j u)) → Keeps p (U x) x
  pub still : (k : ℕ) (x : List ℕ) → Still n k → get_or (U x) k 0 ≡ get_or x k 0
  pub codes : (x : List ℕ) → area_size ≤ length x → ((i u : ℕ) → i < n → symbol_at x i u ≤ max_code) → (i u : ℕ) → i < n
      → symbol_at (U x) i u ≤ max_code

module _ (n j : ℕ) (few : n ≤ max_stations) (hj : j < n) where
  none_only : LineOnly n j (λ x. x)
  none_only = record { long = λ x. refl; off = λ p x o. keeps_refl p x; still = λ k x s. refl; codes = λ x room c. c }

  one_only : (u : ℕ) (h : List ℕ → Heard) → LineOnly n j (λ x. with_arrival x j u (h x))
  one_only u h =
      record {
        long = λ x. length_arrival x j u (h x);
        off = λ p x o. arrival_keeps p x j u (h x) (o u);
        still = λ k x s. arrival_still n k s x j u (h x) hj;
        codes =
            λ x room c i v hi. symbol_same x room j u i v (h x) max_code (omega arith) (omega arith) (code_small (h x))
            (c i v hi);
      }

  both_only : (U E : List ℕ → List ℕ) → LineOnly n j U → LineOnly n j E → LineOnly n j (λ x. U (E x))
  both_only U E p q =
      record {
        long = λ x. p.long (E x) ∙ q.long x;
        off = λ r x o. keeps_trans r (U (E x)) (E x) x (p.off r (E x) o) (q.off r x o);
        still = λ k x s. p.still k (E x) s ∙ q.still k x s;
        codes = λ x room c. p.codes (E x) (omega (arith, q.long x)) (q.codes x room c);
      }

  turns_only : (F : ℕ → List ℕ → List ℕ) → ((s : ℕ) → LineOnly n j (F s)) → (m : ℕ) → LineOnly n j (λ x. turns F m x)
  unfolding turns
  turns_only F h zero = none_only
  turns_only F h (suc m) = both_only (F m) (λ x. turns F m x) (h m) (turns_only F h m)

  pick_only : (b : Bool) (U : List ℕ → List ℕ) → LineOnly n j U → LineOnly n j (λ x. pick b x (U x))
  pick_only b U h = by_test b (λ e. subst (λ (c : Bool). LineOnly n j (λ x. pick c x (U x))) (sym e) none_only)
      (λ e. subst (λ (c : Bool). LineOnly n j (λ x. pick c x (U x))) (sym e) h)

  -- places cleared; the symbols of one station; those of the first k; the whole of a line
  pub clear_only : (t m : ℕ) → LineOnly n j (λ x. cleared t j m x)
  unfolding cleared
  clear_only t m = turns_only _ (λ s. one_only (t + s) (λ x. Nothing)) m

  pub way_only : (t d K : ℕ) (Q : ℕ → Symbol) (m : ℕ) → LineOnly n j (λ x. on_way t d K Q j m x)
  unfolding on_way joined_at
  way_only t d K Q m =
      turns_only _ (λ u. one_only (t + (K - d + u + d))
      (λ x. joined (arrival_at x j (t + (K - d + u + d))) (Q (K - d + u)))) m

  pub ways_only : (a : List ℕ) (P : Plan) (K k : ℕ) → LineOnly n j (λ x. ways_to a P K j k x)
  unfolding ways_to
  ways_only a P K k =
      turns_only _ (λ i. pick_only (eqb i j)
      (λ x. on_way (clock_at a) (space_at a i j) K (P i) j (min (space_at a i j) K) x)
      (way_only (clock_at a) (space_at a i j) K (P i) (min (space_at a i j) K))) k

  pub done_only : (a : List ℕ) (P : Plan) (K : ℕ) → LineOnly n j (λ x. line_done a P K j x)
  unfolding line_done
  done_only a P K =
      both_only (λ x. ways_to a P K j (count_at a) x) (λ x. cleared (clock_at a) j (min K ring) x)
      (ways_only a P K (count_at a)) (clear_only (clock_at a) (min K ring))

-- ---- all lines

unfoldable pub lines_done : List ℕ → Plan → (K k : ℕ) → List ℕ → List ℕ
lines_done a P K k x = turns (λ j y. line_done a P K j y) k x

module _ (a : List ℕ) (P : Plan) (K : ℕ) (few : count_at a ≤ max_stations) where
  only : (j : ℕ) → j < count_at a → LineOnly (count_at a) j (λ x. line_done a P K j x)
  only j hj = done_only (count_at a) j few hj a P K

  pub done_long : (k : ℕ) (x : List ℕ) → k ≤ count_at a → length (lines_done a P K k x) ≡ length x
  unfolding lines_done turns
  done_long zero x h = refl
  done_long (suc k) x h = (only k h).long (lines_done a P K k x) ∙ done_long k x (omega arith)

  pub done_keeps : (p : Part) (k : ℕ) (x : List ℕ) → k ≤ count_at a → ((j u : ℕ) → j < k → Off p (place j u))
      → Keeps p (lines_done a P K k x) x
  unfolding lines_done turns
  done_keeps p zero x h o = keeps_refl p x
  done_keeps p (suc k) x h o =
      keeps_trans p (lines_done a P K (suc k) x) (lines_done a P K k x) x
      ((only k h).off p (lines_done a P K k x) (λ u. o k u (omega arith)))
      (done_keeps p k x (omega arith) (λ j u l. o j u (omega arith)))

  pub done_still : (m k : ℕ) (x : List ℕ) → k ≤ count_at a → Still (count_at a) m
      → get_or (lines_done a P K k x) m 0 ≡ get_or x m 0
  unfolding lines_done turns
  done_still m zero x h s = refl
  done_still m (suc k) x h s = (only k h).still m (lines_done a P K k x) s ∙ done_still m k x (omega arith) s

  pub done_codes : (k : ℕ) (x : List ℕ) → k ≤ count_at a → area_size ≤ length x
      → ((i u : ℕ) → i < count_at a → symbol_at x i u ≤ max_code) → (i u : ℕ) → i < count_at a
      → symbol_at (lines_done a P K k x) i u ≤ max_code
  unfolding lines_done turns
  done_codes zero x h room c = c
  done_codes (suc k) x h room c = (only k h).codes (lines_done a P K k x) (omega (arith, done_long k x (omega arith)))
      (done_codes k x (omega arith) room c)

  pub done_line : (sp : Spread (count_at a) a) (k j v : ℕ) (x : List ℕ) → k ≤ count_at a → j < k → area_size ≤ length x
      → ((i u : ℕ) → i < count_at a → arrival_at x i u ≡ arrival_at a i u) → K ≤ v → v < K + ring
      → arrival_at (lines_done a P K k x) j (clock_at a + v) ≡ line_after a P K j v
  unfolding lines_done turns
  done_line sp zero j v x hk hj room same lo up = absurd (omega arith)
  done_line sp (suc k) j v x hk hj room same lo up =
      let y = lines_done a P K k x in
      by_eq j k
      (λ z. rw z (pushed_line a y P K k v sp hk (omega (arith, done_long k x (omega arith)))
      (λ u. arrival_by y x k u (done_keeps (place k u) k x (omega arith) (λ i w l p q. omega arith)) ∙ same k u hk) lo
      up))
      (λ z. arrival_by (line_done a P K k y) y j (clock_at a + v)
      ((only k hk).off (place j (clock_at a + v)) y (λ u p q. z (omega arith))) ∙ done_line sp k j v x (omega arith)
      (omega arith) room same lo up)
