-- The lines after K steps as code makes them: the places of the K steps are cleared, and of each station the symbols
-- that are still on their way are put there. Assumes nothing.
use Rattle.std.specs.Prelude.{ℕ, zero, suc, ◌+◌, ◌-◌, ◌%◌, ◌≤◌, ◌<◌, min, ◌≡◌, refl, List, eqb, ltb, leb, length}
use Rattle.std.proofs.Common.{sym, ◌∙◌, ap, ap₂, arith}
use borrow.Author.Tests.{eq-eqb, ne_eqb, ltb-true, ltb-false, lt-ltb, leb-true, leb-false, le-leb}
use Rattle.octets.specs.Base.{pick}
use Rattle.octets.specs.BaseLaws.{by_test, by_eq}
use Rattle.octets.specs.Turns.{turns, length_turns}
use Rattle.station_symbols.specs.declared.Heard.{Heard}
use Rattle.station_symbols.specs.declared.Heard.TheVariants.{Nothing}
use Rattle.station_symbols.specs.declared.Symbol.{Symbol}
use Rattle.station_symbols.specs.declared.Symbol.TheVariants.{Silence}
use Rattle.area.specs.Places.{place}
use Rattle.area.specs.Area.{clock_at, count_at, space_at, arrival_at, with_arrival, alone, joined, met}
use Rattle.area.specs.AreaLaws.{arrival_by, arrival_same, arrival_turn, arrival_keeps, length_arrival}
use Rattle.bus_spec.specs.InPlace.{Spread}
use Rattle.bus_meeting.specs.Net.{gathered, reaches, heard}
use Rattle.bus_meeting.specs.Gather.{joined_none}
use Rattle.bus_meeting.specs.Meet.{met_none, met_group}
use Rattle.fast_plan.specs.Plan.{Plan, cut, net_of, line_now, line_after}
use Rattle.area.specs.Offsets.{area_size, ring}
use Rattle.sheet_layout.specs.Limits.{max_stations}

-- ---- places cleared

-- the places of m steps from t on, of the line of station j
unfoldable pub cleared : (t j m : ℕ) → List ℕ → List ℕ
cleared t j m x = turns (λ s y. with_arrival y j (t + s) Nothing) m x

length_cleared : (t j m : ℕ) (x : List ℕ) → length (cleared t j m x) ≡ length x
unfolding cleared
length_cleared t j m x = length_turns _ m x (λ s y. length_arrival y j (t + s) Nothing)

arrival_off : (x : List ℕ) (j u : ℕ) (h : Heard) (i v : ℕ) → (j ≡ i → u % ring ≡ v % ring → ⊥)
    → arrival_at (with_arrival x j u h) i v ≡ arrival_at x i v
arrival_off x j u h i v ne =
    arrival_by (with_arrival x j u h) x i v (arrival_keeps (place i v) x j u h (λ p q. ne (omega arith) (omega arith)))

cleared_other : (t j m : ℕ) (x : List ℕ) (v : ℕ) → ((s : ℕ) → s < m → (t + s) % ring ≡ v % ring → ⊥)
    → arrival_at (cleared t j m x) j v ≡ arrival_at x j v
unfolding cleared turns
cleared_other t j zero x v h = refl
cleared_other t j (suc m) x v h =
    arrival_off (cleared t j m x) j (t + m) Nothing j v (λ e z. h m (omega arith) z)
    ∙ cleared_other t j m x v (λ s l. h s (omega arith))

cleared_there : (t j m : ℕ) (x : List ℕ) (s : ℕ) → j < max_stations → area_size ≤ length x → m ≤ ring → s < m
    → arrival_at (cleared t j m x) j (t + s) ≡ Nothing
unfolding cleared turns
cleared_there t j zero x s hj room hm h = absurd (omega arith)
cleared_there t j (suc m) x s hj room hm h =
    by_eq s m
    (λ z. rw z (arrival_same (cleared t j m x) (omega (arith, length_cleared t j m x)) j (t + m) (t + m) Nothing hj
    refl))
    (λ z. arrival_off (cleared t j m x) j (t + m) Nothing j (t + s) (λ e y. omega arith) ∙ cleared_there t j m x s hj
    room (omega arith) (omega arith))

-- what is left is what was on its way; x has the line of a
pub cleared_line : (a x : List ℕ) (K j v : ℕ) → j < max_stations → area_size ≤ length x
    → ((u : ℕ) → arrival_at x j u ≡ arrival_at a j u) → K ≤ v → v < K + ring
    → arrival_at (cleared (clock_at a) j (min K ring) x) j (clock_at a + v) ≡ line_now a j v
unfolding line_now
cleared_line a x K j v hj room same lo up =
    let t = clock_at a in
    by_test (ltb v ring)
    (λ c. let g = ltb-true v ring c in rw c
    (cleared_other t j (min K ring) x (t + v) (λ s l z. omega arith) ∙ same (t + v)))
    (λ c. let g = ltb-false v ring c in
    rw c (arrival_turn (cleared t j (min K ring) x) j (t + v) (t + v % ring) (omega arith) ∙ cleared_there t j
    (min K ring)
    x (v % ring) hj room (omega arith) (omega arith)))

-- ---- symbols put

-- a symbol more at a place
unfoldable pub joined_at : (j u : ℕ) → Symbol → List ℕ → List ℕ
joined_at j u s x = with_arrival x j u (joined (arrival_at x j u) s)

length_joined : (j u : ℕ) (s : Symbol) (x : List ℕ) → length (joined_at j u s x) ≡ length x
unfolding joined_at
length_joined j u s x = length_arrival x j u _

-- of a station at distance d that emits Q 0, .., Q (K - 1): the last of them, no more than d
unfoldable pub on_way : (t d K : ℕ) → (ℕ → Symbol) → (j m : ℕ) → List ℕ → List ℕ
on_way t d K Q j m x = turns (λ u y. joined_at j (t + (K - d + u + d)) (Q (K - d + u)) y) m x

length_way : (t d K : ℕ) (Q : ℕ → Symbol) (j m : ℕ) (x : List ℕ) → length (on_way t d K Q j m x) ≡ length x
unfolding on_way
length_way t d K Q j m x = length_turns _ m x (λ u y. length_joined j (t + (K - d + u + d)) (Q (K - d + u)) y)

-- what place v gets of m of them
unfoldable pub gets : (d K : ℕ) → (ℕ → Symbol) → (m v : ℕ) → Symbol
gets d K Q m v =
    pick (leb d v) (pick (leb (K - d) (v - d)) (pick (ltb (v - d) (K - d + m)) (Q (v - d)) Silence) Silence) Silence

module _ (d K : ℕ) (Q : ℕ → Symbol) (m : ℕ) where
  gets_none : (v : ℕ) → (d ≤ v → K - d ≤ v - d → v - d < K - d + m → ⊥) → gets d K Q m v ≡ Silence
  unfolding gets
  gets_none v h =
      by_test (leb d v)
      (λ c. by_test (leb (K - d) (v - d))
      (λ b. by_test (ltb (v - d) (K - d + m)) (λ e. absurd (h (leb-true d v c) (leb-true _ _ b) (ltb-true _ _ e)))
      (λ e. rw (c, b, e)))
      (λ b. rw (c, b)))
      (λ c. rw c)

  gets_one : (v : ℕ) → d ≤ v → K - d ≤ v - d → v - d < K - d + m → gets d K Q m v ≡ Q (v - d)
  unfolding gets
  gets_one v p q r = rw (le-leb d v p, le-leb (K - d) (v - d) q, lt-ltb (v - d) (K - d + m) r)

gets_more : (d K : ℕ) (Q : ℕ → Symbol) (m v : ℕ) → (v ≡ K - d + m + d → ⊥) → gets d K Q (suc m) v ≡ gets d K Q m v
gets_more d K Q m v ne =
    by_test (leb d v)
    (λ c. let p = leb-true d v c in
    by_test (leb (K - d) (v - d))
    (λ b. let q = leb-true (K - d) (v - d) b in
    by_test (ltb (v - d) (K - d + m))
    (λ e. let r = ltb-true (v - d) (K - d + m) e in gets_one d K Q (suc m) v p q (omega arith) ∙ sym
    (gets_one d K Q m v p q r))
    (λ e. let r = ltb-false (v - d) (K - d + m) e in gets_none d K Q (suc m) v (λ x y z. ne (omega arith)) ∙ sym
    (gets_none d K Q m v (λ x y z. omega arith))))
    (λ b. let q = leb-false (K - d) (v - d) b in gets_none d K Q (suc m) v (λ x y z. omega arith) ∙ sym
    (gets_none d K Q m v (λ x y z. omega arith))))
    (λ c. let p = leb-false d v c in gets_none d K Q (suc m) v (λ x y z. omega arith) ∙ sym
    (gets_none d K Q m v (λ x y z. omega arith)))

pub way_line : (t d K : ℕ) (Q : ℕ → Symbol) (j m : ℕ) (x : List ℕ) (v : ℕ) → j < max_stations → area_size ≤ length x
    → d < ring
    → m ≤ min d K → K ≤ v → v < K + ring
    → arrival_at (on_way t d K Q j m x) j (t + v) ≡ joined (arrival_at x j (t + v)) (gets d K Q m v)
unfolding on_way turns joined_at
way_line t d K Q j zero x v hj room hd hm lo up = sym
    (ap (joined (arrival_at x j (t + v))) (gets_none d K Q 0 v (λ p q r. omega arith)) ∙ joined_none
    (arrival_at x j (t + v)))
way_line t d K Q j (suc m) x v hj room hd hm lo up =
    let y = on_way t d K Q j m x in
    let u = t + (K - d + m + d) in
    by_eq v (K - d + m + d)
    (λ z. let e : u % ring ≡ (t + v) % ring = ap (λ (w : ℕ). (t + w) % ring) (sym z) in
    let n : v - d ≡ K - d + m = omega arith in
    arrival_same y (omega (arith, length_way t d K Q j m x)) j u (t + v) (joined (arrival_at y j u) (Q (K - d + m))) hj e
    ∙ ap₂ joined (arrival_turn y j u (t + v) e ∙ way_line t d K Q j m x v hj room hd (omega arith) lo up ∙ ap
    (joined (arrival_at x j (t + v))) (gets_none d K Q m v (λ p q r. omega arith)) ∙ joined_none
    (arrival_at x j (t + v)))
    (ap Q (sym n))
    ∙ ap (joined (arrival_at x j (t + v))) (sym (gets_one d K Q (suc m) v (omega arith) (omega arith) (omega arith))))
    (λ z. arrival_off y j u (joined (arrival_at y j u) (Q (K - d + m))) j (t + v) (λ e w. z (omega arith))
    ∙ way_line t d K Q j m x v hj room hd (omega arith) lo up
    ∙ ap (joined (arrival_at x j (t + v))) (sym (gets_more d K Q m v z)))

-- ---- all senders of one line

-- the first k stations' symbols to station j
unfoldable pub ways_to : List ℕ → Plan → (K j k : ℕ) → List ℕ → List ℕ
ways_to a P K j k x =
    turns (λ i y. pick (eqb i j) y (on_way (clock_at a) (space_at a i j) K (P i) j (min (space_at a i j) K) y)) k x

length_ways : (a : List ℕ) (P : Plan) (K j k : ℕ) (x : List ℕ) → length (ways_to a P K j k x) ≡ length x
unfolding ways_to
length_ways a P K j k x =
    length_turns _ k x (λ i y. by_test (eqb i j) (λ c. rw c)
    (λ c. rw c (length_way (clock_at a) (space_at a i j) K (P i) j (min (space_at a i j) K) y)))

-- what a station's symbols come to at a place, in the plan's words
gets_reaches : (a : List ℕ) (P : Plan) (K j v i : ℕ) → (i ≡ j → ⊥) → K ≤ v
    → gets (space_at a i j) K (P i) (min (space_at a i j) K) v ≡ reaches (space_at a) (cut K P) j v i
unfolding reaches cut
gets_reaches a P K j v i ne lo =
    let d = space_at a i j in
    let m = min d K in
    by_test (leb d v)
    (λ c. let p = leb-true d v c in
    by_test (ltb (v - d) K)
    (λ b. let q = ltb-true (v - d) K b in rw (ne_eqb i j ne, c, b)
    (gets_one d K (P i) m v p (omega arith) (omega arith)))
    (λ b. let q = ltb-false (v - d) K b in rw (ne_eqb i j ne, c, b) (gets_none d K (P i) m v (λ x y z. omega arith))))
    (λ c. let p = leb-false d v c in rw (ne_eqb i j ne, c) (gets_none d K (P i) m v (λ x y z. omega arith)))

own_none : (a : List ℕ) (P : Plan) (K j v i : ℕ) → i ≡ j → reaches (space_at a) (cut K P) j v i ≡ Silence
unfolding reaches
own_none a P K j v i z = rw (eq-eqb i j z)

ways_line : (a : List ℕ) (P : Plan) (K j k : ℕ) (x : List ℕ) (v : ℕ) → j < max_stations → area_size ≤ length x
    → ((i : ℕ) → i < k → space_at a i j < ring) → K ≤ v → v < K + ring
    → arrival_at (ways_to a P K j k x) j (clock_at a + v) ≡ met (arrival_at x j (clock_at a + v))
    (gathered k (reaches (space_at a) (cut K P) j v))
unfolding ways_to turns gathered
ways_line a P K j zero x v hj room near lo up = sym (met_none (arrival_at x j (clock_at a + v)))
ways_line a P K j (suc k) x v hj room near lo up =
    let y = ways_to a P K j k x in
    let u = clock_at a + v in
    let g = gathered k (reaches (space_at a) (cut K P) j v) in
    let s = reaches (space_at a) (cut K P) j v k in
    let ih : arrival_at y j u ≡ met (arrival_at x j u) g = ways_line a P K j k x v hj room (λ i l. near i (omega arith))
    lo up in
    let one : arrival_at (pick (eqb k j) y (on_way (clock_at a) (space_at a k j) K (P k) j (min (space_at a k j) K) y)) j
    u ≡ joined (arrival_at y j u) s =
    by_eq k j
    (λ z. rw (eq-eqb k j z)
    (sym (ap (joined (arrival_at y j u)) (own_none a P K j v k z) ∙ joined_none (arrival_at y j u))))
    (λ z. rw (ne_eqb k j z)
    (way_line (clock_at a) (space_at a k j) K (P k) j (min (space_at a k j) K) y v hj
    (omega (arith, length_ways a P K j k x)) (near k (omega arith)) (omega arith) lo up
    ∙ ap (joined (arrival_at y j u)) (gets_reaches a P K j v k z lo))) in
    one
    ∙ ap (λ (h : Heard). joined h s) ih
    ∙ met_group (arrival_at x j u) g (alone s)

-- the whole of a line
unfoldable pub line_done : List ℕ → Plan → (K j : ℕ) → List ℕ → List ℕ
line_done a P K j x = ways_to a P K j (count_at a) (cleared (clock_at a) j (min K ring) x)

pub pushed_line : (a x : List ℕ) (P : Plan) (K j v : ℕ) → Spread (count_at a) a → j < count_at a → area_size ≤ length x
    → ((u : ℕ) → arrival_at x j u ≡ arrival_at a j u) → K ≤ v → v < K + ring
    → arrival_at (line_done a P K j x) j (clock_at a + v) ≡ line_after a P K j v
unfolding line_after heard net_of line_done
pushed_line a x P K j v sp hj room same lo up =
    let few = sp.few in
    let y = cleared (clock_at a) j (min K ring) x in
    ways_line a P K j (count_at a) y v (omega arith) (omega (arith, length_cleared (clock_at a) j (min K ring) x))
    (λ i l. sp.near i j l hj) lo up
    ∙ ap (λ (h : Heard). met h (gathered (count_at a) (reaches (space_at a) (cut K P) j v)))
    (cleared_line a x K j v (omega arith) room same lo up)
