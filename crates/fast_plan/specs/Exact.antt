-- What K steps by a plan leave, as a list of octets: two areas that are so described are one, and one is built. Assumes
-- nothing.
use Rattle.std.specs.Prelude.{ℕ, zero, suc, ◌+◌, ◌-◌, ◌%◌, ◌≤◌, ◌<◌, ◌≡◌, refl, List, eqb, length, get_or}
use Rattle.std.proofs.Common.{sym, ◌∙◌, ap, subst, arith, eqb-true}
use Rattle.std.proofs.lemmas.Bool.{eqb-false}
use Rattle.octets.specs.BaseLaws.{by_test, by_eq}
use Rattle.octets.specs.Turns.{turns, length_turns}
use Rattle.station_symbols.specs.declared.Heard.{Heard}
use Rattle.area.specs.Places.{Part, clock, layout, draws, counters, station, frame, buffer, Keeps}
use Rattle.area.specs.Whole.{Still, area_same}
use Rattle.area.specs.Area.{clock_at, with_clock, depth_at, figures_at, count_at, station_at, heard_of, heard_code, symbol_at}
use Rattle.area.specs.Area.{arrival_at, with_arrival, max_code}
use Rattle.area.specs.AreaLaws.{keeps_refl, keeps_trans, keeps_sym, place_keeps, symbol_turn, count_by, length_arrival}
use Rattle.bus_spec.specs.Ready.{Readiness}
use Rattle.fast_plan.specs.Own.{act_on, own_turn, by_itself, on_kept, length_itself, Others, itself_keeps, OwnSame}
use Rattle.fast_plan.specs.Own.{own_trans, Stays, Drawn, itself_same}
use Rattle.fast_plan.specs.Plan.{Plan, hears, line_after, own_after, steps, Planned}
use Rattle.fast_plan.specs.Happens.{left_still, planned_station, drawn}
use Rattle.area.specs.Offsets.{area_size, ring}
use Rattle.sheet_layout.specs.Limits.{max_stations}

-- ---- codes

code_back : (c : ℕ) → c ≤ max_code → heard_code (heard_of c) ≡ c
unfolding heard_of
code_back c h =
    by_test (eqb c 0) (λ e. rw e (sym (eqb-true c 0 e)))
    (λ e₀. by_test (eqb c 1) (λ e. rw (e₀, e) (sym (eqb-true c 1 e)))
    (λ e₁. by_test (eqb c 2) (λ e. rw (e₀, e₁, e) (sym (eqb-true c 2 e)))
    (λ e₂. rw (e₀, e₁, e₂) (omega (arith, eqb-false c 0 e₀, eqb-false c 1 e₁, eqb-false c 2 e₂)))))

pub symbol_code : (x : List ℕ) (j u : ℕ) → symbol_at x j u ≤ max_code → symbol_at x j u ≡ heard_code (arrival_at x j u)
unfolding arrival_at
symbol_code x j u h = sym (code_back (symbol_at x j u) h)

-- ---- what determines an area

pub record Left (a : List ℕ) (P : Plan) (K : ℕ) (x : List ℕ) : Type 0 where
  pub long : length x ≡ length a
  pub stamp : Keeps clock x (with_clock a (clock_at a + K))
  pub own : (i : ℕ) → i < count_at a → OwnSame i x (own_after a P i K)
  pub line : (j v : ℕ) → j < count_at a → K ≤ v → v < K + ring
      → symbol_at x j (clock_at a + v) ≡ heard_code (line_after a P K j v)
  pub rest : (k : ℕ) → Still (count_at a) k → get_or x k 0 ≡ get_or a k 0

pub planned_left : (a : List ℕ) (P : Plan) (K : ℕ) (x : List ℕ) → 0 < K → Planned a P K x → Left a P K x
planned_left a P K x h w =
    record {
      long = w.long;
      stamp = w.stamp h;
      own = w.own;
      line = λ j v hj lo up.
          symbol_code x j (clock_at a + v)
          (w.ready.codes j (clock_at a + v) (omega (arith, count_by x a (w.stays 0 (omega arith)).layout)))
          ∙ ap heard_code (w.line j v hj lo up);
      rest = w.rest;
    }

-- two that are so described are one
pub left_same_area : (a : List ℕ) (P : Plan) (K : ℕ) (x y : List ℕ) → count_at a ≤ max_stations → Left a P K x
    → Left a P K y
    → x ≡ y
left_same_area a P K x y few p q =
    area_same (count_at a) x y few (p.long ∙ sym q.long)
    (both clock (with_clock a (clock_at a + K)) p.stamp q.stamp)
    (λ i hi. both (station i) (own_after a P i K) (p.own i hi).station (q.own i hi).station)
    (λ i hi. both (counters i) (own_after a P i K) (p.own i hi).counters (q.own i hi).counters)
    (λ i hi. both (buffer i) (own_after a P i K) (p.own i hi).buffer (q.own i hi).buffer)
    (λ i u hi. place_keeps x y i u (line i u hi)) (λ k st. p.rest k st ∙ sym (q.rest k st))
  where
    both : (r : Part) (w : List ℕ) → Keeps r x w → Keeps r y w → Keeps r x y
    both r w h g = keeps_trans r x w y h (keeps_sym r y w g)

    line : (i u : ℕ) → i < count_at a → symbol_at x i u ≡ symbol_at y i u
    line i u hi =
        let t = clock_at a in
        let v = K + (u + (ring - (t + K) % ring)) % ring in
        let z : u % ring ≡ (t + v) % ring = omega arith in
        symbol_turn x i u (t + v) z ∙ p.line i v hi (omega arith) (omega arith)
        ∙ sym (q.line i v hi (omega arith) (omega arith)) ∙ sym (symbol_turn y i u (t + v) z)

-- ---- such an area, built

-- the first k stations by themselves, one after the other, m turns each
unfoldable pub own_all : List ℕ → Plan → (m k : ℕ) → List ℕ → List ℕ
own_all a P m k x = turns (λ i y. by_itself (figures_at a) (depth_at a) i (hears a P i) m y) k x

-- the line of station j from step u on is g
unfoldable pub line_of : (j u : ℕ) → (ℕ → Heard) → (m : ℕ) → List ℕ → List ℕ
line_of j u g m x = turns (λ v y. with_arrival y j (u + v) (g v)) m x

-- all lines after K steps
unfoldable pub lines_all : List ℕ → Plan → (K k : ℕ) → List ℕ → List ℕ
lines_all a P K k x = turns (λ j y. line_of j (clock_at a + K) (λ v. line_after a P K j (K + v)) ring y) k x

unfoldable pub planned : List ℕ → Plan → ℕ → List ℕ
planned a P K = with_clock (lines_all a P K (count_at a) (own_all a P K (count_at a) a)) (clock_at a + K)

-- ---- lines

length_line : (j u : ℕ) (g : ℕ → Heard) (m : ℕ) (x : List ℕ) → length (line_of j u g m x) ≡ length x
unfolding line_of
length_line j u g m x =
    length_turns (λ v y. with_arrival y j (u + v) (g v)) m x (λ v y. length_arrival y j (u + v) (g v))

-- ---- the stations by themselves

pub length_own : (a : List ℕ) (P : Plan) (m k : ℕ) (x : List ℕ) → length (own_all a P m k x) ≡ length x
unfolding own_all
length_own a P m k x = length_turns _ k x (λ i y. length_itself (figures_at a) (depth_at a) i (hears a P i) m y)

pub own_keeps : (p : Part) (a : List ℕ) (P : Plan) (m k : ℕ) (x : List ℕ) → ((j : ℕ) → j < k → Others p j)
    → Keeps p (own_all a P m k x) x
unfolding own_all turns
own_keeps p a P m zero x o = keeps_refl p x
own_keeps p a P m (suc k) x o =
    let y = own_all a P m k x in
    keeps_trans p (by_itself (figures_at a) (depth_at a) k (hears a P k) m y) y x
    (itself_keeps p (figures_at a) (depth_at a) k (hears a P k) m y (o k (omega arith)))
    (own_keeps p a P m k x (λ j h. o j (omega arith)))

-- those after it leave its parts alone, and those before it too
own_ahead : (a : List ℕ) (P : Plan) (m k : ℕ) (x : List ℕ) (i : ℕ) → i < max_stations → k ≤ i
    → OwnSame i (own_all a P m k x) x × Stays i (own_all a P m k x) x
own_ahead a P m k x i hi hk = (
  record {
    station = own_keeps (station i) a P m k x
        (λ j h. record { station = λ p q. omega arith; counters = λ p q. omega arith; buffer = λ p q. omega arith });
    counters = own_keeps (counters i) a P m k x
        (λ j h. record { station = λ p q. omega arith; counters = λ p q. omega arith; buffer = λ p q. omega arith });
    buffer = own_keeps (buffer i) a P m k x
        (λ j h. record { station = λ p q. omega arith; counters = λ p q. omega arith; buffer = λ p q. omega arith });
  },
  record {
    layout = own_keeps layout a P m k x
        (λ j h. record { station = λ p q. omega arith; counters = λ p q. omega arith; buffer = λ p q. omega arith });
    draws = own_keeps draws a P m k x
        (λ j h. record { station = λ p q. omega arith; counters = λ p q. omega arith; buffer = λ p q. omega arith });
    frame = own_keeps (frame i) a P m k x
        (λ j h. record { station = λ p q. omega arith; counters = λ p q. omega arith; buffer = λ p q. omega arith });
  },
)

pub own_built : (a : List ℕ) (P : Plan) (m k : ℕ) (i : ℕ) → i < k → k ≤ max_stations → area_size ≤ length a
    → ((s : ℕ) → s < m → Drawn (station_at (own_after a P i s) i)) → OwnSame i (own_all a P m k a) (own_after a P i m)
unfolding own_all turns own_after
own_built a P m zero i hi hk room dr = absurd (omega arith)
own_built a P m (suc k) i hi hk room dr =
    let y = own_all a P m k a in
    let z = by_itself (figures_at a) (depth_at a) k (hears a P k) m y in
    by_eq i k
    (λ e. let q = own_ahead a P m k a i (omega arith) (omega arith) in
    subst (λ (j : ℕ). OwnSame i (by_itself (figures_at a) (depth_at a) j (hears a P j) m y)
    (by_itself (figures_at a) (depth_at a) i (hears a P i) m a)) e
    (itself_same (figures_at a) (depth_at a) i (hears a P i) m y a (omega arith) (omega (arith, length_own a P m k a))
    room dr q.1 q.0))
    (λ ne. own_trans i z y (by_itself (figures_at a) (depth_at a) i (hears a P i) m a)
    (record {
      station = itself_keeps (station i) (figures_at a) (depth_at a) k (hears a P k) m y
          (record { station = λ p q. ne (omega arith); counters = λ p q. omega arith; buffer = λ p q. omega arith });
      counters = itself_keeps (counters i) (figures_at a) (depth_at a) k (hears a P k) m y
          (record { station = λ p q. omega arith; counters = λ p q. ne (omega arith); buffer = λ p q. omega arith });
      buffer = itself_keeps (buffer i) (figures_at a) (depth_at a) k (hears a P k) m y
          (record { station = λ p q. omega arith; counters = λ p q. omega arith; buffer = λ p q. ne (omega arith) });
    })
    (own_built a P m k i (omega arith) (omega arith) room dr))

itself_still : (n k : ℕ) (few : n ≤ max_stations) → Still n k → (a : List ℕ) (P : Plan) (i m : ℕ) (x : List ℕ) → i < n
    → get_or (by_itself (figures_at a) (depth_at a) i (hears a P i) m x) k 0 ≡ get_or x k 0
unfolding by_itself turns own_turn
itself_still n k few st a P i zero x hi = refl
itself_still n k few st a P i (suc m) x hi =
    let y = by_itself (figures_at a) (depth_at a) i (hears a P i) m x in
    left_still n k few st i (act_on (figures_at a) (depth_at a) i (hears a P i m) y).outcome y hi
    (on_kept (figures_at a) (depth_at a) i (hears a P i m) y)
    ∙ itself_still n k few st a P i m x hi

pub own_still : (n k : ℕ) (few : n ≤ max_stations) → Still n k → (a : List ℕ) (P : Plan) (m c : ℕ) (x : List ℕ) → c ≤ n
    → get_or (own_all a P m c x) k 0 ≡ get_or x k 0
unfolding own_all turns
own_still n k few st a P m zero x hc = refl
own_still n k few st a P m (suc c) x hc =
    itself_still n k few st a P c m (own_all a P m c x) hc ∙ own_still n k few st a P m c x (omega arith)

-- ---- what is built is so described

-- ---- Theorem 1, as octets

pub own_drawn : (a : List ℕ) (P : Plan) (s i : ℕ) → Readiness a → Planned a P s (steps s a) → i < count_at a
    → Drawn (station_at (own_after a P i s) i)
own_drawn a P s i r w hi =
    let few = r.spread.few in
    subst Drawn (planned_station a r.spread P s (steps s a) w i (omega arith) hi)
    (drawn (steps s a) w.ready i (omega (arith, count_by (steps s a) a (w.stays 0 (omega arith)).layout)))
