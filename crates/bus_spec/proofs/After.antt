-- What is read of the area after the turns of all stations; of one station's turn in the specs' After. Assumes nothing.
use Prim.Native.Nat.{ℕ, zero, suc, ◌≤◌, ◌<◌}
use Rattle.std.specs.Prelude.{◌≡◌, eqb, length}
use Rattle.std.proofs.Math.Path.{ap}
use Rattle.std.proofs.Common.{sym, ◌∙◌, subst}
use mathlib.Core.List.{List}
use native.Mathlib.Omega.{arith}
use Rattle.octets.specs.BaseLaws.{by_test, by_eq}
use Rattle.octets.specs.Turns.{turns, length_turns}
use Rattle.octets.specs.WordsLaws.{Small}
use Rattle.station_symbols.specs.declared.Heard.{Heard}
use Rattle.station_symbols.specs.declared.Heard.TheVariants.{Nothing}
use Rattle.station_symbols.specs.declared.Symbol.{Symbol}
use Rattle.station_spec.specs.declared.Stepped.{Stepped}
use Rattle.station_spec.specs.Count.{counted}
use Rattle.area_record.specs.Codec.{encoded}
use Rattle.area_record.specs.CodecLaws.{Fit}
use Rattle.area.specs.Places.{Part, counters, station, buffer, place, Off, Keeps}
use Rattle.area.specs.Area.{counters_at, record_at, with_station, buffer_at, with_arrival}
use Rattle.area.specs.Area.{max_code}
use Rattle.area.specs.AreaLaws.{keeps_refl, keeps_trans, record_by, counters_by, symbol_by, buffer_by}
use Rattle.area.specs.AreaLaws.{station_keeps, symbol_same}
use Rattle.area.specs.AreaLaws.{code_small, length_station}
use Rattle.bus_spec.specs.declared.Act.{Act}
use Rattle.bus_spec.specs.Medium.{send_to, is_silence, pushed}
use Rattle.bus_spec.specs.BitTime.{with_stored, with_counted, placed, settled}
use Rattle.bus_spec.specs.InPlace.{Kept, Spread, Foreign, stored_keeps, counted_keeps}
use Rattle.bus_spec.proofs.InPlace.{settle_keeps}
use Rattle.bus_spec.specs.InPlace.{length_placed, length_settled, length_counted, length_stored, Ahead}
use Rattle.bus_spec.proofs.InPlace.{ahead_all}
use Rattle.bus_spec.specs.MediumLaws.{length_sends}
use Rattle.bus_spec.proofs.MediumLaws.{push_keeps}
use Rattle.area.specs.Offsets.{area_size}
use Rattle.sheet_layout.specs.Limits.{max_stations}
use Rattle.bus_spec.specs.After.{stored_in, placed_record, placed_buffer, placed_counters, Codes}

-- ---- codes in the delay lines

module _ (n : ℕ) (few : n ≤ max_stations) where
  codes_by : (x y : List ℕ) → ((j u : ℕ) → j < n → Keeps (place j u) x y) → Codes n y → Codes n x
  codes_by x y k c j u h = rw (symbol_by x y j u (k j u h)) (c j u h)

  codes_arrival : (x : List ℕ) (i v : ℕ) (h : Heard) → i < max_stations → area_size ≤ length x → Codes n x
      → Codes n (with_arrival x i v h)
  codes_arrival x i v h hi room c j u hj =
      symbol_same x room i v j u h max_code hi (omega arith) (code_small h) (c j u hj)

  codes_send : (t i : ℕ) (s : Symbol) (j : ℕ) (x : List ℕ) → j < max_stations → area_size ≤ length x → Codes n x
      → Codes n (send_to t i s j x)
  unfolding send_to
  codes_send t i s j x hj room c = by_test (eqb j i) (λ e. rw e c) (λ e. rw e (codes_arrival x j _ _ hj room c))

  codes_sends : (t i : ℕ) (s : Symbol) (k : ℕ) (x : List ℕ) → k ≤ max_stations → area_size ≤ length x → Codes n x
      → Codes n (turns (send_to t i s) k x)
  unfolding turns
  codes_sends t i s zero x hk room c = c
  codes_sends t i s (suc k) x hk room c =
      codes_send t i s k (turns (send_to t i s) k x) hk (omega (arith, length_sends t i s k x))
      (codes_sends t i s k x (omega arith) room c)

  codes_pushed : (t i : ℕ) (s : Symbol) (x : List ℕ) → area_size ≤ length x → Codes n x → Codes n (pushed n t i s x)
  unfolding pushed
  codes_pushed t i s x room c = by_test (is_silence s) (λ e. rw e c) (λ e. rw e (codes_sends t i s n x few room c))

  codes_placed : (t i : ℕ) (o : Stepped) (x : List ℕ) → i < max_stations → area_size ≤ length x → Kept o.stored
      → Codes n x → Codes n (placed t i o x)
  unfolding placed
  codes_placed t i o x hi room kept c =
      let y₁ = with_station x i o.station in
      let y₂ = with_counted i o y₁ in
      let y₃ = with_stored i o.stored y₂ in
      codes_arrival y₃ i t Nothing hi
      (omega (arith, length_stored i o.stored y₂, length_counted i o y₁, length_station x i o.station))
      (codes_by y₃ y₂ (λ j u h. stored_keeps (place j u) i o.stored y₂ kept (λ p q. omega arith))
      (codes_by y₂ y₁ (λ j u h. counted_keeps (place j u) i o y₁ (λ p q. omega arith))
      (codes_by y₁ x (λ j u h. station_keeps (place j u) x i o.station (λ p q. omega arith)) c)))

  codes_settled : (t i : ℕ) (r : Act) (x : List ℕ) → i < max_stations → area_size ≤ length x → Kept r.outcome.stored
      → Codes n x → Codes n (settled n t i r x)
  unfolding settled
  codes_settled t i r x hi room kept c =
      codes_pushed t i r.symbol (placed t i r.outcome x) (omega (arith, length_placed t i r.outcome x))
      (codes_placed t i r.outcome x hi room kept c)

-- ---- the turns of all stations

module _ (n t : ℕ) (r : ℕ → Act) (a : List ℕ) (sp : Spread n a) (kept : (i : ℕ) → i < n → Kept (r i).outcome.stored)
    (room : area_size ≤ length a) where
  after : ℕ → List ℕ
  after k = turns (λ i x. settled n t i (r i) x) k a

  pub length_after : (k : ℕ) → length (turns (λ i x. settled n t i (r i) x) k a) ≡ length a
  length_after k = length_turns (λ i x. settled n t i (r i) x) k a (λ i x. length_settled n t i (r i) x)

  long : (k : ℕ) → area_size ≤ length (after k)
  unfolding after
  long k = omega (arith, length_after k)

  -- a part that is station i's own, and no place of a line, is as its turn left it
  later : (p : Part) (i k : ℕ) → k ≤ n → i < k → ((j : ℕ) → j < n → (j ≡ i → ⊥) → Foreign p t j)
      → ((j u : ℕ) → j < n → Off p (place j u)) → Keeps p (after k) (after (suc i))
  unfolding after turns
  later p i zero hk hi q o = absurd (omega arith)
  later p i (suc k) hk hi q o =
      by_eq i k
      (λ e. rw e (keeps_refl p (after (suc k))))
      (λ ne. keeps_trans p (after (suc k)) (after k) (after (suc i))
      (settle_keeps p n t k (r k) (after k) (omega (arith, sp.few)) sp.few (kept k hk) (q k hk (λ e. ne (sym e)))
      (λ j h e. o j _ h))
      (later p i k (omega arith) (omega arith) q o))

  -- and what its turn left is what the placing left: the symbol goes to lines alone
  turn_own : (p : Part) (i : ℕ) → i < n → ((j u : ℕ) → j < n → Off p (place j u))
      → Keeps p (after (suc i)) (placed t i (r i).outcome (after i))
  unfolding after turns settled
  turn_own p i hi o =
      push_keeps p n t i (r i).symbol (placed t i (r i).outcome (after i)) (omega (arith, sp.few)) sp.few
      (λ j h e. o j _ h)

  -- and the turns after it leave it so
  pub own : (p : Part) (i k : ℕ) → k ≤ n → i < k → ((j : ℕ) → j < n → (j ≡ i → ⊥) → Foreign p t j)
      → ((j u : ℕ) → j < n → Off p (place j u))
      → Keeps p (turns (λ i x. settled n t i (r i) x) k a)
      (placed t i (r i).outcome (turns (λ i x. settled n t i (r i) x) i a))
  unfolding after
  own p i k hk hi q o =
      keeps_trans p (after k) (after (suc i)) (placed t i (r i).outcome (after i)) (later p i k hk hi q o)
      (turn_own p i (omega arith) o)

  pub ahead : (k : ℕ) → k ≤ n → Ahead t k a (turns (λ i x. settled n t i (r i) x) k a)
  ahead k h = ahead_all n t k r a sp kept h

  pub codes_all : (k : ℕ) → k ≤ n → Codes n a → Codes n (turns (λ i x. settled n t i (r i) x) k a)
  unfolding turns after
  codes_all zero hk c = c
  codes_all (suc k) hk c =
      codes_settled n sp.few t k (r k) (after k) (omega (arith, sp.few)) (long k) (kept k hk)
      (codes_all k (omega arith) c)

  module _ (i : ℕ) (hi : i < n) where
    small : i < max_stations
    small = omega (arith, sp.few)

    pub record_all : Fit (r i).outcome.station
        → record_at (turns (λ j x. settled n t j (r j) x) n a) i ≡ encoded (r i).outcome.station
    unfolding after
    record_all f =
        let few = sp.few in
        record_by (after n) (placed t i (r i).outcome (after i)) i
        (own (station i) i n (omega arith) hi (λ j h ne. record {
          station = λ p q. ne (omega arith);
          counters = λ p q. omega arith;
          buffer = λ p q. omega arith;
          place = λ p q. omega arith;
        }) (λ j u h p q. omega arith))
        ∙ placed_record t i (r i).outcome (after i) small (long i) (kept i hi) f

    pub buffer_all : buffer_at (turns (λ j x. settled n t j (r j) x) n a) i ≡ stored_in (buffer_at a i)
        (r i).outcome.stored
    unfolding after
    buffer_all =
        let v = ahead i (omega arith) in
        let few = sp.few in
        buffer_by (after n) (placed t i (r i).outcome (after i)) i small (long n)
        (omega (arith, length_placed t i (r i).outcome (after i), long i))
        (own (buffer i) i n (omega arith) hi (λ j h ne. record {
          station = λ p q. omega arith;
          counters = λ p q. omega arith;
          buffer = λ p q. ne (omega arith);
          place = λ p q. omega arith;
        }) (λ j u h p q. omega arith))
        ∙ placed_buffer t i (r i).outcome (after i) small (long i) (kept i hi)
        ∙ ap (λ (b : List ℕ). stored_in b (r i).outcome.stored)
        (buffer_by (after i) a i small (long i) room (v.buffer_of i (omega arith) small))

    pub counters_all : Small (counters_at a i)
        → counters_at (turns (λ j x. settled n t j (r j) x) n a) i ≡ counted (counters_at a i) (r i).outcome
    unfolding after
    counters_all s =
        let v = ahead i (omega arith) in
        let few = sp.few in
        let w : counters_at (after i) i ≡ counters_at a i = counters_by (after i) a i
        (v.counts_of i (omega arith) small) in
        counters_by (after n) (placed t i (r i).outcome (after i)) i
        (own (counters i) i n (omega arith) hi (λ j h ne. record {
          station = λ p q. omega arith;
          counters = λ p q. ne (omega arith);
          buffer = λ p q. omega arith;
          place = λ p q. omega arith;
        }) (λ j u h p q. omega arith))
        ∙ placed_counters t i (r i).outcome (after i) small (long i) (kept i hi) (subst Small (sym w) s)
        ∙ ap (λ (cs : List ℕ). counted cs (r i).outcome) w
