-- What a station's turn leaves as it was, and so what the stations after it still find. The definitions, and the act
-- of a station that finds all as it was, are in the specs' InPlace. Assumes nothing.
use Rattle.std.specs.Prelude.{ℕ, zero, suc, ◌+◌, ◌≤◌, ◌<◌, ◌≡◌, List}
use Rattle.std.proofs.Common.{sym, arith}
use Rattle.octets.specs.Turns.{turns}
use Rattle.area.specs.Places.{Part, clock, depth, layout, draws, counters, station, frame, buffer, place, Off, Keeps}
use Rattle.area.specs.Area.{space_at}
use Rattle.area.specs.AreaLaws.{keeps_refl, keeps_trans, space_by}
use Rattle.bus_spec.specs.declared.Act.{Act}
use Rattle.bus_spec.specs.BitTime.{placed, settled}
use Rattle.bus_spec.specs.Medium.{pushed}
use Rattle.bus_spec.proofs.MediumLaws.{push_keeps}
use Rattle.sheet_layout.specs.Limits.{max_stations}
use Rattle.bus_spec.specs.InPlace.{Kept, Foreign, place_keeps, placed_layout, Spread, Ahead}

-- ---- what the writers of a step keep

-- what station i's turn writes, off a part p: its own parts, and the places that its symbol goes to
pub settle_keeps : (p : Part) (n t i : ℕ) (r : Act) (x : List ℕ) → i < max_stations → n ≤ max_stations
    → Kept r.outcome.stored → Foreign p t i
    → ((j : ℕ) → j < n → (j ≡ i → ⊥) → Off p (place j (t + space_at x i j))) → Keeps p (settled n t i r x) x
unfolding settled
settle_keeps p n t i r x hi hn k q o =
    keeps_trans p (pushed n t i r.symbol (placed t i r.outcome x)) (placed t i r.outcome x) x
    (push_keeps p n t i r.symbol (placed t i r.outcome x) hi hn
    (λ j h ne. rw (space_by (placed t i r.outcome x) x i j hi (omega arith) (placed_layout t i r.outcome x hi k))
    (o j h ne)))
    (place_keeps p t i r.outcome x k q)

-- ---- the step

ahead_start : (t : ℕ) (a : List ℕ) → Ahead t 0 a a
ahead_start t a =
    record {
      time = keeps_refl clock a;
      deep = keeps_refl depth a;
      plan = keeps_refl layout a;
      lots = keeps_refl draws a;
      frames = λ i h. keeps_refl (frame i) a;
      record_of = λ i l h. keeps_refl (station i) a;
      counts_of = λ i l h. keeps_refl (counters i) a;
      buffer_of = λ i l h. keeps_refl (buffer i) a;
      place_of = λ i l h. keeps_refl (place i t) a;
    }

ahead_step : (n t k : ℕ) (r : Act) (a x : List ℕ) → Spread n a → k < n → Kept r.outcome.stored → Ahead t k a x
    → Ahead t (suc k) a (settled n t k r x)
ahead_step n t k r a x sp hk kept v =
    record {
      time =
          on clock (record {
            station = λ p q. omega arith;
            counters = λ p q. omega arith;
            buffer = λ p q. omega arith;
            place = λ p q. omega arith;
          }) (λ j h ne p q. omega arith) v.time;
      deep =
          on depth (record {
            station = λ p q. omega arith;
            counters = λ p q. omega arith;
            buffer = λ p q. omega arith;
            place = λ p q. omega arith;
          }) (λ j h ne p q. omega arith) v.deep;
      plan =
          on layout (record {
            station = λ p q. omega arith;
            counters = λ p q. omega arith;
            buffer = λ p q. omega arith;
            place = λ p q. omega arith;
          }) (λ j h ne p q. omega arith) v.plan;
      lots =
          on draws (record {
            station = λ p q. omega arith;
            counters = λ p q. omega arith;
            buffer = λ p q. omega arith;
            place = λ p q. omega arith;
          }) (λ j h ne p q. omega arith) v.lots;
      frames =
          λ i hi. on (frame i) (record {
            station = λ p q. omega (arith, few);
            counters = λ p q. omega (arith, few);
            buffer = λ p q. omega arith;
            place = λ p q. omega (arith, few);
          }) (λ j h ne p q. omega (arith, few))
          (v.frames i hi);
      record_of =
          λ i l hi. on (station i) (record {
            station = λ p q. omega arith;
            counters = λ p q. omega (arith, few);
            buffer = λ p q. omega arith;
            place = λ p q. omega arith;
          }) (λ j h ne p q. omega arith)
          (v.record_of i (omega arith) hi);
      counts_of =
          λ i l hi. on (counters i) (record {
            station = λ p q. omega arith;
            counters = λ p q. omega arith;
            buffer = λ p q. omega arith;
            place = λ p q. omega arith;
          }) (λ j h ne p q. omega arith)
          (v.counts_of i (omega arith) hi);
      buffer_of =
          λ i l hi. on (buffer i) (record {
            station = λ p q. omega (arith, few);
            counters = λ p q. omega (arith, few);
            buffer = λ p q. omega arith;
            place = λ p q. omega (arith, few);
          }) (λ j h ne p q. omega (arith, few))
          (v.buffer_of i (omega arith) hi);
      place_of =
          λ i l hi. on (place i t) (record {
            station = λ p q. omega (arith, few);
            counters = λ p q. omega (arith, few);
            buffer = λ p q. omega arith;
            place = λ p q. omega arith;
          })
          (λ j h ne p q. omega (arith, sp.pos k j hk h (λ z. ne (sym z)), sp.near k j hk h, space j h))
          (v.place_of i (omega arith) hi);
    }
  where
    few : n ≤ max_stations
    few = sp.few

    space : (j : ℕ) → j < n → space_at x k j ≡ space_at a k j
    space j h = space_by x a k j (omega (arith, few)) (omega (arith, few)) v.plan

    on : (p : Part) → Foreign p t k → ((j : ℕ) → j < n → (j ≡ k → ⊥) → Off p (place j (t + space_at x k j)))
        → Keeps p x a → Keeps p (settled n t k r x) a
    on p q o s = keeps_trans p (settled n t k r x) x a (settle_keeps p n t k r x (omega (arith, few)) few kept q o) s

-- the same of whatever the stations do
pub ahead_all : (n t k : ℕ) (r : ℕ → Act) (a : List ℕ) → Spread n a → ((i : ℕ) → i < n → Kept (r i).outcome.stored)
    → k ≤ n
    → Ahead t k a (turns (λ i x. settled n t i (r i) x) k a)
unfolding turns
ahead_all n t zero r a sp kept hk = ahead_start t a
ahead_all n t (suc k) r a sp kept hk =
    ahead_step n t k (r k) a (turns (λ i x. settled n t i (r i) x) k a) sp hk (kept k hk)
    (ahead_all n t k r a sp kept (omega arith))
