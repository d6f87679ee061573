-- What a step does to the delay lines: a place that is not the present one gets the symbols that reach it, the present
-- one is cleared. Assumes nothing.
use Prim.Native.Nat.{ℕ, zero, suc, ◌+◌, ◌%◌, ◌≤◌, ◌<◌}
use Rattle.std.specs.Prelude.{◌≡◌, refl, true, List, eqb, length}
use Rattle.std.proofs.Math.Path.{sym, ap₂}
use Rattle.std.proofs.Common.{◌∙◌, ap, true≢false, eq-eqb, ne_eqb}
use native.Mathlib.Omega.{arith}
use Rattle.octets.specs.Base.{pick}
use Rattle.octets.specs.BaseLaws.{by_test, by_eq}
use Rattle.octets.specs.Turns.{turns}
use Rattle.station_symbols.specs.declared.Heard.{Heard}
use Rattle.station_symbols.specs.declared.Heard.TheVariants.{Nothing}
use Rattle.station_symbols.specs.declared.Symbol.{Symbol}
use Rattle.station_symbols.specs.declared.Symbol.TheVariants.{Silence, Bit, Jam}
use Rattle.area.specs.Places.{counters, station, buffer, place}
use Rattle.area.specs.Area.{space_at, arrival_at, alone, joined, met}
use Rattle.area.specs.AreaLaws.{space_by, arrival_by, arrival_keeps, arrival_same, arrival_turn}
use Rattle.bus_spec.specs.declared.Act.{Act}
use Rattle.bus_spec.specs.Medium.{send_to, is_silence, pushed}
use Rattle.bus_spec.specs.BitTime.{placed, settled}
use Rattle.bus_spec.specs.InPlace.{Kept, Spread, place_keeps, placed_layout, length_placed}
use Rattle.bus_spec.proofs.InPlace.{settle_keeps}
use Rattle.bus_spec.specs.MediumLaws.{length_sends}
use Rattle.bus_spec.proofs.MediumLaws.{send_keeps, sends_layout, sends_keep, push_keeps}
use Rattle.bus_spec.specs.After.{placed_clear}
use Rattle.bus_spec.proofs.After.{length_after, ahead}
use Rattle.bus_meeting.specs.Net.{gathered}
use Rattle.bus_meeting.specs.Gather.{joined_none}
use Rattle.bus_meeting.specs.Meet.{met_none, met_group, adds}
use Rattle.area.specs.Offsets.{area_size, ring}
use Rattle.sheet_layout.specs.Limits.{max_stations}

-- ---- one symbol

-- what place u of j's line gets of the symbol s that i emits in step t at distance d
unfoldable pub share : (t d i : ℕ) (s : Symbol) (j u : ℕ) → Symbol
share t d i s j u = pick (eqb i j) Silence (pick (eqb ((t + d) % ring) (u % ring)) s Silence)

-- by the place and by the step, where the clock is c and places are counted from it
pub share_adds : (d : ℕ → ℕ → ℕ) (c t : ℕ) (e : ℕ → Symbol) (j v i T U : ℕ) → T ≡ c + t → U ≡ c + v
    → ((i ≡ j → ⊥) → 0 < d i j) → d i j < ring → t < v → v < t + ring → share T (d i j) i (e i) j U ≡ adds d t e j v i
unfolding share adds
share_adds d c t e j v i T U et eu p q lo hi =
    by_eq i j (λ z. rw (eq-eqb i j z))
    (λ z. let r = p z in
    by_eq (t + d i j) v
    (λ y. rw (
      ne_eqb i j z,
      eq-eqb (t + d i j) v y,
      eq-eqb ((T + d i j) % ring) (U % ring)
          (ap (λ (x : ℕ). x % ring) (omega arith)),
    ))
    (λ y. rw (ne_eqb i j z, ne_eqb (t + d i j) v y, ne_eqb ((T + d i j) % ring) (U % ring) (λ x. y (omega arith)))))

share_none : (t d i j u : ℕ) → share t d i Silence j u ≡ Silence
unfolding share
share_none t d i j u =
    by_test (eqb i j) (λ e. rw e) (λ e. by_test (eqb ((t + d) % ring) (u % ring)) (λ f. rw (e, f)) (λ f. rw (e, f)))

send_here : (t i : ℕ) (s : Symbol) (j u : ℕ) (x : List ℕ) → j < max_stations → area_size ≤ length x
    → arrival_at (send_to t i s j x) j u ≡ joined (arrival_at x j u) (share t (space_at x i j) i s j u)
unfolding send_to share
send_here t i s j u x hj room =
    by_eq i j
    (λ z. rw (eq-eqb j i (sym z), eq-eqb i j z) (sym (joined_none (arrival_at x j u))))
    (λ z. by_eq ((t + space_at x i j) % ring) (u % ring)
    (λ e. rw (ne_eqb j i (λ y. z (sym y)), ne_eqb i j z, eq-eqb _ _ e)
    (arrival_same x room j (t + space_at x i j) u _ hj e ∙ ap (λ (y : Heard). joined y s)
    (arrival_turn x j (t + space_at x i j) u e)))
    (λ e. rw (ne_eqb j i (λ y. z (sym y)), ne_eqb i j z, ne_eqb _ _ e)
    (arrival_by _ x j u (arrival_keeps (place j u) x j (t + space_at x i j) _ (λ p q. e (omega arith))) ∙ sym
    (joined_none (arrival_at x j u)))))

sends_here : (t i : ℕ) (s : Symbol) (k j u : ℕ) (x : List ℕ) → i < max_stations → k ≤ max_stations → j < k
    → area_size ≤ length x
    → arrival_at (turns (send_to t i s) k x) j u ≡ joined (arrival_at x j u) (share t (space_at x i j) i s j u)
unfolding turns
sends_here t i s zero j u x hi hk hj room = absurd (omega arith)
sends_here t i s (suc k) j u x hi hk hj room =
    let y = turns (send_to t i s) k x in
    by_eq j k
    (λ z. rw z (send_here t i s k u y (omega arith) (omega (arith, length_sends t i s k x))
    ∙ ap₂ (λ (v : Heard) (d : ℕ). joined v (share t d i s k u))
    (arrival_by y x k u (sends_keep (place k u) t i s k x hi (omega arith) (λ m l ne p q. omega arith)))
    (space_by y x i k hi (omega arith) (sends_layout t i s k x))))
    (λ z. arrival_by (send_to t i s k y) y j u (send_keeps (place j u) t i s k y (λ ne p q. omega arith))
    ∙ sends_here t i s k j u x hi (omega arith) (omega arith) room)

silence_is : (s : Symbol) → is_silence s ≡ true → s ≡ Silence
silence_is Silence h = refl
silence_is (Bit b) h = absurd (true≢false (sym h))
silence_is Jam h = absurd (true≢false (sym h))

pushed_here : (n t i : ℕ) (s : Symbol) (j u : ℕ) (x : List ℕ) → i < max_stations → n ≤ max_stations → j < n
    → area_size ≤ length x
    → arrival_at (pushed n t i s x) j u ≡ joined (arrival_at x j u) (share t (space_at x i j) i s j u)
unfolding pushed
pushed_here n t i s j u x hi hn hj room =
    by_test (is_silence s)
    (λ e. rw e (sym (joined_none (arrival_at x j u))
    ∙ ap (joined (arrival_at x j u))
    (sym (share_none t (space_at x i j) i j u) ∙ ap (λ (y : Symbol). share t (space_at x i j) i y j u)
    (sym (silence_is s e)))))
    (λ e. rw e (sends_here t i s n j u x hi hn hj room))

-- ---- one station's turn, at a place that is not the present one

settled_here : (n t i j u : ℕ) (r : Act) (x : List ℕ) → i < max_stations → n ≤ max_stations → j < n → area_size ≤ length x
    → Kept r.outcome.stored → (u % ring ≡ t % ring → ⊥)
    → arrival_at (settled n t i r x) j u ≡ joined (arrival_at x j u) (share t (space_at x i j) i r.symbol j u)
unfolding settled
settled_here n t i j u r x hi hn hj room kept ne =
    pushed_here n t i r.symbol j u (placed t i r.outcome x) hi hn hj
    (omega (arith, length_placed t i r.outcome x))
    ∙ ap₂ (λ (v : Heard) (d : ℕ). joined v (share t d i r.symbol j u))
    (arrival_by (placed t i r.outcome x) x j u
    (place_keeps (place j u) t i r.outcome x kept
    (record {
      station = λ p q. omega arith;
      counters = λ p q. omega arith;
      buffer = λ p q. omega arith;
      place = λ p q.
          ne (omega arith);
    })))
    (space_by (placed t i r.outcome x) x i j hi (omega arith) (placed_layout t i r.outcome x hi kept))

-- and at the present one: it is cleared
settled_clear : (n t i : ℕ) (r : Act) (x : List ℕ) → i < n → n ≤ max_stations → area_size ≤ length x
    → Kept r.outcome.stored
    → arrival_at (settled n t i r x) i t ≡ Nothing
unfolding settled
settled_clear n t i r x hi hn room kept =
    arrival_by (pushed n t i r.symbol (placed t i r.outcome x)) (placed t i r.outcome x) i t
    (push_keeps (place i t) n t i r.symbol (placed t i r.outcome x) (omega arith) hn
    (λ j l ne p q. ne (omega arith)))
    ∙ placed_clear t i r.outcome x (omega arith) room kept

-- ---- the turns of all stations

module _ (n t : ℕ) (r : ℕ → Act) (a : List ℕ) (sp : Spread n a) (kept : (i : ℕ) → i < n → Kept (r i).outcome.stored)
    (room : area_size ≤ length a) where
  after : ℕ → List ℕ
  after k = turns (λ i x. settled n t i (r i) x) k a

  long : (k : ℕ) → area_size ≤ length (after k)
  unfolding after
  long k = omega (arith, length_after n t r a sp kept room k)

  space_after : (k i j : ℕ) → k ≤ n → i < n → j < n → space_at (after k) i j ≡ space_at a i j
  unfolding after
  space_after k i j hk hi hj =
      space_by (after k) a i j (omega (arith, sp.few)) (omega (arith, sp.few)) (ahead n t r a sp kept room k hk).plan

  pub line_all : (k j u : ℕ) → k ≤ n → j < n → (u % ring ≡ t % ring → ⊥)
      → arrival_at (turns (λ i x. settled n t i (r i) x) k a) j u ≡ met (arrival_at a j u)
      (gathered k (λ i. share t (space_at a i j) i (r i).symbol j u))
  unfolding turns gathered after
  line_all zero j u hk hj ne = sym (met_none (arrival_at a j u))
  line_all (suc k) j u hk hj ne =
      settled_here n t k j u (r k) (after k) (omega (arith, sp.few)) sp.few hj (long k) (kept k hk) ne
      ∙ ap₂ (λ (v : Heard) (d : ℕ). joined v (share t d k (r k).symbol j u)) (line_all k j u (omega arith) hj ne)
      (space_after k k j (omega arith) hk hj)
      ∙ met_group (arrival_at a j u) (gathered k (λ i. share t (space_at a i j) i (r i).symbol j u))
      (alone (share t (space_at a k j) k (r k).symbol j u))

  pub clear_all : (k j : ℕ) → k ≤ n → j < k → arrival_at (turns (λ i x. settled n t i (r i) x) k a) j t ≡ Nothing
  unfolding turns after
  clear_all zero j hk hj = absurd (omega arith)
  clear_all (suc k) j hk hj =
      by_eq j k
      (λ z. rw z (settled_clear n t k (r k) (after k) hk sp.few (long k) (kept k hk)))
      (λ z. arrival_by (settled n t k (r k) (after k)) (after k) j t
      (settle_keeps (place j t) n t k (r k) (after k) (omega (arith, sp.few)) sp.few (kept k hk)
      (record {
        station = λ p q. omega (arith, sp.few);
        counters = λ p q. omega (arith, sp.few);
        buffer = λ p q.
            omega (arith, sp.few);
        place = λ p q. omega arith;
      })
      (λ m l ne p q. omega (
        arith,
        sp.pos k m hk l (λ y. ne (sym y)),
        sp.near k m hk l,
        space_after k k m
            (omega arith) hk l,
      )))
      ∙ clear_all k j (omega arith) (omega arith))
