-- The theorem over traces: a collision comes within twice the span, and a whole run that was not disturbed passes every
-- station alone. What a trace is stands in the specs' Trace. Assumes nothing.
use Rattle.std.specs.Prelude.{◌≡◌, refl, Bool, true, false, ◌⊎◌, ℕ, zero, suc, ◌+◌, ◌-◌, ◌≤◌, ◌<◌}
use Rattle.std.proofs.Common.{sym, subst, inl, inr, arith, add-zero, add-suc}
use Rattle.std.proofs.Math.Nat.{suc_inj}
use Rattle.octets.specs.BaseLaws.{by_test, by_eq}
use Rattle.trace.specs.Basic.{either, by_le, clash}
use Rattle.trace.specs.Trace.{Hears, Emitted, Busy, Start, Gap, Lawful, Clear}

module _ {n span g m : ℕ} {d : ℕ → ℕ → ℕ} {E : ℕ → ℕ → Bool} (T : Lawful n span g m d E) where
  -- A heard run that ended before a start ended a gap before it.
  ended : (i c t e : ℕ) → i < n → c < n → (c ≡ i → ⊥) → Start E i t → E c e ≡ true → E c (suc e) ≡ false → e + d c i < t
      → e + d c i + suc g ≤ t
  ended i c t e hi hc ne st on off lt =
      let f = T.rules.start i t hi st in
      let h : Hears n d E i (e + d c i) = record {
        from = c;
        at = e;
        station = hc;
        other = ne;
        delay = refl;
        on = on;
      } in
      let lo = T.rules.long c e hc on off in
      by_le f.since (e + d c i) (λ k. absurd (f.quiet (e + d c i) k lt (inl h))) (λ k.
      either f.why (λ z. absurd (omega arith)) (λ gp.
      by_le (e + d c i) gp.last (λ q. omega (arith, gp.place, f.past)) (λ q.
      let s : ℕ = suc gp.last - d c i in
      let w : s + d c i ≡ suc gp.last = omega (arith, gp.place) in
      let hs : E c s ≡ true = T.rules.whole c e hc on off s (omega arith) (omega (arith, gp.place)) in
      absurd (gp.idle (inl (record { from = c; at = s; station = hc; other = ne; delay = w; on = hs }))))))

  -- An own run that ended before a start ended a gap and a step before it.
  ended_own : (i t e : ℕ) → i < n → Start E i t → E i e ≡ true → E i (suc e) ≡ false → e < t → e + suc (suc g) ≤ t
  ended_own i t e hi st on off lt =
      let f = T.rules.start i t hi st in
      by_eq (suc e) t (λ k. clash st.on (subst (λ (x : ℕ). E i x ≡ false) k off)) (λ ne.
      by_le f.since (suc e) (λ k. absurd (f.quiet (suc e) k (omega arith) (inr (record {
        at = e;
        before = refl;
        on = on;
      })))) (λ k.
      either f.why (λ z. absurd (omega arith)) (λ gp.
      by_le (suc e) gp.last (λ q. omega (arith, gp.place, f.past)) (λ q.
      let hs : E i gp.last ≡ true = T.rules.whole i e hi on off gp.last (omega arith)
      (omega (arith, gp.place)) in
      absurd (gp.idle (inr (record { at = gp.last; before = refl; on = hs })))))))

  -- A station that starts while it hears another does so at the end of a gap.
  starts_hearing : (b tb : ℕ) → b < n → Start E b tb → Hears n d E b tb → Gap n d E g b tb
  starts_hearing b tb hb sb h =
      let f = T.rules.start b tb hb sb in
      let p = T.metric.pos h.from b h.station hb h.other in
      by_le (suc f.since) tb (λ k. absurd (f.now k h)) (λ k.
      let e : f.since ≡ tb = omega (arith, f.past) in
      either f.why (λ z. absurd (omega (arith, h.delay))) (λ gp.
      record { last = gp.last; place = omega (arith, gp.place); busy = gp.busy; idle = gp.idle }))

  -- What was last heard before the gap had ended, and so had what was last emitted.
  heard_ended : (b l : ℕ) → (Busy n d E b (suc l) → ⊥) → (h : Hears n d E b l) → E h.from (suc h.at) ≡ false
  heard_ended b l idle h = by_test (E h.from (suc h.at))
      (λ e. absurd (idle (inl (record {
        from = h.from;
        at = suc h.at;
        station = h.station;
        other = h.other;
        delay = omega (arith, h.delay);
        on = e;
      }))))
      (λ e. e)

  own_ended : (b l : ℕ) → (Busy n d E b (suc l) → ⊥) → (o : Emitted E b l) → E b (suc o.at) ≡ false
  own_ended b l idle o = by_test (E b (suc o.at))
      (λ e. absurd (idle (inr (record { at = l; before = refl; on = subst (λ (x : ℕ). E b x ≡ true) o.before e }))))
      (λ e. e)

  -- Station b starts while it hears the run of a that started at ta, and a hears nothing for twice the distance.
  main : (a b ta tb : ℕ) → a < n → b < n → (a ≡ b → ⊥) → Start E a ta → Start E b tb → ta + d a b ≤ tb
      → ((s : ℕ) → ta ≤ s → s + d a b ≤ tb → E a s ≡ true)
      → ((y : ℕ) → ta ≤ y → suc y < ta + (d a b + d a b) → Hears n d E a y → ⊥)
      → (tb ≡ ta + d a b) × (d a b < span)
  main a b ta tb ha hb ne sa sb le on quiet = go (starts_hearing b tb hb sb (heard tb le (omega arith)))
    where
      nb : b ≡ a → ⊥
      nb z = ne (sym z)

      heard : (t : ℕ) → ta + d a b ≤ t → t ≤ tb → Hears n d E b t
      heard t lo hi =
          record {
            from = a;
            at = t - d a b;
            station = ha;
            other = ne;
            delay = omega arith;
            on = on (t - d a b) (omega arith) (omega arith);
          }

      -- the gap began before a's run came
      late : (gp : Gap n d E g b tb) → suc gp.last < ta + d a b
      late gp =
          by_le (ta + d a b) (suc gp.last)
          (λ q. absurd (gp.idle (inl (heard (suc gp.last) q (omega (arith, gp.place)))))) (λ q. q)

      -- it was not a run of a that ended there
      not_a : {l : ℕ} (h : Hears n d E b l) → h.from ≡ a → l + suc g ≡ tb → suc l < ta + d a b
          → E h.from (suc h.at) ≡ false → ⊥
      not_a h c at lt e =
          let w : h.at + d a b ≡ _ = rw c at h.delay in
          let r = ended_own a ta h.at ha sa (rw c at h.on) (rw c at e) (omega arith) in
          omega arith

      by_heard : (gp : Gap n d E g b tb) (h : Hears n d E b gp.last) → (tb ≡ ta + d a b) × (d a b < span)
      by_heard gp h =
          let at = gp.place in
          let lt = late gp in
          let e = heard_ended b gp.last gp.idle h in
          by_eq h.from a
          (λ c. absurd (not_a h c at lt e))
          (λ c. by_le ta (h.at + d h.from a)
          (λ q. absurd (quiet (h.at + d h.from a) q
          (omega (arith, h.delay, T.metric.tri h.from b a, T.metric.symm a b))
          (record { from = h.from; at = h.at; station = h.station; other = c; delay = refl; on = h.on })))
          (λ q. let r = ended a h.from ta h.at ha h.station c sa h.on e q in
          let w = T.metric.wide h.from b h.station hb in
          let v = T.metric.pos h.from a h.station ha c in
          let u = T.metric.tri h.from a b in
          (omega (arith, h.delay), omega (arith, h.delay))))

      by_own : (gp : Gap n d E g b tb) (o : Emitted E b gp.last) → (tb ≡ ta + d a b) × (d a b < span)
      by_own gp o =
          let at = gp.place in
          let lt = late gp in
          let p = T.metric.pos a b ha hb ne in
          let e = own_ended b gp.last gp.idle o in
          by_le ta (o.at + d b a)
          (λ q. absurd (quiet (o.at + d b a) q (omega (arith, o.before, T.metric.symm a b))
          (record { from = b; at = o.at; station = hb; other = nb; delay = refl; on = o.on })))
          (λ q. let r = ended a b ta o.at ha hb nb sa o.on e q in
          absurd (omega (arith, o.before, T.metric.symm a b)))

      go : Gap n d E g b tb → (tb ≡ ta + d a b) × (d a b < span)
      go gp = either gp.busy (by_heard gp) (by_own gp)

  -- The start of the run that holds a step.
  run_start : (i s : ℕ) → E i s ≡ true → (t : ℕ) × (t ≤ s) × Start E i t × ((u : ℕ) → t ≤ u → u ≤ s → E i u ≡ true)
  run_start i zero on = (
    0,
    omega arith,
    record {
      on = on;
      fresh = λ s z. absurd (omega arith);
    },
    λ u lo hi. subst (λ (x : ℕ). E i x ≡ true) (omega arith) on,
  )
  run_start i (suc s) on =
      by_test (E i s)
      (λ e. let r = run_start i s e in
      (r.0, omega (arith, r.1), r.2, λ u lo hi. by_eq u (suc s) (λ z. rw z on) (λ z. r.3 u lo (omega arith))))
      (λ e. (
        suc s,
        omega arith,
        record {
          on = on;
          fresh = λ x z. rw (suc_inj z) e;
        },
        λ u lo hi. subst (λ (x : ℕ). E i x ≡ true) (omega arith) on,
      ))

  -- The end of a run that ends within k steps.
  run_end_lem : (i s k : ℕ) → E i s ≡ true → E i (s + k) ≡ false
      → (e : ℕ) × (s ≤ e) × (e < s + k) × (E i e ≡ true) × (E i (suc e) ≡ false)
  run_end_lem i s zero on off = clash on (rw add-zero at off)
  run_end_lem i s (suc k) on off =
      by_test (E i (s + k))
      (λ e. (s + k, omega arith, omega arith, e, rw add-suc at off))
      (λ e. let r = run_end_lem i s k on e in (r.0, r.1, omega (arith, r.2), r.3, r.4))

  -- A collision comes in the first bit or within twice the span.
  pub no_late : (a ta u slot : ℕ) → a < n → Start E a ta → ta ≤ u → 1 ≤ slot → span + span ≤ slot
      → ((s : ℕ) → ta ≤ s → s ≤ u → E a s ≡ true)
      → ((y : ℕ) → ta ≤ y → y < u → Hears n d E a y → ⊥)
      → Hears n d E a u → suc u ≤ ta + slot
  no_late a ta u slot ha sa le one fit on quiet h =
      by_eq u ta (λ z. omega arith) (λ z.
      let b = h.from in
      let r = run_start b h.at h.on in
      let tb = r.0 in
      let dl = T.metric.symm a b in
      let w = T.metric.wide a b ha h.station in
      let ne : a ≡ b → ⊥ = λ z. h.other (sym z) in
      let first : tb ≡ h.at =
      by_le h.at tb (λ q. omega (arith, r.1)) (λ q. absurd (quiet (u - 1) (omega arith) (omega arith)
      (record {
        from = b;
        at = h.at - 1;
        station = h.station;
        other = h.other;
        delay = omega (arith, h.delay);
        on = r.3 (h.at - 1) (omega arith) (omega arith);
      }))) in
      by_le (ta + d a b) tb
      (λ q. let k = main a b ta tb ha h.station ne sa r.2 q (λ s lo hi. on s lo (omega (arith, h.delay)))
      (λ y lo hi. quiet y lo (omega (arith, h.delay))) in
      omega (arith, h.delay, k.0, k.1))
      (λ q. omega (arith, h.delay)))

  module _ {a ta te : ℕ} (c : Clear n span d E a ta te) where
    -- What another station emits is well before the run or well after it, as it passes that station.
    pub apart : (b s : ℕ) → b < n → (a ≡ b → ⊥) → E b s ≡ true → (s + d a b + suc g ≤ ta) ⊎ (te + d a b + suc g ≤ s)
    apart b s hb ne o =
        by_le ta (s + d a b)
        (λ q. by_le (s + d a b) te (λ z. absurd (c.quiet (s + d a b) q z (heard s (s + d a b) refl o)))
        (λ z. inr (after z)))
        (λ q. inl (before q))
      where
        nb : b ≡ a → ⊥
        nb z = ne (sym z)

        heard : (x t : ℕ) → x + d a b ≡ t → E b x ≡ true → Hears n d E a t
        heard x t w e =
            record { from = b; at = x; station = hb; other = nb; delay = omega (arith, T.metric.symm a b); on = e }

        before : s + d a b < ta → s + d a b + suc g ≤ ta
        before q = by_test (E b (s + (ta - (s + d a b))))
            (λ e. absurd (c.quiet ta (omega arith) c.order (heard (s + (ta - (s + d a b))) ta (omega arith) e)))
            (λ e. let r = run_end_lem b s (ta - (s + d a b)) o e in
            let k = ended a b ta r.0 c.station hb nb c.start r.3 r.4
            (omega (arith, r.2, T.metric.symm a b)) in
            omega (arith, r.1, T.metric.symm a b))

        after : te < s + d a b → te + d a b + suc g ≤ s
        after q =
            let r = run_start b s o in
            let tb = r.0 in
            let w = T.metric.wide a b c.station hb in
            let late : te < tb + d a b =
            by_le (suc te) (tb + d a b) (λ z. z) (λ z.
            by_le ta (tb + d a b) (λ y. absurd (c.quiet (tb + d a b) y (omega arith)
            (heard tb (tb + d a b) refl r.2.on)))
            (λ y. absurd (c.quiet ta (omega arith) c.order
            (heard (ta - d a b) ta (omega arith) (r.3 (ta - d a b) (omega arith) (omega arith)))))) in
            by_le (suc (te + d a b)) tb
            (λ z. let k = ended b a tb te hb c.station ne r.2 (c.on te c.order (omega arith))
            c.off z in omega (arith, r.1))
            (λ z. let k = main a b ta tb c.station hb ne c.start r.2 (omega arith)
            (λ x lo hi. c.on x lo (omega arith)) (λ y lo hi. c.quiet y lo (omega arith)) in
            absurd (omega (arith, k.0, k.1)))

    -- At station j: nothing of another station from one step before the run to one step after it.
    pub alone : (j b s t : ℕ) → j < n → b < n → (a ≡ b → ⊥) → 0 < g → E b s ≡ true → s + d b j ≡ t
        → (suc t < ta + d a j) ⊎ (te + d a j + 1 < t)
    alone j b s t hj hb ne pos o w =
        either (apart b s hb ne o)
        (λ h. inl (omega (arith, T.metric.tri a b j, T.metric.tri b a j, T.metric.symm a b)))
        (λ h. inr (omega (arith, T.metric.tri a b j, T.metric.symm a b)))

    -- Station j neither emits while the run passes it.
    pub listens : (j s : ℕ) → j < n → (a ≡ j → ⊥) → ta + d a j ≤ s → s ≤ te + d a j → E j s ≡ false
    listens j s hj ne lo hi =
        by_test (E j s)
        (λ e. either (apart j s hj ne e) (λ h. absurd (omega arith)) (λ h. absurd (omega arith)))
        (λ e. e)

    -- Station j hears nothing in the step before the run comes and in the step after it.
    pub silent_before : (j t : ℕ) → j < n → (a ≡ j → ⊥) → 0 < g → suc t ≡ ta + d a j → Hears n d E j t → ⊥
    silent_before j t hj ne pos w h =
        by_eq a h.from
        (λ z. clash (rw (← z) at h.on) (c.start.fresh h.at (omega (arith, rw (← z) at h.delay))))
        (λ z. either (alone j h.from h.at t hj h.station z pos h.on h.delay) (λ k. omega arith)
        (λ k. omega arith))

    pub silent_after : (j : ℕ) → j < n → (a ≡ j → ⊥) → 0 < g → Hears n d E j (suc (te + d a j)) → ⊥
    silent_after j hj ne pos h =
        by_eq a h.from
        (λ z. clash (rw (← z) at h.on)
        (subst (λ (x : ℕ). E a x ≡ false) (omega (arith, rw (← z) at h.delay)) c.off))
        (λ z. either (alone j h.from h.at (suc (te + d a j)) hj h.station z pos h.on h.delay)
        (λ k. omega arith) (λ k. omega arith))
