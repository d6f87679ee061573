-- What the deference phase says of the trace: kept by every step, and why a frame that starts may. Assumes nothing.
use Rattle.std.specs.Prelude.{ℕ, suc, ◌+◌, ◌≤◌, ◌<◌, ◌≡◌, Bool, not, ◌&&◌, List, ◌⊎◌, ltb, leb}
use Rattle.std.proofs.Math.Path.{refl}
use Rattle.std.proofs.Math.Bool.{true, false}
use Rattle.std.proofs.Math.Logic.{inl, inr}
use Rattle.std.proofs.Common.{arith, leb-true, leb-false}
use Rattle.std.proofs.Math.Nat.{suc_inj}
use Rattle.octets.specs.Base.{pick}
use Rattle.octets.specs.BaseLaws.{by_eq}
use Rattle.sheet_layout.specs.Layout.{gap_of}
use Rattle.station_state.specs.declared.Deference.{Deference}
use Rattle.station_state.specs.declared.Deference.TheVariants.{Quiet, Busy, Gap}
use Rattle.station_spec.specs.declared.Deferred.{Deferred}
use Rattle.station_spec.specs.Defer.{defer, to, quiet_rule, busy_rule, goes_back, gap_over, gap_rule}
use Rattle.trace.specs.Basic.{either, clash, and_left}
use Rattle.trace.specs.Trace as trace
use Rattle.trace.specs.Trace.{Emitted, Free}
use Rattle.bus_meeting.specs.Net.{Net}
use Rattle.trace.specs.World.{Offer}
use Rattle.trace.specs.Run.{emits, Sound}
use Rattle.trace.specs.Inv.{HeardIn, BusyIn}

-- ---- the invariant, before step t

-- not busy since a step: the start, or the end of a gap
pub record Calm (P : Net) (inp : ℕ → List (Offer P)) (i t : ℕ) : Type 0 where
  pub since : ℕ
  pub past : since ≤ t
  pub still : (s : ℕ) → since ≤ s → s < t → BusyIn P inp i s → ⊥
  pub why : (since ≡ 0) ⊎ trace.Gap P.n P.d (emits P inp) (gap_of P.fig) i since

-- busy in the step before
pub record Was (P : Net) (inp : ℕ → List (Offer P)) (i t : ℕ) : Type 0 where
  pub at : ℕ
  pub before : suc at ≡ t
  pub was : BusyIn P inp i at

-- a gap with count k: step `last` was busy, the one after it was not, and the station has been silent since
pub record Counting (P : Net) (inp : ℕ → List (Offer P)) (i t k : ℕ) : Type 0 where
  pub fits : k ≤ gap_of P.fig
  pub last : ℕ
  pub place : last + suc k ≡ t
  pub was : BusyIn P inp i last
  pub idle : BusyIn P inp i (suc last) → ⊥
  pub rests : Emitted (emits P inp) i t → ⊥

abbrev pub PhInv : (P : Net) → (ℕ → List (Offer P)) → (i t : ℕ) → Deference → Type 0
PhInv P inp i t Quiet = Emitted (emits P inp) i t ⊎ Calm P inp i t
PhInv P inp i t (Busy o) = Was P inp i t
PhInv P inp i t (Gap k o) = Counting P inp i t k

-- What the flags h (another is heard) and m (the station emitted in the step before) say.
pub record Flags (P : Net) (inp : ℕ → List (Offer P)) (i t : ℕ) (h m : Bool) : Type 0 where
  pub hy : h ≡ true → HeardIn P inp i t
  pub hn : h ≡ false → HeardIn P inp i t → ⊥
  pub my : m ≡ true → Emitted (emits P inp) i t
  pub mn : m ≡ false → Emitted (emits P inp) i t → ⊥

-- the gap's rule, by its tests
abbrev gap_by : (k : ℕ) (own full back h m w : Bool) → Deferred
gap_by k own full back h m w = pick full (gap_over h m w) (pick back (to (Busy own)) (to (Gap (k + 1) own)))

back_heard : (g k : ℕ) (own h : Bool) → goes_back g k own h ≡ true → h ≡ true
unfolding goes_back
back_heard g k own h e = and_left h (ltb k g && not own) e

module _ (P : Net) (inp : ℕ → List (Offer P)) (span : ℕ) (L : Sound P span) (i t : ℕ) where
  now : BusyIn P inp i t → Was P inp i (suc t)
  now b = record { at = t; before = refl; was = b }

  -- neither flag: not busy
  calm : Flags P inp i t false false → BusyIn P inp i t → ⊥
  calm f b = either b (f.hn refl) (f.mn refl)

  -- quiet goes on
  calm_on : Calm P inp i t → (BusyIn P inp i t → ⊥) → Calm P inp i (suc t)
  calm_on c nb =
      record {
        since = c.since;
        past = omega (arith, c.past);
        still = λ s lo hi. by_eq s t (λ z. rw z nb) (λ z. c.still s lo (omega arith));
        why = c.why;
      }

  -- the gap is over
  calm_new : (k : ℕ) → gap_of P.fig ≤ k → Counting P inp i t k → Calm P inp i t
  calm_new k le c =
      record {
        since = t;
        past = omega arith;
        still = λ s lo hi. absurd (omega arith);
        why = inr (record { last = c.last; place = omega (arith, c.place, c.fits); busy = c.was; idle = c.idle });
      }

  quiet_step : (h m w : Bool) → Flags P inp i t h m → (m ≡ false → Calm P inp i t)
      → PhInv P inp i (suc t) (quiet_rule h m w).phase
  unfolding quiet_rule
  quiet_step true m w f v = now (inl (f.hy refl))
  quiet_step false true w f v = now (inr (f.my refl))
  quiet_step false false w f v = inr (calm_on (v refl) (calm f))

  -- what a step without a start leaves
  silent_next : (m h : Bool) → Flags P inp i t h m → m ≡ false → (emits P inp i t ≡ true → Emitted (emits P inp) i t)
      → Emitted (emits P inp) i (suc t) → ⊥
  silent_next m h f e ss x = f.mn e (ss (rw (suc_inj x.before) at x.on))

  gap_step : (k : ℕ) (o full back h m w : Bool) → (full ≡ true → gap_of P.fig ≤ k)
      → (full ≡ false → k < gap_of P.fig) → (back ≡ true → h ≡ true)
      → Flags P inp i t h m → ((gap_by k o full back h m w).start ≡ true → emits P inp i t ≡ true)
      → ((gap_by k o full back h m w).start ≡ false → emits P inp i t ≡ true → Emitted (emits P inp) i t)
      → Counting P inp i t k → PhInv P inp i (suc t) (gap_by k o full back h m w).phase
  unfolding gap_over
  gap_step k o false true h m w fy fn bk f se ss v = now (inl (f.hy (bk refl)))
  gap_step k o false false h m w fy fn bk f se ss v =
      let q = fn refl in
      record {
        fits = omega arith;
        last = v.last;
        place = omega (arith, v.place);
        was = v.was;
        idle = v.idle;
        rests = λ x. v.rests (ss refl (rw (suc_inj x.before) at x.on));
      }
  gap_step k o true back h m true fy fn bk f se ss v = inl (record { at = t; before = refl; on = se refl })
  gap_step k o true back h m false fy fn bk f se ss v = quiet_step h m false f (λ e. calm_new k (fy refl) v)

  -- Deference keeps its invariant.
  pub phase_step : (x : Deference) (h m w : Bool) → 1 ≤ gap_of P.fig → Flags P inp i t h m
      → ((defer P.fig x h m w).start ≡ true → emits P inp i t ≡ true)
      → ((defer P.fig x h m w).start ≡ false → emits P inp i t ≡ true → Emitted (emits P inp) i t)
      → PhInv P inp i t x → PhInv P inp i (suc t) (defer P.fig x h m w).phase
  unfolding defer busy_rule gap_rule
  phase_step Quiet h m w g f se ss v =
      quiet_step h m w f (λ e. either v (λ q. absurd (f.mn e q)) (λ c. c))
  phase_step (Busy o) true m w g f se ss v = now (inl (f.hy refl))
  phase_step (Busy o) false true w g f se ss v = now (inr (f.my refl))
  phase_step (Busy o) false false w g f se ss v =
      record {
        fits = g;
        last = v.at;
        place = omega (arith, v.before);
        was = v.was;
        idle = λ b. calm f (rw v.before at b);
        rests = silent_next false false f refl (ss refl);
      }
  phase_step (Gap k o) h m w g f se ss v =
      gap_step k o (leb (gap_of P.fig) k) (goes_back P.fig.gap1 k o h) h m w (leb-true (gap_of P.fig) k)
      (leb-false (gap_of P.fig) k)
      (back_heard P.fig.gap1 k o h) f se ss v

  -- ---- a start

  quiet_start : (h m w : Bool) → Flags P inp i t h m → (quiet_rule h m w).start ≡ true → Calm P inp i t
      → Free P.n P.d (emits P inp) (gap_of P.fig) i t
  unfolding quiet_rule
  quiet_start true m w f e c = clash e refl
  quiet_start false true w f e c = clash e refl
  quiet_start false false w f e c =
      record { since = c.since; past = c.past; quiet = c.still; now = λ l. f.hn refl; why = c.why }

  gap_free : (k : ℕ) (o full back h m w : Bool) → (full ≡ true → gap_of P.fig ≤ k) → Flags P inp i t h m
      → (gap_by k o full back h m w).start ≡ true
      → Counting P inp i t k → Free P.n P.d (emits P inp) (gap_of P.fig) i t
  unfolding gap_over calm_new
  gap_free k o false true h m w fy f e v = clash e refl
  gap_free k o false false h m w fy f e v = clash e refl
  gap_free k o true back h m true fy f e v =
      let c = calm_new k (fy refl) v in
      record { since = t; past = c.past; quiet = c.still; now = λ l. absurd (omega arith); why = c.why }
  gap_free k o true back h m false fy f e v = quiet_start h m false f e (calm_new k (fy refl) v)

  -- A frame that starts is free to.
  pub free : (x : Deference) (h m w : Bool) → Flags P inp i t h m → (Emitted (emits P inp) i t → ⊥)
      → (defer P.fig x h m w).start ≡ true → PhInv P inp i t x
      → Free P.n P.d (emits P inp) (gap_of P.fig) i t
  unfolding defer busy_rule gap_rule
  free Quiet h m w f ne e v = either v (λ q. absurd (ne q)) (λ c. quiet_start h m w f e c)
  free (Busy o) true m w f ne e v = clash e refl
  free (Busy o) false true w f ne e v = clash e refl
  free (Busy o) false false w f ne e v = clash e refl
  free (Gap k o) h m w f ne e v =
      gap_free k o (leb (gap_of P.fig) k) (goes_back P.fig.gap1 k o h) h m w (leb-true (gap_of P.fig) k) f e v

  -- A start follows no step of emission.
  quiet_fresh : (h m w : Bool) → Flags P inp i t h m → (quiet_rule h m w).start ≡ true → Emitted (emits P inp) i t → ⊥
  unfolding quiet_rule
  quiet_fresh true m w f e q = clash e refl
  quiet_fresh false true w f e q = clash e refl
  quiet_fresh false false w f e q = f.mn refl q

  pub start_fresh : (x : Deference) (h m w : Bool) → Flags P inp i t h m → (defer P.fig x h m w).start ≡ true
      → PhInv P inp i t x → Emitted (emits P inp) i t → ⊥
  unfolding defer busy_rule
  start_fresh Quiet h m w f e v q = quiet_fresh h m w f e q
  start_fresh (Busy o) true m w f e v q = clash e refl
  start_fresh (Busy o) false true w f e v q = clash e refl
  start_fresh (Busy o) false false w f e v q = clash e refl
  start_fresh (Gap k o) h m w f e v q = v.rests q
