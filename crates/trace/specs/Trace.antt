-- Traces: no state machine, only who emits when; and the rules that a trace keeps. The theorem over traces is in
-- proofs/Trace. Assumes nothing.
use Rattle.std.specs.Prelude.{◌≡◌, Bool, true, false, ◌⊎◌, ℕ, suc, ◌+◌, ◌≤◌, ◌<◌}

-- Distances between the stations below n, none above span.
pub record Metric (n span : ℕ) (d : ℕ → ℕ → ℕ) : Type 0 where
  pub symm : (i j : ℕ) → d i j ≡ d j i
  pub tri : (i j k : ℕ) → d i k ≤ d i j + d j k
  pub pos : (i j : ℕ) → i < n → j < n → (i ≡ j → ⊥) → 0 < d i j
  pub wide : (i j : ℕ) → i < n → j < n → d i j ≤ span

-- Station i hears another in step t.
pub record Hears (n : ℕ) (d : ℕ → ℕ → ℕ) (E : ℕ → ℕ → Bool) (i t : ℕ) : Type 0 where
  pub from : ℕ
  pub at : ℕ
  pub station : from < n
  pub other : from ≡ i → ⊥
  pub delay : at + d from i ≡ t
  pub on : E from at ≡ true

-- Station i emitted in the step before t.
pub record Emitted (E : ℕ → ℕ → Bool) (i t : ℕ) : Type 0 where
  pub at : ℕ
  pub before : suc at ≡ t
  pub on : E i at ≡ true

abbrev pub Busy : ℕ → (ℕ → ℕ → ℕ) → (ℕ → ℕ → Bool) → ℕ → ℕ → Type 0
Busy n d E i t = Hears n d E i t ⊎ Emitted E i t

-- A run of station i starts in step t.
pub record Start (E : ℕ → ℕ → Bool) (i t : ℕ) : Type 0 where
  pub on : E i t ≡ true
  pub fresh : (s : ℕ) → suc s ≡ t → E i s ≡ false

-- A gap of g bits ended at step e: step e - g was the first that was not busy.
pub record Gap (n : ℕ) (d : ℕ → ℕ → ℕ) (E : ℕ → ℕ → Bool) (g i e : ℕ) : Type 0 where
  pub last : ℕ
  pub place : last + suc g ≡ e
  pub busy : Busy n d E i last
  pub idle : Busy n d E i (suc last) → ⊥

-- Why station i may start in step t: its deference became quiet at `since`.
pub record Free (n : ℕ) (d : ℕ → ℕ → ℕ) (E : ℕ → ℕ → Bool) (g i t : ℕ) : Type 0 where
  pub since : ℕ
  pub past : since ≤ t
  pub quiet : (s : ℕ) → since ≤ s → s < t → Busy n d E i s → ⊥
  pub now : since < t → Hears n d E i t → ⊥
  pub why : (since ≡ 0) ⊎ Gap n d E g i since

-- The rules that a trace keeps: runs of at least m steps, and starts that are free.
pub record Rules (n : ℕ) (d : ℕ → ℕ → ℕ) (E : ℕ → ℕ → Bool) (g m : ℕ) : Type 0 where
  pub long : (i b : ℕ) → i < n → E i b ≡ true → E i (suc b) ≡ false → m ≤ suc b
  pub whole : (i b : ℕ) → i < n → E i b ≡ true → E i (suc b) ≡ false → (s : ℕ) → s ≤ b → suc b ≤ s + m → E i s ≡ true
  pub start : (i t : ℕ) → i < n → Start E i t → Free n d E g i t

-- A trace that keeps the rules on a layout, with gaps no longer than the shortest run.
pub record Lawful (n span g m : ℕ) (d : ℕ → ℕ → ℕ) (E : ℕ → ℕ → Bool) : Type 0 where
  pub metric : Metric n span d
  pub rules : Rules n d E g m
  pub fits : g ≤ m

-- A run of station a over the steps ta to te, at least twice the span long, during which a heard nothing.
pub record Clear (n span : ℕ) (d : ℕ → ℕ → ℕ) (E : ℕ → ℕ → Bool) (a ta te : ℕ) : Type 0 where
  pub station : a < n
  pub start : Start E a ta
  pub order : ta ≤ te
  pub long : ta + (span + span) ≤ suc te
  pub on : (s : ℕ) → ta ≤ s → s ≤ te → E a s ≡ true
  pub off : E a (suc te) ≡ false
  pub quiet : (y : ℕ) → ta ≤ y → y ≤ te → Hears n d E a y → ⊥
