-- A law for each kind of statement: what is left to do after it. A process's way between two awaits is a chain of them.
-- Assumes nothing.
use Rattle.std.specs.Prelude.{ℕ, suc, ◌≡◌, refl, Bool, true, false, List, [], ◌∷◌, eqb, Option}
use Rattle.std.proofs.Math.Path.{ap}
use Rattle.std.proofs.Common.{◌∙◌}
use Rattle.octets.specs.Base.{pick}
use Rattle.station_symbols.specs.declared.Emission.{Emission}
use Rattle.station_spec.specs.declared.TransmitEvent.{TransmitEvent}
use Rattle.station_spec.specs.declared.ReceiveEvent.{ReceiveEvent}
use Rattle.station_spec.specs.declared.Stored.{Stored}
use Rattle.standard.specs.Language.{Flag, Number, Test, Term, Store, Statement, Moment, ◌≔◌, ◌≔#◌, emit, report}
use Rattle.standard.specs.Language.{hand, keep, row, skip, ◌⨾◌, test, while, repeat, cycle, call, await}
use Rattle.standard.specs.Language.{put_flag, put_number, offer, look, bit, over}
use Rattle.standard.specs.Interpreter.{moment_place, Place, Ran, ran, waiting, execute, enough, turn}
use Rattle.standard.specs.Interpreter.{with_emission, with_report, with_handed, with_kept, with_row}

-- with n statements at most, from k and s to r
pub record Goes (n : ℕ) (k : List Statement) (s : Store) (r : Ran) : Type 0 where
  pub is : execute n k s ≡ r

pub rest : {n : ℕ} {m : Moment} {k : List Statement} {s : Store}
    → Goes (suc n) (await m ∷ k) s (ran (waiting m k) s)
unfolding execute
rest = record { is = refl }

module _ {n : ℕ} {k : List Statement} {s : Store} {r : Ran} where
  pub set : {x : Flag} {e : Test} → Goes n k (put_flag x (e s) s) r → Goes (suc n) ((x ≔ e) ∷ k) s r
  unfolding execute
  set d = record { is = d.is }

  pub num : {x : Number} {e : Term} → Goes n k (put_number x (e s) s) r → Goes (suc n) ((x ≔# e) ∷ k) s r
  unfolding execute
  num d = record { is = d.is }

  pub emits : {e : Store → Emission} → Goes n k (with_emission (e s) s) r → Goes (suc n) (emit e ∷ k) s r
  unfolding execute
  emits d = record { is = d.is }

  pub reports : {e : Store → TransmitEvent} → Goes n k (with_report (e s) s) r → Goes (suc n) (report e ∷ k) s r
  unfolding execute
  reports d = record { is = d.is }

  pub hands : {e : Store → ReceiveEvent} → Goes n k (with_handed (e s) s) r → Goes (suc n) (hand e ∷ k) s r
  unfolding execute
  hands d = record { is = d.is }

  pub keeps : {e : Store → Option Stored} → Goes n k (with_kept (e s) s) r → Goes (suc n) (keep e ∷ k) s r
  unfolding execute
  keeps d = record { is = d.is }

  pub rows : {e : Store → List Bool} → Goes n k (with_row (e s) s) r → Goes (suc n) (row e ∷ k) s r
  unfolding execute
  rows d = record { is = d.is }

  pub pass : Goes n k s r → Goes (suc n) (skip ∷ k) s r
  unfolding execute
  pass d = record { is = d.is }

  pub seq : {a b : Statement} → Goes n (a ∷ b ∷ k) s r → Goes (suc n) ((a ⨾ b) ∷ k) s r
  unfolding execute
  seq d = record { is = d.is }

  pub enter : {a : Statement} → Goes n (a ∷ k) s r → Goes (suc n) (call a ∷ k) s r
  unfolding execute
  enter d = record { is = d.is }

  pub yes₁ : {c : Test} {a b : Statement} → c s ≡ true → Goes n (a ∷ k) s r → Goes (suc n) (test c a b ∷ k) s r
  unfolding execute
  yes₁ {c} {a} {b} e d = record { is = ap (λ (v : Bool). execute n (pick v a b ∷ k) s) e ∙ d.is }

  pub no₁ : {c : Test} {a b : Statement} → c s ≡ false → Goes n (b ∷ k) s r → Goes (suc n) (test c a b ∷ k) s r
  unfolding execute
  no₁ {c} {a} {b} e d = record { is = ap (λ (v : Bool). execute n (pick v a b ∷ k) s) e ∙ d.is }

  pub stay : {c : Test} {b : Statement} → c s ≡ true → Goes n (b ∷ while c b ∷ k) s r
      → Goes (suc n) (while c b ∷ k) s r
  unfolding execute
  stay {c} {b} e d = record { is = ap (λ (v : Bool). execute n (pick v (b ∷ while c b ∷ k) k) s) e ∙ d.is }

  pub leave : {c : Test} {b : Statement} → c s ≡ false → Goes n k s r → Goes (suc n) (while c b ∷ k) s r
  unfolding execute
  leave {c} {b} e d = record { is = ap (λ (v : Bool). execute n (pick v (b ∷ while c b ∷ k) k) s) e ∙ d.is }

  pub again : {c : Test} {b : Statement} → Goes n (b ∷ test c skip (repeat b c) ∷ k) s r
      → Goes (suc n) (repeat b c ∷ k) s r
  unfolding execute
  again d = record { is = d.is }

  pub round : {b : Statement} → Goes n (b ∷ cycle b ∷ []) s r → Goes (suc n) (cycle b ∷ k) s r
  unfolding execute
  round d = record { is = d.is }

-- a turn: of a process that waits for this moment, and of one that waits for another
pub record Turns (m : Moment) (p : Place) (s : Store) (r : Ran) : Type 0 where
  pub is : turn m p s ≡ r

same_moment : (m : Moment) → eqb (moment_place m) (moment_place m) ≡ true
same_moment offer = refl
same_moment look = refl
same_moment bit = refl
same_moment over = refl

pub goes : {m : Moment} {k : List Statement} {s : Store} {r : Ran} → Goes enough k s r → Turns m (waiting m k) s r
unfolding turn
goes {m} {k} {s} d =
    record { is = ap (λ (v : Bool). pick v (execute enough k s) (ran (waiting m k) s)) (same_moment m) ∙ d.is }

pub waits : {m w : Moment} {k : List Statement} {s : Store} → eqb (moment_place m) (moment_place w) ≡ false
    → Turns m (waiting w k) s (ran (waiting w k) s)
unfolding turn
waits {m} {w} {k} {s} e =
    record { is = ap (λ (v : Bool). pick v (execute enough k s) (ran (waiting w k) s)) e }
