-- What is on its way after K steps by a list of stretches: what each of them shares in it, one stretch after the other.
-- Assumes nothing.
use Rattle.std.specs.Prelude.{ℕ, zero, suc, ◌+◌, ◌-◌, ◌≤◌, ◌<◌, ◌≡◌, refl, Bool, true, false, List, [], ◌∷◌, eqb, ltb, leb}
use Rattle.std.proofs.Common.{sym, ◌∙◌, ap₂, true≢false, arith}
use Rattle.std.proofs.Math.Path.{ap}
use borrow.Author.Tests.{eq-eqb, ne_eqb}
use Rattle.octets.specs.Base.{pick}
use Rattle.octets.specs.BaseLaws.{by_test, by_eq}
use Rattle.station_symbols.specs.declared.Heard.{Heard}
use Rattle.station_symbols.specs.declared.Heard.TheVariants.{Nothing, Clean, Spoiled}
use Rattle.station_symbols.specs.declared.Symbol.{Symbol}
use Rattle.station_symbols.specs.declared.Symbol.TheVariants.{Silence, Bit, Jam}
use Rattle.station_symbols.specs.Packet.{hears_any}
use Rattle.area.specs.Area.{count_at, space_at, alone, met, joined}
use Rattle.bus_meeting.specs.Net.{Net, gathered, reaches, heard}
use Rattle.bus_meeting.specs.Gather.{on, off_is, gathered_none, gathered_one}
use Rattle.bus_meeting.specs.Meet.{unheard, met_group}
use Rattle.fast_plan.specs.Plan.{Plan, cut, net_of, line_now, line_after}
use Rattle.fast_list.specs.declared.Stretch.{Stretch}
use Rattle.fast_list.specs.Stretches.{symbol_in, over, plan_in}
use Rattle.fast_list.specs.Sounding.{Within}

-- ---- what two lots of symbols come to

met_swap : (g h : Heard) → met g h ≡ met h g
met_swap Nothing Nothing = refl
met_swap Nothing (Clean b) = refl
met_swap Nothing Spoiled = refl
met_swap (Clean c) Nothing = refl
met_swap (Clean c) (Clean b) = refl
met_swap (Clean c) Spoiled = refl
met_swap Spoiled Nothing = refl
met_swap Spoiled (Clean b) = refl
met_swap Spoiled Spoiled = refl

swap_mid : (a b c d : Heard) → met (met a b) (met c d) ≡ met (met a c) (met b d)
swap_mid a b c d =
    met_group a b (met c d)
    ∙ ap (met a) (sym (met_group b c d) ∙ ap (λ (x : Heard). met x d) (met_swap b c) ∙ met_group c b d)
    ∙ sym (met_group a c (met b d))

gathered_both : (k : ℕ) (f g h : ℕ → Symbol) → ((i : ℕ) → i < k → alone (f i) ≡ met (alone (g i)) (alone (h i)))
    → gathered k f ≡ met (gathered k g) (gathered k h)
unfolding gathered
gathered_both zero f g h p = refl
gathered_both (suc k) f g h p =
    ap₂ met (gathered_both k f g h (λ i l. p i (omega arith))) (p k (omega arith))
    ∙ swap_mid (gathered k g) (gathered k h) (alone (g k)) (alone (h k))

-- ---- one stretch

-- the plan of one stretch alone
unfoldable pub only_in : (ℕ → ℕ → Symbol) → Stretch → Plan
only_in B r i s = pick (eqb r.who i) (symbol_in B r s) Silence

-- what it shares in what reaches station j in step v, of its first K steps
unfoldable pub share_in : (ℕ → ℕ → Symbol) → (d : ℕ → ℕ → ℕ) → (K : ℕ) → Stretch → (j v : ℕ) → Symbol
share_in B d K r j v = reaches d (cut K (only_in B r)) j v r.who

-- all of them
unfoldable pub shares_in : (ℕ → ℕ → Symbol) → (d : ℕ → ℕ → ℕ) → (K : ℕ) → List Stretch → (j v : ℕ) → Heard
shares_in B d K [] j v = Nothing
shares_in B d K (r ∷ l) j v = met (alone (share_in B d K r j v)) (shares_in B d K l j v)

-- no stretch of a station lies on another of it
unfoldable pub Apart : (ℕ → ℕ → Symbol) → List Stretch → Type 0
Apart B [] = Unit {0}
Apart B (r ∷ l) = ((s : ℕ) → on (symbol_in B r s) ≡ true → plan_in B l r.who s ≡ Silence) × Apart B l

over_met : (x y : Symbol) → (on x ≡ true → y ≡ Silence) → alone (over x y) ≡ met (alone x) (alone y)
over_met Silence y h = refl
over_met (Bit b) y h = rw (h refl)
over_met Jam y h = rw (h refl)

module _ (B : ℕ → ℕ → Symbol) (d : ℕ → ℕ → ℕ) (K : ℕ) (r : Stretch) (l : List Stretch)
    (apart : (s : ℕ) → on (symbol_in B r s) ≡ true → plan_in B l r.who s ≡ Silence) where
  -- in a step
  step_both : (i s : ℕ) → alone (plan_in B (r ∷ l) i s) ≡ met (alone (only_in B r i s)) (alone (plan_in B l i s))
  unfolding plan_in only_in
  step_both i s =
      over_met (pick (eqb r.who i) (symbol_in B r s) Silence) (plan_in B l i s)
      (by_eq r.who i
      (λ w. rw (eq-eqb r.who i w, ← w) (apart s))
      (λ w. rw (ne_eqb r.who i w) (λ e. absurd (true≢false (sym e)))))

  -- where it reaches
  reach_both : (j v i : ℕ) → alone (reaches d (cut K (plan_in B (r ∷ l))) j v i)
      ≡ met (alone (reaches d (cut K (only_in B r)) j v i)) (alone (reaches d (cut K (plan_in B l)) j v i))
  unfolding reaches cut
  reach_both j v i =
      by_test (eqb i j)
      (λ p. rw p)
      (λ p. by_test (leb (d i j) v)
      (λ q. by_test (ltb (v - d i j) K) (λ c. rw (p, q, c) (step_both i (v - d i j))) (λ c. rw (p, q, c)))
      (λ q. rw (p, q)))

  -- others have no share in it
  none_else : (j v i : ℕ) → (i ≡ r.who → ⊥) → reaches d (cut K (only_in B r)) j v i ≡ Silence
  unfolding reaches cut only_in
  none_else j v i ne =
      by_test (eqb i j)
      (λ p. rw p)
      (λ p. by_test (leb (d i j) v)
      (λ q. by_test (ltb (v - d i j) K)
      (λ c. rw (p, q, c, ne_eqb r.who i (λ w. ne (sym w))))
      (λ c. rw (p, q, c)))
      (λ q. rw (p, q)))

  one_more_lem : (n j v : ℕ) → r.who < n
      → gathered n (reaches d (cut K (plan_in B (r ∷ l))) j v)
      ≡ met (alone (share_in B d K r j v)) (gathered n (reaches d (cut K (plan_in B l)) j v))
  unfolding share_in
  one_more_lem n j v h =
      gathered_both n (reaches d (cut K (plan_in B (r ∷ l))) j v) (reaches d (cut K (only_in B r)) j v)
      (reaches d (cut K (plan_in B l)) j v) (λ i q. reach_both j v i)
      ∙ ap (λ (x : Heard). met x (gathered n (reaches d (cut K (plan_in B l)) j v)))
      (gathered_one n (reaches d (cut K (only_in B r)) j v) r.who h (λ i q ne. none_else j v i ne))

none_none : (B : ℕ → ℕ → Symbol) (d : ℕ → ℕ → ℕ) (K j v i : ℕ) → reaches d (cut K (plan_in B [])) j v i ≡ Silence
unfolding reaches cut plan_in
none_none B d K j v i =
    by_test (eqb i j)
    (λ p. rw p)
    (λ p. by_test (leb (d i j) v)
    (λ q. by_test (ltb (v - d i j) K) (λ c. rw (p, q, c)) (λ c. rw (p, q, c)))
    (λ q. rw (p, q)))

shares_all : (B : ℕ → ℕ → Symbol) (d : ℕ → ℕ → ℕ) (K : ℕ) (l : List Stretch) (n j v : ℕ) → Within n l → Apart B l
    → gathered n (reaches d (cut K (plan_in B l)) j v) ≡ shares_in B d K l j v
unfolding shares_in Within Apart
shares_all B d K [] n j v w p = gathered_none n (reaches d (cut K (plan_in B [])) j v) (λ i h. none_none B d K j v i)
shares_all B d K (r ∷ l) n j v w p =
    one_more_lem B d K r l p.0 n j v w.0
    ∙ ap (met (alone (share_in B d K r j v))) (shares_all B d K l n j v w.1 p.1)

-- Theorem 12: what is on its way after K steps
pub line_shares : (a : List ℕ) (B : ℕ → ℕ → Symbol) (K : ℕ) (l : List Stretch) (j v : ℕ) → Within (count_at a) l
    → Apart B l → line_after a (plan_in B l) K j v ≡ met (line_now a j v) (shares_in B (space_at a) K l j v)
unfolding line_after heard net_of
line_shares a B K l j v w p = ap (met (line_now a j v)) (shares_all B (space_at a) K l (count_at a) j v w p)
