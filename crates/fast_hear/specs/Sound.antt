-- Whether any stretch is heard, and how long that stays: what the scans of a list come to. Assumes nothing.
use Rattle.std.specs.Prelude.{ℕ, ◌+◌, ◌≤◌, ◌<◌, max, ◌≡◌, refl, Bool, true, false, ◌||◌, List, [], ◌∷◌, eqb, ltb, length}
use Rattle.std.proofs.Common.{sym, ap, ◌∙◌, true≢false, arith, ltb-true}
use Rattle.octets.specs.Base.{pick}
use Rattle.octets.specs.BaseLaws.{by_test}
use Rattle.area.specs.Area.{space_at}
use Rattle.fast_list.specs.declared.Stretch.{Stretch}
use Rattle.fast_list.specs.Stretches.{end_of, sounds, sounds_any}
use Rattle.fast_list.specs.Reaching.{next_in, reach_in, silent_until, sound_until}
use Rattle.fast_hear.specs.Listed.{list_of}

-- from step s on and before step u, a stretch of the list is heard at j, or none, as b says
unfoldable pub Sounds : List ℕ → List Stretch → (j s u : ℕ) → Bool → Type 0
Sounds a l j s u b = (v : ℕ) → s ≤ v → v < u → sounds_any (space_at a) (list_of l (length l)) j v ≡ b

sounds_end : (d : ℕ → ℕ → ℕ) (r : Stretch) (j s : ℕ) → sounds d r j s ≡ true → s < end_of r + d r.who j
unfolding sounds
sounds_end d r j s e =
    by_test (eqb r.who j)
    (λ c. let z : false ≡ true = rw c at e in absurd (true≢false (sym z)))
    (λ c. by_test (ltb s (r.from + d r.who j))
    (λ p. let z : false ≡ true = rw (c, p) at e in absurd (true≢false (sym z)))
    (λ p. ltb-true s (end_of r + d r.who j) (rw (c, p) at e)))

-- where nothing reaches past s, nothing is heard in s
silent_reach : (d : ℕ → ℕ → ℕ) (l : List Stretch) (j s : ℕ) → reach_in d l j s ≤ s → sounds_any d l j s ≡ false
unfolding reach_in sounds_any
silent_reach d [] j s h = refl
silent_reach d (r ∷ l) j s h =
    by_test (sounds d r j s)
    (λ c. let x = sounds_end d r j s c in let z = rw c at h in absurd (omega arith))
    (λ c. let z = rw c at h in rw c (silent_reach d l j s (omega arith)))

module _ (a : List ℕ) (l : List Stretch) (j s : ℕ) where
  pub sound_on : (e : ℕ) → e ≡ reach_in (space_at a) (list_of l (length l)) j s → Sounds a l j s e true
  unfolding Sounds
  sound_on e q v h g = sound_until (space_at a) (list_of l (length l)) j s v h (omega arith)

  pub sound_off : (m e u : ℕ) → e ≡ reach_in (space_at a) (list_of l (length l)) j s → e ≤ s
      → u ≡ next_in (space_at a) (list_of l (length l)) j s m → Sounds a l j s u false
  unfolding Sounds
  sound_off m e u q p k v h g =
      silent_until (space_at a) (list_of l (length l)) j s v m
      (silent_reach (space_at a) (list_of l (length l)) j s (omega arith)) h (omega arith)
