-- Laws of the medium: what symbols on their way leave as it was, and that the code sends them so. The lengths, and the
-- ways through the code that rest on no place, are in the specs' MediumLaws. Assumes nothing.
use Prim.Native.Nat.{ℕ, zero, suc, ◌+◌, ◌≤◌, ◌<◌}
use Rattle.std.specs.Prelude.{◌≡◌, false, List, eqb}
use Rattle.std.proofs.Math.Path.{refl, ap}
use Rattle.std.proofs.Common.{sym, ◌∙◌, arith}
use Rattle.std.proofs.lemmas.Bool.{eqb-false}
use Rattle.octets.specs.Base.{pick}
use Rattle.octets.specs.BaseLaws.{by_test}
use Rattle.octets.specs.Turns.{turns, turns_end}
use Rattle.station_symbols.specs.declared.Symbol.{Symbol}
use Rattle.station_symbols.specs.declared.Symbol.TheVariants.{Silence, Bit, Jam}
use Rattle.area.specs.Places.{Part, layout, place, Off, Keeps}
use Rattle.area.specs.Area.{position_at, space_at, arrival_at, heard_code, alone, joined}
use Rattle.area.specs.AreaLaws.{keeps_refl, keeps_trans, position_by, space_by, arrival_keeps}
use Rattle.area.specs.CodeLaws.{joined_code}
use Rattle.bus_spec.specs.Medium.{send_to, is_silence, pushed, code_to}
use Rattle.sheet_layout.specs.Limits.{max_stations}

-- ---- what is kept

pub send_keeps : (p : Part) (t i : ℕ) (s : Symbol) (j : ℕ) (x : List ℕ)
    → ((j ≡ i → ⊥) → Off p (place j (t + space_at x i j))) → Keeps p (send_to t i s j x) x
unfolding send_to
send_keeps p t i s j x o =
    by_test (eqb j i)
    (λ e. rw e (keeps_refl p x))
    (λ e. rw e (arrival_keeps p x j (t + space_at x i j) (joined (arrival_at x j (t + space_at x i j)) s)
    (o (eqb-false j i e))))

pub sends_layout : (t i : ℕ) (s : Symbol) (k : ℕ) (x : List ℕ) → Keeps layout (turns (send_to t i s) k x) x
unfolding turns
sends_layout t i s zero x = keeps_refl layout x
sends_layout t i s (suc k) x =
    keeps_trans layout (send_to t i s k (turns (send_to t i s) k x)) (turns (send_to t i s) k x) x
    (send_keeps layout t i s k (turns (send_to t i s) k x) (λ ne p q. omega arith)) (sends_layout t i s k x)

pub sends_keep : (p : Part) (t i : ℕ) (s : Symbol) (k : ℕ) (x : List ℕ) → i < max_stations → k ≤ max_stations
    → ((j : ℕ) → j < k → (j ≡ i → ⊥) → Off p (place j (t + space_at x i j)))
    → Keeps p (turns (send_to t i s) k x) x
unfolding turns
sends_keep p t i s zero x hi hk o = keeps_refl p x
sends_keep p t i s (suc k) x hi hk o =
    keeps_trans p (send_to t i s k (turns (send_to t i s) k x)) (turns (send_to t i s) k x) x
    (send_keeps p t i s k (turns (send_to t i s) k x)
    (λ ne. rw (space_by (turns (send_to t i s) k x) x i k hi hk (sends_layout t i s k x)) (o k (omega arith) ne)))
    (sends_keep p t i s k x hi (omega arith) (λ j h. o j (omega arith)))

pub push_keeps : (p : Part) (n t i : ℕ) (s : Symbol) (x : List ℕ) → i < max_stations → n ≤ max_stations
    → ((j : ℕ) → j < n → (j ≡ i → ⊥) → Off p (place j (t + space_at x i j)))
    → Keeps p (pushed n t i s x) x
unfolding pushed
push_keeps p n t i s x hi hn o =
    by_test (is_silence s) (λ e. rw e (keeps_refl p x)) (λ e. rw e (sends_keep p t i s n x hi hn o))

-- ---- the code

-- by its code a symbol that is not silence goes the same way
code_sends : (t i c j : ℕ) (s : Symbol) (a : List ℕ) → c ≡ heard_code (alone s) → (c ≡ 0 → ⊥)
    → code_to t i c j a ≡ send_to t i s j a
unfolding code_to send_to
code_sends t i c j s a e ne = ap (pick (eqb j i) a) (joined_code a j (t + space_at a i j) s c e ne)

code_sound : (s : Symbol) → (heard_code (alone s) ≡ 0 → ⊥) → is_silence s ≡ false
code_sound Silence h = absurd (h refl)
code_sound (Bit b) h = refl
code_sound Jam h = refl

module _ (t i c : ℕ) (s : Symbol) (a : List ℕ) (e : c ≡ heard_code (alone s)) (ne : c ≡ 0 → ⊥) where
  codes_send : (j : ℕ) → turns (code_to t i c) j a ≡ turns (send_to t i s) j a
  unfolding turns
  codes_send zero = refl
  codes_send (suc j) = code_sends t i c j s (turns (code_to t i c) j a) e ne ∙ ap (send_to t i s j) (codes_send j)

  -- the sender stays where it is
  pub push_position : (j p : ℕ) (x : List ℕ) → x ≡ turns (code_to t i c) j a → i < max_stations → p ≡ position_at a i
      → p ≡ position_at x i
  push_position j p x r h q =
      q ∙ sym (position_by (turns (send_to t i s) j a) a i h (sends_layout t i s j a))
      ∙ ap (λ (y : List ℕ). position_at y i) (sym (r ∙ codes_send j))

  pub push_all : (n j : ℕ) (b : List ℕ) → j ≤ n → n ≤ j → b ≡ turns (code_to t i c) j a → b ≡ pushed n t i s a
  unfolding pushed
  push_all n j b h g r = turns_end (send_to t i s) n j a b h g (r ∙ codes_send j) ∙ rw (code_sound s (λ z. ne (e ∙ z)))
