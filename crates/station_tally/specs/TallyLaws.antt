-- Laws of counting: that the words have room, and one for each way through the code. Assumes nothing.
use Rattle.std.specs.Prelude.{ℕ, zero, suc, ◌+◌, ◌-◌, ◌*◌, ◌≤◌, ◌<◌, ◌≡◌, refl, List, [], ◌∷◌, eqb, get_or, set, replicate, Option, None, Some}
use Rattle.std.proofs.Common.{◌∙◌, subst, arith, ne_eqb}
use Rattle.std.proofs.Math.Path.{ap}
use Rattle.octets.specs.BaseLaws.{by_test}
use Rattle.station_spec.specs.declared.ReceiveEvent.{ReceiveEvent}
use Rattle.station_spec.specs.declared.ReceiveEvent.TheVariants.{GotOk, GotTooLong, GotAlignment}
use Rattle.station_spec.specs.declared.ReceiveEvent.TheVariants.{GotCheck, GotLength}
use Rattle.station_spec.specs.declared.TransmitEvent.{TransmitEvent}
use Rattle.station_spec.specs.declared.TransmitEvent.TheVariants.{Collision, Late, Sent, GivenUp}
use Rattle.station_spec.specs.declared.TransmitEvent.TheVariants.{LateEnded}
use Rattle.station_tally.specs.declared.Word.{Word}
use Rattle.station_tally.specs.Words.{word_number, transmit_word, receive_word, last_transmit, word_count}
use Rattle.station_tally.specs.Tally.{bumped, counted, sent_counted, got_counted}

-- ---- the words have room

-- shut, so that a search does not enter it
unfoldable pub Bounded : List ℕ → ℕ → Type 0
Bounded ws m = (k : ℕ) → get_or ws k 0 ≤ m

-- a word's place has room for one more
pub bump_room : (ws : List ℕ) (k m : ℕ) → Bounded ws m → m < 4294967295 → get_or ws k 0 < 4294967295
unfolding Bounded
bump_room ws k m h g = omega (arith, h k)

set_at_most : (ws : List ℕ) (k j x m : ℕ) → x ≤ m → get_or ws j 0 ≤ m → get_or (set ws k x) j 0 ≤ m
set_at_most [] k j x m p q = q
set_at_most (w ∷ ws) zero zero x m p q = p
set_at_most (w ∷ ws) zero (suc j) x m p q = q
set_at_most (w ∷ ws) (suc k) zero x m p q = q
set_at_most (w ∷ ws) (suc k) (suc j) x m p q = set_at_most ws k j x m p q

bumped_bounded : (ws : List ℕ) (k m : ℕ) → Bounded ws m → Bounded (bumped ws k) (m + 1)
unfolding Bounded bumped
bumped_bounded ws k m h j = set_at_most ws k j (get_or ws k 0 + 1) (m + 1) (omega (arith, h k)) (omega (arith, h j))

more_bounded : (ws : List ℕ) (m : ℕ) → Bounded ws m → Bounded ws (m + 1)
unfolding Bounded
more_bounded ws m h j = omega (arith, h j)

pub counted_bounded : (ws : List ℕ) (w m : ℕ) → Bounded ws m → Bounded (counted ws w) (m + 1)
unfolding counted
counted_bounded ws w m h =
    by_test (eqb w 0) (λ e. rw e (more_bounded ws m h)) (λ e. rw e (bumped_bounded ws (w - 1) m h))

pub sent_bounded : (ws vs : List ℕ) (e : Option TransmitEvent) (m : ℕ) → vs ≡ sent_counted ws e → Bounded ws m
    → Bounded vs (m + 1)
sent_bounded ws vs e m p h = rw p (counted_bounded ws (transmit_word e) m h)

pub got_bounded : (ws vs us : List ℕ) (e : Option TransmitEvent) (g : Option ReceiveEvent) (m i : ℕ)
    → us ≡ got_counted vs g
    → vs ≡ sent_counted ws e → Bounded ws (m + 2 * i)
    → Bounded us (m + 2 * (i + 1))
got_bounded ws vs us e g m i p q h =
    let z : m + 2 * i + 1 + 1 ≡ m + 2 * (i + 1) = omega arith in
    rw (p, q) (subst (Bounded (got_counted (sent_counted ws e) g)) z
    (counted_bounded (sent_counted ws e) (receive_word g) (m + 2 * i + 1)
    (counted_bounded ws (transmit_word e) (m + 2 * i) h)))

pub start_bounded : (ws : List ℕ) (m : ℕ) → Bounded ws m → Bounded ws (m + 2 * 0)
start_bounded ws m h = let z : m ≡ m + 2 * 0 = omega arith in subst (Bounded ws) z h

-- ---- the ways through the code

module _ (ws : List ℕ) where
  pub counted_none : (w : Option Word) → w ≡ None → ws ≡ counted ws (word_number w)
  unfolding counted
  counted_none w p = rw p

  pub counted_some : (v : Option Word) (w : Word) (k : ℕ) → v ≡ Some w → k + 1 ≡ word_number (Some w)
      → set ws k (get_or ws k 0 + 1) ≡ counted ws (word_number v)
  unfolding counted bumped
  counted_some v w k p q = rw (p, ← q, ne_eqb (k + 1) 0 (λ e. omega arith), add-sub k)
    where
      add-sub : (n : ℕ) → n + 1 - 1 ≡ n
      add-sub n = omega arith

pub sent_counted_lem : (ws vs : List ℕ) (e : Option TransmitEvent) (w : ℕ) → w ≡ transmit_word e → vs ≡ counted ws w
    → vs ≡ sent_counted ws e
sent_counted_lem ws vs e w p q = q ∙ ap (counted ws) p

pub got_counted_lem : (ws vs : List ℕ) (e : Option ReceiveEvent) (w : ℕ) → w ≡ receive_word e → vs ≡ counted ws w
    → vs ≡ got_counted ws e
got_counted_lem ws vs e w p q = q ∙ ap (counted ws) p

-- ---- each event has a word, or none

pub transmit_few : (e : Option TransmitEvent) → transmit_word e ≤ last_transmit
transmit_few None = omega arith
transmit_few (Some (Collision k)) = omega arith
transmit_few (Some (Late k closes)) = omega arith
transmit_few (Some (Sent n)) = omega arith
transmit_few (Some (GivenUp n)) = omega arith
transmit_few (Some (LateEnded n)) = omega arith

pub receive_few : (e : Option ReceiveEvent)
    → (receive_word e ≤ word_count) × ((receive_word e ≡ 0 → ⊥) → last_transmit < receive_word e)
receive_few None = (omega arith, λ h. absurd (h refl))
receive_few (Some (GotOk n)) = (omega arith, λ h. omega arith)
receive_few (Some (GotTooLong n)) = (omega arith, λ h. omega arith)
receive_few (Some (GotAlignment n)) = (omega arith, λ h. omega arith)
receive_few (Some (GotCheck n)) = (omega arith, λ h. omega arith)
receive_few (Some (GotLength n)) = (omega arith, λ h. omega arith)

pub zero_bounded : (ws : List ℕ) → Bounded ws 0 → Bounded ws (32 * 0)
zero_bounded ws h = h

pub zeros_bounded : Bounded (replicate word_count 0) 0
unfolding Bounded
zeros_bounded k = all_zero word_count k
  where
    all_zero : (n k : ℕ) → get_or (replicate n 0) k 0 ≤ 0
    all_zero zero k = omega arith
    all_zero (suc n) zero = omega arith
    all_zero (suc n) (suc k) = all_zero n k
