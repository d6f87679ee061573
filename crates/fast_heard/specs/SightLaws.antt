-- Laws of what each station hears of: one for each way through the code. Assumes nothing.
use Rattle.std.specs.Prelude.{ℕ, ◌≤◌, ◌<◌, ◌≡◌, List, ltb, get_or}
use Rattle.std.proofs.Math.Path.{sym, ap, ap₂}
use Rattle.std.proofs.Common.{◌∙◌, arith}
use borrow.Author.Tests.{eq-eqb, ne_eqb, ltb-true}
use Rattle.octets.specs.BaseLaws.{by_test}
use Rattle.octets.specs.Filled.{filled, filled_at, filled_end}
use Rattle.area_record.specs.Codec.{decoded}
use Rattle.area.specs.Area.{record_at, station_at}
use Rattle.fast_heard.specs.declared.Near.{Near}
use Rattle.fast_heard.specs.declared.Sight.{Sight}
use Rattle.fast_heard.specs.Hearing.{nearest_of, near_bit}
use Rattle.fast_heard.specs.NearLaws.{near_station}
use Rattle.fast_heard.specs.Sights.{sight_by, sight_of, unseen, blank_sight, sights_of}
use Rattle.area.specs.Offsets.{ring}
use Rattle.sheet_layout.specs.Limits.{max_stations}
use Rattle.area_record.specs.Words.{frame_word}

module _ (a : List ℕ) (n j : ℕ) (w : Near) (k : ℕ) (ew : w ≡ nearest_of a n j) (ek : k ≡ near_bit a w) where
  is_sight : sight_by a w k ≡ sight_of a n j
  unfolding sight_of
  is_sight = ap₂ (sight_by a) ew (ek ∙ ap (near_bit a) ew)

  pub sight_none : k ≡ 0 → record { near = w; bit = 0; from = 0; octets = 0 } ≡ sight_of a n j
  unfolding sight_by
  sight_none e = rw (eq-eqb k 0 e) (λ i. record { near = w; bit = sym e i; from = 0; octets = 0 }) ∙ is_sight

  sight_else : (o : ℕ) → (k ≡ 0 → ⊥) → o ≡ (station_at a w.from).frame
      → record { near = w; bit = k; from = w.from; octets = o } ≡ sight_by a w k
  unfolding sight_by
  sight_else o ne eo = rw (ne_eqb k 0 ne) (λ i. record { near = w; bit = k; from = w.from; octets = eo i })

  pub sight_some : (o : ℕ) → (k ≡ 0 → ⊥) → o ≡ get_or (record_at a w.from) frame_word 0
      → record { near = w; bit = k; from = w.from; octets = o } ≡ sight_of a n j
  unfolding station_at decoded
  sight_some o ne eo = sight_else o ne eo ∙ is_sight

  -- a bit comes from an emitter
  pub bit_near : (k ≡ 0 → ⊥) → w.d1 < ring
  unfolding near_bit
  bit_near ne = by_test (ltb w.d1 ring) (λ c. ltb-true w.d1 ring c) (λ c. absurd (ne (ek ∙ rw c)))

  pub bit_from : (k ≡ 0 → ⊥) → n ≤ max_stations → w.from < max_stations
  bit_from ne few = omega (arith, near_station a n j w ew (bit_near ne))

pub sights_end : (a : List ℕ) (n i : ℕ) (ws : List Sight) → i ≤ n → n ≤ i → ws ≡ filled unseen (sight_of a n) i
    → ws ≡ sights_of a n
unfolding sights_of
sights_end a n i ws p q r = filled_end unseen (sight_of a n) n i ws p q r

pub near_few : (a : List ℕ) (n j : ℕ) (w : Near) → n ≤ max_stations → w ≡ nearest_of a n j → w.d1 < ring
    → w.from < max_stations
near_few a n j w h e l = omega (arith, near_station a n j w e l)

pub sight_at : (a : List ℕ) (n j : ℕ) (ws : List Sight) (w : Sight) → j < n → ws ≡ sights_of a n
    → w ≡ get_or ws j blank_sight → w ≡ sight_of a n j
unfolding sights_of
sight_at a n j ws w hj es ew =
    ew ∙ ap (λ (q : List Sight). get_or q j blank_sight) es ∙ filled_at unseen (sight_of a n) n j blank_sight hj
