-- What is read of the area after one station's turn; after the turns of all stations in proofs/After. Assumes nothing.
use Prim.Native.Nat.{ℕ, zero, suc, ◌+◌, ◌/◌, ◌%◌, ◌^◌, ◌≤◌, ◌<◌, min}
use Rattle.std.specs.Prelude.{◌≡◌, Bool, ◌||◌, length, get_or, set, Option, None, Some, is_some}
use Rattle.std.proofs.Math.Path.{refl, ap}
use Rattle.std.proofs.Common.{sym, ◌∙◌, subst, true≢false}
use Rattle.std.proofs.Math.Bool.{true, false}
use mathlib.Core.List.{List, [], ◌∷◌}
use native.Mathlib.Omega.{arith}
use Rattle.std.proofs.Math.ListN.{length-set}
use Rattle.octets.specs.Base.{pick}
use Rattle.octets.specs.BaseLaws.{by_test, neither}
use Rattle.octets.specs.WordsLaws.{Small, length_words}
use Rattle.station_symbols.specs.declared.Heard.TheVariants.{Nothing}
use Rattle.station_spec.specs.declared.ReceiveEvent.{ReceiveEvent}
use Rattle.station_spec.specs.declared.ReceiveEvent.TheVariants.{GotOk, GotTooLong, GotAlignment}
use Rattle.station_spec.specs.declared.ReceiveEvent.TheVariants.{GotCheck, GotLength}
use Rattle.station_spec.specs.declared.Stored.{Stored}
use Rattle.station_spec.specs.declared.TransmitEvent.{TransmitEvent}
use Rattle.station_spec.specs.declared.TransmitEvent.TheVariants.{Collision, Late, Sent, GivenUp}
use Rattle.station_spec.specs.declared.TransmitEvent.TheVariants.{LateEnded}
use Rattle.station_spec.specs.declared.Stepped.{Stepped}
use Rattle.station_spec.specs.Count.{added, added_if, count_sent, count_transmit, count_receive, counted}
use Rattle.area_record.specs.Codec.{encoded}
use Rattle.area_record.specs.CodecLaws.{Fit}
use Rattle.area.specs.Places.{Part, counters, station, buffer, place, Off, Keeps}
use Rattle.area.specs.Area.{counters_at, record_at, with_station, buffer_at, octet_with, symbol_at, arrival_at, with_arrival}
use Rattle.area.specs.Area.{max_code}
use Rattle.area.specs.AreaLaws.{keeps_trans, record_by, record_same, counters_by, buffer_by}
use Rattle.area.specs.AreaLaws.{station_keeps, arrival_keeps, arrival_same, bit_same, counters_same}
use Rattle.area.specs.AreaLaws.{length_station}
use Rattle.bus_spec.specs.BitTime.{with_stored, happened, with_counted, placed}
use Rattle.bus_spec.specs.InPlace.{Kept, stored_keeps, counted_keeps}
use Rattle.bus_spec.specs.InPlace.{length_placed, length_counted, length_stored}
use Rattle.area.specs.Offsets.{area_size, from, the_counters}
use Rattle.sheet_layout.specs.Limits.{max_stations}
use Rattle.station_state.specs.State.{counter_count}

-- ---- counters stay so many words

set_small : (cs : List ℕ) (k x : ℕ) → Small cs → x < 256 ^ 4 → Small (set cs k x)
set_small [] k x s h = s
set_small (c ∷ cs) zero x s h = (h, s.1)
set_small (c ∷ cs) (suc k) x s h = (s.0, set_small cs k x s.1 h)

-- what every way of counting keeps: so many words, all of them small
abbrev pub Words : List ℕ → Type 0
Words cs = (length cs ≡ counter_count) × Small cs

module _ (cs : List ℕ) where
  pub added_words : (k n : ℕ) → Words cs → Words (added cs k n)
  unfolding added
  added_words k n w = (
    length-set cs k (min (get_or cs k 0 + n) 4294967295) ∙ w.0,
    set_small cs k (min (get_or cs k 0 + n) 4294967295)
        w.1 (omega arith),
  )

  if_words : (b : Bool) (k : ℕ) → Words cs → Words (added_if b cs k)
  unfolding added_if
  if_words true k w = added_words k 1 w
  if_words false k w = w

sent_words : (cs : List ℕ) (n z : ℕ) (d : Bool) → Words cs → Words (count_sent cs n z d)
unfolding count_sent
sent_words cs n z d w = if_words _ _ 8 (if_words _ _ 6 (if_words _ _ 5 (added_words _ 7 _ (added_words cs 4 1 w))))

transmit_words : (cs : List ℕ) (e : Option TransmitEvent) (z : ℕ) (d : Bool) → Words cs → Words (count_transmit cs e z d)
unfolding count_transmit
transmit_words cs None z d w = w
transmit_words cs (Some (Collision k)) z d w = added_words cs 2 1 w
transmit_words cs (Some (Late k closes)) z d w = added_words _ 3 1 (added_words cs 2 1 w)
transmit_words cs (Some (Sent n)) z d w = sent_words cs n z d w
transmit_words cs (Some (GivenUp n)) z d w = added_words cs 9 1 w
transmit_words cs (Some (LateEnded n)) z d w = added_words cs 16 1 w

receive_words : (cs : List ℕ) (e : Option ReceiveEvent) (z : ℕ) → Words cs → Words (count_receive cs e z)
unfolding count_receive
receive_words cs None z w = w
receive_words cs (Some (GotOk n)) z w = added_words _ 11 _ (added_words cs 10 1 w)
receive_words cs (Some (GotTooLong n)) z w = added_words cs 12 1 w
receive_words cs (Some (GotAlignment n)) z w = added_words cs 14 1 w
receive_words cs (Some (GotCheck n)) z w = added_words cs 13 1 w
receive_words cs (Some (GotLength n)) z w = added_words cs 15 1 w

pub counted_words : (cs : List ℕ) (o : Stepped) → Words cs → Words (counted cs o)
unfolding counted
counted_words cs o w = receive_words _ o.got _ (transmit_words _ o.sent _ _ (if_words cs o.start 1 w))

-- a step with nothing to count counts nothing
nothing_sent : (cs : List ℕ) (e : Option TransmitEvent) (z : ℕ) (d : Bool) → is_some e ≡ false → count_transmit cs e z d ≡ cs
unfolding count_transmit
nothing_sent cs None z d h = refl
nothing_sent cs (Some (Collision k)) z d h = absurd (true≢false h)
nothing_sent cs (Some (Late k closes)) z d h = absurd (true≢false h)
nothing_sent cs (Some (Sent n)) z d h = absurd (true≢false h)
nothing_sent cs (Some (GivenUp n)) z d h = absurd (true≢false h)
nothing_sent cs (Some (LateEnded n)) z d h = absurd (true≢false h)

nothing_got : (cs : List ℕ) (e : Option ReceiveEvent) (z : ℕ) → is_some e ≡ false → count_receive cs e z ≡ cs
unfolding count_receive
nothing_got cs None z h = refl
nothing_got cs (Some (GotOk n)) z h = absurd (true≢false h)
nothing_got cs (Some (GotTooLong n)) z h = absurd (true≢false h)
nothing_got cs (Some (GotAlignment n)) z h = absurd (true≢false h)
nothing_got cs (Some (GotCheck n)) z h = absurd (true≢false h)
nothing_got cs (Some (GotLength n)) z h = absurd (true≢false h)

nothing_counted : (cs : List ℕ) (o : Stepped) → happened o ≡ false → counted cs o ≡ cs
unfolding happened counted added_if
nothing_counted cs o h =
    let p = neither o.start (is_some o.sent || is_some o.got) h in
    let q = neither (is_some o.sent) (is_some o.got) p.1 in
    nothing_got _ o.got _ q.1 ∙ nothing_sent _ o.sent _ _ q.0
    ∙ ap (λ (b : Bool). pick b (added cs 1 1) cs) p.0

-- ---- one station's turn, seen from its own parts

-- a buffer with the bit that was collected
abbrev pub stored_in : List ℕ → Option Stored → List ℕ
stored_in b None = b
stored_in b (Some s) = set b (s.bit / 8) (octet_with (get_or b (s.bit / 8) 0) (s.bit % 8) s.one)

module _ (t i : ℕ) (o : Stepped) (x : List ℕ) (hi : i < max_stations) (room : area_size ≤ length x)
    (kept : Kept o.stored) where
  x₁ : List ℕ
  x₁ = with_station x i o.station

  x₂ : List ℕ
  x₂ = with_counted i o x₁

  x₃ : List ℕ
  x₃ = with_stored i o.stored x₂

  first_length : length x₁ ≡ length x
  unfolding x₁
  first_length = length_station x i o.station

  second_length : length x₂ ≡ length x
  unfolding x₂
  second_length = length_counted i o x₁ ∙ first_length

  second_keeps : Keeps (buffer i) x₂ x
  unfolding x₂ x₁
  second_keeps =
      keeps_trans (buffer i) x₂ x₁ x (counted_keeps (buffer i) i o x₁ (λ p q. omega arith))
      (station_keeps (buffer i) x i o.station (λ p q. omega arith))

  from_counted : (p : Part) → Off p (buffer i) → Off p (place i t) → Keeps p (placed t i o x) x₂
  unfolding placed x₁ x₂ x₃
  from_counted p q h =
      keeps_trans p (with_arrival x₃ i t Nothing) x₃ x₂ (arrival_keeps p x₃ i t Nothing h)
      (stored_keeps p i o.stored x₂ kept q)

  from_station : (p : Part) → Off p (counters i) → Off p (buffer i) → Off p (place i t) → Keeps p (placed t i o x) x₁
  unfolding x₂
  from_station p c q h = keeps_trans p (placed t i o x) x₂ x₁ (from_counted p q h) (counted_keeps p i o x₁ c)

  pub placed_record : Fit o.station → record_at (placed t i o x) i ≡ encoded o.station
  unfolding x₁
  placed_record f =
      record_by (placed t i o x) x₁ i
      (from_station (station i) (λ p q. omega arith) (λ p q. omega arith) (λ p q. omega arith))
      ∙ record_same x room i o.station hi f

  -- the bit that it collected is in its buffer
  stored_there : (s : Option Stored) → Kept s → buffer_at (with_stored i s x₂) i ≡ stored_in (buffer_at x₂ i) s
  unfolding x₂
  stored_there None k = refl
  stored_there (Some s) k = bit_same x₂ (omega (arith, length_counted i o x₁, first_length)) i s.bit s.one hi k

  pub placed_buffer : buffer_at (placed t i o x) i ≡ stored_in (buffer_at x i) o.stored
  unfolding placed x₃ x₂ x₁
  placed_buffer =
      buffer_by (placed t i o x) x₃ i hi (omega (arith, length_placed t i o x))
      (omega (arith, length_stored i o.stored x₂, second_length))
      (arrival_keeps (buffer i) x₃ i t Nothing (λ p q. omega arith))
      ∙ stored_there o.stored kept
      ∙ ap (λ (b : List ℕ). stored_in b o.stored)
      (buffer_by x₂ x i hi (omega (arith, second_length)) room second_keeps)

  -- what reached it in this step is taken from its line
  pub placed_clear : arrival_at (placed t i o x) i t ≡ Nothing
  unfolding placed x₁ x₂ x₃
  placed_clear =
      arrival_same x₃ (omega (
        arith,
        length_stored i o.stored x₂,
        length_counted i o x₁,
        length_station x i
            o.station,
      )) i t t Nothing hi refl

  counted_there : Small (counters_at x₁ i) → counters_at x₂ i ≡ counted (counters_at x₁ i) o
  unfolding x₂ with_counted counters_at x₁
  counted_there s =
      let w = counted_words (counters_at x₁ i) o (length_words counter_count x₁ (from (the_counters i)), s) in
      by_test (happened o)
      (λ e. rw e (counters_same x₁ (omega (arith, length_station x i o.station)) i (counted (counters_at x₁ i) o) hi
      w.0 w.1))
      (λ e. rw e (sym (nothing_counted (counters_at x₁ i) o e)))

  own_station : Keeps (counters i) x₁ x
  unfolding x₁
  own_station = station_keeps (counters i) x i o.station (λ p q. omega arith)

  pub placed_counters : Small (counters_at x i) → counters_at (placed t i o x) i ≡ counted (counters_at x i) o
  placed_counters s =
      let e : counters_at x₁ i ≡ counters_at x i = counters_by x₁ x i own_station in
      counters_by (placed t i o x) x₂ i (from_counted (counters i) (λ p q. omega arith) (λ p q. omega arith))
      ∙ counted_there (subst Small (sym e) s) ∙ ap (λ (cs : List ℕ). counted cs o) e

-- ---- codes in the delay lines

abbrev pub Codes : ℕ → List ℕ → Type 0
Codes n x = (j u : ℕ) → j < n → symbol_at x j u ≤ max_code
