-- The area as a whole: the octets that are none of the clock's and none of any station's, which no writer of these
-- parts touches; and two areas that hold the same in every part are one. Assumes nothing.
use Rattle.std.specs.Prelude.{ℕ, ◌+◌, ◌-◌, ◌/◌, ◌%◌, ◌≤◌, ◌<◌, ◌≡◌, Bool, List, ltb, length, get_or}
use Rattle.std.proofs.Math.Path.{sym}
use Rattle.std.proofs.Common.{◌∙◌, ap, arith, ltb-true, ltb-false, ext_get_or}
use Rattle.std.proofs.lemmas.List.Edits.{sets}
use Rattle.std.proofs.Math.Seq.{get_or-set_same, get_or-set_other}
use Rattle.octets.specs.BaseLaws.{by_test, by_eq}
use Rattle.octets.specs.Region.{Same, put_leaves, words_leave}
use Rattle.octets.specs.Number.{spelled, put}
use Rattle.octets.specs.NumberLaws.{length_spelled}
use Rattle.octets.specs.Store.{Apart, octet_same}
use Rattle.station_symbols.specs.declared.Heard.{Heard}
use Rattle.station_state.specs.declared.Station.{Station}
use Rattle.area_record.specs.Codec.{encoded}
use Rattle.area.specs.Offsets.{the_clock, the_counters, the_station, the_line, the_buffer, from, width, area_size}
use Rattle.area.specs.Offsets.{ring, frame_room}
use Rattle.area.specs.Places.{clock, counters, station, buffer, place, Keeps}
use Rattle.area.specs.Written.{words_over}
use Rattle.area.specs.Area.{with_clock, with_counters, with_station, octet_with, with_bit, heard_code, symbol_at}
use Rattle.area.specs.Area.{with_arrival}
use Rattle.frame_build.specs.Limits.{buffer_bits}
use Rattle.sheet_layout.specs.Limits.{max_stations}
use Rattle.station_state.specs.State.{counter_count}
use Rattle.area_record.specs.Words.{record_words}

-- an octet that is neither the clock's nor any station's, of n stations; frames are only written by offers
pub record Still (n k : ℕ) : Type 0 where
  pub clock : width the_clock ≤ k
  pub station : (i : ℕ) → i < n → Apart k 1 (from (the_station i)) (width (the_station i))
  pub counters : (i : ℕ) → i < n → Apart k 1 (from (the_counters i)) (width (the_counters i))
  pub buffer : (i : ℕ) → i < n → Apart k 1 (from (the_buffer i)) (width (the_buffer i))
  pub line : (i : ℕ) → i < n → Apart k 1 (from (the_line i)) (width (the_line i))

module _ (n k : ℕ) (still : Still n k) (x : List ℕ) where
  pub clock_still : (c : ℕ) → get_or (with_clock x c) k 0 ≡ get_or x k 0
  unfolding with_clock Same
  clock_still c = put_leaves k 1 4 0 c x (λ p q. omega (arith, still.clock)) k (omega arith) (omega arith)

  pub station_still : (i : ℕ) (s : Station) → i < n → get_or (with_station x i s) k 0 ≡ get_or x k 0
  unfolding with_station Same
  station_still i s hi =
      words_leave k 1 record_words (from (the_station i)) x (encoded s)
      (λ p q. still.station i hi (omega arith) (omega arith)) k
      (omega arith) (omega arith)

  pub counters_still : (i : ℕ) (cs : List ℕ) → i < n → get_or (with_counters x i cs) k 0 ≡ get_or x k 0
  unfolding with_counters Same
  counters_still i cs hi =
      words_leave k 1 counter_count (from (the_counters i)) x cs
      (λ p q. still.counters i hi (omega arith) (omega arith)) k (omega arith)
      (omega arith)

  pub bit_still : (i m : ℕ) (b : Bool) → i < n → m < buffer_bits → get_or (with_bit x i m b) k 0 ≡ get_or x k 0
  unfolding with_bit
  bit_still i m b hi h =
      get_or-set_other x (from (the_buffer i) + m / 8) k _ 0 (λ z. still.buffer i hi (omega arith) (omega arith))

  pub arrival_still : (i u : ℕ) (h : Heard) → i < n → get_or (with_arrival x i u h) k 0 ≡ get_or x k 0
  unfolding with_arrival
  arrival_still i u h hi =
      get_or-set_other x (from (the_line i) + u % ring) k (heard_code h) 0
      (λ z. still.line i hi (omega arith) (omega arith))

-- ---- parts written over parts that are the same

front : (v l : List ℕ) (k : ℕ) → k < length v → length v ≤ length l → get_or (sets l 0 v) k 0 ≡ get_or v k 0
front v l k h g =
    let z : k ≡ 0 + k = omega arith in ap (λ (i : ℕ). get_or (sets l 0 v) i 0) z ∙ octet_same v l 0 k h (omega arith)

-- the clock's octets go by the clock alone
pub clock_on : (x y : List ℕ) (c : ℕ) → area_size ≤ length x → area_size ≤ length y
    → Keeps clock (with_clock x c) (with_clock y c)
unfolding with_clock put Same Keeps
clock_on x y c lx ly k lo up =
    let m : length (spelled 4 c) ≡ 4 = length_spelled 4 c in
    front (spelled 4 c) x k (omega arith) (omega arith) ∙ sym (front (spelled 4 c) y k (omega arith) (omega arith))

module _ (i : ℕ) (hi : i < max_stations) (x y : List ℕ) (lx : area_size ≤ length x) (ly : area_size ≤ length y) where
  pub station_on : (s : Station) → Keeps (station i) x y → Keeps (station i) (with_station x i s) (with_station y i s)
  unfolding Keeps Same with_station
  station_on s e k lo up =
      words_over record_words x y (from (the_station i)) (encoded s) k (omega arith) (omega arith) (λ o. e k lo up)

  pub counters_on : (cs : List ℕ) → Keeps (counters i) x y
      → Keeps (counters i) (with_counters x i cs) (with_counters y i cs)
  unfolding with_counters Keeps Same
  counters_on cs e k lo up =
      words_over counter_count x y (from (the_counters i)) cs k (omega arith) (omega arith) (λ a. e k lo up)

  pub bit_on : (m : ℕ) (b : Bool) → m < buffer_bits → Keeps (buffer i) x y
      → Keeps (buffer i) (with_bit x i m b) (with_bit y i m b)
  unfolding Keeps Same with_bit
  bit_on m b h e k lo up =
      let at = from (the_buffer i) + m / 8 in
      by_eq k at
      (λ z. rw (
        z,
        get_or-set_same x at (octet_with (get_or x at 0) (m % 8) b) 0 (omega arith),
        get_or-set_same y at (octet_with (get_or y at 0) (m % 8) b) 0 (omega arith),
      )
      (ap (λ (v : ℕ). octet_with v (m % 8) b) (e at (omega arith) (omega arith))))
      (λ z. get_or-set_other x at k _ 0 z ∙ e k lo up ∙ sym (get_or-set_other y at k _ 0 z))

-- ---- two areas

by_lt : {C : Type 0} (m n : ℕ) → (m < n → C) → (n ≤ m → C) → C
by_lt m n f g = by_test (ltb m n) (λ c. f (ltb-true m n c)) (λ c. g (ltb-false m n c))

-- where an octet lies
by_part : {C : Type 0} (n k : ℕ) → n ≤ max_stations → (k < 4 → C)
    → ((i : ℕ) → i < n → from (the_counters i) ≤ k → k < from (the_counters i) + 68 → C)
    → ((i : ℕ) → i < n → from (the_station i) ≤ k → k < from (the_station i) + 64 → C)
    → ((i : ℕ) → i < n → from (the_line i) ≤ k → k < from (the_line i) + 256 → C)
    → ((i : ℕ) → i < n → from (the_buffer i) ≤ k → k < from (the_buffer i) + frame_room → C)
    → (Still n k → C) → C
by_part n k few t c s l b r =
    by_lt k 4 t
    (λ h₀. by_lt k 832 (λ h. r
    (still h₀ (λ i hi p q. omega arith) (λ i hi p q. omega arith) (λ i hi p q. omega arith)
    (λ i hi p q. omega arith)))
    (λ h₁. by_lt k (from (the_counters n)) (λ h. c ((k - 832) / 68) (omega arith) (omega arith) (omega arith))
    (λ h₂. by_lt k 2048 (λ h. r
    (still h₀ (λ i hi p q. omega arith) (λ i hi p q. omega arith) (λ i hi p q. omega arith)
    (λ i hi p q. omega arith)))
    (λ h₃. by_lt k (from (the_station n)) (λ h. s ((k - 2048) / 64) (omega arith) (omega arith) (omega arith))
    (λ h₄. by_lt k 4096 (λ h. r
    (still h₀ (λ i hi p q. omega arith) (λ i hi p q. omega arith) (λ i hi p q. omega arith)
    (λ i hi p q. omega arith)))
    (λ h₅. by_lt k (from (the_line n)) (λ h. l ((k - 4096) / 256) (omega arith) (omega arith) (omega arith))
    (λ h₆. by_lt k 32768
    (λ h. r (still h₀ (λ i hi p q. omega arith) (λ i hi p q. omega arith) (λ i hi p q. omega arith)
    (λ i hi p q. omega arith)))
    (λ h₇. by_lt k (from (the_buffer n)) (λ h. b ((k - 32768) / frame_room) (omega arith) (omega arith) (omega arith))
    (λ h. r (still h₀ (λ i hi p q. omega arith) (λ i hi p q. omega arith) (λ i hi p q. omega arith)
    (λ i hi p q. omega arith)))))))))))
  where
    still : 4 ≤ k → ((i : ℕ) → i < n → Apart k 1 (from (the_station i)) 64)
        → ((i : ℕ) → i < n → Apart k 1 (from (the_counters i)) 68)
        → ((i : ℕ) → i < n → Apart k 1 (from (the_buffer i)) frame_room)
        → ((i : ℕ) → i < n → Apart k 1 (from (the_line i)) 256) → Still n k
    still p q u v w = record { clock = p; station = q; counters = u; buffer = v; line = w }

-- a line's octets, by its places
line_octet : (i k : ℕ) (x y : List ℕ) → ((u : ℕ) → symbol_at x i u ≡ symbol_at y i u) → from (the_line i) ≤ k
    → k < from (the_line i) + 256 → get_or x k 0 ≡ get_or y k 0
unfolding symbol_at
line_octet i k x y e lo up =
    let z : from (the_line i) + (k - (from (the_line i))) % ring ≡ k = omega arith in
    ap (λ (m : ℕ). get_or x m 0) (sym z) ∙ e (k - (from (the_line i))) ∙ ap (λ (m : ℕ). get_or y m 0) z

pub area_same : (n : ℕ) (x y : List ℕ) → n ≤ max_stations → length x ≡ length y → Keeps clock x y
    → ((i : ℕ) → i < n → Keeps (station i) x y) → ((i : ℕ) → i < n → Keeps (counters i) x y)
    → ((i : ℕ) → i < n → Keeps (buffer i) x y) → ((i u : ℕ) → i < n → Keeps (place i u) x y)
    → ((k : ℕ) → Still n k → get_or x k 0 ≡ get_or y k 0) → x ≡ y
unfolding Keeps Same
area_same n x y few e t s c b l r =
    ext_get_or 0 x y e
    (λ k h. by_part n k few (λ p. t k (omega arith) p) (λ i hi lo up. c i hi k lo up) (λ i hi lo up. s i hi k lo up)
    (λ i hi lo up. line_octet i k x y (λ u. l i u hi) lo up) (λ i hi lo up. b i hi k lo up) (r k))
