-- In place is the same as all at once: nobody reads what the same step wrote. The turns are in proofs/InPlace. Assumes
-- nothing.
use Rattle.std.specs.Prelude.{ℕ, ◌≤◌, ◌<◌, ◌≡◌, refl, List, length, Option, None, Some}
use Rattle.std.proofs.Common.{◌∙◌, arith}
use Rattle.octets.specs.BaseLaws.{by_test}
use Rattle.octets.specs.Turns.{length_turns}
use Rattle.sheet_layout.specs.declared.Figures.{Figures}
use Rattle.station_symbols.specs.declared.Heard.TheVariants.{Nothing}
use Rattle.station_spec.specs.declared.Stored.{Stored}
use Rattle.station_spec.specs.Transmit.{octets_held}
use Rattle.station_spec.specs.declared.Stepped.{Stepped}
use Rattle.area.specs.Places.{Part, clock, depth, layout, draws, counters, station, frame, buffer, place, Off, Keeps}
use Rattle.area.specs.Area.{draw_at, space_at, station_at, with_station, frame_at, buffer_at, arrival_at, with_arrival}
use Rattle.area.specs.AreaLaws.{keeps_refl, keeps_trans, draw_by, station_by, arrival_by, frame_by, buffer_by}
use Rattle.area.specs.AreaLaws.{station_keeps, counters_keeps, arrival_keeps, bit_keeps, length_station}
use Rattle.area.specs.AreaLaws.{length_counters, length_arrival, length_bit}
use Rattle.bus_spec.specs.declared.Act.{Act}
use Rattle.bus_spec.specs.BitTime.{outcome_in, act_in, with_stored, happened, with_counted, placed, settled}
use Rattle.bus_spec.specs.BitTime.{turned_in}
use Rattle.bus_spec.specs.MediumLaws.{length_pushed}
use Rattle.area.specs.Offsets.{area_size, ring, frame_room}
use Rattle.frame_build.specs.Limits.{buffer_bits}
use Rattle.sheet_layout.specs.Limits.{max_stations, max_draws}

-- a bit that the receive buffer holds
abbrev pub Kept : Option Stored → Type 0
Kept None = Unit {0}
Kept (Some s) = s.bit < buffer_bits

-- ---- lengths

pub length_stored : (i : ℕ) (o : Option Stored) (x : List ℕ) → length (with_stored i o x) ≡ length x
length_stored i None x = refl
length_stored i (Some s) x = length_bit x i s.bit s.one

pub length_counted : (i : ℕ) (o : Stepped) (x : List ℕ) → length (with_counted i o x) ≡ length x
unfolding with_counted
length_counted i o x = by_test (happened o) (λ e. rw e (length_counters x i _)) (λ e. rw e)

pub length_placed : (t i : ℕ) (o : Stepped) (x : List ℕ) → length (placed t i o x) ≡ length x
unfolding placed
length_placed t i o x =
    length_arrival (with_stored i o.stored (with_counted i o (with_station x i o.station))) i t Nothing
    ∙ length_stored i o.stored (with_counted i o (with_station x i o.station))
    ∙ length_counted i o (with_station x i o.station)
    ∙ length_station x i o.station

pub length_settled : (n t i : ℕ) (r : Act) (x : List ℕ) → length (settled n t i r x) ≡ length x
unfolding settled
length_settled n t i r x =
    length_pushed n t i r.symbol (placed t i r.outcome x) ∙ length_placed t i r.outcome x

pub length_turned : (f : Figures) (d n t : ℕ) (a : List ℕ) (k : ℕ) → length (turned_in f d n t a k) ≡ length a
unfolding turned_in
length_turned f d n t a k =
    length_turns (λ i x. settled n t i (act_in f d t a i) x) k a (λ i x. length_settled n t i (act_in f d t a i) x)

-- ---- what the writers of a step keep

-- a part that is none of station i's own
pub record Foreign (p : Part) (t i : ℕ) : Type 0 where
  pub station : Off p (station i)
  pub counters : Off p (counters i)
  pub buffer : Off p (buffer i)
  pub place : Off p (place i t)

pub stored_keeps : (p : Part) (i : ℕ) (o : Option Stored) (x : List ℕ) → Kept o → Off p (buffer i)
    → Keeps p (with_stored i o x) x
stored_keeps p i None x k q = keeps_refl p x
stored_keeps p i (Some s) x h q = bit_keeps p x i s.bit s.one h q

pub counted_keeps : (p : Part) (i : ℕ) (o : Stepped) (x : List ℕ) → Off p (counters i) → Keeps p (with_counted i o x) x
unfolding with_counted
counted_keeps p i o x q = by_test (happened o) (λ e. rw e (counters_keeps p x i _ q)) (λ e. rw e (keeps_refl p x))

pub place_keeps : (p : Part) (t i : ℕ) (o : Stepped) (x : List ℕ) → Kept o.stored → Foreign p t i
    → Keeps p (placed t i o x) x
unfolding placed
place_keeps p t i o x k q =
    let x₁ = with_station x i o.station in
    let x₂ = with_counted i o x₁ in
    let x₃ = with_stored i o.stored x₂ in
    keeps_trans p (with_arrival x₃ i t Nothing) x₃ x (arrival_keeps p x₃ i t Nothing q.place)
    (keeps_trans p x₃ x₂ x (stored_keeps p i o.stored x₂ k q.buffer)
    (keeps_trans p x₂ x₁ x (counted_keeps p i o x₁ q.counters) (station_keeps p x i o.station q.station)))

pub placed_layout : (t i : ℕ) (o : Stepped) (x : List ℕ) → i < max_stations → Kept o.stored
    → Keeps layout (placed t i o x) x
placed_layout t i o x h k =
    place_keeps layout t i o x k (record {
      station = λ p q. omega arith;
      counters = λ p q. omega arith;
      buffer = λ p q. omega arith;
      place = λ p q. omega arith;
    })

-- ---- the step

-- the layout that a step needs: at most 16 stations, no two of them at one place, none out of reach of the lines
pub record Spread (n : ℕ) (a : List ℕ) : Type 0 where
  pub few : n ≤ max_stations
  pub pos : (i j : ℕ) → i < n → j < n → (i ≡ j → ⊥) → 0 < space_at a i j
  pub near : (i j : ℕ) → i < n → j < n → space_at a i j < ring

-- x is a where the stations from k on have not had their turn in step t
pub record Ahead (t k : ℕ) (a x : List ℕ) : Type 0 where
  pub time : Keeps clock x a
  pub deep : Keeps depth x a
  pub plan : Keeps layout x a
  pub lots : Keeps draws x a
  pub frames : (i : ℕ) → i < max_stations → Keeps (frame i) x a
  pub record_of : (i : ℕ) → k ≤ i → i < max_stations → Keeps (station i) x a
  pub counts_of : (i : ℕ) → k ≤ i → i < max_stations → Keeps (counters i) x a
  pub buffer_of : (i : ℕ) → k ≤ i → i < max_stations → Keeps (buffer i) x a
  pub place_of : (i : ℕ) → k ≤ i → i < max_stations → Keeps (place i t) x a

-- a station acts by the layout, the draws, its frame, its record, what it collected and what it hears
pub act_by : (f : Figures) (d t i : ℕ) (a x : List ℕ) → i < max_stations → area_size ≤ length a → area_size ≤ length x
    → (station_at a i).draw < max_draws
    → octets_held (station_at a i).transmitter (station_at a i).frame ≤ frame_room → Keeps layout x a → Keeps draws x a
    → Keeps (frame i) x a → Keeps (station i) x a → Keeps (buffer i) x a
    → Keeps (place i t) x a → act_in f d t x i ≡ act_in f d t a i
unfolding act_in outcome_in
act_by f d t i a x hi room big hd hf plan lots frames own kept at =
    let s : station_at x i ≡ station_at a i = station_by x a i hi big room plan own in
    let b : buffer_at x i ≡ buffer_at a i = buffer_by x a i hi big room kept in
    let h : arrival_at x i t ≡ arrival_at a i t = arrival_by x a i t at in
    let w : draw_at x i (station_at a i).draw ≡ draw_at a i (station_at a i).draw = draw_by x a i
    (station_at a i).draw hi hd lots in
    let z : frame_at x i (octets_held (station_at a i).transmitter (station_at a i).frame) ≡ frame_at a i
    (octets_held (station_at a i).transmitter (station_at a i).frame) =
    frame_by x a i (octets_held (station_at a i).transmitter (station_at a i).frame) hi hf big room frames in
    rw (s, b, h, w, z)

-- a station acts the same from x as from a, where x is a but for what others have done in this step
pub same_act : (f : Figures) (d t k i : ℕ) (a x : List ℕ) → i < max_stations → k ≤ i → area_size ≤ length a
    → length x ≡ length a → (station_at a i).draw < max_draws
    → octets_held (station_at a i).transmitter (station_at a i).frame ≤ frame_room → Ahead t k a x
    → act_in f d t x i ≡ act_in f d t a i
same_act f d t k i a x hi hk room el hd hf v =
    act_by f d t i a x hi room (omega arith) hd hf v.plan v.lots (v.frames i hi) (v.record_of i hk hi)
    (v.buffer_of i hk hi) (v.place_of i hk hi)
