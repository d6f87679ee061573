-- Many turns of a station by itself, where its state goes on in closed form and nothing is counted: the record is
-- written once, and the bits that it collected are stored. Assumes nothing.
use Prim.Native.Nat.{ℕ, zero, suc, ◌≤◌, ◌<◌}
use Rattle.std.specs.Prelude.{◌≡◌, Option, None, Some}
use Rattle.std.proofs.Math.Path.{refl, ap}
use Rattle.std.proofs.Common.{◌∙◌, arith}
use mathlib.Core.List.{List}
use Rattle.std.proofs.Math.ListN.{length}
use Rattle.octets.specs.Turns.{turns, length_turns}
use Rattle.sheet_layout.specs.declared.Figures.{Figures}
use Rattle.station_symbols.specs.declared.Heard.{Heard}
use Rattle.station_symbols.specs.declared.Emission.{Emission}
use Rattle.station_symbols.specs.Packet.{symbol_of}
use Rattle.station_spec.specs.declared.Stored.{Stored}
use Rattle.station_spec.specs.Transmit.{octets_held}
use Rattle.station_state.specs.declared.Station.{Station}
use Rattle.station_spec.specs.declared.Stepped.{Stepped}
use Rattle.station_spec.specs.Step.{stepped}
use Rattle.area_record.specs.CodecLaws.{Fit}
use Rattle.area.specs.Places.{Part, layout, station, frame, buffer, Off, Keeps}
use Rattle.area.specs.Area.{draw_at, address_at, station_at, with_station, frame_at, buffer_at}
use Rattle.area.specs.AreaLaws.{keeps_refl, keeps_trans, station_by, frame_by, station_keeps, station_same}
use Rattle.area.specs.AreaLaws.{length_station}
use Rattle.area.specs.Written.{station_over, station_bit}
use Rattle.bus_spec.specs.BitTime.{with_stored, happened, with_counted}
use Rattle.bus_spec.specs.InPlace.{Kept, length_stored, stored_keeps}
use Rattle.bus_quick.specs.Quick.{quietly}
use Rattle.fast_plan.specs.Own.{outcome_on, act_on, own_left, own_turn, by_itself}
use Rattle.area.specs.Offsets.{area_size, frame_room}
use Rattle.sheet_layout.specs.Limits.{max_stations}

-- the bits of m steps
unfoldable pub stored_all : ℕ → (ℕ → Option Stored) → (m : ℕ) → List ℕ → List ℕ
stored_all i st m x = turns (λ s y. with_stored i (st s) y) m x

-- m turns of a station whose record is then s
unfoldable pub went_to : ℕ → (ℕ → Option Stored) → (m : ℕ) → Station → List ℕ → List ℕ
went_to i st m s x = stored_all i st m (with_station x i s)

quiet_left : (i : ℕ) (s : Station) (e : Emission) (o : Option Stored) (x : List ℕ)
    → own_left i (quietly s e o) x ≡ with_stored i o (with_station x i s)
unfolding own_left with_counted happened quietly
quiet_left i s e o x = refl

pub length_all : (i : ℕ) (st : ℕ → Option Stored) (m : ℕ) (x : List ℕ) → length (stored_all i st m x) ≡ length x
unfolding stored_all
length_all i st m x = length_turns _ m x (λ s y. length_stored i (st s) y)

pub all_keeps : (p : Part) (i : ℕ) (st : ℕ → Option Stored) (m : ℕ) (x : List ℕ) → ((s : ℕ) → Kept (st s)) → Off p (buffer i)
    → Keeps p (stored_all i st m x) x
unfolding stored_all turns
all_keeps p i st zero x k o = keeps_refl p x
all_keeps p i st (suc m) x k o = keeps_trans p (stored_all i st (suc m) x) (stored_all i st m x) x
    (stored_keeps p i (st m) (stored_all i st m x) (k m) o) (all_keeps p i st m x k o)

-- a record written before or after
station_stored : (i : ℕ) (o : Option Stored) (s : Station) (x : List ℕ) → i < max_stations
    → with_station (with_stored i o x) i s ≡ with_stored i o (with_station x i s)
station_stored i None s x hi = refl
station_stored i (Some b) s x hi = station_bit x i hi s b.bit b.one

pub station_all : (i : ℕ) (st : ℕ → Option Stored) (m : ℕ) (s : Station) (x : List ℕ) → i < max_stations
    → with_station (stored_all i st m x) i s ≡ stored_all i st m (with_station x i s)
unfolding stored_all turns
station_all i st zero s x hi = refl
station_all i st (suc m) s x hi =
    station_stored i (st m) s (stored_all i st m x) hi ∙ ap (with_stored i (st m)) (station_all i st m s x hi)

module _ (f : Figures) (d i : ℕ) (a : List ℕ) (K : ℕ) (hi : i < max_stations) (room : area_size ≤ length a)
    (on : ℕ → Station) (H : ℕ → Heard) (em : ℕ → Emission) (st : ℕ → Option Stored)
    (begins : station_at a i ≡ on 0) (fit : (m : ℕ) → m ≤ K → Fit (on m))
    (address : (m : ℕ) → (on m).address ≡ address_at a i) (kept : (m : ℕ) → Kept (st m))
    (step : (m draw : ℕ) (buf : List ℕ) → m < K → (m ≡ 0 → buf ≡ buffer_at a i) → stepped f (on m) d draw buf (H m)
    ≡ quietly (on (suc m)) (em m) (st m)) where
  after : ℕ → List ℕ
  after m = stored_all i st m (with_station a i (on m))

  there : (m : ℕ) → m ≤ K → station_at (after m) i ≡ on m
  unfolding after
  there m h =
      let y = with_station a i (on m) in
      let ly : area_size ≤ length y = omega (arith, length_station a i (on m)) in
      station_by (stored_all i st m y) y i hi (omega (arith, length_all i st m y)) ly
      (all_keeps layout i st m y kept (λ p q. omega arith))
      (all_keeps (station i) i st m y kept (λ p q. omega arith))
      ∙ station_same a room i (on m) hi (fit m h) (address m)

  -- in the first turn the buffer is what it was
  First : ℕ → List ℕ → Type 0
  First m x = m ≡ 0 → buffer_at x i ≡ buffer_at a i

  not_first : (m : ℕ) (x : List ℕ) → First (suc m) x
  unfolding First
  not_first m x z = absurd (omega arith)

  is_first : First 0 a
  unfolding First
  is_first z = refl

  outcome_by : (m : ℕ) (x : List ℕ) → m < K → station_at x i ≡ on m → First m x
      → (act_on f d i (H m) x).outcome ≡ quietly (on (suc m)) (em m) (st m)
  unfolding act_on outcome_on First
  outcome_by m x h e z =
      ap (λ (s : Station). stepped f s d (draw_at x i s.draw) (buffer_at x i) (H m)) e
      ∙ step m (draw_at x i (on m).draw) (buffer_at x i) h z

  turn_by : (m : ℕ) (x : List ℕ) → m < K → station_at x i ≡ on m → First m x
      → own_turn f d i (H m) x ≡ with_stored i (st m) (with_station x i (on (suc m)))
  unfolding own_turn
  turn_by m x h e z =
      ap (λ (o : Stepped). own_left i o x) (outcome_by m x h e z) ∙ quiet_left i (on (suc m)) (em m) (st m) x

  pub goes_on_lem : (m : ℕ) → suc m ≤ K → by_itself f d i H (suc m) a ≡ went_to i st (suc m) (on (suc m)) a
  unfolding by_itself turns stored_all after went_to
  goes_on_lem zero h = turn_by 0 a h begins is_first
  goes_on_lem (suc m) h =
      ap (own_turn f d i (H (suc m))) (goes_on_lem m (omega arith))
      ∙ turn_by (suc m) (after (suc m)) h (there (suc m) (omega arith)) (not_first m (after (suc m)))
      ∙ ap (with_stored i (st (suc m)))
      (station_all i st (suc m) (on (suc (suc m))) (with_station a i (on (suc m))) hi
      ∙ ap (stored_all i st (suc m)) (station_over a i hi (on (suc (suc m))) (on (suc m)) room))

  -- the station then
  pub goes_there : (m : ℕ) → suc m ≤ K → station_at (by_itself f d i H (suc m) a) i ≡ on (suc m)
  unfolding went_to after
  goes_there m h = ap (λ (x : List ℕ). station_at x i) (goes_on_lem m h) ∙ there (suc m) h

  pub goes_act : (m : ℕ) → m < K
      → (act_on f d i (H m) (by_itself f d i H m a)).outcome ≡ quietly (on (suc m)) (em m) (st m)
  unfolding by_itself turns after went_to
  goes_act zero h = outcome_by 0 a h begins is_first
  goes_act (suc m) h =
      ap (λ (x : List ℕ). (act_on f d i (H (suc m)) x).outcome) (goes_on_lem m (omega arith))
      ∙ outcome_by (suc m) (after (suc m)) h (there (suc m) (omega arith)) (not_first m (after (suc m)))

  frame_after : (m z : ℕ) → z ≤ frame_room → frame_at (after m) i z ≡ frame_at a i z
  unfolding after
  frame_after m z hz =
      let y = with_station a i (on m) in
      let ly : area_size ≤ length y = omega (arith, length_station a i (on m)) in
      frame_by (stored_all i st m y) a i z hi hz (omega (arith, length_all i st m y)) room
      (keeps_trans (frame i) (stored_all i st m y) y a (all_keeps (frame i) i st m y kept (λ p q. omega arith))
      (station_keeps (frame i) a i (on m) (λ p q. omega arith)))

  symbol_by : (m : ℕ) (x : List ℕ) → m < K → station_at x i ≡ on m → First m x
      → (act_on f d i (H m) x).symbol ≡ symbol_of (frame_at x i (octets_held (on m).transmitter (on m).frame)) (em m)
  unfolding act_on outcome_on quietly First
  symbol_by m x h e z =
      ap (λ (o : Stepped). symbol_of (frame_at x i (octets_held (station_at x i).transmitter (station_at x i).frame))
      o.emission)
      (ap (λ (s : Station). stepped f s d (draw_at x i s.draw) (buffer_at x i) (H m)) e ∙ step m
      (draw_at x i (on m).draw) (buffer_at x i) h z)
      ∙ ap (λ (s : Station). symbol_of (frame_at x i (octets_held s.transmitter s.frame)) (em m)) e

  pub goes_symbol : (m z : ℕ) → m < K → z ≤ frame_room → octets_held (on m).transmitter (on m).frame ≡ z
      → (act_on f d i (H m) (by_itself f d i H m a)).symbol ≡ symbol_of (frame_at a i z) (em m)
  unfolding by_itself turns after went_to
  goes_symbol zero z h hz e = symbol_by 0 a h begins is_first ∙ ap (λ (w : ℕ). symbol_of (frame_at a i w) (em 0)) e
  goes_symbol (suc m) z h hz e =
      ap (λ (x : List ℕ). (act_on f d i (H (suc m)) x).symbol) (goes_on_lem m (omega arith))
      ∙ symbol_by (suc m) (after (suc m)) h (there (suc m) (omega arith)) (not_first m (after (suc m)))
      ∙ ap (λ (w : ℕ). symbol_of (frame_at (after (suc m)) i w) (em (suc m))) e
      ∙ ap (λ (l : List ℕ). symbol_of l (em (suc m))) (frame_after (suc m) z hz)
