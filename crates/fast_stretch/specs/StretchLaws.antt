-- A law for each way through the code; what the ranges of a station give. Assumes nothing.
use Rattle.std.specs.Prelude.{ℕ, zero, suc, ◌+◌, ◌≤◌, ◌<◌, ◌≡◌, Bool, true, false, List, None}
use Rattle.std.proofs.Math.Path.{refl, sym, ap, subst}
use Rattle.std.proofs.Common.{◌∙◌, ap₂, arith}
use Rattle.octets.specs.Turns.{turns}
use Rattle.sheet_layout.specs.declared.Figures.{Figures}
use Rattle.sheet_layout.specs.CheckLaws.{Figured}
use Rattle.station_symbols.specs.declared.Heard.{Heard}
use Rattle.station_state.specs.declared.Transmitter.{Transmitter}
use Rattle.station_state.specs.declared.Transmitter.TheVariants.{NoFrame, Waiting, BackingOff, Sending, Heading}
use Rattle.station_state.specs.declared.Transmitter.TheVariants.{Jamming}
use Rattle.station_state.specs.declared.Receiver.{Receiver}
use Rattle.station_state.specs.declared.Receiver.TheVariants.{Listening, Readable, Seeking, Collecting}
use Rattle.station_state.specs.declared.Station.{Station}
use Rattle.station_state.specs.State.{number_in}
use Rattle.station_spec.specs.Receive.{row_in, bits_in, row_limit}
use Rattle.area.specs.Area.{station_at, with_station}
use Rattle.bus_spec.specs.Range.{Fine, NumberIn, FrameIn, ReceiverIn}
use Rattle.fast_plan.specs.Goes.{stored_all, went_to, station_all}
use Rattle.fast_station.specs.Forms.{hear_on, rest_on, emit_on}
use Rattle.fast_receive.specs.Received.{taken, heard_all, received_by, kept_by, calmed}
use Rattle.fast_receive.specs.ReceivedLaws.{heard_receiver, heard_octets}
use Rattle.fast_stretch.specs.Stretch.{moved_on, heard_stretch, quiet_on, quiet_stretch, Room, Movable}
use Rattle.sheet_layout.specs.Limits.{last_clock, max_stations}

-- ---- the code

-- the bits first, then the record
pub stretch_heard : (f : Figures) (e : Bool) (H : ℕ → Heard) (m j : ℕ) (x y z : List ℕ) (s t : Station) (q : Receiver)
    → j < max_stations → s ≡ station_at x j → taken q y ≡ heard_all j e H m (taken s.receiver x)
    → t ≡ moved_on f e m q s → z ≡ with_station y j t → z ≡ heard_stretch f e H m j x
unfolding heard_stretch went_to
stretch_heard f e H m j x y z s t q hj a h b c =
    let r = (station_at x j).receiver in
    let k : taken q y ≡ heard_all j e H m (taken r x) = h
    ∙ ap (λ (w : Station). heard_all j e H m (taken w.receiver x)) a in
    let d : t ≡ moved_on f e m (received_by e H m r) (station_at x j) = b
    ∙ ap₂ (moved_on f e m) (heard_receiver j e H m r q x y k) a in
    c ∙ ap₂ (λ (l : List ℕ) (w : Station). with_station l j w) (heard_octets j e H m r q x y k) d
    ∙ station_all j (kept_by e H r) m (moved_on f e m (received_by e H m r) (station_at x j)) x hj

-- nothing is stored
none_stored : (j m : ℕ) (x : List ℕ) → stored_all j (λ s. None) m x ≡ x
unfolding stored_all turns
none_stored j zero x = refl
none_stored j (suc m) x = none_stored j m x

pub stretch_quiet : (f : Figures) (e : Bool) (m j : ℕ) (x z : List ℕ) (s t : Station) → s ≡ station_at x j
    → t ≡ quiet_on f e m s → z ≡ with_station x j t → z ≡ quiet_stretch f e m j x
unfolding quiet_stretch went_to
stretch_quiet f e m j x z s t a b c =
    c ∙ ap (with_station x j) (b ∙ ap (quiet_on f e m) a)
    ∙ sym (none_stored j m (with_station x j (quiet_on f e m (station_at x j))))

-- each as a closed form that fast_plan/Goes speaks of
module _ (f : Figures) (H : ℕ → Heard) (m j : ℕ) (x : List ℕ) where
  pub stretch_hears : heard_stretch f false H m j x
      ≡ went_to j (kept_by false H (station_at x j).receiver) m
      (hear_on f m (received_by false H m (station_at x j).receiver) (station_at x j)) x
  unfolding heard_stretch moved_on
  stretch_hears = refl

  pub stretch_emits : heard_stretch f true H m j x
      ≡ went_to j (kept_by true H (station_at x j).receiver) m
      (emit_on f m (received_by true H m (station_at x j).receiver) (station_at x j)) x
  unfolding heard_stretch moved_on
  stretch_emits = refl

pub stretch_rests : (f : Figures) (m j : ℕ) (x : List ℕ)
    → quiet_stretch f false m j x ≡ went_to j (λ s. None) m (rest_on f m (station_at x j)) x
unfolding quiet_stretch quiet_on
stretch_rests f m j x = refl

pub stretch_alone : (f : Figures) (m j : ℕ) (x : List ℕ)
    → quiet_stretch f true m j x ≡ went_to j (λ s. None) m
    (emit_on f m (calmed m (station_at x j).receiver) (station_at x j)) x
unfolding quiet_stretch quiet_on
stretch_alone f m j x = refl

-- ---- room

module _ (f : Figures) (m j : ℕ) (x : List ℕ) (s : Station) (v : Movable f m x j) (a : s ≡ station_at x j) where
  room : Room f m s
  unfolding Movable
  room = subst (Room f m) (sym a) v

  pub gap_room : f.gap1 + f.gap2 < 65536
  gap_room = room.gap

  pub number_room : number_in s.transmitter + m < 4294967296
  number_room = room.number

  pub row_room : row_in s.receiver < row_limit
  row_room = room.row

  pub bits_room : bits_in s.receiver + m < 4294967296
  bits_room = room.bits

number_fine : (f : Figures) (z : ℕ) (x : Transmitter) → Figured f → NumberIn f z x → FrameIn x z → number_in x < 1048576
number_fine f z NoFrame g n w = omega arith
number_fine f z Waiting g n w = omega arith
number_fine f z (BackingOff k) g n w = omega (arith, g.slot, n.1)
number_fine f z (Sending k) g n w = omega arith
number_fine f z (Heading k) g n w = omega arith
number_fine f z (Jamming k ends) g n w = omega (arith, g.jam, n.1)

row_fine : (t : ℕ) (r : Receiver) → ReceiverIn t r → row_in r < row_limit
row_fine t Listening v = omega arith
row_fine t (Readable n) v = omega arith
row_fine t (Seeking row sp own) v = omega arith
row_fine t (Collecting n sp own) v = omega arith

bits_fine : (t : ℕ) (r : Receiver) → ReceiverIn t r → bits_in r ≤ t
bits_fine t Listening v = omega arith
bits_fine t (Readable n) v = omega arith
bits_fine t (Seeking row sp own) v = omega arith
bits_fine t (Collecting n sp own) v = v

-- a station whose record is in range can move
pub fine_movable : (f : Figures) (d t m j : ℕ) (x : List ℕ) → Figured f → Fine f d t (station_at x j)
    → t + m ≤ last_clock → Movable f m x j
unfolding Movable
fine_movable f d t m j x g v early =
    record {
      gap = omega (arith, g.gap1, g.gap2);
      number =
          omega (arith, number_fine f (station_at x j).frame (station_at x j).transmitter g v.number v.frame);
      row = row_fine t (station_at x j).receiver v.receiver;
      bits = omega (arith, bits_fine t (station_at x j).receiver v.receiver);
    }
