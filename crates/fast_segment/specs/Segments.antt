-- A segment of a window: K steps in which a station hears one kind of thing and emits throughout, or not at all. What
-- its turns by itself leave is its closed form, with the bits that it collected; it emits what the plan says and has no
-- event. Assumes nothing.
use Rattle.std.specs.Prelude.{ℕ, zero, suc, ◌+◌, ◌-◌, ◌*◌, ◌^◌, ◌≤◌, ◌<◌, ◌≡◌, refl, Bool, true, false, length, Option, None}
use Rattle.std.proofs.Common.{sym, ◌∙◌, ap₂, subst, arith}
use Rattle.std.proofs.Math.Path.{ap}
use mathlib.Core.List.{List}
use Rattle.sheet_layout.specs.declared.Figures.{Figures}
use Rattle.sheet_layout.specs.Layout.{gap_of}
use Rattle.sheet_layout.specs.CheckLaws.{Figured}
use Rattle.station_symbols.specs.declared.Heard.{Heard}
use Rattle.station_symbols.specs.declared.Heard.TheVariants.{Nothing}
use Rattle.station_symbols.specs.declared.Symbol.{Symbol}
use Rattle.station_symbols.specs.declared.Symbol.TheVariants.{Silence}
use Rattle.station_symbols.specs.declared.Emission.{Emission}
use Rattle.station_symbols.specs.declared.Emission.TheVariants.{Rest}
use Rattle.station_symbols.specs.Packet.{hears_any, symbol_of}
use Rattle.station_state.specs.declared.Deference.TheVariants.{Busy}
use Rattle.station_state.specs.declared.Transmitter.TheVariants.{Sending}
use Rattle.station_state.specs.declared.Receiver.{Receiver}
use Rattle.station_state.specs.declared.Station.{Station}
use Rattle.station_spec.specs.Transmit.{octets_held, packet_length}
use Rattle.station_spec.specs.declared.Stored.{Stored}
use Rattle.station_spec.specs.Receive.{hearing, deciding, receive, ended}
use Rattle.station_spec.specs.declared.Stepped.{Stepped}
use Rattle.station_spec.specs.Step.{stepped}
use Rattle.area_record.specs.Codec.{receiver_number}
use Rattle.area_record.specs.CodecLaws.{Fit}
use Rattle.area.specs.Area.{address_at, station_at, frame_at, buffer_at}
use Rattle.bus_spec.specs.declared.Act.{Act}
use Rattle.bus_spec.specs.BitTime.{events_of, no_events}
use Rattle.bus_spec.specs.InPlace.{Kept}
use Rattle.bus_spec.specs.Range.{Fine, fine_fit, held_small}
use Rattle.bus_quick.specs.Quick.{quietly}
use Rattle.fast_plan.specs.Own.{act_on, by_itself}
use Rattle.fast_plan.specs.Goes.{went_to, goes_on_lem, goes_there, goes_act, goes_symbol}
use Rattle.fast_plan.specs.NoEvents.{quiet_events, rest_symbol}
use Rattle.fast_plan.specs.Calm.{Calm}
use Rattle.fast_silence.specs.Rested.{Lasts}
use Rattle.fast_station.specs.Forms.{heard_rest, hear_on, rest_on, emitted_at, emits_for, emit_on}
use Rattle.fast_station.specs.FormLaws.{hear_step, hear_none, hear_address, hear_fit, rest_step, rest_none}
use Rattle.fast_station.specs.FormLaws.{rest_address, rest_fit, emit_step, emit_none, emit_address, emit_held, emit_fit}
use Rattle.fast_segment.specs.Alone.{Moves, address_in}
use Rattle.area.specs.Offsets.{area_size, frame_room}
use Rattle.frame_build.specs.Limits.{buffer_octets}
use Rattle.fast_receive.specs.Received.{calmed}
use Rattle.sheet_layout.specs.Limits.{max_stations}

-- what a segment comes to: K turns by itself leave the station q, and the bits st; it emits Q and has no event
pub record Segment (f : Figures) (D i : ℕ) (H : ℕ → Heard) (Q : ℕ → Symbol) (K : ℕ) (x : List ℕ) (st : ℕ → Option Stored)
    (q : Station) : Type 0 where
  pub leaves : by_itself f D i H K x ≡ went_to i st K q x
  pub there : station_at (by_itself f D i H K x) i ≡ q
  pub calm : Calm f D i H Q K x

-- ---- any closed form

module _ (f : Figures) (D i : ℕ) (x : List ℕ) (K : ℕ) (pos : 0 < K) (hi : i < max_stations) (room : area_size ≤ length x)
    (on : ℕ → Station) (H : ℕ → Heard) (em : ℕ → Emission) (st : ℕ → Option Stored)
    (begins : station_at x i ≡ on 0) (fit : (m : ℕ) → m ≤ K → Fit (on m))
    (address : (m : ℕ) → (on m).address ≡ address_at x i) (kept : (m : ℕ) → Kept (st m))
    (step : (m draw : ℕ) (buf : List ℕ) → m < K → (m ≡ 0 → buf ≡ buffer_at x i) → stepped f (on m) D draw buf (H m)
    ≡ quietly (on (suc m)) (em m) (st m)) where
  form_leaves : by_itself f D i H K x ≡ went_to i st K (on K) x
  form_leaves =
      let z : K ≡ suc (K - 1) = omega arith in
      ap (λ (k : ℕ). by_itself f D i H k x) z
      ∙ goes_on_lem f D i x K hi room on H em st begins fit address kept step (K - 1) (omega arith)
      ∙ ap (λ (k : ℕ). went_to i st k (on k) x) (sym z)

  form_there : station_at (by_itself f D i H K x) i ≡ on K
  form_there =
      let z : K ≡ suc (K - 1) = omega arith in
      ap (λ (k : ℕ). station_at (by_itself f D i H k x) i) z
      ∙ goes_there f D i x K hi room on H em st begins fit address kept step (K - 1) (omega arith) ∙ ap on (sym z)

  form_quiet : (s : ℕ) → s < K → events_of (act_on f D i (H s) (by_itself f D i H s x)) ≡ no_events
  form_quiet s h =
      quiet_events (act_on f D i (H s) (by_itself f D i H s x)) (on (suc s)) (em s) (st s)
      (goes_act f D i x K hi room on H em st begins fit address kept step s h)

  -- one that emits nothing
  form_rests : ((s : ℕ) → em s ≡ Rest) → Segment f D i H (λ s. Silence) K x st (on K)
  form_rests e =
      record {
        leaves = form_leaves;
        there = form_there;
        calm = record {
          emits = λ s h.
              rest_symbol f D i (H s) (by_itself f D i H s x) (on (suc s)) (st s)
              (goes_act f D i x K hi room on H em st begins fit address kept step s h
              ∙ ap (λ (w : Emission). quietly (on (suc s)) w (st s)) (e s));
          quiet = form_quiet;
        };
      }

  -- one that emits throughout, of a frame of z octets
  form_emits : (z : ℕ) → z ≤ frame_room → ((m : ℕ) → m < K → octets_held (on m).transmitter (on m).frame ≡ z)
      → Segment f D i H (λ s. symbol_of (frame_at x i z) (em s)) K x st (on K)
  form_emits z hz held =
      record {
        leaves = form_leaves;
        there = form_there;
        calm = record {
          emits = λ s h. goes_symbol f D i x K hi room on H em st begins fit address kept step s z h hz (held s h);
          quiet = form_quiet;
        };
      }

-- ---- the three kinds of segment

module _ (f : Figures) (D i t : ℕ) (x : List ℕ) (v : Moves f D i t x) (K : ℕ) (pos : 0 < K) (early : t + K < 4294967295)
    (H : ℕ → Heard) where
  s : Station
  s = station_at x i

  fits : Fit (station_at x i)
  fits = fine_fit f v.figured D t (station_at x i) v.depth.1 (omega arith) v.fine

  -- a receiver that hears others: rs m after m of them, st m what is kept of each
  module _ (e : Bool) (rs : ℕ → Receiver) (st : ℕ → Option Stored) (first : rs 0 ≡ (station_at x i).receiver)
      (kept : (m : ℕ) → Kept (st m)) (small : (m : ℕ) → m ≤ K → receiver_number (rs m) < 256 ^ 4)
      (hears : (m : ℕ) (buf : List ℕ) → m < K → receive (station_at x i).address buf (rs m) (H m) e ≡ hearing
      (rs (suc m)) (st m)) where
    -- others are heard, and the station emits nothing
    pub heard_segment : (M : ℕ) → e ≡ false → ((m : ℕ) → m < K → hears_any (H m) ≡ true) → (station_at x i).emitted ≡ false
        → K ≤ heard_rest f M (station_at x i).deference (station_at x i).transmitter
        → Segment f D i H (λ m. Silence) K x st (hear_on f K (rs K) (station_at x i))
    heard_segment M off all silent lasts =
        form_rests f D i x K pos v.index v.room (λ m. hear_on f m (rs m) (station_at x i)) H (λ m. Rest) st
        (sym (ap (λ (r : Receiver). hear_on f 0 r (station_at x i)) first ∙ hear_none f D t (station_at x i)
        v.fine silent))
        (λ m h. hear_fit f v.figured m (rs m) (station_at x i) fits (small m h))
        (λ m. hear_address f m (rs m) (station_at x i) ∙ address_in x i)
        kept
        (λ m draw buf h z. hear_step f M K m (station_at x i) D draw buf (H m) (rs m) (rs (suc m)) (st m) lasts h
        (all m h)
        (ap (receive (station_at x i).address buf (rs m) (H m)) (sym off) ∙ hears m buf h))
        (λ m. refl)

    -- the station emits throughout, whatever it hears; a sender hears nothing
    pub emit_segment : e ≡ true → (station_at x i).deference ≡ Busy true → (station_at x i).emitted ≡ true
        → K ≤ emits_for (station_at x i).frame (station_at x i).transmitter
        → ((m k : ℕ) → m < K → (station_at x i).transmitter ≡ Sending k → H m ≡ Nothing)
        → (station_at x i).frame ≤ buffer_octets
        → Segment f D i H (λ m. symbol_of (frame_at x i (station_at x i).frame)
        (emitted_at m (station_at x i).transmitter)) K x st (emit_on f K (rs K) (station_at x i))
    emit_segment on busy emitted lasts alone octets =
        form_emits f D i x K pos v.index v.room (λ m. emit_on f m (rs m) (station_at x i)) H
        (λ m. emitted_at m (station_at x i).transmitter) st
        (sym (ap (λ (r : Receiver). emit_on f 0 r (station_at x i)) first ∙ emit_none f (station_at x i)
        (omega arith) busy emitted))
        (λ m h. emit_fit f v.figured m (rs m) (station_at x i) fits (small m h) (omega arith) (omega arith))
        (λ m. emit_address f m (rs m) (station_at x i) ∙ address_in x i)
        kept
        (λ m draw buf h z. emit_step f K m (station_at x i) D draw buf (H m) (rs m) (rs (suc m)) (st m) lasts h
        (λ k q. alone m k h q)
        (ap (receive (station_at x i).address buf (rs m) (H m)) (sym on) ∙ hears m buf h))
        (station_at x i).frame (omega arith)
        (λ m h. emit_held f m (rs m) (station_at x i) (omega arith))

  -- nothing is heard, and the station emits nothing; its reception, if any, ends and reports nothing
  pub rest_segment : ((m : ℕ) → m < K → H m ≡ Nothing) → (station_at x i).emitted ≡ false
      → Lasts f K (station_at x i).deference (station_at x i).transmitter
      → ended (station_at x i).address (buffer_at x i) (station_at x i).receiver ≡ deciding
      (calmed 1 (station_at x i).receiver) None
      → Segment f D i H (λ m. Silence) K x (λ m. None) (rest_on f K (station_at x i))
  unfolding gap_of
  rest_segment none silent lasts ends =
      form_rests f D i x K pos v.index v.room (λ m. rest_on f m (station_at x i)) H (λ m. Rest) (λ m. None)
      (sym (rest_none f D t (station_at x i) v.fine silent))
      (λ m h. rest_fit f v.figured m (station_at x i) fits)
      (λ m. rest_address f m (station_at x i).receiver (station_at x i) ∙ address_in x i)
      (λ m. tt)
      (λ m draw buf h z. ap (stepped f (rest_on f m (station_at x i)) D draw buf) (none m h)
      ∙ rest_step f K m (station_at x i) D draw buf (omega (arith, v.figured.gap2)) lasts h
      (λ y. ap (λ (b : List ℕ). ended (station_at x i).address b (station_at x i).receiver) (z y) ∙ ends))
      (λ m. refl)
