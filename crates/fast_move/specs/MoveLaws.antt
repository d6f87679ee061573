-- Laws of a station that moves on: one for each way through the code. Assumes nothing.
use Rattle.std.specs.Prelude.{ℕ, ◌+◌, ◌^◌, ◌≤◌, ◌<◌, ◌≡◌, Bool, not, ◌&&◌, List, leb, None}
use Rattle.std.proofs.Math.Path.{refl, sym, ap}
use Rattle.std.proofs.Common.{◌∙◌, true≢false, arith, leb-true}
use Rattle.std.proofs.Math.Bool.{true, false}
use Rattle.octets.specs.Base.{pick}
use Rattle.octets.specs.BaseLaws.{by_test}
use Rattle.sheet_layout.specs.declared.Figures.{Figures}
use Rattle.station_symbols.specs.declared.Heard.{Heard}
use Rattle.station_symbols.specs.declared.Heard.TheVariants.{Nothing}
use Rattle.station_symbols.specs.Packet.{hears_any}
use Rattle.station_state.specs.declared.Deference.{Deference}
use Rattle.station_state.specs.declared.Deference.TheVariants.{Quiet, Busy, Gap}
use Rattle.station_state.specs.declared.Transmitter.{Transmitter}
use Rattle.station_state.specs.declared.Transmitter.TheVariants.{NoFrame, Waiting, BackingOff, Sending, Heading}
use Rattle.station_state.specs.declared.Transmitter.TheVariants.{Jamming}
use Rattle.station_state.specs.declared.Receiver.{Receiver}
use Rattle.station_state.specs.declared.Receiver.TheVariants.{Listening, Readable, Seeking, Collecting}
use Rattle.station_state.specs.declared.Station.{Station}
use Rattle.station_spec.specs.Receive.{row_in, bits_in, hearing, deciding, receive, ended, row_limit}
use Rattle.area_record.specs.Codec.{receiver_number}
use Rattle.area.specs.Area.{address_at, buffer_at, station_at}
use Rattle.bus_spec.specs.Range.{Fine, FrameIn, ReceiverIn, fine_room, fine_fit}
use Rattle.fast_plan.specs.Own.{by_itself}
use Rattle.fast_plan.specs.Goes.{went_to}
use Rattle.fast_silence.specs.Rested.{Idle}
use Rattle.fast_silence.specs.Bound.{frames_rest, idle}
use Rattle.fast_silence.proofs.Bound.{frames_last}
use Rattle.fast_station.specs.FormLaws.{busy_own, not_sending}
use Rattle.fast_heard.specs.Hearing.{is_heard, emits}
use Rattle.fast_station.specs.Forms.{own_busy, unhurt, keeps_emitting, heard_rest, emits_for, emit_on}
use Rattle.fast_receive.specs.Received.{received_by, kept_by, spoils, line_from, bits_from, AllHeard, may_report, calmed}
use Rattle.fast_receive.specs.ReceivedLaws.{received_none, received_step, kept_by_lem, received_fits}
use Rattle.fast_receive.specs.EndLaws.{silent_ends}
use Rattle.fast_heard.specs.declared.Kind.{Kind}
use Rattle.fast_heard.specs.declared.Kind.TheVariants.{Silent, Line, From, Mixed}
use Rattle.fast_segment.specs.Alone.{Moves, address_in}
use Rattle.fast_segment.specs.Segments.{heard_segment, emit_segment, rest_segment}
use Rattle.fast_stretch.specs.Stretch.{heard_stretch, quiet_stretch, moved_on, quiet_on}
use Rattle.fast_move.specs.Move.{heard_in, rests_all, hears_all, emits_all}
use Rattle.fast_move.specs.Move.{can_move, stretched}
use Rattle.sheet_layout.specs.Limits.{last_clock}
use Rattle.frame_build.specs.Limits.{buffer_octets}

-- ---- what the tests say

both_true : (a b : Bool) → (a && b) ≡ true → (a ≡ true) × (b ≡ true)
both_true true b e = (refl, e)
both_true false b e = absurd (true≢false (sym e))

not_yes : (b : Bool) → not b ≡ true → b ≡ false
not_yes true e = absurd (true≢false (sym e))
not_yes false e = refl

is_idle : (r : Receiver) → idle r ≡ true → Idle r
unfolding idle
is_idle Listening e = tt
is_idle (Readable n) e = tt
is_idle (Seeking row sp own) e = absurd (true≢false (sym e))
is_idle (Collecting n sp own) e = absurd (true≢false (sym e))

pub frame_small : (x : Transmitter) (z : ℕ) → emits x ≡ true → FrameIn x z → z ≤ buffer_octets
frame_small NoFrame z e h = absurd (true≢false (sym e))
frame_small Waiting z e h = h.1
frame_small (BackingOff w) z e h = h.1
frame_small (Sending k) z e h = h.1
frame_small (Heading k) z e h = h.1
frame_small (Jamming k ends) z e h = h.1

idle_hears : (address buf : List ℕ) (x : Receiver) (e : Bool) → Idle x
    → receive address buf x Nothing e ≡ hearing x None
unfolding receive ended
idle_hears address buf Listening e h = refl
idle_hears address buf (Readable n) e h = refl
idle_hears address buf (Seeking row sp own) e h = absurd h
idle_hears address buf (Collecting n sp own) e h = absurd h

idle_calm : (m : ℕ) (r : Receiver) → Idle r → calmed m r ≡ r
unfolding calmed
idle_calm m Listening h = refl
idle_calm m (Readable n) h = refl
idle_calm m (Seeking row sp own) h = absurd h
idle_calm m (Collecting n sp own) h = absurd h

bits_clock : (t : ℕ) (f : Figures) (D : ℕ) (s : Station) → Fine f D t s → bits_in s.receiver ≤ t
bits_clock t f D s v = go s.receiver v.receiver
  where
    go : (r : Receiver) → ReceiverIn t r → bits_in r ≤ t
    go Listening h = omega arith
    go (Readable n) h = omega arith
    go (Seeking row sp own) h = omega arith
    go (Collecting n sp own) h = h

-- ---- m steps at once are what the station does by itself

module _ (f : Figures) (D j u : ℕ) (x : List ℕ) (v : Moves f D j u x) (m : ℕ) (pos : 0 < m)
    (early : u + m ≤ last_clock) where
  r : Receiver
  r = (station_at x j).receiver

  row : row_in (station_at x j).receiver < row_limit
  row =
      (fine_room f v.figured D u (station_at x j) v.depth.1 (omega arith) v.fine buffer_octets (omega arith)).row

  number : receiver_number (station_at x j).receiver < 256 ^ 4
  number = (fine_fit f v.figured D u (station_at x j) v.depth.1 (omega arith) v.fine).received

  module _ (H : ℕ → Heard) (all : AllHeard H m) where
    heard_all_lem : (k : ℕ) → k < m → hears_any (H k) ≡ true
    unfolding AllHeard
    heard_all_lem k h = all k h

    fewer : (k : ℕ) → k ≤ m → AllHeard H k
    unfolding AllHeard
    fewer k h i l = all i (omega arith)

    small : (e : Bool) (k : ℕ) → k ≤ m → receiver_number (received_by e H k (station_at x j).receiver) < 256 ^ 4
    small e k h =
        received_fits e H k (station_at x j).receiver (fewer k h) row
        (omega (arith, bits_clock u f D (station_at x j) v.fine)) number

    heard_once : emits (station_at x j).transmitter ≡ false → hears_all f m (station_at x j) ≡ true
        → heard_stretch f false H m j x ≡ by_itself f D j H m x
    unfolding hears_all heard_stretch moved_on
    heard_once off t =
        let p = both_true (not (station_at x j).emitted) _ t in
        sym (heard_segment f D j u x v m pos (omega arith) H false (λ k. received_by false H k (station_at x j).receiver)
        (kept_by false H (station_at x j).receiver)
        (received_none false H (station_at x j).receiver) (kept_by_lem false H (station_at x j).receiver) (small false)
        (λ k buf h. received_step false H (station_at x j).receiver k (station_at x j).address buf (heard_all_lem k h))
        m refl heard_all_lem (not_yes (station_at x j).emitted p.0) (leb-true _ _ p.1)).leaves

    emit_once : emits (station_at x j).transmitter ≡ true → emits_all m true (station_at x j) ≡ true
        → heard_stretch f true H m j x ≡ by_itself f D j H m x
    unfolding emits_all keeps_emitting unhurt heard_stretch moved_on
    emit_once on t =
        let w = both_true (keeps_emitting true (station_at x j)) _ t in
        let p = both_true (station_at x j).emitted _ w.0 in
        let q = both_true (own_busy (station_at x j).deference) _ p.1 in
        sym (emit_segment f D j u x v m pos (omega arith) H true (λ k. received_by true H k (station_at x j).receiver)
        (kept_by true H (station_at x j).receiver)
        (received_none true H (station_at x j).receiver) (kept_by_lem true H (station_at x j).receiver) (small true)
        (λ k buf h. received_step true H (station_at x j).receiver k (station_at x j).address buf (heard_all_lem k h))
        refl (busy_own (station_at x j).deference q.0) p.0 (leb-true _ _ w.1)
        (λ k i h e. absurd (not_sending (station_at x j).transmitter q.1 i e))
        (frame_small (station_at x j).transmitter (station_at x j).frame on v.fine.frame)).leaves

  quiet_end : may_report (address_at x j) (buffer_at x j) 0 (station_at x j).receiver ≡ false
      → ended (station_at x j).address (buffer_at x j) (station_at x j).receiver ≡ deciding
      (calmed 1 (station_at x j).receiver) None
  quiet_end e =
      silent_ends (station_at x j).address (buffer_at x j) 0 (station_at x j).receiver
      (ap (λ (y : List ℕ). may_report y (buffer_at x j) 0 (station_at x j).receiver) (address_in x j) ∙ e)

  rest_once : emits (station_at x j).transmitter ≡ false
      → rests_all f m (may_report (address_at x j) (buffer_at x j) 0 (station_at x j).receiver) (station_at x j) ≡ true
      → quiet_stretch f false m j x ≡ by_itself f D j (λ k. Nothing) m x
  unfolding rests_all quiet_stretch quiet_on
  rest_once off t =
      let p = both_true (not (station_at x j).emitted) _ t in
      let q = both_true (leb m (frames_rest f m (station_at x j).deference (station_at x j).transmitter)) _ p.1 in
      sym (rest_segment f D j u x v m pos (omega arith) (λ k. Nothing) (λ k h. refl)
      (not_yes (station_at x j).emitted p.0)
      (frames_last f m m (station_at x j).deference (station_at x j).transmitter pos (leb-true _ _ q.0))
      (quiet_end (not_yes _ q.1))).leaves

  go_once : emits (station_at x j).transmitter ≡ true → emits_all m false (station_at x j) ≡ true
      → quiet_stretch f true m j x ≡ by_itself f D j (λ k. Nothing) m x
  unfolding emits_all keeps_emitting unhurt quiet_stretch quiet_on
  go_once on t =
      let w = both_true (keeps_emitting false (station_at x j)) _ t in
      let p = both_true (station_at x j).emitted _ w.0 in
      let q = both_true (own_busy (station_at x j).deference) _ p.1 in
      let i : Idle (station_at x j).receiver = is_idle (station_at x j).receiver q.1 in
      ap (λ (y : Receiver). went_to j (λ k. None) m (emit_on f m y (station_at x j)) x)
      (idle_calm m (station_at x j).receiver i)
      ∙ sym (emit_segment f D j u x v m pos (omega arith) (λ k. Nothing) true (λ k. (station_at x j).receiver)
      (λ k. None) refl (λ k. tt) (λ k h. number)
      (λ k buf h. idle_hears (station_at x j).address buf (station_at x j).receiver true i)
      refl (busy_own (station_at x j).deference q.0) p.0 (leb-true _ _ w.1) (λ k y h e. refl)
      (frame_small (station_at x j).transmitter (station_at x j).frame on v.fine.frame)).leaves

  -- any kind: where it is heard, every step of it is
  pub moves_once : (K : Kind) (F : List ℕ) (b : ℕ) → (is_heard K ≡ true → AllHeard (heard_in K x j u F b) m)
      → can_move f m K x j ≡ true
      → stretched f (emits (station_at x j).transmitter) K m j x u F b ≡ by_itself f D j (heard_in K x j u F b) m x
  unfolding can_move stretched
  moves_once Silent F b all t =
      by_test (emits (station_at x j).transmitter)
      (λ e. rw e (go_once e (rw e at t)))
      (λ e. rw e (rest_once e (rw e at t)))
  moves_once Line F b all t =
      by_test (emits (station_at x j).transmitter)
      (λ e. rw e (emit_once (line_from x j u) (all refl) e (rw e at t)))
      (λ e. rw e (heard_once (line_from x j u) (all refl) e (rw e at t)))
  moves_once From F b all t =
      by_test (emits (station_at x j).transmitter)
      (λ e. rw e (emit_once (bits_from F b) (all refl) e (rw e at t)))
      (λ e. rw e (heard_once (bits_from F b) (all refl) e (rw e at t)))
  moves_once Mixed F b all t =
      by_test (emits (station_at x j).transmitter)
      (λ e. rw e (emit_once spoils (all refl) e (rw e at t)))
      (λ e. rw e (heard_once spoils (all refl) e (rw e at t)))
