-- What is foreseen of a station in a window: that it goes on emitting, or starts nothing, and reports nothing, as long
-- as its deference, its wait and its reception allow. Assumes nothing.
use Prim.Native.Nat.{ℕ, zero, suc, ◌+◌, ◌-◌, ◌^◌, ◌≤◌, ◌<◌}
use Rattle.std.specs.Prelude.{◌≡◌, Bool, ◌||◌, ltb, Option, None}
use Rattle.std.proofs.Math.Path.{refl, ap, subst}
use Rattle.std.proofs.Common.{sym, ◌∙◌, true≢false, ltb-true, ne_eqb}
use Rattle.std.proofs.Math.Bool.{true, false}
use mathlib.Core.List.{List}
use native.Mathlib.Omega.{arith}
use Rattle.std.proofs.Math.ListN.{length}
use Rattle.octets.specs.BaseLaws.{by_test}
use Rattle.sheet_layout.specs.declared.Figures.{Figures}
use Rattle.station_symbols.specs.declared.Heard.{Heard}
use Rattle.station_symbols.specs.declared.Heard.TheVariants.{Nothing}
use Rattle.station_symbols.specs.declared.Symbol.TheVariants.{Silence}
use Rattle.station_symbols.specs.Packet.{hears_any, symbol_of}
use Rattle.station_state.specs.declared.Deference.{Deference}
use Rattle.station_state.specs.declared.Deference.TheVariants.{Busy}
use Rattle.station_state.specs.declared.Transmitter.{Transmitter}
use Rattle.station_state.specs.declared.Transmitter.TheVariants.{NoFrame, Waiting, BackingOff, Sending, Heading}
use Rattle.station_state.specs.declared.Transmitter.TheVariants.{Jamming}
use Rattle.station_state.specs.declared.Receiver.{Receiver}
use Rattle.station_state.specs.declared.Receiver.TheVariants.{Listening, Readable, Seeking, Collecting}
use Rattle.station_state.specs.declared.Station.{Station}
use Rattle.station_spec.specs.Transmit.{octets_held}
use Rattle.station_spec.specs.declared.Stored.{Stored}
use Rattle.station_spec.specs.Receive.{bits_in, row_in, hearing, deciding, receive, ended, row_limit}
use Rattle.area_record.specs.Codec.{receiver_number}
use Rattle.area.specs.Area.{clock_at, depth_at, figures_at, count_at, station_at, frame_at, buffer_at, with_station}
use Rattle.area.specs.Places.{buffer}
use Rattle.area.specs.AreaLaws.{buffer_by, station_keeps, length_station}
use Rattle.bus_spec.specs.Range.{ReceiverIn, fine_fit, fine_room}
use Rattle.bus_spec.specs.Ready.{Readiness}
use Rattle.fast_plan.specs.Own.{by_itself, by_itself_none, itself_split}
use Rattle.fast_plan.specs.Plan.{hears}
use Rattle.fast_plan.specs.Goes.{went_to}
use Rattle.fast_plan.specs.Calm.{Calm, calm_none, calm_then}
use Rattle.fast_silence.specs.Rested.{rested_deference, rested_transmitter, Lasts, Idle}
use Rattle.fast_station.specs.Forms.{made, heard_deference, heard_rest, hear_on, rest_on, emitted_at, emits_for, emit_on}
use Rattle.fast_station.specs.FormLaws.{hear_address}
use Rattle.fast_receive.specs.Received.{received_by, kept_by, AllHeard, may_report, calmed}
use Rattle.fast_receive.specs.ReceivedLaws.{received_none, received_step, kept_by_lem, received_range, received_fits}
use Rattle.fast_receive.specs.EndLaws.{may_few, silent_ends, silent_still}
use Rattle.fast_segment.specs.Alone.{Moves, itself_moves}
use Rattle.fast_segment.specs.Segments.{Segment, heard_segment, emit_segment, rest_segment}
use Rattle.fast_heard.specs.Hearing.{plan_of, emits_at, held_at, goes_on}
use Rattle.fast_heard.specs.NearLaws.{silent_off}
use Rattle.sheet_layout.specs.Limits.{last_clock}
use Rattle.area.specs.Offsets.{area_size}
use Rattle.frame_build.specs.Limits.{buffer_octets, shortest_frame}

calm_bits : (m : ℕ) (r : Receiver) → 0 < m → bits_in (calmed m r) ≡ 0
unfolding calmed
calm_bits (suc m) Listening h = refl
calm_bits (suc m) (Readable n) h = refl
calm_bits (suc m) (Seeking row sp own) h = rw (ne_eqb (suc m) 0 (λ z. omega arith)) refl
calm_bits (suc m) (Collecting n sp own) h = rw (ne_eqb (suc m) 0 (λ z. omega arith)) refl
calm_bits zero r h = absurd (omega arith)

pub bits_clock : (t : ℕ) (r : Receiver) → ReceiverIn t r → bits_in r ≤ t
bits_clock t Listening h = omega arith
bits_clock t (Readable n) h = omega arith
bits_clock t (Seeking row sp own) h = omega arith
bits_clock t (Collecting n sp own) h = h

may_same : {address address' buf buf' : List ℕ} {n n' : ℕ} {r r' : Receiver} → address ≡ address' → buf ≡ buf' → n ≡ n'
    → r ≡ r' → may_report address buf n r ≡ may_report address' buf' n' r'
may_same p q e h = λ i. may_report (p i) (q i) (e i) (h i)

module _ (f : Figures) (m : ℕ) (r : Receiver) (s : Station) where
  heard_deference_lem : (hear_on f m r s).deference ≡ heard_deference f m s.deference
  unfolding hear_on made
  heard_deference_lem = refl

  heard_transmitter : (hear_on f m r s).transmitter ≡ rested_transmitter m s.transmitter
  unfolding hear_on made
  heard_transmitter = refl

  heard_silent : (hear_on f m r s).emitted ≡ false
  unfolding hear_on made
  heard_silent = refl

  heard_receiver : (hear_on f m r s).receiver ≡ r
  unfolding hear_on made
  heard_receiver = refl

  rest_deference : (rest_on f m s).deference ≡ rested_deference f m s.deference
  unfolding rest_on made
  rest_deference = refl

  rest_transmitter : (rest_on f m s).transmitter ≡ rested_transmitter m s.transmitter
  unfolding rest_on made
  rest_transmitter = refl

  rest_silent : (rest_on f m s).emitted ≡ false
  unfolding rest_on made
  rest_silent = refl

  rest_receiver : (rest_on f m s).receiver ≡ calmed m s.receiver
  unfolding rest_on made
  rest_receiver = refl

module _ (a : List ℕ) (r : Readiness a) (j : ℕ) (hj : j < count_at a) where
  pub starts_moving : Moves (figures_at a) (depth_at a) j (clock_at a) a
  starts_moving =
      record {
        figured = r.figures;
        depth = r.depth;
        index = omega (arith, r.spread.few);
        room = r.long;
        fine = r.fine j hj;
      }

  -- station j after s steps by itself
  abbrev pub after : ℕ → List ℕ
  after s = by_itself (figures_at a) (depth_at a) j (hears a (plan_of a) j) s a

  moves : (s : ℕ) → clock_at a + s ≤ last_clock → Moves (figures_at a) (depth_at a) j (clock_at a + s) (after s)
  moves s h =
      itself_moves (figures_at a) (depth_at a) j (hears a (plan_of a) j) s (clock_at a) a (omega arith) starts_moving

  -- ---- a station that emits nothing

  -- for s steps it emits nothing and has no event; then its deference is d, its transmitter x, it has collected at most
  -- q bits, and, where b says so, its reception may not report, however many of M steps it lasts
  pub record Foreseen (M s : ℕ) (d : Deference) (x : Transmitter) (q : ℕ) (b : Bool) : Type 0 where
    pub calm : Calm (figures_at a) (depth_at a) j (hears a (plan_of a) j) (plan_of a j) s a
    pub deference : (station_at (after s) j).deference ≡ d
    pub transmitter : (station_at (after s) j).transmitter ≡ x
    pub silent : (station_at (after s) j).emitted ≡ false
    pub bits : bits_in (station_at (after s) j).receiver ≤ q
    pub harmless : b ≡ true
        → may_report (station_at (after s) j).address (buffer_at (after s) j) (M - s) (station_at (after s) j).receiver
        ≡ false

  pub foreseen_start : (M : ℕ) (b : Bool) → (station_at a j).emitted ≡ false
      → (b ≡ true → may_report (station_at a j).address (buffer_at a j) M (station_at a j).receiver ≡ false)
      → Foreseen M 0 (station_at a j).deference (station_at a j).transmitter (bits_in (station_at a j).receiver) b
  foreseen_start M b e h =
      let z : by_itself (figures_at a) (depth_at a) j (hears a (plan_of a) j) 0 a ≡ a = by_itself_none (figures_at a)
      (depth_at a) j (hears a (plan_of a) j) a in
      record {
        calm = calm_none (figures_at a) (depth_at a) j (hears a (plan_of a) j) (plan_of a j) a;
        deference = ap (λ (x : List ℕ). (station_at x j).deference) z;
        transmitter = ap (λ (x : List ℕ). (station_at x j).transmitter) z;
        silent = ap (λ (x : List ℕ). (station_at x j).emitted) z ∙ e;
        bits =
            subst (λ (x : List ℕ). bits_in (station_at x j).receiver ≤ bits_in (station_at a j).receiver) (sym z)
            (omega arith);
        harmless =
            λ c. let n : M - 0 ≡ M = omega arith in may_same (ap (λ (x : List ℕ). (station_at x j).address) z)
            (ap (λ (x : List ℕ). buffer_at x j) z) n (ap (λ (x : List ℕ). (station_at x j).receiver) z) ∙ h c;
      }

  -- a record written leaves the octets collected as they are
  same_buffer : (x : List ℕ) (u : Station) → area_size ≤ length x → buffer_at (with_station x j u) j ≡ buffer_at x j
  same_buffer x u room =
      buffer_by (with_station x j u) x j (omega (arith, r.spread.few)) (omega (arith, length_station x j u)) room
      (station_keeps (buffer j) x j u (λ p q. omega arith))

  -- s steps, and m more
  split : (s m : ℕ) → after (s + m) ≡ by_itself (figures_at a) (depth_at a) j (λ k. hears a (plan_of a) j (s + k)) m
      (after s)
  split s m = itself_split (figures_at a) (depth_at a) j (hears a (plan_of a) j) s m a

  module _ (off : emits_at a j ≡ false) (s m : ℕ) (pos : 0 < m) (early : clock_at a + (s + m) ≤ last_clock) where
    H : ℕ → Heard
    H k = hears a (plan_of a) j (s + k)

    silence : (k : ℕ) → Silence ≡ plan_of a j (s + k)
    silence k = sym (silent_off a j (s + k) off)

    calm_on : (q : Station) (st : ℕ → Option Stored) → Calm (figures_at a) (depth_at a) j (hears a (plan_of a) j) (plan_of a j) s a
        → Segment (figures_at a) (depth_at a) j H (λ k. Silence) m (after s) st q
        → Calm (figures_at a) (depth_at a) j (hears a (plan_of a) j) (plan_of a j) (s + m) a
    unfolding H
    calm_on q st c g =
        calm_then (figures_at a) (depth_at a) j (hears a (plan_of a) j) (plan_of a j) a s m c
        (record { emits = λ k h. g.calm.emits k h ∙ silence k; quiet = g.calm.quiet })

    then_is : (q : Station) (st : ℕ → Option Stored) → Segment (figures_at a) (depth_at a) j H (λ k. Silence) m (after s) st q
        → station_at (after (s + m)) j ≡ q
    unfolding H
    then_is q st g = ap (λ (x : List ℕ). station_at x j) (split s m) ∙ g.there

    module _ (M : ℕ) (d : Deference) (x : Transmitter) (q : ℕ) (b : Bool) (v : Foreseen M s d x q b) where
      now : Station
      now = station_at (after s) j

      range : row_in (station_at (after s) j).receiver < row_limit
      range =
          (fine_room (figures_at a) r.figures (depth_at a) (clock_at a + s) (station_at (after s) j) r.depth.1
          (omega arith) (moves s (omega arith)).fine buffer_octets (omega arith)).row

      small : receiver_number (station_at (after s) j).receiver < 256 ^ 4
      small =
          (fine_fit (figures_at a) r.figures (depth_at a) (clock_at a + s) (station_at (after s) j) r.depth.1
          (omega arith) (moves s (omega arith)).fine).received

      collected : bits_in (station_at (after s) j).receiver ≤ last_clock
      collected =
          omega (
            arith,
            bits_clock (clock_at a + s) (station_at (after s) j).receiver
                (moves s (omega arith)).fine.receiver,
          )

      -- others are heard for m steps more
      pub foreseen_heard : (n : ℕ) → ((k : ℕ) → k < m → hears_any (hears a (plan_of a) j (s + k)) ≡ true)
          → m ≤ heard_rest (figures_at a) n d x → s + m ≤ M
          → Foreseen M (s + m) (heard_deference (figures_at a) m d) (rested_transmitter m x) (q + m) b
      unfolding H AllHeard went_to
      foreseen_heard n all lasts within =
          let u = station_at (after s) j in
          let rs : ℕ → Receiver = λ k. received_by false H k u.receiver in
          let st : ℕ → Option Stored = kept_by false H u.receiver in
          let g : Segment (figures_at a) (depth_at a) j H (λ k. Silence) m (after s) st
          (hear_on (figures_at a) m (rs m) u) =
          heard_segment (figures_at a) (depth_at a) j (clock_at a + s) (after s) (moves s (omega arith)) m pos
          (omega arith) H false rs st
          (received_none false H u.receiver) (kept_by_lem false H u.receiver)
          (λ k h. received_fits false H k u.receiver (λ i l. all i (omega arith)) range
          (omega (arith, collected)) small)
          (λ k buf h. received_step false H u.receiver k u.address buf (all k h))
          n refl all v.silent (subst (λ (y : Deference). m ≤ heard_rest (figures_at a) n y u.transmitter)
          (sym v.deference) (subst (λ (y : Transmitter). m ≤ heard_rest (figures_at a) n d y)
          (sym v.transmitter) lasts)) in
          let e : station_at (after (s + m)) j ≡ hear_on (figures_at a) m (rs m) u = then_is
          (hear_on (figures_at a) m (rs m) u) st g in
          let b : bits_in (rs m) ≤ bits_in u.receiver + m = (received_range false H m u.receiver all range).1 in
          record {
            calm = calm_on (hear_on (figures_at a) m (rs m) u) st v.calm g;
            deference = ap (λ (y : Station). y.deference) e ∙ heard_deference_lem (figures_at a) m (rs m) u
                ∙ ap (heard_deference (figures_at a) m) v.deference;
            transmitter = ap (λ (y : Station). y.transmitter) e ∙ heard_transmitter (figures_at a) m (rs m) u
                ∙ ap (rested_transmitter m) v.transmitter;
            silent = ap (λ (y : Station). y.emitted) e ∙ heard_silent (figures_at a) m (rs m) u;
            bits = subst (λ (y : Receiver). bits_in y ≤ q + m)
                (sym (ap (λ (y : Station). y.receiver) e ∙ heard_receiver (figures_at a) m (rs m) u))
                (omega (arith, v.bits));
            harmless = λ c.
                let w = with_station (after s) j (hear_on (figures_at a) m (rs m) u) in
                let long : area_size ≤ length (after s) = (moves s (omega arith)).room in
                let n : M - (s + m) ≡ M - s - m = omega arith in
                may_same (ap (λ (y : Station). y.address) e ∙ hear_address (figures_at a) m (rs m) u)
                (ap (λ (y : List ℕ). buffer_at y j) (split s m ∙ g.leaves)) n
                (ap (λ (y : Station). y.receiver) e ∙ heard_receiver (figures_at a) m (rs m) u)
                ∙ silent_still u.address j false H m (M - s) w (omega (arith, r.spread.few))
                (omega (arith, length_station (after s) j (hear_on (figures_at a) m (rs m) u))) all (omega arith)
                u.receiver range
                (ap (λ (y : List ℕ). may_report u.address y (M - s) u.receiver)
                (same_buffer (after s) (hear_on (figures_at a) m (rs m) u) long) ∙ v.harmless c);
          }

      -- the reception ends and reports nothing: it may not, or what was collected is too little
      ends_silent : (b || ltb q shortest_frame) ≡ true
          → ended (station_at (after s) j).address (buffer_at (after s) j) (station_at (after s) j).receiver ≡ deciding
          (calmed 1 (station_at (after s) j).receiver) None
      ends_silent h =
          let u = station_at (after s) j in
          by_test b
          (λ c. silent_ends u.address (buffer_at (after s) j) (M - s) u.receiver (v.harmless c))
          (λ c. let few : q < shortest_frame = ltb-true q shortest_frame (rw c at h) in
          silent_ends u.address (buffer_at (after s) j) 0 u.receiver
          (may_few u.address (buffer_at (after s) j) 0 u.receiver (omega (arith, v.bits))))

      -- nothing is heard for m steps more
      pub foreseen_rest : ((k : ℕ) → k < m → hears a (plan_of a) j (s + k) ≡ Nothing) → Lasts (figures_at a) m d x
          → (b || ltb q shortest_frame) ≡ true
          → Foreseen M (s + m) (rested_deference (figures_at a) m d) (rested_transmitter m x) 0 false
      unfolding H
      foreseen_rest none lasts few =
          let u = station_at (after s) j in
          let g : Segment (figures_at a) (depth_at a) j H (λ k. Silence) m (after s) (λ k. None)
          (rest_on (figures_at a) m u) =
          rest_segment (figures_at a) (depth_at a) j (clock_at a + s) (after s) (moves s (omega arith)) m pos
          (omega arith) H none v.silent
          (subst (λ (y : Deference). Lasts (figures_at a) m y u.transmitter) (sym v.deference)
          (subst (λ (y : Transmitter). Lasts (figures_at a) m d y) (sym v.transmitter) lasts))
          (ends_silent few) in
          let e : station_at (after (s + m)) j ≡ rest_on (figures_at a) m u = then_is (rest_on (figures_at a) m u)
          (λ k. None) g in
          record {
            calm = calm_on (rest_on (figures_at a) m u) (λ k. None) v.calm g;
            deference = ap (λ (y : Station). y.deference) e ∙ rest_deference (figures_at a) m u.receiver u
                ∙ ap (rested_deference (figures_at a) m) v.deference;
            transmitter = ap (λ (y : Station). y.transmitter) e ∙ rest_transmitter (figures_at a) m u.receiver u
                ∙ ap (rested_transmitter m) v.transmitter;
            silent = ap (λ (y : Station). y.emitted) e ∙ rest_silent (figures_at a) m u.receiver u;
            bits = subst (λ (y : Receiver). bits_in y ≤ 0)
                (sym (ap (λ (y : Station). y.receiver) e ∙ rest_receiver (figures_at a) m u.receiver u))
                (omega (arith, calm_bits m u.receiver pos));
            harmless = λ c. absurd (true≢false (sym c));
          }

  -- ---- a station that emits

  idle_hears : (address buf : List ℕ) (x : Receiver) (e : Bool) → Idle x
      → receive address buf x Nothing e ≡ hearing x None
  unfolding receive ended
  idle_hears address buf Listening e h = refl
  idle_hears address buf (Readable n) e h = refl
  idle_hears address buf (Seeking row sp own) e h = absurd h
  idle_hears address buf (Collecting n sp own) e h = absurd h

  plan_emitted : (F : List ℕ) (x : Transmitter) (k : ℕ) → symbol_of F (emitted_at k x) ≡ symbol_of F (goes_on x k)
  unfolding emitted_at
  plan_emitted F NoFrame k = refl
  plan_emitted F Waiting k = refl
  plan_emitted F (BackingOff w) k = refl
  plan_emitted F (Sending i) k = refl
  plan_emitted F (Heading i) k = refl
  plan_emitted F (Jamming i ends) k = refl

  held_is : (x : Transmitter) (z : ℕ) → 0 < emits_for z x → octets_held x z ≡ z
  unfolding emits_for
  held_is NoFrame z h = absurd (omega arith)
  held_is Waiting z h = refl
  held_is (BackingOff w) z h = refl
  held_is (Sending k) z h = refl
  held_is (Heading k) z h = refl
  held_is (Jamming k ends) z h = refl

  module _ (m : ℕ) (pos : 0 < m) (early : clock_at a + m ≤ last_clock) (busy : (station_at a j).deference ≡ Busy true)
      (on : (station_at a j).emitted ≡ true)
      (lasts : m ≤ emits_for (station_at a j).frame (station_at a j).transmitter)
      (octets : (station_at a j).frame ≤ buffer_octets) where
    as_planned : (k : ℕ) → symbol_of (frame_at a j (station_at a j).frame) (emitted_at k (station_at a j).transmitter)
        ≡ plan_of a j k
    unfolding plan_of held_at
    as_planned k =
        ap (λ (z : ℕ). symbol_of (frame_at a j z) (emitted_at k (station_at a j).transmitter))
        (sym (held_is (station_at a j).transmitter (station_at a j).frame (omega arith)))
        ∙ plan_emitted (frame_at a j (octets_held (station_at a j).transmitter (station_at a j).frame))
        (station_at a j).transmitter k

    calm_by : (st : ℕ → Option Stored) (q : Station)
        → Segment (figures_at a) (depth_at a) j (hears a (plan_of a) j)
        (λ k. symbol_of (frame_at a j (station_at a j).frame) (emitted_at k (station_at a j).transmitter)) m a st q
        → Calm (figures_at a) (depth_at a) j (hears a (plan_of a) j) (plan_of a j) m a
    calm_by st q g = record { emits = λ k h. g.calm.emits k h ∙ as_planned k; quiet = g.calm.quiet }

    -- it hears nothing
    pub emits_unheard : ((k : ℕ) → k < m → hears a (plan_of a) j k ≡ Nothing) → Idle (station_at a j).receiver
        → Calm (figures_at a) (depth_at a) j (hears a (plan_of a) j) (plan_of a j) m a
    emits_unheard none idle =
        let u = station_at a j in
        calm_by (λ k. None) (emit_on (figures_at a) m u.receiver u)
        (emit_segment (figures_at a) (depth_at a) j (clock_at a) a starts_moving m pos (omega arith)
        (hears a (plan_of a) j) true (λ k. u.receiver) (λ k. None) refl (λ k. tt)
        (λ k h. (fine_fit (figures_at a) r.figures (depth_at a) (clock_at a) u r.depth.1 (omega arith)
        (r.fine j hj)).received)
        (λ k buf h. ap (λ (y : Heard). receive u.address buf u.receiver y true) (none k h) ∙ idle_hears
        u.address buf u.receiver true idle)
        refl busy on lasts (λ k i h e. none k h) octets)

    -- it hears others, and does not send any more: header or jam
    pub emits_heard : ((k : ℕ) → k < m → hears_any (hears a (plan_of a) j k) ≡ true)
        → ((i : ℕ) → (station_at a j).transmitter ≡ Sending i → ⊥)
        → Calm (figures_at a) (depth_at a) j (hears a (plan_of a) j) (plan_of a j) m a
    unfolding AllHeard
    emits_heard all none =
        let u = station_at a j in
        let room = fine_room (figures_at a) r.figures (depth_at a) (clock_at a) u r.depth.1 (omega arith)
        (r.fine j hj) buffer_octets (omega arith) in
        calm_by (kept_by true (hears a (plan_of a) j) u.receiver)
        (emit_on (figures_at a) m (received_by true (hears a (plan_of a) j) m u.receiver) u)
        (emit_segment (figures_at a) (depth_at a) j (clock_at a) a starts_moving m pos (omega arith)
        (hears a (plan_of a) j) true
        (λ k. received_by true (hears a (plan_of a) j) k u.receiver) (kept_by true (hears a (plan_of a) j) u.receiver)
        (received_none true (hears a (plan_of a) j) u.receiver) (kept_by_lem true (hears a (plan_of a) j) u.receiver)
        (λ k h. received_fits true (hears a (plan_of a) j) k u.receiver (λ i l. all i (omega arith)) room.row
        (omega (arith, bits_clock (clock_at a) u.receiver (r.fine j hj).receiver))
        (fine_fit (figures_at a) r.figures (depth_at a) (clock_at a) u r.depth.1 (omega arith)
        (r.fine j hj)).received)
        (λ k buf h. received_step true (hears a (plan_of a) j) u.receiver k u.address buf (all k h))
        refl busy on lasts (λ k i h e. absurd (none i e)) octets)
