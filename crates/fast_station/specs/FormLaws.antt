-- Each further step of a closed form is one step of the station; where it begins; its numbers fit. Assumes nothing.
use Prim.Native.Nat.{ℕ, zero, suc, ◌+◌, ◌-◌, ◌*◌, ◌^◌, ◌≤◌, ◌<◌}
use Rattle.std.specs.Prelude.{◌≡◌, Bool, true, ◌||◌, ◌&&◌, List, eqb, ltb, leb, Option, None}
use Rattle.std.proofs.Math.Path.{refl}
use Rattle.std.proofs.Common.{sym, ◌∙◌, ap, true≢false}
use Rattle.std.proofs.Math.Bool.{false, not, or-false, and-true, and-false}
use native.Mathlib.Omega.{arith}
use borrow.Author.Tests.{not-true, ne_eqb, ltb-true, ltb-false, le-ltb, leb-true, leb-false, le-leb, lt-leb}
use Rattle.octets.specs.Base.{pick}
use Rattle.octets.specs.BaseLaws.{by_test}
use Rattle.sheet_layout.specs.declared.Figures.{Figures}
use Rattle.sheet_layout.specs.Layout.{gap_of}
use Rattle.sheet_layout.specs.CheckLaws.{Figured}
use Rattle.station_symbols.specs.declared.Heard.{Heard}
use Rattle.station_symbols.specs.declared.Heard.TheVariants.{Nothing}
use Rattle.station_symbols.specs.declared.Emission.{Emission}
use Rattle.station_symbols.specs.declared.Emission.TheVariants.{Rest, PacketBit}
use Rattle.station_symbols.specs.Packet.{hears_any, is_emission}
use Rattle.station_state.specs.declared.Deference.{Deference}
use Rattle.station_state.specs.declared.Deference.TheVariants.{Quiet, Busy, Gap}
use Rattle.station_state.specs.declared.Transmitter.{Transmitter}
use Rattle.station_state.specs.declared.Transmitter.TheVariants.{NoFrame, Waiting, BackingOff, Sending, Heading}
use Rattle.station_state.specs.declared.Transmitter.TheVariants.{Jamming}
use Rattle.station_state.specs.declared.Receiver.{Receiver}
use Rattle.station_state.specs.declared.Receiver.TheVariants.{Listening, Readable, Seeking, Collecting}
use Rattle.station_state.specs.declared.Station.{Station}
use Rattle.station_state.specs.State.{number_in}
use Rattle.station_spec.specs.Defer.{to, defer, quiet_rule, busy_rule, gap_rule, gap_over, goes_back}
use Rattle.station_spec.specs.Transmit.{waits, emitting, transmit, send_bit, after_bit, head_bit, jam_bit, packet_length}
use Rattle.station_spec.specs.Transmit.{octets_held}
use Rattle.station_spec.specs.declared.Stored.{Stored}
use Rattle.station_spec.specs.Receive.{hearing, deciding, receive, ended}
use Rattle.station_spec.specs.Step.{tries_after, draw_after, deferred_after, stepped, next_station}
use Rattle.area_record.specs.Codec.{deference_count, receiver_number}
use Rattle.area_record.specs.CodecLaws.{Fit}
use Rattle.bus_spec.specs.Range.{Fine}
use Rattle.bus_quick.specs.Quick.{quietly}
use Rattle.fast_silence.specs.Rested.{rested_deference, rested_transmitter, has_waited, Lasts, NoneOut, defer_goes}
use Rattle.fast_silence.specs.Rested.{lasts_none, transmit_goes, waited_more, deferred_more, rested_gap}
use Rattle.fast_silence.proofs.Rested.{waits_rests}
use Rattle.fast_silence.specs.Rested.{rested_frame, none_waited, as_was, count_small, number_less}
use Rattle.fast_station.specs.Forms.{made, deferred_by, heard_gap, heard_deference, heard_for, heard_rest, hear_on}
use Rattle.fast_station.specs.Forms.{rest_on, emits_on, emitted_at, emits_for, emit_on, own_busy, sends}
use Rattle.fast_receive.specs.Received.{calmed}

-- ---- a step from its parts

pub parts_step : (f : Figures) (s : Station) (d draw : ℕ) (buf : List ℕ) (h : Heard) (D E : Deference)
    (X Y : Transmitter) (R S : Receiver) (df dg e : Bool) (em : Emission) (st : Option Stored)
    → defer f D (hears_any h) e (waits X) ≡ to E
    → transmit f X s.frame s.attempts draw false (hears_any h) ≡ emitting Y em None
    → receive s.address buf R h (is_emission em) ≡ hearing S st
    → (df || (waits X && (eqb s.attempts 0 && true))) ≡ dg
    → stepped f (made s D X R df e) d draw buf h ≡ quietly (made s E Y S dg (is_emission em)) em st
unfolding stepped next_station tries_after draw_after deferred_after quietly made
parts_step f s d draw buf h D E X Y R S df dg e em st p q r w = rw (p, q, r, w)

-- a frame that waits one more step
deferred_step : (m : ℕ) (s : Station)
    → (deferred_by m s || (waits (rested_transmitter m s.transmitter) && (eqb s.attempts 0 && true))) ≡ deferred_by
    (suc m) s
unfolding deferred_by
deferred_step m s =
    deferred_more s.deferred (eqb s.attempts 0) (has_waited m s.transmitter)
    (waits (rested_transmitter m s.transmitter))
    ∙ ap (λ (b : Bool). s.deferred || (eqb s.attempts 0 && b)) (sym (waited_more m s.transmitter))

-- ---- others are heard: no frame goes out, none starts

pub heard_none : (f : Figures) (M K : ℕ) (d : Deference) (x : Transmitter) → 0 < K → K ≤ heard_rest f M d x → NoneOut x
unfolding heard_rest
heard_none f M K d NoFrame p h = tt
heard_none f M K d Waiting p h = tt
heard_none f M K d (BackingOff w) p h = tt
heard_none f M K d (Sending k) p h = absurd (omega arith)
heard_none f M K d (Heading k) p h = absurd (omega arith)
heard_none f M K d (Jamming l ends) p h = absurd (omega arith)

-- ---- others are heard: deference

went_back : (g n : ℕ) (own : Bool) → goes_back g n own true ≡ true → (n < g) × (own ≡ false)
unfolding goes_back
went_back g n true e = absurd (true≢false (sym e ∙ and-false (ltb n g)))
went_back g n false e = (ltb-true n g (sym (and-true (ltb n g)) ∙ e), refl)

-- a gap that is past what lets it go back stays so
back_later : (g n c : ℕ) (own : Bool) → n ≤ c → goes_back g n own true ≡ false → goes_back g c own true ≡ false
unfolding goes_back
back_later g n c true l e = and-false (ltb c g)
back_later g n c false l e =
    and-true (ltb c g) ∙ le-ltb c g (omega (arith, ltb-false n g (sym (and-true (ltb n g)) ∙ e)))

stays_busy : (f : Figures) (own w : Bool) → defer f (Busy own) true false w ≡ to (Busy own)
unfolding defer busy_rule
stays_busy f own w = ap (λ (b : Bool). to (Busy b)) (or-false own)

module _ (f : Figures) (own : Bool) where
  goes_back_lem : (n : ℕ) (w : Bool) → goes_back f.gap1 n own true ≡ true
      → defer f (Gap n own) true false w ≡ to (Busy false)
  unfolding defer gap_rule gap_of
  goes_back_lem n w e =
      let p = went_back f.gap1 n own e in rw (lt-leb (f.gap1 + f.gap2) n (omega (arith, p.0)), e, p.1)

  rises : (c : ℕ) (w : Bool) → goes_back f.gap1 c own true ≡ false → (w ≡ true → c < gap_of f)
      → defer f (Gap c own) true false w ≡ to (pick (leb (suc c) (gap_of f)) (Gap (suc c) own) (Busy false))
  unfolding defer gap_rule gap_over quiet_rule
  rises c w e s =
      by_test (leb (gap_of f) c)
      (λ b. let g = leb-true (gap_of f) c b in
      by_test w
      (λ t. absurd (omega (arith, s t)))
      (λ t. rw (b, t, lt-leb (suc c) (gap_of f) (omega arith))))
      (λ b. let g = leb-false (gap_of f) c b in let z : c + 1
      ≡ suc c = omega arith in rw (b, e, le-leb (suc c) (gap_of f) (omega arith), z))

  rises_on : (c : ℕ) (w : Bool) → goes_back f.gap1 c own true ≡ false → (w ≡ true → c < gap_of f)
      → defer f (pick (leb c (gap_of f)) (Gap c own) (Busy false)) true false w ≡ to
      (pick (leb (suc c) (gap_of f)) (Gap (suc c) own) (Busy false))
  rises_on c w e s =
      by_test (leb c (gap_of f))
      (λ b. ap (λ (t : Bool). defer f (pick t (Gap c own) (Busy false)) true false w) b ∙ rises c w e s)
      (λ b. let g = leb-false c (gap_of f) b in
      ap (λ (t : Bool). defer f (pick t (Gap c own) (Busy false)) true false w) b ∙ stays_busy f false w
      ∙ ap (λ (t : Bool). to (pick t (Gap (suc c) own) (Busy false))) (sym (lt-leb (suc c) (gap_of f) (omega arith))))

gap_heard : (f : Figures) (M m n : ℕ) (own w t : Bool) → goes_back f.gap1 n own true ≡ t
    → (w ≡ true → m < pick t M (gap_of f - n))
    → defer f (heard_deference f m (Gap n own)) true false w ≡ to (heard_deference f (suc m) (Gap n own))
unfolding heard_deference heard_gap
gap_heard f M zero n own w true e s = rw (ne_eqb 1 0 (λ z. omega arith), e) (goes_back_lem f own n w e)
gap_heard f M (suc m) n own w true e s =
    rw (ne_eqb (suc m) 0 (λ z. omega arith), ne_eqb (suc (suc m)) 0 (λ z. omega arith), e) (stays_busy f false w)
gap_heard f M zero n own w false e s =
    let z : n + 1 ≡ suc n = omega arith in
    rw (ne_eqb 1 0 (λ z. omega arith), e, z) (rises f own n w e (λ t. omega (arith, s t)))
gap_heard f M (suc m) n own w false e s =
    let z : n + suc (suc m) ≡ suc (n + suc m) = omega arith in
    rw (ne_eqb (suc m) 0 (λ z. omega arith), ne_eqb (suc (suc m)) 0 (λ z. omega arith), e, z)
    (rises_on f own (n + suc m) w (back_later f.gap1 n (n + suc m) own (omega arith) e) (λ t. omega (arith, s t)))

quiet_heard : (f : Figures) (m : ℕ) (w : Bool)
    → defer f (heard_deference f m Quiet) true false w ≡ to (heard_deference f (suc m) Quiet)
unfolding heard_deference defer quiet_rule busy_rule
quiet_heard f zero w = rw (ne_eqb 1 0 (λ z. omega arith))
quiet_heard f (suc m) w = rw (ne_eqb (suc m) 0 (λ z. omega arith), ne_eqb (suc (suc m)) 0 (λ z. omega arith))

heard_on : (f : Figures) (M m : ℕ) (d : Deference) (w : Bool) → (w ≡ true → m < heard_for f M d)
    → defer f (heard_deference f m d) true false w ≡ to (heard_deference f (suc m) d)
unfolding heard_for heard_deference
heard_on f M m Quiet w s = quiet_heard f m w
heard_on f M m (Busy own) w s = stays_busy f own w
heard_on f M m (Gap n own) w s = gap_heard f M m n own w (goes_back f.gap1 n own true) refl s

-- a frame that waits does not start
waits_heard : (f : Figures) (M K m : ℕ) (d : Deference) (x : Transmitter) → K ≤ heard_rest f M d x → m < K
    → waits (rested_transmitter m x) ≡ true → m < heard_for f M d
unfolding rested_transmitter heard_rest
waits_heard f M K m d NoFrame l h e = absurd (true≢false (sym e))
waits_heard f M K m d Waiting l h e = omega arith
waits_heard f M K m d (BackingOff w) l h e =
    by_test (ltb m w)
    (λ c. absurd (true≢false (sym (sym (ap (λ (b : Bool). waits (pick b (BackingOff (w - m)) Waiting)) c) ∙ e))))
    (λ c. let g = ltb-false m w c in omega arith)
waits_heard f M K m d (Sending k) l h e = absurd (omega arith)
waits_heard f M K m d (Heading k) l h e = absurd (omega arith)
waits_heard f M K m d (Jamming k ends) l h e = absurd (omega arith)

-- the step, over any receiver
pub hear_step : (f : Figures) (M K m : ℕ) (s : Station) (d draw : ℕ) (buf : List ℕ) (h : Heard) (r q : Receiver)
    (st : Option Stored)
    → K ≤ heard_rest f M s.deference s.transmitter → m < K → hears_any h ≡ true
    → receive s.address buf r h false ≡ hearing q st
    → stepped f (hear_on f m r s) d draw buf h ≡ quietly (hear_on f (suc m) q s) Rest st
unfolding hear_on
hear_step f M K m s d draw buf h r q st l g a e =
    let x = s.transmitter in
    parts_step f s d draw buf h (heard_deference f m s.deference) (heard_deference f (suc m) s.deference)
    (rested_transmitter m x) (rested_transmitter (suc m) x) r q
    (deferred_by m s) (deferred_by (suc m) s) false Rest st
    (ap (λ (b : Bool). defer f (heard_deference f m s.deference) b false (waits (rested_transmitter m x))) a
    ∙ heard_on f M m s.deference (waits (rested_transmitter m x)) (waits_heard f M K m s.deference x l g))
    (transmit_goes f m x s.frame s.attempts draw (hears_any h) (heard_none f M K s.deference x (omega arith) l))
    e
    (deferred_step m s)

-- ---- nothing is heard

-- a reception that ends in the first step; later ones decide nothing
pub calms : (address buf : List ℕ) (m : ℕ) (r : Receiver) (e : Bool)
    → (m ≡ 0 → ended address buf r ≡ deciding (calmed 1 r) None)
    → receive address buf (calmed m r) Nothing e ≡ hearing (calmed (suc m) r) None
unfolding receive calmed ended
calms address buf m Listening e h = refl
calms address buf m (Readable n) e h = refl
calms address buf zero (Seeking row sp own) e h = refl
calms address buf (suc m) (Seeking row sp own) e h =
    rw (ne_eqb (suc m) 0 (λ z. omega arith), ne_eqb (suc (suc m)) 0 (λ z. omega arith))
calms address buf zero (Collecting n sp own) e h = h refl
calms address buf (suc m) (Collecting n sp own) e h =
    rw (ne_eqb (suc m) 0 (λ z. omega arith), ne_eqb (suc (suc m)) 0 (λ z. omega arith))

pub rest_step : (f : Figures) (K m : ℕ) (s : Station) (d draw : ℕ) (buf : List ℕ) → 1 ≤ gap_of f
    → Lasts f K s.deference s.transmitter → m < K
    → (m ≡ 0 → ended s.address buf s.receiver ≡ deciding (calmed 1 s.receiver) None)
    → stepped f (rest_on f m s) d draw buf Nothing ≡ quietly (rest_on f (suc m) s) Rest None
unfolding rest_on
rest_step f K m s d draw buf g l h c =
    let x = s.transmitter in
    parts_step f s d draw buf Nothing (rested_deference f m s.deference) (rested_deference f (suc m) s.deference)
    (rested_transmitter m x) (rested_transmitter (suc m) x)
    (calmed m s.receiver) (calmed (suc m) s.receiver) (deferred_by m s) (deferred_by (suc m) s) false Rest None
    (defer_goes f s.deference m (waits (rested_transmitter m x)) g (waits_rests f K m s.deference x l h))
    (transmit_goes f m x s.frame s.attempts draw false (lasts_none f K s.deference x l))
    (calms s.address buf m s.receiver false c)
    (deferred_step m s)

-- ---- it emits

emits_on_lem : (f : Figures) (K m z n draw : ℕ) (x : Transmitter) (h : Bool) → K ≤ emits_for z x → m < K
    → ((k : ℕ) → x ≡ Sending k → h ≡ false)
    → transmit f (emits_on f m x) z n draw false h ≡ emitting (emits_on f (suc m) x) (emitted_at m x) None
unfolding transmit emits_on emitted_at emits_for send_bit head_bit after_bit jam_bit
emits_on_lem f K m z n draw NoFrame h l g c = absurd (omega arith)
emits_on_lem f K m z n draw Waiting h l g c = absurd (omega arith)
emits_on_lem f K m z n draw (BackingOff w) h l g c = absurd (omega arith)
emits_on_lem f K m z n draw (Sending k) h l g c =
    let e : k + m + 1 ≡ k + suc m = omega arith in rw (c k refl, ne_eqb (k + m) (64 + 8 * z) (λ q. omega arith), e)
emits_on_lem f K m z n draw (Heading k) h l g c =
    by_test (ltb (k + m) 64)
    (λ b. let p = ltb-true (k + m) 64 b in let e : k + m + 1 ≡ k + suc m = omega arith in
    rw (le-leb (k + m) 64 (omega arith), le-leb (k + suc m) 64 (omega arith)) (heads b e))
    (λ b. let p = ltb-false (k + m) 64 b in
    rw (le-leb (k + m) 64 (omega arith), lt-leb (k + suc m) 64 (omega arith)) (rw b))
  where
    heads : ltb (k + m) 64 ≡ true → k + m + 1 ≡ k + suc m
        → emitting (pick (ltb (k + m) 64) (Heading (k + m + 1)) (Jamming f.jam false)) (PacketBit (k + m)) None
        ≡ emitting (Heading (k + suc m)) (PacketBit (k + m)) None
    heads b e = rw (b, e)
emits_on_lem f K m z n draw (Jamming l ends) h b g c =
    let e : l - m - 1 ≡ l - suc m = omega arith in rw (lt-leb (l - m) 1 (omega arith), e)

-- it is an emission, and no frame waits
emits_still : (f : Figures) (K m z : ℕ) (x : Transmitter) → K ≤ emits_for z x → m < K
    → (is_emission (emitted_at m x) ≡ true) × (waits (emits_on f m x) ≡ false)
unfolding emitted_at emits_on emits_for
emits_still f K m z NoFrame l g = absurd (omega arith)
emits_still f K m z Waiting l g = absurd (omega arith)
emits_still f K m z (BackingOff w) l g = absurd (omega arith)
emits_still f K m z (Sending k) l g = (refl, refl)
emits_still f K m z (Heading k) l g = (refl, rw (le-leb (k + m) 64 (omega arith)))
emits_still f K m z (Jamming l ends) b g = (refl, refl)

busy_emits : (f : Figures) (h w : Bool) → defer f (Busy true) h true w ≡ to (Busy true)
unfolding defer busy_rule
busy_emits f true w = refl
busy_emits f false w = refl

pub emit_step : (f : Figures) (K m : ℕ) (s : Station) (d draw : ℕ) (buf : List ℕ) (h : Heard) (r q : Receiver)
    (st : Option Stored)
    → K ≤ emits_for s.frame s.transmitter → m < K → ((k : ℕ) → s.transmitter ≡ Sending k → h ≡ Nothing)
    → receive s.address buf r h true ≡ hearing q st
    → stepped f (emit_on f m r s) d draw buf h ≡ quietly (emit_on f (suc m) q s) (emitted_at m s.transmitter) st
unfolding emit_on
emit_step f K m s d draw buf h r q st l g c e =
    let x = s.transmitter in
    let v = emits_still f K m s.frame x l g in
    parts_step f s d draw buf h (Busy true) (Busy true) (emits_on f m x) (emits_on f (suc m) x) r q s.deferred
    s.deferred true (emitted_at m x) st
    (busy_emits f (hears_any h) (waits (emits_on f m x)))
    (emits_on_lem f K m s.frame s.attempts draw x (hears_any h) l g (λ k p. ap hears_any (c k p)))
    (ap (receive s.address buf r h) v.0 ∙ e)
    (ap (λ (b : Bool). s.deferred || (b && (eqb s.attempts 0 && true))) v.1 ∙ or-false s.deferred)
    ∙ ap (λ (b : Bool). quietly (made s (Busy true) (emits_on f (suc m) x) q s.deferred b) (emitted_at m x) st) v.0

-- ---- where it begins

heard_zero : (f : Figures) (d : Deference) → heard_deference f 0 d ≡ d
unfolding heard_deference
heard_zero f Quiet = refl
heard_zero f (Busy own) = refl
heard_zero f (Gap n own) = refl

calm_zero : (r : Receiver) → calmed 0 r ≡ r
unfolding calmed
calm_zero Listening = refl
calm_zero (Readable n) = refl
calm_zero (Seeking row sp own) = refl
calm_zero (Collecting n sp own) = refl

emits_zero : (f : Figures) (z : ℕ) (x : Transmitter) → 0 < emits_for z x → emits_on f 0 x ≡ x
unfolding emits_for emits_on
emits_zero f z NoFrame h = refl
emits_zero f z Waiting h = refl
emits_zero f z (BackingOff w) h = refl
emits_zero f z (Sending k) h = let e : k + 0 ≡ k = omega arith in ap Sending e
emits_zero f z (Heading k) h = let e : k + 0 ≡ k = omega arith in rw (le-leb (k + 0) 64 (omega arith)) (ap Heading e)
emits_zero f z (Jamming l ends) h = let e : l - 0 ≡ l = omega arith in ap (λ (k : ℕ). Jamming k ends) e

-- a station of its own parts
made_same : (s : Station) (d : Deference) (x : Transmitter) (r : Receiver) (df e : Bool) → d ≡ s.deference
    → x ≡ s.transmitter → r ≡ s.receiver → df ≡ s.deferred → e ≡ s.emitted
    → made s d x r df e ≡ s
unfolding made
made_same s d x r df e p q u v w =
    λ i. record {
      address = s.address;
      deference = p i;
      transmitter = q i;
      receiver = u i;
      frame = s.frame;
      attempts = s.attempts;
      draw = s.draw;
      deferred = v i;
      emitted = w i;
    }

module _ (f : Figures) (d t : ℕ) (s : Station) (v : Fine f d t s) where
  deferred_none : deferred_by 0 s ≡ s.deferred
  unfolding deferred_by
  deferred_none =
      rw (none_waited f s.frame s.transmitter v.number) (as_was s.deferred (eqb s.attempts 0))

  pub hear_none : s.emitted ≡ false → hear_on f 0 s.receiver s ≡ s
  unfolding hear_on
  hear_none e =
      made_same s _ _ s.receiver _ false (heard_zero f s.deference)
      (rested_frame f s.frame s.transmitter v.number) refl deferred_none (sym e)

  pub rest_none : s.emitted ≡ false → rest_on f 0 s ≡ s
  unfolding rest_on
  rest_none e =
      made_same s _ _ _ _ false (rested_gap f s.deference v.gap)
      (rested_frame f s.frame s.transmitter v.number) (calm_zero s.receiver) deferred_none (sym e)

pub emit_none : (f : Figures) (s : Station) → 0 < emits_for s.frame s.transmitter → s.deference ≡ Busy true
    → s.emitted ≡ true → emit_on f 0 s.receiver s ≡ s
unfolding emit_on
emit_none f s h b e =
    made_same s _ _ s.receiver s.deferred true (sym b) (emits_zero f s.frame s.transmitter h) refl refl
    (sym e)

-- ---- the address stays, and the frame

emits_held : (f : Figures) (m z : ℕ) (x : Transmitter) → 0 < emits_for z x → octets_held (emits_on f m x) z ≡ z
unfolding emits_for emits_on
emits_held f m z NoFrame p = absurd (omega arith)
emits_held f m z Waiting p = refl
emits_held f m z (BackingOff w) p = refl
emits_held f m z (Sending k) p = refl
emits_held f m z (Heading k) p = by_test (leb (k + m) 64) (λ b. rw b) (λ b. rw b)
emits_held f m z (Jamming k ends) p = refl

module _ (f : Figures) (m : ℕ) (r : Receiver) (s : Station) where
  pub hear_address : (hear_on f m r s).address ≡ s.address
  unfolding hear_on made
  hear_address = refl

  pub rest_address : (rest_on f m s).address ≡ s.address
  unfolding rest_on made
  rest_address = refl

  pub emit_address : (emit_on f m r s).address ≡ s.address
  unfolding emit_on made
  emit_address = refl

  -- an emitter holds its frame
  pub emit_held : 0 < emits_for s.frame s.transmitter
      → octets_held (emit_on f m r s).transmitter (emit_on f m r s).frame ≡ s.frame
  unfolding emit_on made
  emit_held p = emits_held f m s.frame s.transmitter p

-- ---- its numbers fit their words

module _ (f : Figures) (g : Figured f) where
  gap_small : (n m : ℕ) (own : Bool) → deference_count (heard_gap f m n own) < 65536
  unfolding heard_gap gap_of
  gap_small n m own =
      by_test (goes_back f.gap1 n own true)
      (λ b. rw b (omega arith))
      (λ b. by_test (leb (n + m) (f.gap1 + f.gap2))
      (λ c. let h = leb-true (n + m) (f.gap1 + f.gap2) c in rw (b, c) (omega (arith, g.gap1, g.gap2)))
      (λ c. rw (b, c) (omega arith)))

  heard_small : (m : ℕ) (d : Deference) → deference_count d < 256 ^ 4 → deference_count (heard_deference f m d) < 256 ^ 4
  unfolding heard_deference
  heard_small zero Quiet h = h
  heard_small (suc m) Quiet h = rw (ne_eqb (suc m) 0 (λ z. omega arith)) (omega arith)
  heard_small m (Busy own) h = h
  heard_small zero (Gap n own) h = h
  heard_small (suc m) (Gap n own) h = rw (ne_eqb (suc m) 0 (λ z. omega arith)) (omega (arith, gap_small n (suc m) own))

  calm_small : (m : ℕ) (r : Receiver) → receiver_number r < 256 ^ 4 → receiver_number (calmed m r) < 256 ^ 4
  unfolding calmed
  calm_small m Listening h = h
  calm_small m (Readable n) h = h
  calm_small zero (Seeking row sp own) h = h
  calm_small (suc m) (Seeking row sp own) h = rw (ne_eqb (suc m) 0 (λ z. omega arith)) (omega arith)
  calm_small zero (Collecting n sp own) h = h
  calm_small (suc m) (Collecting n sp own) h = rw (ne_eqb (suc m) 0 (λ z. omega arith)) (omega arith)

  emits_small : (m z : ℕ) (x : Transmitter) → number_in x < 256 ^ 4 → packet_length z < 256 ^ 4 → m ≤ emits_for z x
      → number_in (emits_on f m x) < 256 ^ 4
  unfolding emits_on emits_for
  emits_small m z NoFrame h p l = h
  emits_small m z Waiting h p l = h
  emits_small m z (BackingOff w) h p l = h
  emits_small m z (Sending k) h p l = sent_small h p l
    where
      sent_small : k < 256 ^ 4 → 64 + 8 * z < 256 ^ 4 → m ≤ 64 + 8 * z - k → k + m < 256 ^ 4
      sent_small h p l = omega arith
  emits_small m z (Heading k) h p l =
      by_test (leb (k + m) 64)
      (λ b. let q = leb-true (k + m) 64 b in rw b (omega arith))
      (λ b. rw b (omega (arith, g.jam)))
  emits_small m z (Jamming k ends) h p l = omega arith

  pub hear_fit : (m : ℕ) (r : Receiver) (s : Station) → Fit s → receiver_number r < 256 ^ 4 → Fit (hear_on f m r s)
  unfolding hear_on made
  hear_fit m r s v h =
      record {
        count = heard_small m s.deference v.count;
        number = number_less m (256 ^ 4) s.transmitter (omega arith) v.number;
        received = h;
        frame = v.frame;
        attempts = v.attempts;
        draw = v.draw;
      }

  pub rest_fit : (m : ℕ) (s : Station) → Fit s → Fit (rest_on f m s)
  unfolding rest_on made
  rest_fit m s v =
      record {
        count = omega (arith, count_small f m s.deference g);
        number = number_less m (256 ^ 4) s.transmitter (omega arith) v.number;
        received = calm_small m s.receiver v.received;
        frame = v.frame;
        attempts = v.attempts;
        draw = v.draw;
      }

  pub emit_fit : (m : ℕ) (r : Receiver) (s : Station) → Fit s → receiver_number r < 256 ^ 4
      → packet_length s.frame < 256 ^ 4 → m ≤ emits_for s.frame s.transmitter → Fit (emit_on f m r s)
  unfolding emit_on made
  emit_fit m r s v h p l =
      record {
        count = omega arith;
        number = emits_small m s.frame s.transmitter v.number p l;
        received = h;
        frame = v.frame;
        attempts = v.attempts;
        draw = v.draw;
      }

-- ---- an emitter that goes on

pub busy_own : (d : Deference) → own_busy d ≡ true → d ≡ Busy true
unfolding own_busy
busy_own Quiet h = absurd (true≢false (sym h))
busy_own (Busy own) h = ap Busy h
busy_own (Gap n own) h = absurd (true≢false (sym h))

pub not_sending : (x : Transmitter) → not (sends x) ≡ true → (i : ℕ) → x ≡ Sending i → ⊥
unfolding sends
not_sending x h i e = true≢false (ap sends (sym e) ∙ not-true (sends x) h)
