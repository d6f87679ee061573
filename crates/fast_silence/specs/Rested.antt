-- A station that hears nothing and emits nothing for m steps, in closed form: its gap goes on, its backoff runs down, a
-- frame that waits is deferred. That each further step is one step of the station is in proofs/Rested. Assumes nothing.
use Rattle.std.specs.Prelude.{ℕ, zero, suc, ◌+◌, ◌-◌, ◌^◌, ◌≤◌, ◌<◌, max, ◌≡◌, Bool, true, false, ◌||◌, ◌&&◌, List, eqb, ltb, leb, None}
use Rattle.std.proofs.Math.Path.{refl}
use Rattle.std.proofs.Common.{sym, ◌∙◌, ap, arith, ne_eqb, ltb-true, ltb-false, lt-ltb, le-ltb, leb-true, le-leb}
use Rattle.std.proofs.Math.Bool.{or-true}
use Rattle.std.proofs.lemmas.Bool.{lt-leb}
use Rattle.octets.specs.Base.{pick}
use Rattle.octets.specs.BaseLaws.{by_test, by_eq}
use Rattle.sheet_layout.specs.declared.Figures.{Figures}
use Rattle.sheet_layout.specs.Layout.{gap_of}
use Rattle.sheet_layout.specs.CheckLaws.{Figured}
use Rattle.station_symbols.specs.declared.Heard.TheVariants.{Nothing}
use Rattle.station_state.specs.declared.Deference.{Deference}
use Rattle.station_state.specs.declared.Deference.TheVariants.{Quiet, Busy, Gap}
use Rattle.station_state.specs.declared.Transmitter.{Transmitter}
use Rattle.station_state.specs.declared.Transmitter.TheVariants.{NoFrame, Waiting, BackingOff, Sending, Heading}
use Rattle.station_state.specs.declared.Transmitter.TheVariants.{Jamming}
use Rattle.station_state.specs.declared.Receiver.{Receiver}
use Rattle.station_state.specs.declared.Receiver.TheVariants.{Listening, Readable, Seeking, Collecting}
use Rattle.station_state.specs.declared.Station.{Station}
use Rattle.station_state.specs.State.{number_in}
use Rattle.station_spec.specs.Defer.{to, defer, quiet_rule, busy_rule, gap_rule, gap_over, goes_back}
use Rattle.station_spec.specs.Transmit.{waits, resting, transmit, wait_bit, backoff_bit}
use Rattle.station_spec.specs.Receive.{deciding, receive, ended}
use Rattle.area_record.specs.Codec.{deference_count}
use Rattle.area_record.specs.CodecLaws.{Fit}
use Rattle.bus_spec.specs.Range.{Fine, GapIn, NumberIn}

-- ---- the closed form

-- a gap that has come to c, or is over
unfoldable pub gap_to : Figures → (own : Bool) → (c : ℕ) → Deference
gap_to f own c = pick (leb c (gap_of f)) (Gap c own) Quiet

unfoldable pub rested_deference : Figures → (m : ℕ) → Deference → Deference
rested_deference f m Quiet = Quiet
rested_deference f m (Busy own) = pick (eqb m 0) (Busy own) (gap_to f own m)
rested_deference f m (Gap n own) = gap_to f own (n + m)

unfoldable pub rested_transmitter : (m : ℕ) → Transmitter → Transmitter
rested_transmitter m NoFrame = NoFrame
rested_transmitter m Waiting = Waiting
rested_transmitter m (BackingOff w) = pick (ltb m w) (BackingOff (w - m)) Waiting
rested_transmitter m (Sending k) = Sending k
rested_transmitter m (Heading k) = Heading k
rested_transmitter m (Jamming k ends) = Jamming k ends

-- whether its frame waited in one of m steps
unfoldable pub has_waited : (m : ℕ) → Transmitter → Bool
has_waited m NoFrame = false
has_waited m Waiting = ltb 0 m
has_waited m (BackingOff w) = ltb w m
has_waited m (Sending k) = false
has_waited m (Heading k) = false
has_waited m (Jamming k ends) = false

unfoldable pub rested : Figures → (m : ℕ) → Station → Station
rested f m s =
    record {
      address = s.address;
      deference = rested_deference f m s.deference;
      transmitter = rested_transmitter m s.transmitter;
      receiver = s.receiver;
      frame = s.frame;
      attempts = s.attempts;
      draw = s.draw;
      deferred = s.deferred || (eqb s.attempts 0 && has_waited m s.transmitter);
      emitted = false;
    }

-- ---- how long it lasts

-- the steps in which a frame that waits does not start
unfoldable pub rests_for : Figures → Deference → ℕ
rests_for f Quiet = 0
rests_for f (Busy own) = gap_of f
rests_for f (Gap n own) = gap_of f - n

-- nothing starts in K steps
abbrev pub Lasts : Figures → ℕ → Deference → Transmitter → Type 0
Lasts f K d NoFrame = Unit {0}
Lasts f K d Waiting = K ≤ rests_for f d
Lasts f K d (BackingOff w) = K ≤ max w (rests_for f d)
Lasts f K d (Sending k) = ⊥
Lasts f K d (Heading k) = ⊥
Lasts f K d (Jamming k ends) = ⊥

-- nothing is being received
abbrev pub Idle : Receiver → Type 0
Idle Listening = Unit {0}
Idle (Readable n) = Unit {0}
Idle (Seeking row sp own) = ⊥
Idle (Collecting n sp own) = ⊥

pub record Rests (f : Figures) (K : ℕ) (s : Station) : Type 0 where
  pub lasts : Lasts f K s.deference s.transmitter
  pub idle : Idle s.receiver
  pub silent : s.emitted ≡ false

-- ---- deference

module _ (f : Figures) (own : Bool) where
  gap_in : (c : ℕ) → c ≤ gap_of f → gap_to f own c ≡ Gap c own
  unfolding gap_to
  gap_in c h = rw (le-leb c (gap_of f) h)

  gap_over_lem : (c : ℕ) → gap_of f < c → gap_to f own c ≡ Quiet
  unfolding gap_to
  gap_over_lem c h = rw (lt-leb c (gap_of f) h)

  over_quiet : defer f Quiet false false false ≡ to Quiet
  unfolding defer quiet_rule
  over_quiet = refl

  gap_more : (c : ℕ) (w : Bool) → c < gap_of f → defer f (Gap c own) false false w ≡ to (Gap (c + 1) own)
  unfolding defer gap_rule goes_back
  gap_more c w h = rw (lt-leb (gap_of f) c h)

  gap_ends : (c : ℕ) → c ≡ gap_of f → defer f (Gap c own) false false false ≡ to Quiet
  unfolding defer gap_rule gap_over quiet_rule
  gap_ends c h = rw (le-leb (gap_of f) c (omega arith))

  -- a gap, whatever it has come to
  gap_goes : (c : ℕ) (w : Bool) → (w ≡ true → c < gap_of f)
      → defer f (gap_to f own c) false false w ≡ to (gap_to f own (suc c))
  gap_goes c true h =
      let g = h refl in
      let e : c + 1 ≡ suc c = omega arith in
      ap (λ (d : Deference). defer f d false false true) (gap_in c (omega arith))
      ∙ gap_more c true g
      ∙ ap to (rw e)
      ∙ sym (ap to (gap_in (suc c) (omega arith)))
  gap_goes c false h =
      by_test (ltb c (gap_of f))
      (λ b. let g = ltb-true c (gap_of f) b in
      let e : c + 1 ≡ suc c = omega arith in
      ap (λ (d : Deference). defer f d false false false) (gap_in c (omega arith))
      ∙ gap_more c false g
      ∙ ap to (rw e)
      ∙ sym (ap to (gap_in (suc c) (omega arith))))
      (λ b. let g = ltb-false c (gap_of f) b in
      by_eq c (gap_of f)
      (λ e. ap (λ (d : Deference). defer f d false false false) (gap_in c (omega arith)) ∙ gap_ends c e ∙ sym
      (ap to (gap_over_lem (suc c) (omega arith))))
      (λ e. ap (λ (d : Deference). defer f d false false false) (gap_over_lem c (omega arith)) ∙ over_quiet ∙ sym
      (ap to (gap_over_lem (suc c) (omega arith)))))

busy_goes : (f : Figures) (own w : Bool) → defer f (Busy own) false false w ≡ to (Gap 1 own)
unfolding defer busy_rule
busy_goes f own w = refl

pub defer_goes : (f : Figures) (d : Deference) (m : ℕ) (w : Bool) → 1 ≤ gap_of f → (w ≡ true → m < rests_for f d)
    → defer f (rested_deference f m d) false false w ≡ to (rested_deference f (suc m) d)
unfolding rested_deference rests_for
defer_goes f Quiet m true g h = absurd (omega (arith, h refl))
defer_goes f Quiet m false g h = over_quiet f false
defer_goes f (Busy own) zero w g h = busy_goes f own w ∙ sym (ap to (gap_in f own 1 g))
defer_goes f (Busy own) (suc m) w g h =
    rw (ne_eqb (suc m) 0 (λ z. omega arith), ne_eqb (suc (suc m)) 0 (λ z. omega arith)) (gap_goes f own (suc m) w h)
defer_goes f (Gap n own) m w g h =
    let e : suc (n + m) ≡ n + suc m = omega arith in
    gap_goes f own (n + m) w (λ z. omega (arith, h z)) ∙ ap (λ (c : ℕ). to (gap_to f own c)) e

-- ---- transmitter

-- no frame goes out
abbrev pub NoneOut : Transmitter → Type 0
NoneOut NoFrame = Unit {0}
NoneOut Waiting = Unit {0}
NoneOut (BackingOff w) = Unit {0}
NoneOut (Sending k) = ⊥
NoneOut (Heading k) = ⊥
NoneOut (Jamming k ends) = ⊥

pub lasts_none : (f : Figures) (K : ℕ) (d : Deference) (x : Transmitter) → Lasts f K d x → NoneOut x
lasts_none f K d NoFrame l = tt
lasts_none f K d Waiting l = tt
lasts_none f K d (BackingOff w) l = tt
lasts_none f K d (Sending k) l = l
lasts_none f K d (Heading k) l = l
lasts_none f K d (Jamming k ends) l = l

-- it does not matter then what is heard
pub transmit_goes : (f : Figures) (m : ℕ) (x : Transmitter) (z n draw : ℕ) (h : Bool) → NoneOut x
    → transmit f (rested_transmitter m x) z n draw false h ≡ resting (rested_transmitter (suc m) x)
unfolding rested_transmitter transmit wait_bit backoff_bit
transmit_goes f m NoFrame z n draw h l = refl
transmit_goes f m Waiting z n draw h l = refl
transmit_goes f m (BackingOff w) z n draw h l =
    by_test (ltb m w)
    (λ c. let g = ltb-true m w c in
    by_test (ltb (suc m) w)
    (λ b. let k = ltb-true (suc m) w b in let e : w - m - 1 ≡ w - suc
    m = omega arith in rw (c, b, lt-leb (w - m) 1 (omega arith), e))
    (λ b. let k = ltb-false (suc m) w b in rw (c, b, le-leb (w - m) 1 (omega arith))))
    (λ c. let g = ltb-false m w c in rw (c, le-ltb (suc m) w (omega arith)))
transmit_goes f m (Sending k) z n draw h l = absurd l
transmit_goes f m (Heading k) z n draw h l = absurd l
transmit_goes f m (Jamming k ends) z n draw h l = absurd l

-- ---- deferred

pub waited_more : (m : ℕ) (x : Transmitter) → has_waited (suc m) x ≡ (has_waited m x || waits (rested_transmitter m x))
unfolding has_waited rested_transmitter
waited_more m NoFrame = refl
waited_more m Waiting = rw (lt-ltb 0 (suc m) (omega arith)) (sym (or-true (ltb 0 m)))
waited_more m (BackingOff w) =
    by_test (ltb m w)
    (λ c. let g = ltb-true m w c in rw (c, le-ltb w (suc m) (omega arith), le-ltb w m (omega arith)))
    (λ c. let g = ltb-false m w c in rw (c, lt-ltb w (suc m) (omega arith)) (sym (or-true (ltb w m))))
waited_more m (Sending k) = refl
waited_more m (Heading k) = refl
waited_more m (Jamming k ends) = refl

pub deferred_more : (df t h w : Bool) → ((df || (t && h)) || (w && (t && true))) ≡ (df || (t && (h || w)))
deferred_more true t h w = refl
deferred_more false true true w = refl
deferred_more false true false true = refl
deferred_more false true false false = refl
deferred_more false false h true = refl
deferred_more false false h false = refl

-- ---- the step

pub idle_ends : (address buf : List ℕ) (r : Receiver) (e : Bool) → Idle r
    → receive address buf r Nothing e ≡ deciding r None
unfolding receive ended
idle_ends address buf Listening e i = refl
idle_ends address buf (Readable n) e i = refl
idle_ends address buf (Seeking row sp own) e i = absurd i
idle_ends address buf (Collecting n sp own) e i = absurd i

-- ---- where it begins, and its range

pub rested_gap : (f : Figures) (d : Deference) → GapIn (gap_of f) d → rested_deference f 0 d ≡ d
unfolding rested_deference
rested_gap f Quiet v = refl
rested_gap f (Busy own) v = refl
rested_gap f (Gap n own) v = let e : n + 0 ≡ n = omega arith in rw e (gap_in f own n v.1)

pub rested_frame : (f : Figures) (z : ℕ) (x : Transmitter) → NumberIn f z x → rested_transmitter 0 x ≡ x
unfolding rested_transmitter
rested_frame f z NoFrame v = refl
rested_frame f z Waiting v = refl
rested_frame f z (BackingOff w) v = let e : w - 0 ≡ w = omega arith in rw (lt-ltb 0 w v.0, e)
rested_frame f z (Sending k) v = refl
rested_frame f z (Heading k) v = refl
rested_frame f z (Jamming k ends) v = refl

pub none_waited : (f : Figures) (z : ℕ) (x : Transmitter) → NumberIn f z x → has_waited 0 x ≡ false
unfolding has_waited
none_waited f z NoFrame v = refl
none_waited f z Waiting v = refl
none_waited f z (BackingOff w) v = le-ltb w 0 (omega arith)
none_waited f z (Sending k) v = refl
none_waited f z (Heading k) v = refl
none_waited f z (Jamming k ends) v = refl

pub as_was : (df t : Bool) → (df || (t && false)) ≡ df
as_was true t = refl
as_was false true = refl
as_was false false = refl

pub rested_none : (f : Figures) (d t : ℕ) (s : Station) → Fine f d t s → s.emitted ≡ false → rested f 0 s ≡ s
unfolding rested
rested_none f d t s v e =
    rw (
      rested_gap f s.deference v.gap,
      rested_frame f s.frame s.transmitter v.number,
      none_waited f
          s.frame s.transmitter v.number,
      as_was s.deferred (eqb s.attempts 0),
    )
    (λ i. record {
      address = s.address;
      deference = s.deference;
      transmitter = s.transmitter;
      receiver = s.receiver;
      frame = s.frame;
      attempts = s.attempts;
      draw = s.draw;
      deferred = s.deferred;
      emitted = sym e i;
    })

to_small : (f : Figures) (own : Bool) (c : ℕ) → Figured f → deference_count (gap_to f own c) < 65536
unfolding gap_to gap_of
to_small f own c g =
    by_test (leb c (f.gap1 + f.gap2))
    (λ b. let h = leb-true c (f.gap1 + f.gap2) b in rw b (omega (arith, g.gap1, g.gap2)))
    (λ b. rw b (omega arith))

pub count_small : (f : Figures) (m : ℕ) (d : Deference) → Figured f → deference_count (rested_deference f m d) < 65536
unfolding rested_deference
count_small f m Quiet g = omega arith
count_small f zero (Busy own) g = omega arith
count_small f (suc m) (Busy own) g = rw (ne_eqb (suc m) 0 (λ z. omega arith)) (to_small f own (suc m) g)
count_small f m (Gap n own) g = to_small f own (n + m) g

pub number_less : (m b : ℕ) (x : Transmitter) → 0 < b → number_in x < b → number_in (rested_transmitter m x) < b
unfolding rested_transmitter
number_less m b NoFrame p h = h
number_less m b Waiting p h = h
number_less m b (BackingOff w) p h = by_test (ltb m w) (λ c. rw c (omega arith)) (λ c. rw c p)
number_less m b (Sending k) p h = h
number_less m b (Heading k) p h = h
number_less m b (Jamming k ends) p h = h

pub rested_fit : (f : Figures) (m : ℕ) (s : Station) → Figured f → Fit s → Fit (rested f m s)
unfolding rested
rested_fit f m s g v =
    record {
      count = omega (arith, count_small f m s.deference g);
      number = number_less m (256 ^ 4) s.transmitter (omega arith) v.number;
      received = v.received;
      frame = v.frame;
      attempts = v.attempts;
      draw = v.draw;
    }

pub rested_address : (f : Figures) (m : ℕ) (s : Station) → (rested f m s).address ≡ s.address
unfolding rested
rested_address f m s = refl
