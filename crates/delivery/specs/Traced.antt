-- A list of calls made the steps of an execution: each area is the encoding of its world. Assumes nothing.
use Prim.Native.Nat.{ℕ, zero, suc, ◌+◌, ◌-◌, ◌≤◌, ◌<◌}
use Rattle.std.specs.Prelude.{◌≡◌, Bool, true, false, ◌⊎◌, ltb, leb, eqb, length, Option}
use Rattle.std.proofs.Math.Path.{refl, ap, ap₂, subst}
use Rattle.std.proofs.Common.{sym, ◌∙◌, inl, inr, add-one, arith, eq-eqb, ne_eqb, eqb-true, ltb-false, leb-false, length-append}
use mathlib.Core.List.{List, [], ◌∷◌, ◌++◌, append_assoc, append-nil}
use Rattle.std.proofs.Math.Nat.{add-zero}
use Rattle.std.proofs.Math.ListN.{get_or-append}
use Rattle.std.proofs.Math.Seq.{get_or-append_seam}
use Rattle.octets.specs.Base.{pick, number_of}
use Rattle.octets.specs.BaseLaws.{by_test, by_eq}
use Rattle.octets.specs.Filled.{filled_at}
use Rattle.octets.specs.NumberLaws.{Octets}
use Rattle.frame_build.specs.Limits.{refuses_data, max_frame, buffer_octets}
use Rattle.frame_build.specs.Build.{frame_of}
use Rattle.station_symbols.specs.declared.Heard.{Heard}
use Rattle.station_spec.specs.declared.TransmitEvent.{TransmitEvent}
use Rattle.station_state.specs.declared.Transmitter.{Transmitter}
use Rattle.station_state.specs.declared.Station.{Station}
use Rattle.station_spec.specs.declared.Stepped.{Stepped}
use Rattle.station_spec.specs.Step.{tries_after, stepped, next_station}
use Rattle.station_spec.specs.StepLaws.{tries_more, tries_same}
use Rattle.area.specs.Area.{clock_at, count_at, address_at, station_at}
use Rattle.area_check.specs.Valid.{area_refusal}
use Rattle.bus_spec.specs.declared.Events.{Events}
use Rattle.bus_spec.specs.BitTime.{act_at, events_of, no_events, events_at, event_at}
use Rattle.bus_spec.specs.Passes.{Passing, ready_passes}
use Rattle.bus_spec.proofs.Stays.{step_passing}
use Rattle.bus_offer.specs.Offer.{holds, offered_station, with_offer, offered}
use Rattle.bus_offer.specs.OfferLaws.{address_six}
use Rattle.bus_step.specs.Step.{stepped_once}
use Rattle.bus_spec.specs.Run.{ran}
use Rattle.trace.specs.Basic.{either, clash}
use Rattle.trace.specs.World as world
use Rattle.bus_meeting.specs.Net.{Net}
use Rattle.trace.specs.World.{Offer, frame_for, World, outcome, given, offers, before, ready}
use Rattle.trace.specs.Run.{before_suc, ready_clock}
use Rattle.trace.specs.Keep.{held_back}
use Rattle.trace.specs.Sent.{end_phase}
use Rattle.delivery.specs.Passing.{frame_range, holding, offer_passing}
use Rattle.frame_open.specs.Open.{value_of}
use Rattle.frame_open.specs.RoundTrip.{stored_within}
use Rattle.delivery.specs.Encode.{Plan, Encodes, same_outcome, encodes_step}
use Rattle.delivery.specs.Offered.{encodes_offer}
use Rattle.delivery.specs.Calls.{Call, offer, step, run, read, FairOffer, Fair, AllFair, Moment, next, accept}
use Rattle.delivery.specs.Calls.{late, run_made, run_end, made, leaves, log, end, begin, moment_at, sent_at, Ends}
use Rattle.sheet_layout.specs.Limits.{last_clock}

-- ---- inputs that agree make the same worlds

module _ (P : Net) (inp inq : ℕ → List (Offer P)) where
  before_agree : (t : ℕ) → ((u : ℕ) → u < t → inp u ≡ inq u) → before P inp t ≡ before P inq t
  unfolding before
  before_agree zero h = refl
  before_agree (suc t) h =
      ap (world.step P) (ap₂ (offers P) (h t (omega arith)) (before_agree t (λ u l. h u (omega arith))))

  ready_agree : (t : ℕ) → ((u : ℕ) → u ≤ t → inp u ≡ inq u) → ready P inp t ≡ ready P inq t
  unfolding ready
  ready_agree t h = ap₂ (offers P) (h t (omega arith)) (before_agree t (λ u l. h u (omega arith)))

-- one offer more at clock t
put : (P : Net) → (ℕ → List (Offer P)) → Offer P → ℕ → ℕ → List (Offer P)
put P inp o t u = pick (eqb u t) (inp u ++ (o ∷ [])) (inp u)

offers_snoc : (P : Net) (os : List (Offer P)) (o : Offer P) (w : World)
    → offers P (os ++ (o ∷ [])) w ≡ world.offer P o (offers P os w)
unfolding offers
offers_snoc P [] o w = refl
offers_snoc P (p ∷ os) o w = offers_snoc P os o (world.offer P p w)

module _ (P : Net) (inp : ℕ → List (Offer P)) (o : Offer P) (t : ℕ) where
  put_else : (u : ℕ) → (u ≡ t → ⊥) → put P inp o t u ≡ inp u
  unfolding put
  put_else u ne = rw (ne_eqb u t ne)

  put_now : put P inp o t t ≡ inp t ++ (o ∷ [])
  unfolding put
  put_now = rw (eq-eqb t t refl)

  put_ready : ready P (put P inp o t) t ≡ world.offer P o (ready P inp t)
  unfolding ready
  put_ready =
      ap₂ (offers P) put_now (before_agree P (put P inp o t) inp t (λ u l. put_else u (λ z. omega arith)))
      ∙ offers_snoc P (inp t) o (before P inp t)

-- ---- a step made, and where the list stands

-- the area before a step encodes the world before it; the offers, the frames and their starts are booked
pub record Row (P : Net) (m : Moment) (w : World) : Type 0 where
  pub coded : Encodes P m.area w
  pub passing : Passing m.area
  pub frames : (i : ℕ) → i < P.n → m.frame i ≡ w.frame i
  pub tries : (i : ℕ) → i < P.n → (w.station i).attempts ≡ m.starts i
  pub behind : (i : ℕ) → i < P.n → holds (w.station i).transmitter ≡ true → 0 < m.offers i

-- offer c of station i is over: a later one was accepted, or the station holds no frame
abbrev pub Over : (c : ℕ) → Moment → World → ℕ → Type 0
Over c m w i = (c < m.offers i) ⊎ ((c ≡ m.offers i) × (holds (w.station i).transmitter ≡ false))

-- every offer whose frame ended in one of the first v steps is over
abbrev pub Since : (P : Net) → List Moment → (v : ℕ) → Moment → World → Type 0
Since P T v m w = (u i n : ℕ) → u < v → i < P.n → Ends (sent_at T u i) n → Over ((moment_at T u).offers i) m w i

pub record Traced (P : Net) (m : Moment) (T : List Moment) : Type 0 where
  pub inp : ℕ → List (Offer P)
  pub later : (u : ℕ) → length T < u → inp u ≡ []
  pub here : Row P m (ready P inp (length T))
  pub rows : (u : ℕ) → u < length T → Row P (moment_at T u) (ready P inp u)
  pub over : Since P T (length T) m (ready P inp (length T))
  pub overs : (v : ℕ) → v < length T → Since P T v (moment_at T v) (ready P inp v)

-- ---- a step

tries_step : (P : Net) (w : World) (i : ℕ)
    → (outcome P w i).station.attempts ≡ tries_after (w.station i).attempts (outcome P w i).start
unfolding outcome stepped next_station
tries_step P w i = refl

held_step : (P : Net) (w : World) (i : ℕ) → holds (outcome P w i).station.transmitter ≡ true
    → holds (w.station i).transmitter ≡ true
unfolding outcome stepped next_station
held_step P w i h = held_back P.fig (w.station i).transmitter _ _ _ _ _ h

pub tries_count : (n : ℕ) (b : Bool) → tries_after n b ≡ n + pick b 1 0
tries_count n true = sym (tries_more n true refl)
tries_count n false = sym (tries_same n false refl) ∙ omega arith

step_world : (P : Net) (inp : ℕ → List (Offer P)) (t : ℕ) → inp (suc t) ≡ []
    → ready P inp (suc t) ≡ world.step P (ready P inp t)
unfolding ready offers
step_world P inp t e = ap (λ (os : List (Offer P)). offers P os (before P inp (suc t))) e ∙ before_suc P inp t

row_step : (P : Net) (m : Moment) (w : World) → Row P m w → clock_at m.area < last_clock
    → Row P (next m) (world.step P w)
unfolding next world.step
row_step P m w r early =
    record {
      coded = encodes_step P m.area w r.coded r.passing.ready;
      passing = step_passing m.area r.passing early;
      frames = r.frames;
      tries = λ i hi.
          tries_step P w i ∙ tries_count (w.station i).attempts (outcome P w i).start
          ∙ ap₂ (λ (x : ℕ) (b : Bool). x + pick b 1 0) (r.tries i hi)
          (sym (ap (λ (o : Stepped). o.start) (same_outcome P m.area w r.coded r.passing.ready i hi)));
      behind = λ i hi h. r.behind i hi (held_step P w i h);
    }

-- ---- offers that are over stay so

-- an event that ends a frame leaves its station with none
ended_free : (P : Net) (w : World) (i n : ℕ) → Ends (outcome P w i).sent n
    → holds (outcome P w i).station.transmitter ≡ false
unfolding outcome stepped next_station
ended_free P w i n e = ap holds (end_phase P.fig (w.station i).transmitter _ _ _ _ _ n e).0

pub event_is : (a : List ℕ) (i : ℕ) → i < count_at a → event_at (events_at a) i ≡ events_of (act_at a i)
unfolding events_at
event_is a i h = filled_at no_events (λ k. events_of (act_at a k)) (count_at a) i no_events h

-- what a station reports is its world's
pub sent_in_lem : (P : Net) (m : Moment) (w : World) → Row P m w → (i : ℕ) → i < P.n
    → (event_at (events_at m.area) i).sent ≡ (outcome P w i).sent
sent_in_lem P m w r i hi =
    ap (λ (e : Events). e.sent) (event_is m.area i (omega (arith, r.coded.plan.count)))
    ∙ ap (λ (o : Stepped). o.sent) (same_outcome P m.area w r.coded r.passing.ready i hi)

over_now : (P : Net) (m : Moment) (w : World) → Row P m w → (i n : ℕ) → i < P.n
    → Ends (event_at (events_at m.area) i).sent n
    → Over (m.offers i) (next m) (world.step P w) i
unfolding next world.step
over_now P m w r i n hi e =
    inr (refl, ended_free P w i n (subst (λ (v : Option TransmitEvent). Ends v n) (sent_in_lem P m w r i hi) e))

over_step : (P : Net) (m : Moment) (w : World) (c i : ℕ) → Over c m w i → Over c (next m) (world.step P w) i
unfolding next world.step
over_step P m w c i (inl h) = inl h
over_step P m w c i (inr x) =
    inr (x.0, by_test (holds (outcome P w i).station.transmitter) (λ h. clash (held_step P w i h) x.1) (λ h. h))

over_offer : (P : Net) (o : Offer P) (m : Moment) (w : World) (F b : List ℕ) (c j : ℕ) → Over c m w j
    → Over c (accept o.to F b m) (given P o w) j
unfolding accept given
over_offer P o m w F b c j x =
    by_eq j o.to
    (λ z. rw (eq-eqb j o.to z) (inl (either x (λ h. omega arith) (λ h. omega (arith, h.0)))))
    (λ ne. rw (ne_eqb j o.to ne, add-zero (m.offers j)) x)

-- a list with one moment more
last_is : (T : List Moment) (m : Moment) → moment_at (T ++ (m ∷ [])) (length T) ≡ m
last_is T m = get_or-append_seam T m [] (begin [])

front_is : (T : List Moment) (m : Moment) (u : ℕ) → u < length T → moment_at (T ++ (m ∷ [])) u ≡ moment_at T u
front_is T m u h = get_or-append T (m ∷ []) (begin []) u h

long : (T : List Moment) (m : Moment) → length (T ++ (m ∷ [])) ≡ suc (length T)
long T m = length-append T (m ∷ []) ∙ add-one (length T)

since_longer : (P : Net) (T : List Moment) (y : Moment) (v : ℕ) (m : Moment) (w : World) → v ≤ length T
    → Since P T v m w → Since P (T ++ (y ∷ [])) v m w
since_longer P T y v m w h s u i n hu hi =
    subst (λ (x : Moment). Ends (event_at (events_at x.area) i).sent n → Over (x.offers i) m w i)
    (sym (front_is T y u (omega arith))) (s u i n hu hi)

since_step : (P : Net) (T : List Moment) (m : Moment) (w : World) → Row P m w → Since P T (length T) m w
    → Since P (T ++ (m ∷ [])) (suc (length T)) (next m) (world.step P w)
since_step P T m w r s u i n hu hi =
    by_eq u (length T)
    (λ z. rw z (subst (λ (x : Moment). Ends (event_at (events_at x.area) i).sent n → Over (x.offers i) (next m)
    (world.step P w) i) (sym (last_is T m)) (over_now P m w r i n hi)))
    (λ ne e. over_step P m w _ i (since_longer P T m (length T) m w (omega arith) s u i n (omega (arith, ne)) hi e))

pub traced_step : (P : Net) (m : Moment) (T : List Moment) → Traced P m T → clock_at m.area < last_clock
    → Traced P (next m) (T ++ (m ∷ []))
traced_step P m T v early =
    record {
      inp = v.inp;
      later = λ u h. v.later u (omega (arith, long T m));
      here =
          subst (Row P (next m)) (sym (ap (ready P v.inp) (long T m) ∙ step_world P v.inp (length T)
          (v.later (suc (length T)) (omega arith)))) (row_step P m (ready P v.inp (length T)) v.here early);
      rows = λ u h.
          by_eq u (length T)
          (λ z. rw z (subst (λ (x : Moment). Row P x (ready P v.inp (length T))) (sym (last_is T m)) v.here))
          (λ ne. let l : u < length T = omega (arith, long T m, ne)
          in subst (λ (x : Moment). Row P x (ready P v.inp u)) (sym (front_is T m u l)) (v.rows u l));
      over = let w = ready P v.inp (length T) in
          subst (λ (x : World). Since P (T ++ (m ∷ [])) (length (T ++ (m ∷ []))) (next m) x)
          (sym (ap (ready P v.inp) (long T m) ∙ step_world P v.inp (length T)
          (v.later (suc (length T)) (omega arith))))
          (subst (λ (k : ℕ). Since P (T ++ (m ∷ [])) k (next m) (world.step P w)) (sym (long T m))
          (since_step P T m w v.here v.over));
      overs = λ x h.
          by_eq x (length T)
          (λ z. rw z (subst (λ (y : Moment). Since P (T ++ (m ∷ [])) (length T) y (ready P v.inp (length T)))
          (sym (last_is T m))
          (since_longer P T m (length T) m (ready P v.inp (length T)) (omega arith) v.over)))
          (λ ne. let l : x < length T = omega (arith, long T m, ne) in
          subst (λ (y : Moment). Since P (T ++ (m ∷ [])) x y (ready P v.inp x)) (sym (front_is T m x l))
          (since_longer P T m x (moment_at T x) (ready P v.inp x) (omega arith) (v.overs x l)));
    }

-- ---- a run

pub clock_is : (P : Net) (m : Moment) (T : List Moment) → Traced P m T → clock_at m.area ≡ length T
clock_is P m T v = v.here.coded.time ∙ ready_clock P v.inp (length T)

module _ (k : ℕ) (m : Moment) where
  made_late : late m ≡ true → run_made (suc k) m ≡ m ∷ []
  unfolding run_made
  made_late e = rw e

  made_on : late m ≡ false → run_made (suc k) m ≡ m ∷ run_made k (next m)
  unfolding run_made
  made_on e = rw e

  pub end_late : late m ≡ true → run_end (suc k) m ≡ next m
  unfolding run_end
  end_late e = rw e

  pub end_on : late m ≡ false → run_end (suc k) m ≡ run_end k (next m)
  unfolding run_end
  end_on e = rw e

made_none : (m : Moment) → run_made zero m ≡ []
unfolding run_made
made_none m = refl

pub end_none : (m : Moment) → run_end zero m ≡ m
unfolding run_end
end_none m = refl

moved : (P : Net) (m n : Moment) (T U : List Moment) → n ≡ m → U ≡ T → Traced P m T → Traced P n U
moved P m n T U e f v = subst (λ (x : Moment). Traced P x U) (sym e) (subst (Traced P m) (sym f) v)

run_turn : (P : Net) (k : ℕ) (m : Moment) (T : List Moment) → Traced P (next m) (T ++ (m ∷ []))
    → Traced P (run_end k (next m)) ((T ++ (m ∷ [])) ++ run_made k (next m))
    → Traced P (run_end (suc k) m) (T ++ run_made (suc k) m)
run_turn P k m T s r =
    by_test (late m)
    (λ e. moved P (next m) (run_end (suc k) m) (T ++ (m ∷ [])) (T ++ run_made (suc k) m) (end_late k m e)
    (ap (λ (L : List Moment). T ++ L) (made_late k m e)) s)
    (λ e. moved P (run_end k (next m)) (run_end (suc k) m) ((T ++ (m ∷ [])) ++ run_made k (next m))
    (T ++ run_made (suc k) m) (end_on k m e)
    (ap (λ (L : List Moment). T ++ L) (made_on k m e) ∙ sym (append_assoc T (m ∷ []) (run_made k (next m)))) r)

pub run_early : (P : Net) (k : ℕ) (m : Moment) (T : List Moment) → Traced P m T → length T + suc k ≤ last_clock
    → clock_at m.area < last_clock
run_early P k m T v h = let c = clock_is P m T v in omega arith

pub run_room : (k : ℕ) (m : Moment) (T : List Moment) → length T + suc k ≤ last_clock
    → length (T ++ (m ∷ [])) + k ≤ last_clock
run_room k m T h = omega (arith, long T m)

traced_run : (P : Net) (k : ℕ) (m : Moment) (T : List Moment) → Traced P m T → length T + k ≤ last_clock
    → Traced P (run_end k m) (T ++ run_made k m)
traced_run P zero m T v h =
    moved P m (run_end zero m) T (T ++ run_made zero m) (end_none m)
    (ap (λ (L : List Moment). T ++ L) (made_none m) ∙ append-nil T) v
traced_run P (suc k) m T v h =
    let s : Traced P (next m) (T ++ (m ∷ [])) = traced_step P m T v (run_early P k m T v h) in
    run_turn P k m T s (traced_run P k (next m) (T ++ (m ∷ [])) s (run_room k m T h))

-- ---- an offer

-- what an accepted offer was
record Taken (a : List ℕ) (i : ℕ) (d : List ℕ) (v : ℕ) (x : List ℕ) : Type 0 where
  station : i < count_at a
  allowed : refuses_data v (length x) ≡ false
  free : holds (station_at a i).transmitter ≡ false
  octets : (offered a i d v x).octets ≡ holding a (frame_of d (address_at a i) v x) i

no_number : {C : Type 0} (k : ℕ) → (k ≡ 0 → ⊥) → k ≡ 0 → C
no_number k h e = absurd (h e)

offer_taken : (a : List ℕ) (i : ℕ) (d : List ℕ) (v : ℕ) (x : List ℕ) → area_refusal a ≡ 0
    → number_of (offered a i d v x).answer ≡ 0 → Taken a i d v x
unfolding offered with_offer
offer_taken a i d v x ok =
    by_test (leb (count_at a) i)
    (λ c. rw (eq-eqb (area_refusal a) 0 ok, c) (no_number 10 (λ z. omega arith)))
    (λ c. by_test (refuses_data v (length x))
    (λ e. rw (eq-eqb (area_refusal a) 0 ok, c, e) (no_number 11 (λ z. omega arith)))
    (λ e. by_test (holds (station_at a i).transmitter)
    (λ h. rw (eq-eqb (area_refusal a) 0 ok, c, e, h) (no_number 12 (λ z. omega arith)))
    (λ h. λ n. record {
      station = leb-false (count_at a) i c;
      allowed = e;
      free = h;
      octets = rw (eq-eqb (area_refusal a) 0 ok, c, e, h) refl;
    })))

offer_world : (P : Net) (o : Offer P) (w : World) → holds (w.station o.to).transmitter ≡ false
    → world.offer P o w ≡ given P o w
unfolding world.offer
offer_world P o w h = rw h

tried_none : (s : Station) (n : ℕ) → (offered_station s n).attempts ≡ 0
unfolding offered_station
tried_none s n = refl

module _ (P : Net) (m : Moment) (w : World) (r : Row P m w) (i : ℕ) (d : List ℕ) (v : ℕ) (x : List ℕ)
    (q : FairOffer d v x) (k : Taken m.area i d v x) where
  asked : Offer P
  asked =
      record {
        to = i;
        destination = d;
        value = v;
        payload = x;
        six = q.six;
        allowed = k.allowed;
        octets = q.destination;
        contents = q.payload;
        small = q.value;
      }

  built : List ℕ
  built = frame_of d (address_at m.area i) v x

  inside : i < P.n
  inside = omega (arith, k.station, r.coded.plan.count)

  same_frame : built ≡ frame_for P asked
  unfolding built asked frame_for
  same_frame = ap (λ (s : List ℕ). frame_of d s v x) (r.coded.plan.address i inside)

  still_free : holds (w.station i).transmitter ≡ false
  still_free = ap (λ (s : Station). holds s.transmitter) (sym (r.coded.state i inside)) ∙ k.free

  sizes : (64 ≤ length built) × (length built ≤ buffer_octets)
  unfolding built
  sizes =
      let few = r.passing.ready.spread.few in
      frame_range d (address_at m.area i) v x q.six
      (address_six m.area i (omega (arith, k.station)) r.passing.ready.long) k.allowed

  sized : length built ≤ max_frame (value_of built)
  unfolding built
  sized =
      let few = r.passing.ready.spread.few in
      stored_within d (address_at m.area i) v x q.six
      (address_six m.area i (omega (arith, k.station)) r.passing.ready.long) k.allowed

  row_offer : Row P (accept i built (offered m.area i d v x).octets m) (given P asked w)
  unfolding accept given asked built
  row_offer =
      record {
        coded =
            subst (λ (b : List ℕ). Encodes P b (given P asked w)) (sym k.octets)
            (encodes_offer P m.area w r.coded r.passing asked inside still_free built same_frame sizes.0
            sizes.1);
        passing =
            subst Passing (sym k.octets)
            (offer_passing m.area built i r.passing k.station sizes.0 sizes.1 sized);
        frames = λ j hj. by_eq j i (λ z. rw (eq-eqb j i z) same_frame) (λ ne. rw (ne_eqb j i ne) (r.frames j hj));
        tries =
            λ j hj. by_eq j i (λ z. rw (eq-eqb j i z) (tried_none (w.station j) (length (frame_for P asked))))
            (λ ne. rw (ne_eqb j i ne) (r.tries j hj));
        behind =
            λ j hj. by_eq j i (λ z. rw (eq-eqb j i z) (λ h. omega arith))
            (λ ne. rw (ne_eqb j i ne, add-zero (m.offers j)) (r.behind j hj));
      }

traced_offer : (P : Net) (m : Moment) (T : List Moment) → Traced P m T → (i : ℕ) (d : List ℕ) (v : ℕ) (x : List ℕ)
    → FairOffer d v x → Taken m.area i d v x
    → Traced P (accept i (frame_of d (address_at m.area i) v x) (offered m.area i d v x).octets m) T
unfolding built asked
traced_offer P m T t i d v x q k =
    let w = ready P t.inp (length T) in
    let o = asked P m w t.here i d v x q k in
    record {
      inp = put P t.inp o (length T);
      later = λ u h. put_else P t.inp o (length T) u (λ z. omega arith) ∙ t.later u h;
      here = subst (Row P (accept i (frame_of d (address_at m.area i) v x) (offered m.area i d v x).octets m))
          (sym (put_ready P t.inp o (length T) ∙ offer_world P o w (still_free P m w t.here i d v x q k)))
          (row_offer P m w t.here i d v x q k);
      rows = λ u h.
          subst (Row P (moment_at T u)) (sym (ready_agree P (put P t.inp o (length T)) t.inp u
          (λ s l. put_else P t.inp o (length T) s (λ z. omega arith)))) (t.rows u h);
      over =
          subst (Since P T (length T) (accept i (frame_of d (address_at m.area i) v x)
          (offered m.area i d v x).octets m))
          (sym (put_ready P t.inp o (length T) ∙ offer_world P o w (still_free P m w t.here i d v x q k)))
          (λ u j n hu hj e. over_offer P o m w (frame_of d (address_at m.area i) v x)
          (offered m.area i d v x).octets _ j (t.over u j n hu hj e));
      overs = λ u h.
          subst (Since P T u (moment_at T u))
          (sym (ready_agree P (put P t.inp o (length T)) t.inp u
          (λ s l. put_else P t.inp o (length T) s (λ z. omega arith)))) (t.overs u h);
    }

-- ---- the calls

step_taken_lem : (a : List ℕ) → area_refusal a ≡ 0 → number_of (stepped_once a).answer ≡ 0 → clock_at a < last_clock
unfolding stepped_once
step_taken_lem a ok =
    by_test (ltb last_clock (clock_at a + 1))
    (λ c. rw (eq-eqb (area_refusal a) 0 ok, c) (no_number 13 (λ z. omega arith)))
    (λ c. λ n. let l = ltb-false last_clock (clock_at a + 1) c in omega arith)

pub ran_taken : (a : List ℕ) (n : ℕ) → area_refusal a ≡ 0 → number_of (ran a n).answer ≡ 0 → clock_at a + n ≤ last_clock
unfolding ran
ran_taken a n ok =
    by_test (ltb last_clock (clock_at a + n))
    (λ c. rw (eq-eqb (area_refusal a) 0 ok, c) (no_number 13 (λ z. omega arith)))
    (λ c. λ e. ltb-false last_clock (clock_at a + n) c)

none_more : (P : Net) (m : Moment) (T : List Moment) → Traced P m T → Traced P m (T ++ [])
none_more P m T v = subst (Traced P m) (sym (append-nil T)) v

pub run_fits : (P : Net) (n : ℕ) (m : Moment) (T : List Moment) → Traced P m T → number_of (ran m.area n).answer ≡ 0
    → length T + n ≤ last_clock
run_fits P n m T t e =
    let c = clock_is P m T t in let h = ran_taken m.area n
    (ready_passes m.area t.here.passing) e in omega arith

pub traced_call : (P : Net) (c : Call) (m : Moment) (T : List Moment) → Fair c → Traced P m T
    → Traced P (leaves c m) (T ++ made c m)
unfolding leaves made
traced_call P (offer i d v x) m T q t =
    by_test (eqb (number_of (offered m.area i d v x).answer) 0)
    (λ e. rw e (none_more P _ T (traced_offer P m T t i d v x q
    (offer_taken m.area i d v x (ready_passes m.area t.here.passing)
    (eqb-true (number_of (offered m.area i d v x).answer) 0 e)))))
    (λ e. rw e (none_more P m T t))
traced_call P step m T q t =
    by_test (eqb (number_of (stepped_once m.area).answer) 0)
    (λ e. rw e (traced_step P m T t
    (step_taken_lem m.area (ready_passes m.area t.here.passing)
    (eqb-true (number_of (stepped_once m.area).answer) 0 e))))
    (λ e. rw e (none_more P m T t))
traced_call P (run n) m T q t =
    by_test (eqb (number_of (ran m.area n).answer) 0)
    (λ e. rw e (traced_run P n m T t (run_fits P n m T t (eqb-true (number_of (ran m.area n).answer) 0 e))))
    (λ e. rw e (none_more P m T t))
traced_call P (read i out) m T q t = none_more P m T t

pub traced_all : (P : Net) (cs : List Call) (m : Moment) (T : List Moment) → AllFair cs → Traced P m T
    → Traced P (end cs m) (T ++ log cs m)
unfolding end log
traced_all P [] m T q t = none_more P m T t
traced_all P (c ∷ cs) m T q t =
    subst (Traced P (end cs (leaves c m))) (append_assoc T (made c m) (log cs (leaves c m)))
    (traced_all P cs (leaves c m) (T ++ made c m) q.1 (traced_call P c m T q.0 t))

-- a fresh start: no step, no offer yet
fresh_frame : (P : Net) (i : ℕ) → ◌≡◌ {A = List ℕ} [] ((world.fresh P).frame i)
unfolding world.fresh
fresh_frame P i = refl

fresh_tries : (P : Net) (i : ℕ) → ((world.fresh P).station i).attempts ≡ 0
unfolding world.fresh world.fresh_station
fresh_tries P i = refl

fresh_free : (P : Net) (i : ℕ) → holds ((world.fresh P).station i).transmitter ≡ false
unfolding world.fresh world.fresh_station
fresh_free P i = refl

no_step : (u : ℕ) → u < 0 → ⊥
no_step u h = omega arith

pub traced_begin : (P : Net) (b : List ℕ) → Encodes P b (world.fresh P) → Passing b → Traced P (begin b) []
unfolding ready before offers
traced_begin P b e p =
    record {
      inp = λ u. [];
      later = λ u h. refl;
      here =
          record {
            coded = e;
            passing = p;
            frames = λ i hi. fresh_frame P i;
            tries = λ i hi. fresh_tries P i;
            behind = λ i hi h. clash h (fresh_free P i);
          };
      rows = λ u h. absurd (no_step u h);
      over = λ u i n h. absurd (no_step u h);
      overs = λ v h. absurd (no_step v h);
    }
