-- A bit time of the five processes together is a step of document 01's station. Assumes nothing.
use Rattle.std.specs.Prelude.{ℕ, ◌≤◌, ◌+◌, ◌≡◌, Bool, true, false, not, ◌||◌, ◌&&◌, List, [], ◌∷◌, ltb, leb, eqb, length, Option, None, Some}
use Rattle.std.proofs.Common.{subst₂, sym, ◌∙◌, true≢false, length-set}
use Rattle.std.proofs.Math.Path.{refl, ap, subst}
use Rattle.std.proofs.Math.Bool.{and-false}
use Rattle.octets.specs.Base.{pick}
use Rattle.frame_build.specs.Limits.{buffer_octets}
use Rattle.sheet_layout.specs.declared.Figures.{Figures}
use Rattle.station_symbols.specs.Packet.{hears_any, is_emission}
use Rattle.station_symbols.specs.declared.Emission.{Emission}
use Rattle.station_state.specs.declared.Deference.{Deference as Phase}
use Rattle.station_state.specs.declared.Deference.TheVariants.{Quiet, Busy, Gap}
use Rattle.station_state.specs.declared.Transmitter.{Transmitter}
use Rattle.station_state.specs.declared.Transmitter.TheVariants.{NoFrame, Waiting, BackingOff, Sending, Heading}
use Rattle.station_state.specs.declared.Transmitter.TheVariants.{Jamming}
use Rattle.station_state.specs.declared.Receiver.{Receiver}
use Rattle.station_state.specs.declared.Station.{Station}
use Rattle.station_spec.specs.declared.Deferred.{Deferred}
use Rattle.station_spec.specs.declared.Transmitted.{Transmitted}
use Rattle.station_spec.specs.declared.Received.{Received}
use Rattle.station_spec.specs.declared.Stored.{Stored}
use Rattle.sheet_layout.specs.Layout.{gap_of}
use Rattle.station_spec.specs.Defer.{defer, quiet_rule, busy_rule, gap_rule, goes_back}
use Rattle.station_spec.specs.Defer.{gap_over as gapOverRule}
use Rattle.station_spec.specs.Transmit.{transmit}
use Rattle.station_spec.specs.Transmit.{waits as waitsNow}
use Rattle.station_spec.specs.Receive.{receive}
use Rattle.station_spec.specs.Step.{draw_after, tries_after, next_station, stepped}
use Rattle.standard.specs.Language.{Variables, Draws, Reception, Signals, Store, store, Moment, Statement}
use Rattle.standard.specs.Language.{offer, look, bit, over}
use Rattle.standard.specs.Language.{deferring as deferringFlag}
use Rattle.standard.specs.Interpreter.{Place, waiting, Ran, ran, kept_in, moment_place}
use Rattle.standard.specs.Reading.{Machine, machine, goes_on, order, moments, everyone, passes, Input, begins}
use Rattle.standard.specs.Reading.{bit_time, output_of, Process, FrameTransmitter, FrameReceiver, BitTransmitter}
use Rattle.standard.specs.Reading.{BitReceiver, Deference}
use Rattle.standard.specs.Seen.{Ranges, is_free, offered_to, step_of, shown}
use Rattle.standard.specs.RunLaws.{Turns, waits}
use Rattle.standard.specs.DeferenceLaws.{DeferenceAt, DeferenceTurn, deference_turn, sends, is_quiet, ticked}
use Rattle.standard.specs.DeferenceLaws.{quiet, starting, passing, restarts, own_gap, other_gap, second_gap}
use Rattle.standard.specs.TransmitLaws.{Next, in_header, in_frame, TransmitAt, idle, held, backing}
use Rattle.standard.specs.TransmitLaws.{sending as sendingAt, heading, jams, fresh, BitTurns}
use Rattle.standard.specs.TransmitTurn.{TransmitTurns, transmit_turns, transmit_sends, transmit_waits, follows}
use Rattle.standard.specs.OfferLaws.{OfferTurn, offer_turn}
use Rattle.standard.specs.ReceiveLaws.{collects, ReceiveAt, seeks, ReceiveTurns, receive_turns, at_listen}
use Rattle.standard.specs.ReceiveLaws.{fresh_reception}

-- ---- a station and a machine that agree

pub record Agrees (f : Figures) (draws : Draws) (s : Station) (buffer : List ℕ) (x : Machine) : Type 0 where
  pub deference : DeferenceAt f x.state.deference s.transmitter s.emitted s.deference x.deference_at
  pub transmitter :
      TransmitAt f x.state.transmission.variables s.attempts s.frame s.draw s.transmitter
      x.frame_transmitter_at
      x.bit_transmitter_at
  pub receiver : ReceiveAt x.state.reception.variables x.state.reception.row s.receiver x.bit_receiver_at
  pub listens : x.frame_receiver_at ≡ at_listen s.address
  pub emitted : is_emission x.state.transmission.emission ≡ s.emitted
  pub octets : x.state.reception.incoming ≡ buffer
  pub numbers : x.state.signals.draws ≡ draws
  pub room : buffer_octets ≤ length buffer

-- ---- turns on the machine, one after the other

record Comes (l : List Process) (m : Moment) (ms : List Moment) (x z : Machine) : Type 0 where
  is : passes ms (everyone l m x) ≡ z

at_last : {m : Moment} {x : Machine} → Comes [] m [] x x
unfolding passes everyone
at_last = record { is = refl }

next_moment : {m n : Moment} {ms : List Moment} {x z : Machine} → Comes order n ms x z → Comes [] m (n ∷ ms) x z
unfolding passes everyone
next_moment k = record { is = k.is }

module _ {m : Moment} {l : List Process} {ms : List Moment} {st su : Store} {ft fr bt br df p : Place} {z : Machine}
  where
    transmitter_goes : Turns m ft st (ran p su) → Comes l m ms (machine su p fr bt br df) z
        → Comes (FrameTransmitter ∷ l) m ms (machine st ft fr bt br df) z
    unfolding everyone goes_on
    transmitter_goes t k =
        record {
          is = ap (λ (r : Ran). passes ms (everyone l m (machine r.result r.place fr bt br df)))
              t.is ∙ k.is;
        }

    receiver_goes : Turns m fr st (ran p su) → Comes l m ms (machine su ft p bt br df) z
        → Comes (FrameReceiver ∷ l) m ms (machine st ft fr bt br df) z
    unfolding everyone goes_on
    receiver_goes t k =
        record {
          is = ap (λ (r : Ran). passes ms (everyone l m (machine r.result ft r.place bt br df)))
              t.is ∙ k.is;
        }

    bits_go_out : Turns m bt st (ran p su) → Comes l m ms (machine su ft fr p br df) z
        → Comes (BitTransmitter ∷ l) m ms (machine st ft fr bt br df) z
    unfolding everyone goes_on
    bits_go_out t k =
        record {
          is = ap (λ (r : Ran). passes ms (everyone l m (machine r.result ft fr r.place br df)))
              t.is ∙ k.is;
        }

    bits_come_in : Turns m br st (ran p su) → Comes l m ms (machine su ft fr bt p df) z
        → Comes (BitReceiver ∷ l) m ms (machine st ft fr bt br df) z
    unfolding everyone goes_on
    bits_come_in t k =
        record {
          is = ap (λ (r : Ran). passes ms (everyone l m (machine r.result ft fr bt r.place df)))
              t.is ∙ k.is;
        }

    deference_goes : Turns m df st (ran p su) → Comes l m ms (machine su ft fr bt br p) z
        → Comes (Deference ∷ l) m ms (machine st ft fr bt br df) z
    unfolding everyone goes_on
    deference_goes t k =
        record {
          is = ap (λ (r : Ran). passes ms (everyone l m (machine r.result ft fr bt br r.place)))
              t.is ∙ k.is;
        }

-- ---- a process that waits for another moment

still : (m w : Moment) (k : List Statement) (at : Place) (s : Store) → at ≡ waiting w k
    → eqb (moment_place m) (moment_place w) ≡ false → Turns m at s (ran at s)
still m w k at s e i = subst (λ (p : Place). Turns m p s (ran p s)) (sym e) (waits i)

deference_waits : {f : Figures} {d : Variables} {x : Transmitter} {e : Bool} {p : Phase} {at : Place} (m : Moment)
    (s : Store)
    → eqb (moment_place m) 1 ≡ false → DeferenceAt f d x e p at → Turns m at s (ran at s)
deference_waits {at = at} m s o (quiet i j g c) = still m look _ at s j o
deference_waits {at = at} m s o (starting i j g c z) = still m look _ at s j o
deference_waits {at = at} m s o (passing own i j g wt k l) = still m look _ at s j o
deference_waits {at = at} m s o (restarts i j g c z n) = still m look _ at s j o
deference_waits {at = at} m s o (own_gap n i j g c z u k) = still m look _ at s j o
deference_waits {at = at} m s o (other_gap n i j g c z u k) = still m look _ at s j o
deference_waits {at = at} m s o (second_gap n own i j g c z u k) = still m look _ at s j o

next_waits : {f : Figures} {v : Variables} {z k : ℕ} {bt : Place} (m : Moment) (s : Store) → eqb
    (moment_place m) 2 ≡ false
    → Next f v z k bt → Turns m bt s (ran bt s)
next_waits {bt = bt} m s o (in_header b c hb g u) = still m bit _ bt s b o
next_waits {bt = bt} m s o (in_frame b hb c g i u) = still m bit _ bt s b o

bits_wait : {f : Figures} {v : Variables} {n z pl : ℕ} {x : Transmitter} {at bt : Place} (m : Moment) (s : Store)
    → eqb (moment_place m) 1 ≡ false → eqb (moment_place m) 2 ≡ false → TransmitAt f v n z pl x at bt → Turns m bt s
    (ran bt s)
bits_wait {bt = bt} m s o q (idle i j r tr fw nc dr) = still m look _ bt s r o
bits_wait {bt = bt} m s o q (held i j r fw lt y) = still m look _ bt s r o
bits_wait {bt = bt} m s o q (backing w i j r fw g y) = still m look _ bt s r o
bits_wait {bt = bt} m s o q (sendingAt k i j sc nc lt nj b y) = next_waits m s q b
bits_wait {bt = bt} m s o q (heading k i j r sc nc lt c g y) = still m bit _ bt s r q
bits_wait {bt = bt} m s o q (jams left ends i j r sc nc jm l c u g y) = still m bit _ bt s r q

receiver_waits : {v : Variables} {w : List Bool} {x : Receiver} {at : Place} (m : Moment) (s : Store)
    → eqb (moment_place m) 2 ≡ false → ReceiveAt v w x at → Turns m at s (ran at s)
receiver_waits {at = at} m s o (seeks i j e k hs ho rc cu) = still m bit _ at s j o
receiver_waits {at = at} m s o (collects n sp own i j hs ho rc cu) = still m bit _ at s j o

-- ---- document 01: a frame starts where one waits and deference ends quiet

abbrev start_of : Deferred → Bool → Type 0
start_of o w = o.start ≡ (w && is_quiet o.phase)

quiet_start : (b e w : Bool) → start_of (pick b (record { phase = Busy e; start = false })
    (record { phase = Quiet; start = w })) w
quiet_start true e w = sym (and-false w)
quiet_start false e true = refl
quiet_start false e false = refl

busy_start : (b : Bool) (p q : Phase) (w : Bool) → is_quiet p ≡ false → is_quiet q ≡ false
    → start_of (pick b (record { phase = p; start = false }) (record { phase = q; start = false })) w
busy_start true p q w i j = sym (ap (λ (c : Bool). w && c) i ∙ and-false w)
busy_start false p q w i j = sym (ap (λ (c : Bool). w && c) j ∙ and-false w)

over_start : (h e w : Bool) → start_of (gapOverRule h e w) w
unfolding gapOverRule quiet_rule
over_start h e true = refl
over_start h e false = quiet_start (h || e) e false

gap_start : (c : Bool) (o q : Deferred) (w : Bool) → start_of o w → start_of q w → start_of (pick c o q) w
gap_start true o q w i j = i
gap_start false o q w i j = j

start_is : (f : Figures) (p : Phase) (h e w : Bool) → start_of (defer f p h e w) w
unfolding defer quiet_rule busy_rule gap_rule
start_is f Quiet h e w = quiet_start (h || e) e w
start_is f (Busy own) h e w = busy_start (h || e) (Busy (own || e)) (Gap 1 own) w refl refl
start_is f (Gap n own) h e w =
    gap_start (leb (gap_of f) n) (gapOverRule h e w)
    (pick (goes_back f.gap1 n own h) (record { phase = Busy own; start = false })
    (record { phase = Gap (n + 1) own; start = false })) w (over_start h e w)
    (busy_start (goes_back f.gap1 n own h) (Busy own) (Gap (n + 1) own) w refl refl)

-- ---- an offer does not touch deference

sends_offered : (x : Transmitter) (b : Bool) → sends (pick (is_free x && b) Waiting x) ≡ sends x
sends_offered NoFrame true = refl
sends_offered NoFrame false = refl
sends_offered Waiting b = refl
sends_offered (BackingOff w) b = refl
sends_offered (Sending k) b = refl
sends_offered (Heading k) b = refl
sends_offered (Jamming n ends) b = refl

waits_not : (x : Transmitter) → sends x ≡ true → waitsNow x ≡ false
waits_not NoFrame e = refl
waits_not Waiting e = absurd (true≢false (sym e))
waits_not (BackingOff w) e = refl
waits_not (Sending k) e = refl
waits_not (Heading k) e = refl
waits_not (Jamming n ends) e = refl

same_deference : (f : Figures) (d : Variables) (x y : Transmitter) (e : Bool) (p : Phase) (at : Place)
    → sends y ≡ sends x → DeferenceAt f d x e p at → DeferenceAt f d y e p at
same_deference f d x y e p at q (quiet i j g c) = quiet i j g (q ∙ c)
same_deference f d x y e p at q (starting i j g c z) = starting i j g (q ∙ c) z
same_deference f d x y e p at q (passing own i j g wt k l) =
    passing own i j g wt (λ z. q ∙ k z) (ap (λ (b : Bool). own || b) q ∙ l)
same_deference f d x y e p at q (restarts i j g c z n) = restarts i j g (q ∙ c) z n
same_deference f d x y e p at q (own_gap n i j g c z m k) = own_gap n i j g (q ∙ c) z m k
same_deference f d x y e p at q (other_gap n i j g c z m k) = other_gap n i j g (q ∙ c) z m k
same_deference f d x y e p at q (second_gap n own i j g c z m k) = second_gap n own i j g (q ∙ c) z m k

double_not : (b : Bool) → not (not b) ≡ b
double_not true = refl
double_not false = refl

length_kept : (l : List ℕ) (b : Option Stored) → length (kept_in l b) ≡ length l
length_kept l None = refl
length_kept l (Some b) = length-set l _ _

only_waiting : (x : Transmitter) (b : Bool) → (waitsNow x && b) ≡ true → x ≡ Waiting
only_waiting NoFrame b e = absurd (true≢false (sym e))
only_waiting Waiting b e = refl
only_waiting (BackingOff w) b e = absurd (true≢false (sym e))
only_waiting (Sending k) b e = absurd (true≢false (sym e))
only_waiting (Heading k) b e = absurd (true≢false (sym e))
only_waiting (Jamming n ends) b e = absurd (true≢false (sym e))

-- ---- a bit time

-- what a bit time shows, and that station and machine agree after it
pub record Both (f : Figures) (draws : Draws) (s : Station) (buffer : List ℕ) (x : Machine) (i : Input) : Type 0 where
  pub shows : output_of (bit_time i x).state ≡ shown (step_of f draws s buffer i)
  pub agrees :
      Agrees f draws (step_of f draws s buffer i).station (kept_in buffer (step_of f draws s buffer i).stored)
      (bit_time i x)

module _ (f : Figures) (ok : Ranges f) (s : Station) (x : Machine) (i : Input)
    (k : Agrees f x.state.signals.draws s x.state.reception.incoming x) where
  abbrev draws : Draws
  draws = x.state.signals.draws

  abbrev buffer : List ℕ
  buffer = x.state.reception.incoming

  abbrev given : Signals
  given =
      record {
        heard = i.heard;
        emitted = is_emission x.state.transmission.emission;
        draws = x.state.signals.draws;
        offered = i.offered;
      }

  abbrev taken : Station
  taken = offered_to s i.offered

  abbrev variables : Variables
  variables = x.state.transmission.variables

  abbrev heard_in : Reception
  heard_in = fresh_reception x.state.reception.variables x.state.reception.row buffer

  abbrev h : Bool
  h = hears_any i.heard

  the_offer : OfferTurn f (ticked x.state.deference) given variables taken.attempts taken.frame
      taken.draw taken.transmitter
      x.frame_transmitter_at x.bit_transmitter_at
  unfolding offered_to
  the_offer =
      offer_turn f ok (ticked x.state.deference) given variables s.attempts s.frame s.draw
      s.transmitter
      x.frame_transmitter_at x.bit_transmitter_at k.transmitter

  abbrev deferred_to : Deferred
  deferred_to = defer f s.deference h s.emitted (waitsNow taken.transmitter)

  module _ (a : OfferTurn f (ticked x.state.deference) given variables taken.attempts taken.frame
      taken.draw taken.transmitter
      x.frame_transmitter_at x.bit_transmitter_at) where
    the_deference : DeferenceTurn f x.state.deference (fresh a.after) heard_in given taken.transmitter
        s.deference
        x.deference_at deferred_to
    unfolding offered_to
    the_deference =
        deference_turn f x.state.deference (fresh a.after) heard_in given taken.transmitter ok.gap2 h
        s.emitted (waitsNow taken.transmitter) refl k.emitted (transmit_sends a.stands)
        (transmit_waits a.stands) s.deference x.deference_at (waits_not taken.transmitter)
        (same_deference f x.state.deference s.transmitter taken.transmitter s.emitted s.deference
        x.deference_at (sends_offered s.transmitter (ltb 0 i.offered)) k.deference)

    module _ (b : DeferenceTurn f x.state.deference (fresh a.after) heard_in given taken.transmitter
        s.deference
        x.deference_at deferred_to) where
      begun : deferred_to.start ≡ (waitsNow taken.transmitter && not (b.after.flags deferringFlag))
      begun =
          start_is f s.deference h s.emitted (waitsNow taken.transmitter)
          ∙ ap (λ (c : Bool). waitsNow taken.transmitter && c)
          (sym (double_not (is_quiet deferred_to.phase)) ∙ ap not (sym b.defers))

      abbrev tries : ℕ
      tries = tries_after taken.attempts deferred_to.start

      abbrev transmitted : Transmitted
      transmitted =
          transmit f taken.transmitter taken.frame tries (draws.value taken.draw) deferred_to.start h

      the_transmission : TransmitTurns f b.after given a.after tries taken.frame taken.draw a.place
          x.bit_transmitter_at transmitted
      the_transmission =
          transmit_turns f ok b.after given a.after taken.attempts taken.frame taken.draw
          deferred_to.start h
          taken.transmitter a.place x.bit_transmitter_at refl begun a.stands

      module _ (c : TransmitTurns f b.after given a.after tries taken.frame taken.draw a.place
          x.bit_transmitter_at transmitted)
        where
          abbrev bits : BitTurns f b.after given c.looked tries taken.frame taken.draw c.look_place
              c.rest_place transmitted
          bits = c.bit_turns

          abbrev received : Received
          received = receive s.address buffer s.receiver i.heard (is_emission transmitted.emission)

          the_reception : ReceiveTurns s.address b.after bits.emitted given x.state.reception.variables
              x.state.reception.row buffer x.bit_receiver_at received
          the_reception =
              subst (λ (e : Emission). ReceiveTurns s.address b.after bits.emitted given
              x.state.reception.variables
              x.state.reception.row buffer x.bit_receiver_at
              (receive s.address buffer s.receiver i.heard (is_emission e))) bits.emits
              (receive_turns s.address b.after bits.emitted given x.state.reception.variables
              x.state.reception.row buffer k.room s.receiver x.bit_receiver_at k.receiver)

          module _ (e : ReceiveTurns s.address b.after bits.emitted given x.state.reception.variables
              x.state.reception.row buffer x.bit_receiver_at received) where
            abbrev afterwards : Machine
            afterwards =
                machine (store b.after bits.ended e.closed given) bits.end_place (at_listen s.address)
                bits.bit_place e.close_place b.place

            ready : begins i x
                ≡ machine (store (ticked x.state.deference) (fresh variables) heard_in given) x.frame_transmitter_at
                (at_listen s.address) x.bit_transmitter_at x.bit_receiver_at x.deference_at
            unfolding begins
            ready =
                ap (λ (p : Place). machine (store (ticked x.state.deference) (fresh variables) heard_in given)
                x.frame_transmitter_at p x.bit_transmitter_at x.bit_receiver_at x.deference_at) k.listens

            settled : DeferenceAt f b.after transmitted.phase (is_emission transmitted.emission)
                deferred_to.phase b.place
            settled =
                b.stands transmitted.phase (is_emission transmitted.emission)
                (follows f taken.transmitter taken.frame tries (draws.value taken.draw)
                deferred_to.start h ok.slot
                (λ z. only_waiting taken.transmitter (not (b.after.flags deferringFlag)) (sym begun ∙ z)))

            -- four moments, five processes
            all_turns : Comes order offer (look ∷ bit ∷ over ∷ [])
                (machine (store (ticked x.state.deference) (fresh variables) heard_in given) x.frame_transmitter_at
                (at_listen s.address) x.bit_transmitter_at x.bit_receiver_at x.deference_at) afterwards
            all_turns =
                deference_goes (deference_waits offer _ refl k.deference)
                (transmitter_goes (a.turns heard_in)
                (bits_go_out (bits_wait offer _ refl refl k.transmitter)
                (receiver_goes (waits refl)
                (bits_come_in (receiver_waits offer _ refl k.receiver)
                (next_moment
                (deference_goes b.turns
                (transmitter_goes (c.look_turn heard_in)
                (bits_go_out (c.rest_turn heard_in)
                (receiver_goes (waits refl)
                (bits_come_in (receiver_waits look _ refl k.receiver)
                (next_moment
                (deference_goes (deference_waits bit _ refl settled)
                (transmitter_goes (bits.watch heard_in)
                (bits_go_out (bits.send heard_in)
                (receiver_goes (waits refl)
                (bits_come_in e.take_turn
                (next_moment
                (deference_goes (deference_waits over _ refl settled)
                (transmitter_goes (bits.end e.taken)
                (bits_go_out (bits_wait over _ refl refl bits.stands)
                (receiver_goes (e.decide_turn bits.ended)
                (bits_come_in (e.close_turn bits.ended) at_last))))))))))))))))))))))

            bit_passes : bit_time i x ≡ afterwards
            unfolding bit_time passes
            bit_passes = ap (passes moments) ready ∙ all_turns.is

            step_agrees : Both f draws s buffer x i
            unfolding step_of stepped next_station offered_to draw_after
            step_agrees =
                record {
                  shows = ap (λ (y : Machine). output_of y.state) bit_passes
                      ∙ (λ j. record {
                        emission = bits.keeps j;
                        sent = bits.reports j;
                        got = e.got j;
                        stored = e.stored j;
                      });
                  agrees =
                      subst (λ (y : Machine). Agrees f draws (step_of f draws s buffer i).station (kept_in buffer
                      (step_of f draws s buffer i).stored) y)
                      (sym bit_passes)
                      (record {
                        deference = settled;
                        transmitter = bits.stands;
                        receiver = e.stands;
                        listens = refl;
                        emitted = ap is_emission bits.keeps;
                        octets = e.keeps;
                        numbers = refl;
                        room = subst (λ (m : ℕ). buffer_octets ≤ m) (sym (length_kept buffer received.stored))
                            k.room;
                      });
                }

  bit_time_lem : Both f draws s buffer x i
  bit_time_lem =
      step_agrees the_offer (the_deference the_offer) (the_transmission the_offer (the_deference the_offer))
      (the_reception the_offer (the_deference the_offer) (the_transmission the_offer (the_deference the_offer)))

-- the octets and the draws by other names
pub one_bit_time : (f : Figures) → Ranges f → (draws : Draws) (s : Station) (buffer : List ℕ) (x : Machine) (i : Input)
    → Agrees f draws s buffer x → Both f draws s buffer x i
one_bit_time f ok draws s buffer x i k =
    subst₂ (λ (e : Draws) (l : List ℕ). Both f e s l x i) k.numbers k.octets
    (bit_time_lem f ok s x i (subst₂ (λ (e : Draws) (l : List ℕ). Agrees f e s l x) (sym k.numbers) (sym k.octets) k))
