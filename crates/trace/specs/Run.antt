-- Executions of a world, without end: what offers leave, what a step makes of each field, and the trace of symbols. The
-- files above this one speak of `sig`, `sees`, `state`, `frame_in` and `out_at`, not of worlds. Assumes nothing.
use Prim.Native.Nat.{ℕ, zero, suc, ◌+◌, ◌≤◌, ◌<◌, max}
use Rattle.std.specs.Prelude.{◌≡◌, Bool, false, ◌⊎◌, eqb, length}
use Rattle.std.proofs.Math.Path.{refl, ap}
use Rattle.std.proofs.Common.{sym, ◌∙◌, subst, inl, inr, arith, eq-eqb, ne_eqb, eqb-true}
use mathlib.Core.List.{List, [], ◌∷◌}
use Rattle.octets.specs.BaseLaws.{by_test, by_eq}
use Rattle.octets.specs.NumberLaws.{Octets}
use Rattle.frame_build.specs.BuildLaws.{frame_size, data_within}
use Rattle.sheet_layout.specs.CheckLaws.{Figured}
use Rattle.station_symbols.specs.declared.Heard.{Heard}
use Rattle.station_symbols.specs.declared.Heard.TheVariants.{Nothing, Clean, Spoiled}
use Rattle.station_symbols.specs.declared.Symbol.{Symbol}
use Rattle.station_symbols.specs.declared.Symbol.TheVariants.{Silence, Bit, Jam}
use Rattle.station_symbols.specs.declared.Emission.{Emission}
use Rattle.station_symbols.specs.declared.Emission.TheVariants.{Rest, PacketBit, JamBit}
use Rattle.station_symbols.specs.Packet.{symbol_of, is_emission}
use Rattle.station_spec.specs.declared.Deferred.{Deferred}
use Rattle.station_state.specs.declared.Transmitter.{Transmitter}
use Rattle.station_state.specs.declared.Transmitter.TheVariants.{NoFrame, Waiting, BackingOff, Sending, Heading}
use Rattle.station_state.specs.declared.Transmitter.TheVariants.{Jamming}
use Rattle.station_spec.specs.declared.Transmitted.{Transmitted}
use Rattle.station_spec.specs.declared.Received.{Received}
use Rattle.station_state.specs.declared.Station.{Station}
use Rattle.station_spec.specs.declared.Stepped.{Stepped}
use Rattle.station_spec.specs.Step.{stepped, next_station, tries_after, deferring, sending, receiving}
use Rattle.bus_spec.specs.Range.{Fine, fine_stepped}
use Rattle.area.specs.Area.{alone}
use Rattle.bus_offer.specs.Offer.{holds, offered_station}
use Rattle.trace.specs.Basic.{either, clash}
use Rattle.trace.specs.Trace.{Metric}
use Rattle.bus_spec.specs.After.{stored_in}
use Rattle.bus_meeting.specs.Net.{Net, gathered, reaches, heard, grown}
use Rattle.trace.specs.World.{Offer, frame_for, World, outcome, symbol, step, given, offer, offers, fresh_station}
use Rattle.trace.specs.World.{fresh, before, ready}
use Rattle.bus_meeting.specs.Gather.{on, gathered_same}
use Rattle.trace.specs.Hear.{Only, reaches_same, heard_clean, only_heard, heard_nothing, nothing_heard}
use Rattle.frame_build.specs.Limits.{buffer_octets}

-- ---- an execution's words

-- station i before step t, the frame of its last accepted offer, what it collected
abbrev pub state : (P : Net) → (ℕ → List (Offer P)) → (t i : ℕ) → Station
state P inp t i = (ready P inp t).station i

abbrev pub frame_in : (P : Net) → (ℕ → List (Offer P)) → (i t : ℕ) → List ℕ
frame_in P inp i t = (ready P inp t).frame i

abbrev pub buffer_in : (P : Net) → (ℕ → List (Offer P)) → (i t : ℕ) → List ℕ
buffer_in P inp i t = (ready P inp t).buffer i

-- step t of station i, and the symbol that it emits
unfoldable pub out_at : (P : Net) → (ℕ → List (Offer P)) → (i t : ℕ) → Stepped
out_at P inp i t = outcome P (ready P inp t) i

pub sig : (P : Net) → (ℕ → List (Offer P)) → (i t : ℕ) → Symbol
sig P inp i t = symbol P (ready P inp t) i

abbrev pub emits : (P : Net) → (ℕ → List (Offer P)) → (i t : ℕ) → Bool
emits P inp i t = on (sig P inp i t)

-- what station j hears in step t, by the trace
unfoldable pub sees : (P : Net) → (ℕ → List (Offer P)) → (j t : ℕ) → Heard
sees P inp j t = heard P (sig P inp) j t

-- the parts of a step
unfoldable pub defer_at : (P : Net) → (ℕ → List (Offer P)) → (i t : ℕ) → Deferred
defer_at P inp i t = deferring P.fig (state P inp t i) (sees P inp i t)

unfoldable pub send_at : (P : Net) → (ℕ → List (Offer P)) → (i t : ℕ) → Transmitted
send_at P inp i t = sending P.fig (state P inp t i) (P.draw i (state P inp t i).draw) (sees P inp i t)

unfoldable pub receive_at : (P : Net) → (ℕ → List (Offer P)) → (i t : ℕ) → Received
receive_at P inp i t =
    receiving P.fig (state P inp t i) (P.draw i (state P inp t i).draw) (buffer_in P inp i t) (sees P inp i t)

-- What a net is known to be: addresses of six octets, buffers with room for the largest frame; the fits of span, slot
-- and gap are not among it.
pub record Sound (P : Net) (span : ℕ) : Type 0 where
  pub figures : Figured P.fig
  pub depth : 1 ≤ P.depth
  pub address : (i : ℕ) → i < P.n → length (P.address i) ≡ 6
  pub wide : (i : ℕ) → i < P.n → Octets (P.address i)
  pub room : (i : ℕ) → i < P.n → buffer_octets ≤ length (P.blank i)
  pub metric : Metric P.n span P.d

-- ---- what offers leave

abbrev pub Among : {A : Type 0} → A → List A → Type 0
Among o [] = ⊥
Among o (x ∷ xs) = (o ≡ x) ⊎ Among o xs

-- F is the frame of an offer to station i, one of os.
pub record Made (P : Net) (os : List (Offer P)) (i : ℕ) (F : List ℕ) : Type 0 where
  pub offer : Offer P
  pub among : Among offer os
  pub to : offer.to ≡ i
  pub is : F ≡ frame_for P offer

-- Station i, from s with frame F to r with frame G: as it was, or one of the offers os was accepted.
abbrev pub Kept : (P : Net) → List (Offer P) → ℕ → (s r : Station) (F G : List ℕ) → Type 0
Kept P os i s r F G =
    ((r ≡ s) × (G ≡ F)) ⊎ ((s.transmitter ≡ NoFrame) × (r ≡ offered_station s (length G)) × Made P os i G)

holds_not : (x : Transmitter) → holds x ≡ false → x ≡ NoFrame
holds_not NoFrame e = refl
holds_not Waiting e = clash refl e
holds_not (BackingOff w) e = clash refl e
holds_not (Sending k) e = clash refl e
holds_not (Heading k) e = clash refl e
holds_not (Jamming k ends) e = clash refl e

given_kept : (P : Net) (o : Offer P) (os : List (Offer P)) (w : World) (i : ℕ)
    → holds (w.station o.to).transmitter ≡ false
    → Kept P (o ∷ os) i (w.station i) ((given P o w).station i) (w.frame i) ((given P o w).frame i)
unfolding given
given_kept P o os w i h =
    by_test (eqb i o.to)
    (λ e. let z = eqb-true i o.to e in
    rw e (inr (
      holds_not (w.station i).transmitter (rw z h),
      refl,
      record {
        offer = o;
        among = inl refl;
        to = sym z;
        is = refl;
      },
    )))
    (λ e. rw e (inl (refl, refl)))

offer_kept : (P : Net) (o : Offer P) (os : List (Offer P)) (w : World) (i : ℕ)
    → Kept P (o ∷ os) i (w.station i) ((offer P o w).station i) (w.frame i) ((offer P o w).frame i)
unfolding offer
offer_kept P o os w i =
    by_test (holds (w.station o.to).transmitter)
    (λ e. rw e (inl (refl, refl)))
    (λ e. rw e (given_kept P o os w i e))

more_among : (P : Net) (o : Offer P) (os : List (Offer P)) (i : ℕ) (F : List ℕ) → Made P os i F → Made P (o ∷ os) i F
more_among P o os i F m = record { offer = m.offer; among = inr m.among; to = m.to; is = m.is }

took_waits : (s r : Station) (n : ℕ) → r ≡ offered_station s n → r.transmitter ≡ NoFrame → ⊥
unfolding offered_station
took_waits s r n e f = let z : ◌≡◌ {A = ℕ} 0 1 = cc (ap (λ (x : Station). x.transmitter) e, f) in omega arith

kept_trans : (P : Net) (o : Offer P) (os : List (Offer P)) (i : ℕ) (s r q : Station) (F G H : List ℕ)
    → Kept P (o ∷ os) i s r F G → Kept P os i r q G H → Kept P (o ∷ os) i s q F H
kept_trans P o os i s r q F G H a b =
    either a
    (λ x. either b (λ y. inl (y.0 ∙ x.0, y.1 ∙ x.1))
    (λ y. inr (
      sym (ap (λ (k : Station). k.transmitter) x.0) ∙ y.0,
      y.1
          ∙ ap (λ (k : Station). offered_station k (length H)) x.0,
      more_among P o os i H y.2,
    )))
    (λ x. either b
    (λ y. inr (
      x.0,
      y.0 ∙ x.1 ∙ ap (λ (l : List ℕ). offered_station s (length l))
          (sym y.1),
      subst (Made P (o ∷ os) i) (sym y.1) x.2,
    ))
    (λ y. absurd (took_waits s r (length G) x.1 y.0)))

offers_kept : (P : Net) (os : List (Offer P)) (w : World) (i : ℕ)
    → Kept P os i (w.station i) ((offers P os w).station i) (w.frame i) ((offers P os w).frame i)
unfolding offers
offers_kept P [] w i = inl (refl, refl)
offers_kept P (o ∷ os) w i =
    kept_trans P o os i (w.station i) ((offer P o w).station i) ((offers P os (offer P o w)).station i) (w.frame i)
    ((offer P o w).frame i) ((offers P os (offer P o w)).frame i)
    (offer_kept P o os w i) (offers_kept P os (offer P o w) i)

-- the rest of a world is as it was
offer_clock : (P : Net) (o : Offer P) (w : World) → (offer P o w).clock ≡ w.clock
unfolding offer given
offer_clock P o w = by_test (holds (w.station o.to).transmitter) (λ e. rw e) (λ e. rw e)

offer_past : (P : Net) (o : Offer P) (w : World) → (offer P o w).past ≡ w.past
unfolding offer given
offer_past P o w = by_test (holds (w.station o.to).transmitter) (λ e. rw e) (λ e. rw e)

offer_buffer : (P : Net) (o : Offer P) (w : World) → (offer P o w).buffer ≡ w.buffer
unfolding offer given
offer_buffer P o w = by_test (holds (w.station o.to).transmitter) (λ e. rw e) (λ e. rw e)

offers_clock : (P : Net) (os : List (Offer P)) (w : World) → (offers P os w).clock ≡ w.clock
unfolding offers
offers_clock P [] w = refl
offers_clock P (o ∷ os) w = offers_clock P os (offer P o w) ∙ offer_clock P o w

offers_past : (P : Net) (os : List (Offer P)) (w : World) → (offers P os w).past ≡ w.past
unfolding offers
offers_past P [] w = refl
offers_past P (o ∷ os) w = offers_past P os (offer P o w) ∙ offer_past P o w

offers_buffer : (P : Net) (os : List (Offer P)) (w : World) → (offers P os w).buffer ≡ w.buffer
unfolding offers
offers_buffer P [] w = refl
offers_buffer P (o ∷ os) w = offers_buffer P os (offer P o w) ∙ offer_buffer P o w

-- ---- the execution's clock and history

module _ (P : Net) (inp : ℕ → List (Offer P)) where
  pub ready_kept : (t i : ℕ)
      → Kept P (inp t) i ((before P inp t).station i) (state P inp t i) ((before P inp t).frame i) (frame_in P inp i t)
  unfolding ready
  ready_kept t i = offers_kept P (inp t) (before P inp t) i

  before_clock : (t : ℕ) → (before P inp t).clock ≡ t
  unfolding before fresh step
  before_clock zero = refl
  before_clock (suc t) = ap suc (offers_clock P (inp t) (before P inp t) ∙ before_clock t)

  pub ready_clock : (t : ℕ) → (ready P inp t).clock ≡ t
  unfolding ready
  ready_clock t = offers_clock P (inp t) (before P inp t) ∙ before_clock t

  pub ready_buffer : (t i : ℕ) → buffer_in P inp i t ≡ (before P inp t).buffer i
  unfolding ready
  ready_buffer t i = ap (λ (f : ℕ → List ℕ). f i) (offers_buffer P (inp t) (before P inp t))

  pub before_suc : (t : ℕ) → before P inp (suc t) ≡ step P (ready P inp t)
  unfolding before ready
  before_suc t = refl

  ready_past : (t i s : ℕ) → (ready P inp t).past i s ≡ (before P inp t).past i s
  unfolding ready
  ready_past t i s = ap (λ (f : ℕ → ℕ → Symbol). f i s) (offers_past P (inp t) (before P inp t))

  grown_now : (t : ℕ) (e : ℕ → Symbol) (E : ℕ → ℕ → Symbol) (i : ℕ) → grown t e E i t ≡ e i
  unfolding grown
  grown_now t e E i = rw (eq-eqb t t refl)

  grown_else : (t : ℕ) (e : ℕ → Symbol) (E : ℕ → ℕ → Symbol) (i s : ℕ) → (s ≡ t → ⊥) → grown t e E i s ≡ E i s
  unfolding grown
  grown_else t e E i s ne = rw (ne_eqb s t ne)

  step_past : (w : World) (t i s : ℕ) → w.clock ≡ t → (step P w).past i s ≡ grown t (symbol P w) w.past i s
  unfolding step
  step_past w t i s e = ap (λ (c : ℕ). grown c (symbol P w) w.past i s) e

  past_suc : (t i s : ℕ) → (before P inp (suc t)).past i s ≡ grown t (λ k. sig P inp k t) (ready P inp t).past i s
  unfolding sig
  past_suc t i s = ap (λ (w : World). w.past i s) (before_suc t) ∙ step_past (ready P inp t) t i s (ready_clock t)

  -- the history is the trace
  pub past_is : (t i s : ℕ) → s < t → (ready P inp t).past i s ≡ sig P inp i s
  past_is zero i s h = absurd (omega arith)
  past_is (suc t) i s h =
      ready_past (suc t) i s ∙ past_suc t i s
      ∙ by_eq s t
      (λ z. rw z (grown_now t (λ k. sig P inp k t) (ready P inp t).past i))
      (λ z. grown_else t (λ k. sig P inp k t) (ready P inp t).past i s z ∙ past_is t i s (omega arith))

  -- and silence from the clock on
  pub past_ends : (t i s : ℕ) → t ≤ s → (ready P inp t).past i s ≡ Silence
  unfolding before fresh
  past_ends zero i s h = ready_past zero i s
  past_ends (suc t) i s h =
      ready_past (suc t) i s ∙ past_suc t i s
      ∙ grown_else t (λ k. sig P inp k t) (ready P inp t).past i s (λ z. omega arith) ∙ past_ends t i s (omega arith)

  -- ---- the parts of a step

  pub station_suc : (t i : ℕ) → (before P inp (suc t)).station i ≡ (out_at P inp i t).station
  unfolding step out_at
  station_suc t i = ap (λ (w : World). w.station i) (before_suc t)

  pub frame_suc : (t i : ℕ) → (before P inp (suc t)).frame i ≡ frame_in P inp i t
  unfolding step
  frame_suc t i = ap (λ (w : World). w.frame i) (before_suc t)

  pub buffer_suc : (t i : ℕ) → (before P inp (suc t)).buffer i ≡ stored_in (buffer_in P inp i t) (out_at P inp i t).stored
  unfolding step out_at
  buffer_suc t i = ap (λ (w : World). w.buffer i) (before_suc t)

  module _ (span : ℕ) (L : Sound P span) (i : ℕ) (hi : i < P.n) (t : ℕ) where
    pub sees_is : heard P (ready P inp t).past i (ready P inp t).clock ≡ sees P inp i t
    unfolding sees heard
    sees_is =
        ap (λ (c : ℕ). gathered P.n (reaches P.d (ready P inp t).past i c)) (ready_clock t)
        ∙ gathered_same P.n _ _ (λ k l. reaches_same P.d (ready P inp t).past (sig P inp) i t k
        (λ s ne w. past_is t k s (omega (arith, L.metric.pos k i l hi ne))))

    pub out_is : out_at P inp i t ≡ stepped P.fig (state P inp t i) P.depth (P.draw i (state P inp t i).draw)
        (buffer_in P inp i t) (sees P inp i t)
    unfolding out_at outcome
    out_is =
        ap (λ (h : Heard). stepped P.fig (state P inp t i) P.depth (P.draw i (state P inp t i).draw)
        (buffer_in P inp i t) h) sees_is

    pub out_start : (out_at P inp i t).start ≡ (defer_at P inp i t).start
    unfolding stepped defer_at
    out_start = ap (λ (o : Stepped). o.start) out_is

    pub out_sent : (out_at P inp i t).sent ≡ (send_at P inp i t).event
    unfolding stepped send_at
    out_sent = ap (λ (o : Stepped). o.sent) out_is

    pub out_emission : (out_at P inp i t).emission ≡ (send_at P inp i t).emission
    unfolding stepped send_at
    out_emission = ap (λ (o : Stepped). o.emission) out_is

    pub out_got : (out_at P inp i t).got ≡ (receive_at P inp i t).event
    unfolding stepped receive_at
    out_got = ap (λ (o : Stepped). o.got) out_is

    pub out_stored : (out_at P inp i t).stored ≡ (receive_at P inp i t).stored
    unfolding stepped receive_at
    out_stored = ap (λ (o : Stepped). o.stored) out_is

    -- what station i emits is of the frame that it holds
    pub sig_is : sig P inp i t ≡ symbol_of (frame_in P inp i t) (send_at P inp i t).emission
    unfolding sig symbol out_at
    sig_is = ap (λ (e : Emission). symbol_of (frame_in P inp i t) e) out_emission

    next_is : (before P inp (suc t)).station i ≡ next_station P.fig (state P inp t i) P.depth
        (P.draw i (state P inp t i).draw) (buffer_in P inp i t) (sees P inp i t)
    unfolding stepped
    next_is = station_suc t i ∙ ap (λ (o : Stepped). o.station) out_is

    pub next_address : ((before P inp (suc t)).station i).address ≡ (state P inp t i).address
    unfolding next_station
    next_address = ap (λ (s : Station). s.address) next_is

    pub next_deference : ((before P inp (suc t)).station i).deference ≡ (defer_at P inp i t).phase
    unfolding next_station defer_at
    next_deference = ap (λ (s : Station). s.deference) next_is

    pub next_transmitter : ((before P inp (suc t)).station i).transmitter ≡ (send_at P inp i t).phase
    unfolding next_station send_at
    next_transmitter = ap (λ (s : Station). s.transmitter) next_is

    pub next_receiver : ((before P inp (suc t)).station i).receiver ≡ (receive_at P inp i t).receiver
    unfolding next_station receive_at
    next_receiver = ap (λ (s : Station). s.receiver) next_is

    pub next_size : ((before P inp (suc t)).station i).frame ≡ (state P inp t i).frame
    unfolding next_station
    next_size = ap (λ (s : Station). s.frame) next_is

    pub next_attempts : ((before P inp (suc t)).station i).attempts ≡ tries_after (state P inp t i).attempts
        (defer_at P inp i t).start
    unfolding next_station defer_at
    next_attempts = ap (λ (s : Station). s.attempts) next_is

    pub next_emitted : ((before P inp (suc t)).station i).emitted ≡ is_emission (send_at P inp i t).emission
    unfolding next_station send_at
    next_emitted = ap (λ (s : Station). s.emitted) next_is

pub on_symbol : (F : List ℕ) (e : Emission) → on (symbol_of F e) ≡ is_emission e
on_symbol F Rest = refl
on_symbol F (PacketBit k) = refl
on_symbol F JamBit = refl

-- ---- what a station hears says who emitted, and the other way round

module _ (P : Net) (inp : ℕ → List (Offer P)) (j u : ℕ) where
  pub sees_clean : (b : Bool) → sees P inp j u ≡ Clean b → Only P.n P.d (sig P inp) j u (Bit b)
  unfolding sees
  sees_clean b e = heard_clean P (sig P inp) j u b e

  pub only_seen : (s : Symbol) → Only P.n P.d (sig P inp) j u s → sees P inp j u ≡ alone s
  unfolding sees
  only_seen s v = only_heard P (sig P inp) j u s v

  pub sees_nothing : sees P inp j u ≡ Nothing → (i y : ℕ) → i < P.n → (i ≡ j → ⊥) → y + P.d i j ≡ u
      → sig P inp i y ≡ Silence
  unfolding sees
  sees_nothing e = heard_nothing P (sig P inp) j u e

  pub nothing_seen : ((i y : ℕ) → i < P.n → (i ≡ j → ⊥) → y + P.d i j ≡ u → sig P inp i y ≡ Silence)
      → sees P inp j u ≡ Nothing
  unfolding sees
  nothing_seen h = nothing_heard P (sig P inp) j u h

-- ---- ranges

-- "64..1518", with N3 up to 1522
pub made_size : (P : Net) (span : ℕ) → Sound P span → (os : List (Offer P)) (i : ℕ) → i < P.n → (F : List ℕ)
    → Made P os i F → (64 ≤ length F) × (length F ≤ buffer_octets)
unfolding frame_for
made_size P span L os i hi F m =
    let o = m.offer in
    let a : length (P.address o.to) ≡ 6 = ap (λ (k : ℕ). length (P.address k)) m.to ∙ L.address i hi in
    let e : length F ≡ max 46 (length o.payload) + 18 = ap length m.is
    ∙ frame_size o.destination (P.address o.to) o.value o.payload o.six a in
    let w = data_within o.value (length o.payload) o.allowed in (omega arith, omega arith)

module _ (P : Net) (inp : ℕ → List (Offer P)) (span : ℕ) (L : Sound P span) where
  offered_fine : (t : ℕ) (s : Station) (n : ℕ) → 64 ≤ n → n ≤ buffer_octets → Fine P.fig P.depth t s
      → Fine P.fig P.depth t (offered_station s n)
  unfolding offered_station
  offered_fine t s n lo hi v =
      record {
        gap = v.gap;
        number = tt;
        attempts = L.figures.limit.0;
        frame = (lo, hi);
        receiver = v.receiver;
        draw = v.draw;
        wide = omega arith;
      }

  kept_fine : (t i : ℕ) → i < P.n → (os : List (Offer P)) (s r : Station) (F G : List ℕ) → Kept P os i s r F G
      → Fine P.fig P.depth t s → Fine P.fig P.depth t r
  kept_fine t i hi os s r F G k v =
      either k
      (λ x. subst (Fine P.fig P.depth t) (sym x.0) v)
      (λ x. let z = made_size P span L os i hi G x.2 in subst (Fine P.fig P.depth t) (sym x.1)
      (offered_fine t s (length G) z.0 z.1 v))

  fresh_fine : (i : ℕ) → Fine P.fig P.depth 0 ((before P inp 0).station i)
  unfolding before fresh fresh_station
  fresh_fine i =
      record {
        gap = tt;
        number = tt;
        attempts = omega arith;
        frame = tt;
        receiver = tt;
        draw = L.depth;
        wide = omega arith;
      }

  step_fine : (t i : ℕ) → i < P.n → Fine P.fig P.depth t (state P inp t i)
      → Fine P.fig P.depth (suc t) ((before P inp (suc t)).station i)
  step_fine t i hi v =
      subst (Fine P.fig P.depth (suc t))
      (sym (station_suc P inp t i ∙ ap (λ (o : Stepped). o.station) (out_is P inp span L i hi t)))
      (fine_stepped P.fig L.figures P.depth t (state P inp t i) (P.draw i (state P inp t i).draw)
      (buffer_in P inp i t) (sees P inp i t) v)

  pub fine_before : (t i : ℕ) → i < P.n → Fine P.fig P.depth t ((before P inp t).station i)
  fine_before zero i hi = fresh_fine i
  fine_before (suc t) i hi =
      step_fine t i hi (kept_fine t i hi (inp t) ((before P inp t).station i) (state P inp t i) ((before P inp t).frame i)
      (frame_in P inp i t) (ready_kept P inp t i) (fine_before t i hi))

  -- every station is in range before every step
  pub fine : (t i : ℕ) → i < P.n → Fine P.fig P.depth t (state P inp t i)
  fine t i hi =
      kept_fine t i hi (inp t) ((before P inp t).station i) (state P inp t i) ((before P inp t).frame i)
      (frame_in P inp i t) (ready_kept P inp t i) (fine_before t i hi)

  -- ---- a station's address is the layout's

  kept_address : (i : ℕ) (os : List (Offer P)) (s r : Station) (F G : List ℕ) → Kept P os i s r F G
      → r.address ≡ s.address
  unfolding offered_station
  kept_address i os s r F G k =
      either k (λ x. ap (λ (q : Station). q.address) x.0) (λ x. ap (λ (q : Station). q.address) x.1)

  ready_address : (t i : ℕ) → (state P inp t i).address ≡ ((before P inp t).station i).address
  ready_address t i =
      kept_address i (inp t) ((before P inp t).station i) (state P inp t i) ((before P inp t).frame i) (frame_in P inp i t)
      (ready_kept P inp t i)

  fresh_address : (i : ℕ) → ((before P inp 0).station i).address ≡ P.address i
  unfolding before fresh fresh_station
  fresh_address i = refl

  address_before : (t i : ℕ) → i < P.n → ((before P inp t).station i).address ≡ P.address i
  address_before zero i hi = fresh_address i
  address_before (suc t) i hi = next_address P inp span L i hi t ∙ ready_address t i ∙ address_before t i hi

  pub address_is : (t i : ℕ) → i < P.n → (state P inp t i).address ≡ P.address i
  address_is t i hi = ready_address t i ∙ address_before t i hi
