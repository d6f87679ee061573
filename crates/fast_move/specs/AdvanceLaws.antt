-- A station that moves on over steps of one kind: a law for each way through the code. Assumes nothing.
use Rattle.std.specs.Prelude.{ℕ, ◌+◌, ◌≤◌, ◌<◌, ◌≡◌, Bool, false, List}
use Rattle.std.proofs.Math.Path.{refl, sym, ap}
use Rattle.std.proofs.Common.{◌∙◌, subst, true≢false}
use Rattle.std.proofs.Math.Bool.{true}
use native.Mathlib.Omega.{arith}
use Rattle.sheet_layout.specs.declared.Figures.{Figures}
use Rattle.station_symbols.specs.declared.Heard.{Heard}
use Rattle.station_symbols.specs.declared.Heard.TheVariants.{Nothing, Clean, Spoiled}
use Rattle.station_symbols.specs.Packet.{packet_bit}
use Rattle.station_state.specs.declared.Transmitter.{Transmitter}
use Rattle.station_state.specs.declared.Receiver.{Receiver}
use Rattle.station_state.specs.declared.Station.{Station}
use Rattle.station_spec.specs.Receive.{bits_in}
use Rattle.area.specs.Area.{address_at, buffer_at, station_at, arrival_at}
use Rattle.bus_spec.specs.Ready.{Able}
use Rattle.fast_plan.specs.Own.{own_turn, by_itself, by_itself_more, by_itself_none}
use Rattle.fast_receive.specs.Received.{spoils, line_from, bits_from, AllHeard, may_report}
use Rattle.fast_receive.specs.ReceivedLaws.{spoils_heard, bits_heard}
use Rattle.fast_heard.specs.declared.Kind.{Kind}
use Rattle.fast_heard.specs.declared.Kind.TheVariants.{Silent, Line, From, Mixed}
use Rattle.fast_segment.specs.Alone.{moves_able}
use Rattle.fast_stretch.specs.Stretch.{heard_stretch, quiet_stretch, Movable}
use Rattle.fast_stretch.specs.StretchLaws.{fine_movable, bits_room}
use Rattle.fast_heard.specs.Hearing.{is_heard, emits}
use Rattle.fast_move.specs.Move.{heard_in, rests_all, hears_all, emits_all, can_move, stretched}
use Rattle.fast_move.specs.Move.{Moving, Audible, Held}
use Rattle.fast_move.specs.MoveLaws.{frame_small, moves_once}
use Rattle.sheet_layout.specs.Limits.{last_clock}

-- ---- whether it can go over them at once

module _ (f : Figures) (m : ℕ) (K : Kind) (x : List ℕ) (j : ℕ) (s : Station) (t : Transmitter) (h e r : Bool)
    (es : s ≡ station_at x j) (et : t ≡ s.transmitter) (eh : h ≡ is_heard K) (ee : e ≡ emits t) where
  here : e ≡ emits (station_at x j).transmitter
  here = ee ∙ ap emits (et ∙ ap (λ (q : Station). q.transmitter) es)

  pub can_emits : e ≡ true → r ≡ emits_all m h s → r ≡ can_move f m K x j
  unfolding can_move
  can_emits p q = q ∙ rw (eh, es) (rw (sym here ∙ p))

  pub can_hears : e ≡ false → h ≡ true → r ≡ hears_all f m s → r ≡ can_move f m K x j
  unfolding can_move
  can_hears p g q = q ∙ rw es (rw (sym here ∙ p, sym eh ∙ g))

  pub can_rests : (c : Bool) (w : Receiver) → e ≡ false → h ≡ false → w ≡ s.receiver
      → c ≡ may_report (address_at x j) (buffer_at x j) 0 w → r ≡ rests_all f m c s → r ≡ can_move f m K x j
  unfolding can_move
  can_rests c w p g ew ec q =
      let z : w ≡ (station_at x j).receiver = ew ∙ ap (λ (y : Station). y.receiver) es in
      q ∙ rw (ec, z, es) (rw (sym here ∙ p, sym eh ∙ g))

pub held_here : (s : Station) (t : Transmitter) (e : Bool) → Held s → t ≡ s.transmitter → e ≡ emits t → e ≡ true
    → s.frame < 65536
unfolding Held
held_here s t e h et ee p = h (ap emits (sym et) ∙ sym ee ∙ p)

pub report_room : (f : Figures) (m j : ℕ) (x : List ℕ) (s : Station) (w : Receiver) → Movable f m x j
    → s ≡ station_at x j → w ≡ s.receiver → bits_in w + 0 < 4294967296
report_room f m j x s w v es ew =
    subst (λ (q : Receiver). bits_in q + 0 < 4294967296) (sym ew) (omega (arith, bits_room f m j x s v es))

-- ---- at once

module _ (f : Figures) (e : Bool) (K : Kind) (m j : ℕ) (x y : List ℕ) (u : ℕ) (F : List ℕ) (b : ℕ) where
  to_kind : (k : Kind) → K ≡ k → y ≡ stretched f e k m j x u F b → y ≡ stretched f e K m j x u F b
  to_kind k p q = q ∙ sym (ap (λ (c : Kind). stretched f e c m j x u F b) p)

  pub once_silent : K ≡ Silent → y ≡ quiet_stretch f e m j x → y ≡ stretched f e K m j x u F b
  unfolding stretched
  once_silent p q = to_kind Silent p q

  pub once_line : K ≡ Line → y ≡ heard_stretch f e (line_from x j u) m j x → y ≡ stretched f e K m j x u F b
  unfolding stretched
  once_line p q = to_kind Line p q

  pub once_from : K ≡ From → y ≡ heard_stretch f e (bits_from F b) m j x → y ≡ stretched f e K m j x u F b
  unfolding stretched
  once_from p q = to_kind From p q

  pub once_spoiled : K ≡ Mixed → y ≡ heard_stretch f e spoils m j x → y ≡ stretched f e K m j x u F b
  unfolding stretched
  once_spoiled p q = to_kind Mixed p q

pub line_audible : (K : Kind) (x : List ℕ) (j u m : ℕ) → Audible K x j u m → K ≡ Line → AllHeard (line_from x j u) m
unfolding Audible
line_audible K x j u m h p = h p

-- ---- the first step

module _ (K : Kind) (x : List ℕ) (j u : ℕ) (F : List ℕ) (b : ℕ) where
  to_heard : (k : Kind) (h : Heard) → K ≡ k → h ≡ heard_in k x j u F b 0 → h ≡ heard_in K x j u F b 0
  to_heard k h p q = q ∙ sym (ap (λ (c : Kind). heard_in c x j u F b 0) p)

  pub first_silent : K ≡ Silent → Nothing ≡ heard_in K x j u F b 0
  first_silent p = to_heard Silent Nothing p refl

  pub first_line_lem : (h : Heard) → K ≡ Line → h ≡ arrival_at x j u → h ≡ heard_in K x j u F b 0
  unfolding line_from
  first_line_lem h p q = let z : u ≡ u + 0 = omega arith in to_heard Line h p (q ∙ ap (arrival_at x j) z)

  pub first_from_lem : (one : Bool) → K ≡ From → one ≡ packet_bit F b → Clean one ≡ heard_in K x j u F b 0
  unfolding bits_from
  first_from_lem one p q =
      let z : b ≡ b + 0 = omega arith in to_heard From (Clean one) p (ap Clean (q ∙ ap (packet_bit F) z))

  pub first_spoiled : K ≡ Mixed → Spoiled ≡ heard_in K x j u F b 0
  unfolding spoils
  first_spoiled p = to_heard Mixed Spoiled p refl

-- ---- over m steps, or over one

all_heard : (K : Kind) (x : List ℕ) (j u : ℕ) (F : List ℕ) (b m : ℕ) → Audible K x j u m → is_heard K ≡ true
    → AllHeard (heard_in K x j u F b) m
unfolding Audible
all_heard Silent x j u F b m a h = absurd (true≢false (sym h))
all_heard Line x j u F b m a h = a refl
all_heard From x j u F b m a h = bits_heard F b m
all_heard Mixed x j u F b m a h = spoils_heard m

module _ (f : Figures) (D j u : ℕ) (x : List ℕ) (v : Moving f D j u x) where
  pub moving_able : (m : ℕ) → 0 < m → u + m ≤ last_clock → Able f x j
  unfolding Moving
  moving_able m pos early = moves_able f D j u x v (omega arith)

  pub moving_movable : (m : ℕ) → u + m ≤ last_clock → Movable f m x j
  unfolding Moving
  moving_movable m early = fine_movable f D u m j x v.figured v.fine early

  pub moving_held : (s : Station) → s ≡ station_at x j → Held s
  unfolding Moving Held
  moving_held s es on =
      let z : (station_at x j).frame ≡ s.frame = ap (λ (q : Station). q.frame) (sym es) in
      let w : emits (station_at x j).transmitter ≡ true = ap (λ (q : Station). emits q.transmitter) (sym es)
      ∙ on in
      omega (arith, z, frame_small (station_at x j).transmitter (station_at x j).frame w v.fine.frame)

  module _ (K : Kind) (F : List ℕ) (b : ℕ) (y : List ℕ) where
    pub advance_all : (m : ℕ) (s : Station) (t : Transmitter) (c e : Bool) → 0 < m → u + m ≤ last_clock
        → Audible K x j u m → s ≡ station_at x j → t ≡ s.transmitter
        → e ≡ emits t → c ≡ can_move f m K x j → c ≡ true → y ≡ stretched f e K m j x u F b
        → y ≡ by_itself f D j (heard_in K x j u F b) m x
    unfolding Moving
    advance_all m s t c e pos early a es et ee ec p ey =
        let z : e ≡ emits (station_at x j).transmitter = ee
        ∙ ap emits (et ∙ ap (λ (q : Station). q.transmitter) es) in
        ey ∙ ap (λ (w : Bool). stretched f w K m j x u F b) z
        ∙ moves_once f D j u x v m pos early K F b (all_heard K x j u F b m a) (sym ec ∙ p)

    pub advance_one : (h : Heard) → h ≡ heard_in K x j u F b 0 → y ≡ own_turn f D j h x
        → y ≡ by_itself f D j (heard_in K x j u F b) 1 x
    advance_one h eh ey =
        ey ∙ ap (λ (g : Heard). own_turn f D j g x) eh
        ∙ sym (by_itself_more f D j (heard_in K x j u F b) 0 x ∙ ap (own_turn f D j (heard_in K x j u F b 0))
        (by_itself_none f D j (heard_in K x j u F b) x))
