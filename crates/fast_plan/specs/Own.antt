-- A station by itself: its turns on what it is told that it hears, with no line read or written. What they leave of its
-- own parts goes by these parts alone. Assumes nothing.
use Rattle.std.specs.Prelude.{ℕ, zero, suc, ◌+◌, ◌≤◌, ◌<◌, ◌≡◌, refl, List, length, Option, None, Some}
use Rattle.std.proofs.Common.{sym, ◌∙◌, ap, ap₂, subst, arith}
use Rattle.octets.specs.BaseLaws.{by_test}
use Rattle.octets.specs.Turns.{turns, length_turns}
use Rattle.sheet_layout.specs.declared.Figures.{Figures}
use Rattle.station_symbols.specs.declared.Heard.{Heard}
use Rattle.station_symbols.specs.Packet.{symbol_of}
use Rattle.station_spec.specs.declared.Stored.{Stored}
use Rattle.station_spec.specs.Transmit.{octets_held}
use Rattle.station_state.specs.declared.Station.{Station}
use Rattle.station_spec.specs.declared.Stepped.{Stepped}
use Rattle.station_spec.specs.Step.{stepped}
use Rattle.station_spec.specs.Count.{counted}
use Rattle.area.specs.Places.{Part, layout, draws, counters, station, frame, buffer, Off, Keeps}
use Rattle.area.specs.Area.{draw_at, counters_at, station_at, with_station, frame_at, buffer_at, arrival_at}
use Rattle.area.specs.AreaLaws.{keeps_refl, keeps_trans, keeps_sym, draw_by, counters_by, station_by, frame_by}
use Rattle.area.specs.AreaLaws.{buffer_by, station_keeps, length_station}
use Rattle.area.specs.Whole.{station_on, counters_on, bit_on}
use Rattle.bus_spec.specs.declared.Act.{Act}
use Rattle.bus_spec.specs.BitTime.{outcome_in, act_in, with_stored, happened, with_counted}
use Rattle.bus_spec.specs.Ready.{receive_kept}
use Rattle.bus_spec.specs.InPlace.{Kept, length_stored, length_counted, stored_keeps, counted_keeps}
use Rattle.area.specs.Offsets.{area_size, frame_room}
use Rattle.sheet_layout.specs.Limits.{max_stations, max_draws}

-- ---- a turn on what is heard

-- what station i of area x does on hearing h
unfoldable pub outcome_on : Figures → (d i : ℕ) → Heard → List ℕ → Stepped
outcome_on f d i h x = stepped f (station_at x i) d (draw_at x i (station_at x i).draw) (buffer_at x i) h

unfoldable pub act_on : Figures → (d i : ℕ) → Heard → List ℕ → Act
act_on f d i h x =
    record {
      outcome = outcome_on f d i h x;
      symbol = symbol_of (frame_at x i (octets_held (station_at x i).transmitter (station_at x i).frame))
          (outcome_on f d i h x).emission;
    }

-- what it leaves of its own: its record, its counters, the bit that it collected
unfoldable pub own_left : ℕ → Stepped → List ℕ → List ℕ
own_left i o x = with_stored i o.stored (with_counted i o (with_station x i o.station))

unfoldable pub own_turn : Figures → (d i : ℕ) → Heard → List ℕ → List ℕ
own_turn f d i h x = own_left i (act_on f d i h x).outcome x

-- m turns, in which it hears H 0, H 1, ..
unfoldable pub by_itself : Figures → (d i : ℕ) → (ℕ → Heard) → ℕ → List ℕ → List ℕ
by_itself f d i H m x = turns (λ s y. own_turn f d i (H s) y) m x

pub by_itself_more : (f : Figures) (d i : ℕ) (H : ℕ → Heard) (m : ℕ) (x : List ℕ)
    → by_itself f d i H (suc m) x ≡ own_turn f d i (H m) (by_itself f d i H m x)
unfolding by_itself turns
by_itself_more f d i H m x = refl

pub by_itself_none : (f : Figures) (d i : ℕ) (H : ℕ → Heard) (x : List ℕ) → by_itself f d i H 0 x ≡ x
unfolding by_itself turns
by_itself_none f d i H x = refl

-- only what is heard in these turns matters
pub itself_heard : (f : Figures) (d i : ℕ) (H G : ℕ → Heard) (m : ℕ) (x : List ℕ) → ((s : ℕ) → s < m → H s ≡ G s)
    → by_itself f d i H m x ≡ by_itself f d i G m x
unfolding by_itself turns
itself_heard f d i H G zero x h = refl
itself_heard f d i H G (suc m) x h =
    ap₂ (own_turn f d i) (h m (omega arith)) (itself_heard f d i H G m x (λ s l. h s (omega arith)))

-- some turns, and then others: a stretch in segments
pub itself_split : (f : Figures) (d i : ℕ) (H : ℕ → Heard) (a b : ℕ) (x : List ℕ)
    → by_itself f d i H (a + b) x ≡ by_itself f d i (λ s. H (a + s)) b (by_itself f d i H a x)
unfolding by_itself turns
itself_split f d i H a zero x = let e : a + 0 ≡ a = omega arith in ap (λ (k : ℕ). by_itself f d i H k x) e
itself_split f d i H a (suc b) x =
    let e : a + suc b ≡ suc (a + b) = omega arith in ap (λ (k : ℕ). by_itself f d i H k x) e ∙ ap
    (own_turn f d i (H (a + b))) (itself_split f d i H a b x)

-- the turn of the pair is one on what is heard there
pub act_heard : (f : Figures) (d t i : ℕ) (x : List ℕ) → act_in f d t x i ≡ act_on f d i (arrival_at x i t) x
unfolding act_in outcome_in act_on outcome_on
act_heard f d t i x = refl

-- ---- a bit that is stored is one that the buffer holds

pub on_kept : (f : Figures) (d i : ℕ) (h : Heard) (x : List ℕ) → Kept (act_on f d i h x).outcome.stored
unfolding act_on outcome_on stepped
on_kept f d i h x = receive_kept (station_at x i).address (buffer_at x i) (station_at x i).receiver h _

-- ---- lengths, and what is kept

pub length_left : (i : ℕ) (o : Stepped) (x : List ℕ) → length (own_left i o x) ≡ length x
unfolding own_left
length_left i o x = length_stored i o.stored _ ∙ length_counted i o _ ∙ length_station x i o.station

pub length_itself : (f : Figures) (d i : ℕ) (H : ℕ → Heard) (m : ℕ) (x : List ℕ)
    → length (by_itself f d i H m x) ≡ length x
unfolding by_itself own_turn
length_itself f d i H m x =
    length_turns (λ s y. own_turn f d i (H s) y) m x (λ s y. length_left i (act_on f d i (H s) y).outcome y)

-- a part that is none of station i's own
pub record Others (p : Part) (i : ℕ) : Type 0 where
  pub station : Off p (station i)
  pub counters : Off p (counters i)
  pub buffer : Off p (buffer i)

pub left_keeps : (p : Part) (i : ℕ) (o : Stepped) (x : List ℕ) → Kept o.stored → Others p i
    → Keeps p (own_left i o x) x
unfolding own_left
left_keeps p i o x k q =
    let x₁ = with_station x i o.station in
    let x₂ = with_counted i o x₁ in
    let x₃ = with_stored i o.stored x₂ in
    keeps_trans p x₃ x₂ x (stored_keeps p i o.stored x₂ k q.buffer)
    (keeps_trans p x₂ x₁ x (counted_keeps p i o x₁ q.counters) (station_keeps p x i o.station q.station))

pub itself_keeps : (p : Part) (f : Figures) (d i : ℕ) (H : ℕ → Heard) (m : ℕ) (x : List ℕ) → Others p i
    → Keeps p (by_itself f d i H m x) x
unfolding by_itself turns own_turn
itself_keeps p f d i H zero x q = keeps_refl p x
itself_keeps p f d i H (suc m) x q =
    let y = by_itself f d i H m x in
    keeps_trans p (own_turn f d i (H m) y) y x
    (left_keeps p i (act_on f d i (H m) y).outcome y (on_kept f d i (H m) y) q) (itself_keeps p f d i H m x q)

-- ---- its own parts

pub record OwnSame (i : ℕ) (x y : List ℕ) : Type 0 where
  pub station : Keeps (station i) x y
  pub counters : Keeps (counters i) x y
  pub buffer : Keeps (buffer i) x y

pub own_refl : (i : ℕ) (x : List ℕ) → OwnSame i x x
own_refl i x = record {
  station = keeps_refl (station i) x;
  counters = keeps_refl (counters i) x;
  buffer = keeps_refl
      (buffer i) x;
}

pub own_trans : (i : ℕ) (x y z : List ℕ) → OwnSame i x y → OwnSame i y z → OwnSame i x z
own_trans i x y z p q =
    record {
      station = keeps_trans (station i) x y z p.station q.station;
      counters = keeps_trans (counters i) x y z p.counters q.counters;
      buffer = keeps_trans (buffer i) x y z p.buffer q.buffer;
    }

pub own_sym : (i : ℕ) (x y : List ℕ) → OwnSame i x y → OwnSame i y x
own_sym i x y p = record {
  station = keeps_sym (station i) x y p.station;
  counters = keeps_sym (counters i) x y
      p.counters;
  buffer = keeps_sym (buffer i) x y p.buffer;
}

module _ (i : ℕ) (hi : i < max_stations) (x y : List ℕ) (lx : area_size ≤ length x) (ly : area_size ≤ length y) where
  counted_on : (o : Stepped) → Keeps (counters i) x y → Keeps (counters i) (with_counted i o x) (with_counted i o y)
  unfolding with_counted
  counted_on o e =
      by_test (happened o)
      (λ b. rw (b, counters_by x y i e) (counters_on i hi x y lx ly (counted (counters_at y i) o) e))
      (λ b. rw b e)

  pub stored_on : (s : Option Stored) → Kept s → Keeps (buffer i) x y → Keeps (buffer i) (with_stored i s x) (with_stored i s y)
  stored_on None k e = e
  stored_on (Some s) h e = bit_on i hi x y lx ly s.bit s.one h e

-- what it leaves of its own goes by that
pub left_same : (i : ℕ) (o : Stepped) (x y : List ℕ) → i < max_stations → area_size ≤ length x → area_size ≤ length y
    → Kept o.stored
    → OwnSame i x y → OwnSame i (own_left i o x) (own_left i o y)
unfolding own_left
left_same i o x y hi lx ly k e =
    let x₁ = with_station x i o.station in
    let x₂ = with_counted i o x₁ in
    let x₃ = with_stored i o.stored x₂ in
    let y₁ = with_station y i o.station in
    let y₂ = with_counted i o y₁ in
    let y₃ = with_stored i o.stored y₂ in
    let lx₁ : area_size ≤ length x₁ = omega (arith, length_station x i o.station) in
    let ly₁ : area_size ≤ length y₁ = omega (arith, length_station y i o.station) in
    let lx₂ : area_size ≤ length x₂ = omega (arith, length_counted i o x₁) in
    let ly₂ : area_size ≤ length y₂ = omega (arith, length_counted i o y₁) in
    record {
      station = over (station i) x₃ x₂ y₂ y₃ (stored_keeps (station i) i o.stored x₂ k (λ p q. omega arith))
          (stored_keeps (station i) i o.stored y₂ k (λ p q. omega arith))
          (over (station i) x₂ x₁ y₁ y₂ (counted_keeps (station i) i o x₁ (λ p q. omega arith))
          (counted_keeps (station i) i o y₁ (λ p q. omega arith))
          (station_on i hi x y lx ly o.station e.station));
      counters = over (counters i) x₃ x₂ y₂ y₃ (stored_keeps (counters i) i o.stored x₂ k (λ p q. omega arith))
          (stored_keeps (counters i) i o.stored y₂ k (λ p q. omega arith))
          (counted_on i hi x₁ y₁ lx₁ ly₁ o
          (over (counters i) x₁ x y y₁ (station_keeps (counters i) x i o.station (λ p q. omega arith))
          (station_keeps (counters i) y i o.station (λ p q. omega arith)) e.counters));
      buffer = stored_on i hi x₂ y₂ lx₂ ly₂ o.stored k
          (over (buffer i) x₂ x₁ y₁ y₂ (counted_keeps (buffer i) i o x₁ (λ p q. omega arith))
          (counted_keeps (buffer i) i o y₁ (λ p q. omega arith))
          (over (buffer i) x₁ x y y₁ (station_keeps (buffer i) x i o.station (λ p q. omega arith))
          (station_keeps (buffer i) y i o.station (λ p q. omega arith)) e.buffer));
    }
  where
    over : (p : Part) (u v w z : List ℕ) → Keeps p u v → Keeps p z w → Keeps p v w → Keeps p u z
    over p u v w z a b c = keeps_trans p u v z a (keeps_trans p v w z c (keeps_sym p z w b))

-- what it does goes by that too, and by what does not change
pub record Stays (i : ℕ) (x y : List ℕ) : Type 0 where
  pub layout : Keeps layout x y
  pub draws : Keeps draws x y
  pub frame : Keeps (frame i) x y

pub stays_refl : (i : ℕ) (x : List ℕ) → Stays i x x
stays_refl i x = record { layout = keeps_refl layout x; draws = keeps_refl draws x; frame = keeps_refl (frame i) x }

pub stays_trans : (i : ℕ) (x y z : List ℕ) → Stays i x y → Stays i y z → Stays i x z
stays_trans i x y z p q =
    record {
      layout = keeps_trans layout x y z p.layout q.layout;
      draws = keeps_trans draws x y z p.draws
          q.draws;
      frame = keeps_trans (frame i) x y z p.frame q.frame;
    }

pub stays_sym : (i : ℕ) (x y : List ℕ) → Stays i x y → Stays i y x
stays_sym i x y p = record {
  layout = keeps_sym layout x y p.layout;
  draws = keeps_sym draws x y p.draws;
  frame = keeps_sym (frame i) x y p.frame;
}

-- its draw and its frame are such as the area has
pub record Drawn (s : Station) : Type 0 where
  pub draw : s.draw < max_draws
  pub held : octets_held s.transmitter s.frame ≤ frame_room

pub on_same : (f : Figures) (d i : ℕ) (h : Heard) (x y : List ℕ) → i < max_stations → area_size ≤ length x
    → area_size ≤ length y
    → Drawn (station_at y i) → Stays i x y → OwnSame i x y → act_on f d i h x ≡ act_on f d i h y
unfolding act_on outcome_on
on_same f d i h x y hi lx ly dr q e =
    let s : station_at x i ≡ station_at y i = station_by x y i hi lx ly q.layout e.station in
    let b : buffer_at x i ≡ buffer_at y i = buffer_by x y i hi lx ly e.buffer in
    let w : draw_at x i (station_at y i).draw ≡ draw_at y i (station_at y i).draw = draw_by x y i (station_at y i).draw hi
    dr.draw q.draws in
    let z : frame_at x i (octets_held (station_at y i).transmitter (station_at y i).frame) ≡ frame_at y i
    (octets_held (station_at y i).transmitter (station_at y i).frame) =
    frame_by x y i (octets_held (station_at y i).transmitter (station_at y i).frame) hi dr.held lx ly q.frame in
    rw (s, b, w, z)

pub itself_stays : (f : Figures) (d i : ℕ) (H : ℕ → Heard) (m : ℕ) (x : List ℕ) → i < max_stations
    → Stays i (by_itself f d i H m x) x
itself_stays f d i H m x hi =
    record {
      layout = itself_keeps layout f d i H m x
          (record { station = λ p q. omega arith; counters = λ p q. omega arith; buffer = λ p q. omega arith });
      draws = itself_keeps draws f d i H m x
          (record { station = λ p q. omega arith; counters = λ p q. omega arith; buffer = λ p q. omega arith });
      frame = itself_keeps (frame i) f d i H m x
          (record { station = λ p q. omega arith; counters = λ p q. omega arith; buffer = λ p q. omega arith });
    }

-- so do many turns
pub itself_same : (f : Figures) (d i : ℕ) (H : ℕ → Heard) (m : ℕ) (x y : List ℕ) → i < max_stations → area_size ≤ length x
    → area_size ≤ length y → ((s : ℕ) → s < m → Drawn (station_at (by_itself f d i H s y) i))
    → Stays i x y → OwnSame i x y → OwnSame i (by_itself f d i H m x) (by_itself f d i H m y)
unfolding by_itself turns own_turn
itself_same f d i H zero x y hi lx ly dr q e = e
itself_same f d i H (suc m) x y hi lx ly dr q e =
    let u = by_itself f d i H m x in
    let v = by_itself f d i H m y in
    let lu : area_size ≤ length u = omega (arith, length_itself f d i H m x) in
    let lv : area_size ≤ length v = omega (arith, length_itself f d i H m y) in
    let s : OwnSame i u v = itself_same f d i H m x y hi lx ly (λ k h. dr k (omega arith)) q e in
    let w : Stays i u v = stays_trans i u x v (itself_stays f d i H m x hi)
    (stays_trans i x y v q (stays_sym i v y (itself_stays f d i H m y hi))) in
    let r : act_on f d i (H m) u ≡ act_on f d i (H m) v = on_same f d i (H m) u v hi lu lv (dr m (omega arith)) w s in
    subst (λ (c : Act). OwnSame i (own_left i c.outcome u) (own_turn f d i (H m) v)) (sym r)
    (left_same i (act_on f d i (H m) v).outcome u v hi lu lv (on_kept f d i (H m) v) s)
