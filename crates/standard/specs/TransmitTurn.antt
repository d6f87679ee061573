-- The transmitter's whole part of a bit time, wherever it stands. Assumes nothing.
use Rattle.std.specs.Prelude.{ℕ, ◌+◌, ◌-◌, ◌*◌, ◌^◌, ◌≤◌, ◌<◌, min, ◌≡◌, refl, Bool, ◌&&◌, List, ltb, leb, eqb, None, Some}
use Rattle.std.proofs.Common.{sym, ◌∙◌, subst₂, true≢false, arith, lt-ltb, le-ltb, le-leb, eq-eqb, ne_eqb}
use Rattle.std.proofs.Math.Path.{ap, subst}
use Rattle.std.proofs.Math.Bool.{true, false, not}
use Rattle.std.proofs.lemmas.Bool.{lt-leb}
use Rattle.octets.specs.Base.{pick}
use Rattle.station_symbols.specs.Packet.{hears_any, is_emission}
use Rattle.station_symbols.specs.declared.Emission.TheVariants.{PacketBit, JamBit}
use Rattle.sheet_layout.specs.declared.Figures.{Figures}
use Rattle.station_state.specs.declared.Transmitter.{Transmitter}
use Rattle.station_state.specs.declared.Transmitter.TheVariants.{NoFrame, Waiting, BackingOff, Sending, Heading}
use Rattle.station_state.specs.declared.Transmitter.TheVariants.{Jamming}
use Rattle.station_spec.specs.declared.TransmitEvent.TheVariants.{Collision, Late, Sent, LateEnded}
use Rattle.station_spec.specs.declared.Transmitted.{Transmitted}
use Rattle.station_spec.specs.Transmit.{closes_frame, resting, emitting, after_bit, collision, send_bit, head_bit}
use Rattle.station_spec.specs.Transmit.{last_jam, jam_bit, backoff_bit, wait_bit, transmit}
use Rattle.standard.specs.Language.{drawn, Variables, with_flag, with_number, Reception, Signals, store}
use Rattle.standard.specs.Language.{Statement, look, bit, deferring, frame_waiting, transmitting}
use Rattle.standard.specs.Language.{transmit_succeeding, new_collision, late_collision_error, jamming, deferred}
use Rattle.standard.specs.Language.{current_transmit_bit, last_transmit_bit, last_header_bit, header_bits}
use Rattle.standard.specs.Language.{outgoing_size, wait_left}
use Rattle.standard.specs.Interpreter.{Place, waiting, ran}
use Rattle.standard.specs.RunLaws.{Turns, goes, waits, rest, set, num, emits, seq, enter, stay, leave, round}
use Rattle.standard.specs.RunLaws.{yes₁, no₁}
use Rattle.standard.specs.TransmitLaws.{draw_of, at_offer, at_defer, at_wait, at_watch, at_rest, at_header, at_frame}
use Rattle.standard.specs.TransmitLaws.{Held, Trying, Next, in_header, in_frame, TransmitAt, idle, held, backing}
use Rattle.standard.specs.TransmitLaws.{sending, heading, jams, fresh, BitTurns, idle_bit, held_bit}
use Rattle.standard.specs.TransmitLaws.{backing_bit, by_rule, jam_on, jam_last, head_on, head_last, header_on}
use Rattle.standard.specs.TransmitLaws.{header_last, frame_on, frame_last, header_hits, header_end_hits}
use Rattle.standard.specs.TransmitLaws.{frame_hits, frame_late, by_eq, by_le, below, same_held}
use Rattle.station_spec.specs.Step.{tries_after}
use Rattle.station_spec.specs.Transmit.{waits as waitsNow}
use Rattle.standard.specs.DeferenceLaws.{sends, Follows}
use Rattle.standard.specs.Seen.{Ranges}

-- ---- document 01's rules, by the place of a bit

send_on : (f : Figures) (z n k : ℕ) → k < 64 + 8 * z
    → send_bit f z n k false ≡ emitting (Sending (k + 1)) (PacketBit k) None
unfolding send_bit
send_on f z n k g = rw (ne_eqb k (64 + 8 * z) (λ e. omega arith))

send_last : (f : Figures) (z n k : ℕ) → k ≡ 64 + 8 * z
    → send_bit f z n k false ≡ emitting NoFrame (PacketBit k) (Some (Sent n))
unfolding send_bit
send_last f z n k g = rw (eq-eqb k (64 + 8 * z) g)

hit_header : (f : Figures) (z n k : ℕ) → k < 64 → 64 ≤ f.slot
    → send_bit f z n k true ≡ emitting (Heading (k + 1)) (PacketBit k) (Some (Collision k))
unfolding send_bit collision after_bit
hit_header f z n k g h = rw (le-ltb f.slot k (omega arith), lt-ltb k 64 g)

hit_frame : (f : Figures) (z n k : ℕ) → 64 ≤ k → k ≤ f.slot
    → send_bit f z n k true ≡ emitting (Jamming f.jam false) (PacketBit k) (Some (Collision k))
unfolding send_bit collision after_bit
hit_frame f z n k g h = rw (le-ltb f.slot k h, le-ltb k 64 g)

hit_late : (f : Figures) (z n k : ℕ) → 64 ≤ k → f.slot < k
    → send_bit f z n k true ≡ emitting (Jamming f.jam (closes_frame f)) (PacketBit k) (Some (Late k (closes_frame f)))
unfolding send_bit collision after_bit
hit_late f z n k g h = rw (lt-ltb f.slot k h, le-ltb k 64 g)

jam_over : (f : Figures) (n draw left : ℕ) (ends : Bool) → left ≤ 1
    → jam_bit f n draw left ends ≡ pick ends (emitting NoFrame JamBit (Some (LateEnded n))) (last_jam f n draw)
unfolding jam_bit
jam_over f n draw left ends h = rw (le-leb left 1 h)

jam_more : (f : Figures) (n draw left : ℕ) (ends : Bool) → 1 < left
    → jam_bit f n draw left ends ≡ emitting (Jamming (left - 1) ends) JamBit None
unfolding jam_bit
jam_more f n draw left ends h = rw (lt-leb left 1 h)

last_emits : (f : Figures) (n draw : ℕ) (c : Bool) → eqb n f.limit ≡ c → (last_jam f n draw).emission ≡ JamBit
unfolding last_jam
last_emits f n draw true c = rw c
last_emits f n draw false c = rw c

jam_emits : (f : Figures) (n draw left : ℕ) (ends : Bool) → (jam_bit f n draw left ends).emission ≡ JamBit
jam_emits f n draw left ends =
    by_le left 1 (λ h. ap (λ (o : Transmitted). o.emission) (jam_over f n draw left ends h) ∙ over_emits ends)
    (λ h. ap (λ (o : Transmitted). o.emission) (jam_more f n draw left ends h))
  where
    over_emits : (b : Bool)
        → (pick b (emitting NoFrame JamBit (Some (LateEnded n))) (last_jam f n draw)).emission ≡ JamBit
    over_emits true = refl
    over_emits false = last_emits f n draw (eqb n f.limit) refl

module _ (f : Figures) (ok : Ranges f) (d : Variables) (s : Signals) (v : Variables) (n z pl : ℕ) where
  abbrev Sends : ℕ → Bool → Place → Type 0
  Sends k h bt = BitTurns f d s v n z pl (at_watch f) bt (send_bit f z n k h)

  abbrev as_rule : (bt : Place) (o p : Transmitted) → p ≡ o → BitTurns f d s v n z pl (at_watch f) bt o
      → BitTurns f d s v n z pl (at_watch f) bt p
  as_rule bt o p e k = by_rule f d s v n z pl (at_watch f) bt o p e k

  module _ (sc : v.flags transmit_succeeding ≡ true) (nc : v.flags new_collision ≡ false)
      (lt : v.flags late_collision_error ≡ false) (nj : v.flags jamming ≡ false) (y : Trying f v n z pl) where
    in_header_lem : (k : ℕ) (h : Bool) → hears_any s.heard ≡ h → v.numbers current_transmit_bit ≡ k
        → v.numbers header_bits ≡ 0 → k ≤ 64 → v.numbers last_transmit_bit ≡ 8 * z → Sends k h (at_header f)
    in_header_lem k true e c hb g m =
        by_le 64 k
        (λ a. as_rule (at_header f) _ _ (hit_frame f z n k a (omega (arith, ok.slot)))
        (header_end_hits f d s v n z pl e sc nc lt nj y ok.jam k c hb (omega arith) ok.slot))
        (λ a. as_rule (at_header f) _ _ (hit_header f z n k a ok.slot)
        (header_hits f d s v n z pl e sc nc lt nj y ok.jam k c hb a ok.slot))
    in_header_lem k false e c hb g m =
        as_rule (at_header f) _ _ (send_on f z n k (omega (arith, y.some)))
        (by_le 64 k
        (λ a. header_last f d s v n z pl e sc nc lt nj y k c m (omega arith))
        (λ a. header_on f d s v n z pl e sc nc lt nj y k c hb m a))

    in_frame_lem : (k : ℕ) (h : Bool) → hears_any s.heard ≡ h → v.numbers header_bits ≡ 64
        → 64 + v.numbers current_transmit_bit ≡ k → 64 < k → k ≤ 64 + 8 * z → v.numbers last_transmit_bit ≡ 8 * z
        → Sends k h (at_frame f)
    in_frame_lem k true e hb c g i m =
        by_le k f.slot
        (λ a. as_rule (at_frame f) _ _ (hit_frame f z n k (omega arith) a)
        (frame_hits f d s v n z pl e sc nc lt nj y ok.jam k hb c a))
        (λ a. as_rule (at_frame f) _ _ (hit_late f z n k (omega arith) a)
        (frame_late f d s v n z pl e sc nc lt nj y ok.jam k hb c a))
    in_frame_lem k false e hb c g i m =
        by_eq k (64 + 8 * z)
        (λ a. as_rule (at_frame f) _ _ (send_last f z n k a) (frame_last f d s v n z pl e sc nc lt nj y k hb c m a))
        (λ a. as_rule (at_frame f) _ _ (send_on f z n k (below k (64 + 8 * z) i a))
        (frame_on f d s v n z pl e sc nc lt nj y k hb c m g (below k (64 + 8 * z) i a)))

    send_turns : (k : ℕ) (h : Bool) (bt : Place) → hears_any s.heard ≡ h → Next f v z k bt → Sends k h bt
    send_turns k h bt e (in_header b c hb g m) = subst (Sends k h) (sym b) (in_header_lem k h e c hb g m)
    send_turns k h bt e (in_frame b hb c g i m) = subst (Sends k h) (sym b) (in_frame_lem k h e hb c g i m)

  head_turns : (k : ℕ) → v.flags transmit_succeeding ≡ false → v.flags new_collision ≡ true
      → v.flags late_collision_error ≡ false → v.numbers current_transmit_bit ≡ k → k ≤ 64 → Trying f v n z pl
      → BitTurns f d s v n z pl (at_watch f) (at_header f) (head_bit f k)
  unfolding head_bit after_bit
  head_turns k sc nc lt c g y =
      by_le 64 k
      (λ a. as_rule (at_header f) _ _ (ap (λ (b : Bool). emitting (pick b (Heading (k + 1)) (Jamming f.jam false))
      (PacketBit k) None) (le-ltb k 64 a))
      (head_last f d s v n z pl sc y k nc lt c (omega arith) ok.jam))
      (λ a. as_rule (at_header f) _ _ (ap (λ (b : Bool). emitting (pick b (Heading (k + 1)) (Jamming f.jam false))
      (PacketBit k) None) (lt-ltb k 64 a))
      (head_on f d s v n z pl sc y k nc lt c a))

  jam_turns : (left : ℕ) (ends : Bool) → v.flags transmit_succeeding ≡ false → v.flags new_collision ≡ false
      → v.flags jamming ≡ true → (closes_frame f && v.flags late_collision_error) ≡ ends
      → v.numbers current_transmit_bit + left ≡ f.jam + 1 → v.numbers last_transmit_bit ≡ f.jam → 0 < left → Trying f
      v n z pl
      → BitTurns f d s v n z pl (at_watch f) (at_frame f) (jam_bit f n (draw_of s pl) left ends)
  jam_turns left ends sc nc j l c m g y =
      by_le left 1
      (λ a. jam_last f d s v n z pl sc y left nc j c m a ok.backoff (jam_bit f n (draw_of s pl) left ends)
      (jam_emits f n (draw_of s pl) left ends) (jam_over f n (draw_of s pl) left ends a ∙ ap (λ (b : Bool). pick b
      (emitting NoFrame JamBit (Some (LateEnded n))) (last_jam f n (draw_of s pl))) (sym l)))
      (λ a. as_rule (at_frame f) _ _ (jam_more f n (draw_of s pl) left ends a)
      (jam_on f d s v n z pl sc y left ends nc j l c m a))

-- ---- the whole part

pub record TransmitTurns (f : Figures) (d : Variables) (s : Signals) (v : Variables) (n z pl : ℕ) (at bt : Place)
    (o : Transmitted) : Type 0 where
  pub looked : Variables
  pub look_place : Place
  pub rest_place : Place
  pub look_turn : (r : Reception) → Turns look at (store d (fresh v) r s) (ran look_place (store d (fresh looked) r s))
  pub rest_turn : (r : Reception)
      → Turns look bt (store d (fresh looked) r s) (ran rest_place (store d (fresh looked) r s))
  pub bit_turns : BitTurns f d s looked n z pl look_place rest_place o

module _ (f : Figures) (ok : Ranges f) (d : Variables) (s : Signals) (v : Variables) (n z pl : ℕ) where
  abbrev All : ℕ → Place → Place → Transmitted → Type 0
  All m at bt o = TransmitTurns f d s v m z pl at bt o

  idle_turns : v.flags transmitting ≡ false → v.flags frame_waiting ≡ false → v.flags new_collision ≡ false
      → v.numbers drawn ≡ pl → All n (at_offer f) (at_rest f) (resting NoFrame)
  idle_turns tr fw nc dr =
      record {
        looked = v;
        look_place = at_offer f;
        rest_place = at_rest f;
        look_turn = λ r. waits refl;
        rest_turn = λ r. goes (round (no₁ tr rest));
        bit_turns = idle_bit f d s v n z pl tr fw nc dr;
      }

  defer_turns : d.flags deferring ≡ true → v.flags frame_waiting ≡ true → v.flags late_collision_error ≡ false
      → Held f v n z pl → All n (at_defer f) (at_rest f) (resting Waiting)
  defer_turns g fw lt h =
      record {
        looked = with_flag deferred true v;
        look_place = at_defer f;
        rest_place = at_rest f;
        look_turn = λ r. goes (stay g (seq (set rest)));
        rest_turn = λ r. goes (round (no₁ h.still rest));
        bit_turns = held_bit f d s (with_flag deferred true v) n z pl fw lt
            (same_held refl refl refl refl refl refl refl h);
      }

  -- the variables when an attempt begins
  abbrev started : Variables
  started =
      with_flag jamming false
      (with_number header_bits 0
      (with_number last_header_bit 64
      (with_flag transmitting true
      (with_flag transmit_succeeding true
      (with_number last_transmit_bit (8 * v.numbers outgoing_size)
      (with_number current_transmit_bit 1 (with_flag frame_waiting false v)))))))

  start_turns : (h : Bool) → hears_any s.heard ≡ h → d.flags deferring ≡ false
      → v.flags late_collision_error ≡ false → Held f v n z pl
      → All (n + 1) (at_defer f) (at_rest f) (send_bit f z (n + 1) 1 h)
  start_turns h e g lt y =
      record {
        looked = started;
        look_place = at_watch f;
        rest_place = at_header f;
        look_turn = λ r.
            goes (leave g (seq (set (seq (enter (seq (num (seq (num (seq (set (seq (set (seq (num (seq (num (set
            (seq (stay refl (enter (seq rest))))))))))))))))))))));
        rest_turn = λ r. goes (round (yes₁ refl (seq (enter (seq (stay refl (seq (seq rest))))))));
        bit_turns =
            send_turns f ok d s started (n + 1) z pl refl y.clean lt refl
            (record {
              tries = ap (λ (k : ℕ). k + 1) y.tries;
              room = omega (arith, y.room);
              size = y.size;
              some = y.some;
              goeson = y.goeson;
              range = λ k. y.range (subst (λ (m : ℕ). 0 < m) y.tries k) ∙ ap (λ (m : ℕ). 2 ^ min m f.backoff)
                  (sym y.tries);
              header = refl;
              goes = refl;
              place = y.place;
              free = refl;
            })
            1 h (at_header f) e (in_header refl refl refl (omega arith) (ap (λ (k : ℕ). 8 * k) y.size));
      }

  back_turns : (w : ℕ) → v.flags frame_waiting ≡ false → v.numbers wait_left + 1 ≡ w → Held f v n z pl
      → All n (at_wait f) (at_rest f) (backoff_bit w)
  back_turns w fw e h =
      record {
        looked = v;
        look_place = at_wait f;
        rest_place = at_rest f;
        look_turn = λ r. waits refl;
        rest_turn = λ r. goes (round (no₁ h.still rest));
        bit_turns = backing_bit f d s v n z pl w fw e h;
      }

  -- a bit is under way: both wait for it
  under_way : (k : List Statement) (o : Transmitted) → BitTurns f d s v n z pl (at_watch f) (waiting bit k) o
      → All n (at_watch f) (waiting bit k) o
  under_way k o b =
      record {
        looked = v;
        look_place = at_watch f;
        rest_place = waiting bit k;
        look_turn = λ r. waits refl;
        rest_turn = λ r. waits refl;
        bit_turns = b;
      }

  sending_turns : (k : ℕ) (h : Bool) (bt : Place) → hears_any s.heard ≡ h → v.flags transmit_succeeding ≡ true
      → v.flags new_collision ≡ false → v.flags late_collision_error ≡ false → v.flags jamming ≡ false → Trying f v n
      z pl
      → Next f v z k bt → All n (at_watch f) bt (send_bit f z n k h)
  sending_turns k h bt e sc nc lt nj y (in_header b c hb g m) =
      subst (λ (p : Place). All n (at_watch f) p (send_bit f z n k h)) (sym b)
      (under_way _ _ (send_turns f ok d s v n z pl sc nc lt nj y k h (at_header f) e (in_header refl c hb g m)))
  sending_turns k h bt e sc nc lt nj y (in_frame b hb c g i m) =
      subst (λ (p : Place). All n (at_watch f) p (send_bit f z n k h)) (sym b)
      (under_way _ _ (send_turns f ok d s v n z pl sc nc lt nj y k h (at_frame f) e (in_frame refl hb c g i m)))

  abbrev Whole : Bool → Bool → Transmitter → Place → Place → Type 0
  Whole start h x at bt =
      TransmitTurns f d s v (tries_after n start) z pl at bt (transmit f x z (tries_after n start) (draw_of s pl) start h)

  at_places : (start h : Bool) (x y : Transmitter) (at to bt into : Place) → x ≡ y → at ≡ to → bt ≡ into
      → Whole start h y to into → Whole start h x at bt
  at_places start h x y at to bt into i j k w =
      subst (λ (a : Transmitter). Whole start h a at bt) (sym i)
      (subst₂ (λ (a b : Place). Whole start h y a b) (sym j) (sym k) w)

  held_turns : (start h : Bool) → hears_any s.heard ≡ h → start ≡ not (d.flags deferring) → (g : Bool)
      → d.flags deferring ≡ g → v.flags frame_waiting ≡ true → v.flags late_collision_error ≡ false → Held f v n z pl
      → Whole start h Waiting (at_defer f) (at_rest f)
  unfolding transmit wait_bit tries_after
  held_turns start h e i true g fw lt y =
      subst (λ (b : Bool). Whole b h Waiting (at_defer f) (at_rest f)) (sym (i ∙ ap not g)) (defer_turns g fw lt y)
  held_turns start h e i false g fw lt y =
      subst (λ (b : Bool). Whole b h Waiting (at_defer f) (at_rest f)) (sym (i ∙ ap not g)) (start_turns h e g lt y)

  -- no frame waits
  other_turns : (start h : Bool) (x y : Transmitter) (at to bt into : Place) → x ≡ y → at ≡ to → bt ≡ into
      → start ≡ (waitsNow x && not (d.flags deferring)) → waitsNow y ≡ false
      → All n to into (transmit f y z n (draw_of s pl) false h) → Whole start h x at bt
  unfolding tries_after
  other_turns start h x y at to bt into p q r i j w =
      at_places start h x y at to bt into p q r
      (subst (λ (b : Bool). Whole b h y to into)
      (sym (i ∙ ap (λ (a : Transmitter). waitsNow a && not (d.flags deferring)) p ∙ ap (λ (b : Bool). b && not
      (d.flags deferring)) j)) w)

  idle_rule : v.flags transmitting ≡ false → v.flags frame_waiting ≡ false → v.flags new_collision ≡ false
      → v.numbers drawn ≡ pl → (h : Bool)
      → All n (at_offer f) (at_rest f) (transmit f NoFrame z n (draw_of s pl) false h)
  unfolding transmit
  idle_rule tr fw nc dr h = idle_turns tr fw nc dr

  back_rule : (w : ℕ) → v.flags frame_waiting ≡ false → v.numbers wait_left + 1 ≡ w → Held f v n z pl → (h : Bool)
      → All n (at_wait f) (at_rest f) (transmit f (BackingOff w) z n (draw_of s pl) false h)
  unfolding transmit
  back_rule w fw e y h = back_turns w fw e y

  send_rule : (k : ℕ) (h : Bool) (bt : Place) → hears_any s.heard ≡ h → v.flags transmit_succeeding ≡ true
      → v.flags new_collision ≡ false → v.flags late_collision_error ≡ false → v.flags jamming ≡ false → Trying f v n
      z pl
      → Next f v z k bt → All n (at_watch f) bt (transmit f (Sending k) z n (draw_of s pl) false h)
  unfolding transmit
  send_rule k h bt e sc nc lt nj y b = sending_turns k h bt e sc nc lt nj y b

  head_rule : (k : ℕ) (h : Bool) → BitTurns f d s v n z pl (at_watch f) (at_header f) (head_bit f k)
      → All n (at_watch f) (at_header f) (transmit f (Heading k) z n (draw_of s pl) false h)
  unfolding transmit
  head_rule k h b = under_way _ _ b

  jam_rule : (left : ℕ) (ends h : Bool) → BitTurns f d s v n z pl (at_watch f) (at_frame f) (jam_bit f n
      (draw_of s pl) left ends)
      → All n (at_watch f) (at_frame f) (transmit f (Jamming left ends) z n (draw_of s pl) false h)
  unfolding transmit
  jam_rule left ends h b = under_way _ _ b

  pub transmit_turns : (start h : Bool) (x : Transmitter) (at bt : Place) → hears_any s.heard ≡ h
      → start ≡ (waitsNow x && not (d.flags deferring)) → TransmitAt f v n z pl x at bt → Whole start h x at bt
  transmit_turns start h x at bt e i (idle p q r tr fw nc dr) =
      other_turns start h x NoFrame at (at_offer f) bt (at_rest f) p q r i refl (idle_rule tr fw nc dr h)
  transmit_turns start h x at bt e i (held p q r fw lt y) =
      at_places start h x Waiting at (at_defer f) bt (at_rest f) p q r
      (held_turns start h e (i ∙ ap (λ (a : Transmitter). waitsNow a && not (d.flags deferring)) p)
      (d.flags deferring) refl fw lt y)
  transmit_turns start h x at bt e i (backing w p q r fw g y) =
      other_turns start h x (BackingOff w) at (at_wait f) bt (at_rest f) p q r i refl (back_rule w fw g y h)
  transmit_turns start h x at bt e i (sending k p q sc nc lt nj b y) =
      other_turns start h x (Sending k) at (at_watch f) bt bt p q refl i refl (send_rule k h bt e sc nc lt nj y b)
  transmit_turns start h x at bt e i (heading k p q r sc nc lt c g y) =
      other_turns start h x (Heading k) at (at_watch f) bt (at_header f) p q r i refl
      (head_rule k h (head_turns f ok d s v n z pl k sc nc lt c g y))
  transmit_turns start h x at bt e i (jams left ends p q r sc nc j l c m g y) =
      other_turns start h x (Jamming left ends) at (at_watch f) bt (at_frame f) p q r i refl
      (jam_rule left ends h (jam_turns f ok d s v n z pl left ends sc nc j l c m g y))

-- ---- the flags that Deference reads

pub transmit_sends : {f : Figures} {v : Variables} {n z pl : ℕ} {x : Transmitter} {at bt : Place}
    → TransmitAt f v n z pl x at bt → v.flags transmitting ≡ sends x
transmit_sends (idle p q r tr fw nc dr) = tr ∙ sym (ap sends p)
transmit_sends (held p q r fw lt y) = y.still ∙ sym (ap sends p)
transmit_sends (backing w p q r fw g y) = y.still ∙ sym (ap sends p)
transmit_sends (sending k p q sc nc lt nj b y) = y.goes ∙ sym (ap sends p)
transmit_sends (heading k p q r sc nc lt c g y) = y.goes ∙ sym (ap sends p)
transmit_sends (jams left ends p q r sc nc j l c m g y) = y.goes ∙ sym (ap sends p)

pub transmit_waits : {f : Figures} {v : Variables} {n z pl : ℕ} {x : Transmitter} {at bt : Place}
    → TransmitAt f v n z pl x at bt → v.flags frame_waiting ≡ waitsNow x
transmit_waits (idle p q r tr fw nc dr) = fw ∙ sym (ap waitsNow p)
transmit_waits (held p q r fw lt y) = fw ∙ sym (ap waitsNow p)
transmit_waits (backing w p q r fw g y) = fw ∙ sym (ap waitsNow p)
transmit_waits (sending k p q sc nc lt nj b y) = y.free ∙ sym (ap waitsNow p)
transmit_waits (heading k p q r sc nc lt c g y) = y.free ∙ sym (ap waitsNow p)
transmit_waits (jams left ends p q r sc nc j l c m g y) = y.free ∙ sym (ap waitsNow p)

-- ---- what a step of document 01's transmitter leaves

clash : {C : Type 0} {b : Bool} → b ≡ true → b ≡ false → C
clash e g = absurd (true≢false (sym e ∙ g))

at_rest_lem : (x y : Transmitter) → sends x ≡ false → sends y ≡ false → Follows x false y false
at_rest_lem x y i j =
    record {
      idle_emits = λ a b. refl;
      idle_sends = λ a b. j;
      start_emits = λ a. absurd (true≢false (sym a));
      start_sends = λ a. absurd (true≢false (sym a));
      emits = λ a. clash a i;
      ends = λ a. j;
    }

at_work : (x y : Transmitter) (e : Bool) → sends x ≡ true → e ≡ true → Follows x false y e
at_work x y e i j =
    record {
      idle_emits = λ a b. clash i a;
      idle_sends = λ a b. clash i a;
      start_emits = λ a. j;
      start_sends = λ a. absurd (true≢false (sym a));
      emits = λ a. j;
      ends = λ a. clash j a;
    }

at_start : (x y : Transmitter) (e : Bool) → sends x ≡ false → sends y ≡ true → e ≡ true → Follows x true y e
at_start x y e i k j =
    record {
      idle_emits = λ a b. absurd (true≢false b);
      idle_sends = λ a b. absurd (true≢false b);
      start_emits = λ a. j;
      start_sends = λ a. k;
      emits = λ a. j;
      ends = λ a. clash j a;
    }

backs : (w : ℕ) (c : Bool) → leb w 1 ≡ c → Follows (BackingOff w) false (backoff_bit w).phase (is_emission
    (backoff_bit w).emission)
unfolding backoff_bit
backs w true c = rw c (at_rest_lem (BackingOff w) Waiting refl refl)
backs w false c = rw c (at_rest_lem (BackingOff w) (BackingOff (w - 1)) refl refl)

collides : (f : Figures) (k : ℕ) (c : Bool) → ltb f.slot k ≡ c → is_emission (collision f k).emission ≡ true
unfolding collision
collides f k true c = rw c
collides f k false c = rw c

send_emits : (f : Figures) (z n k : ℕ) (h c : Bool) → eqb k (64 + 8 * z) ≡ c → is_emission
    (send_bit f z n k h).emission ≡ true
unfolding send_bit
send_emits f z n k true c e = collides f k (ltb f.slot k) refl
send_emits f z n k false true e = rw e
send_emits f z n k false false e = rw e

first_sends : (f : Figures) (z n : ℕ) (h : Bool) → 64 ≤ f.slot → sends (send_bit f z n 1 h).phase ≡ true
first_sends f z n true k = ap (λ (o : Transmitted). sends o.phase) (hit_header f z n 1 (omega arith) k)
first_sends f z n false k = ap (λ (o : Transmitted). sends o.phase) (send_on f z n 1 (omega arith))

pub follows : (f : Figures) (x : Transmitter) (z n draw : ℕ) (start h : Bool) → 64 ≤ f.slot
    → (start ≡ true → x ≡ Waiting)
    → Follows x start (transmit f x z n draw start h).phase (is_emission (transmit f x z n draw start h).emission)
unfolding transmit wait_bit head_bit
follows f NoFrame z n draw false h k i = at_rest_lem NoFrame NoFrame refl refl
follows f NoFrame z n draw true h k i = absurd (true≢false (ap waitsNow (sym (i refl))))
follows f Waiting z n draw false h k i = at_rest_lem Waiting Waiting refl refl
follows f Waiting z n draw true h k i =
    at_start Waiting _ _ refl (first_sends f z n h k) (send_emits f z n 1 h (eqb 1 (64 + 8 * z)) refl)
follows f (BackingOff w) z n draw false h k i = backs w (leb w 1) refl
follows f (BackingOff w) z n draw true h k i = absurd (true≢false (ap waitsNow (sym (i refl))))
follows f (Sending j) z n draw false h k i = at_work (Sending j) _ _ refl (send_emits f z n j h (eqb j
    (64 + 8 * z)) refl)
follows f (Sending j) z n draw true h k i = absurd (true≢false (ap waitsNow (sym (i refl))))
follows f (Heading j) z n draw false h k i = at_work (Heading j) _ _ refl refl
follows f (Heading j) z n draw true h k i = absurd (true≢false (ap waitsNow (sym (i refl))))
follows f (Jamming l ends) z n draw false h k i =
    at_work (Jamming l ends) _ _ refl (ap is_emission (jam_emits f n draw l ends))
follows f (Jamming l ends) z n draw true h k i = absurd (true≢false (ap waitsNow (sym (i refl))))
