-- The bit's part of a bit time, for the frame transmitter and the BitTransmitter: it is document 01's transmitter.
-- Assumes nothing.
use Rattle.std.specs.Prelude.{ℕ, suc, ◌+◌, ◌-◌, ◌*◌, ◌%◌, ◌^◌, ◌≤◌, ◌<◌, min, ◌≡◌, refl, Bool, not, ◌&&◌, List, [], ◌∷◌, ltb, leb, eqb, Option, None, Some}
use Rattle.std.proofs.Common.{sym, ◌∙◌, ap₂, pow-suc, arith, ltb-true, ltb-false, leb-true, leb-false, eqb-true, lt-ltb, le-ltb, le-leb, eq-eqb, ne_eqb}
use Rattle.std.proofs.Math.Path.{ap, subst}
use Rattle.std.proofs.Math.Bool.{true, false, and-true}
use Rattle.std.proofs.lemmas.Bool.{eqb-false, lt-leb}
use Rattle.octets.specs.Base.{pick}
use Rattle.station_symbols.specs.Packet.{hears_any}
use Rattle.station_symbols.specs.declared.Emission.{Emission}
use Rattle.station_symbols.specs.declared.Emission.TheVariants.{Rest, PacketBit, JamBit}
use Rattle.sheet_layout.specs.declared.Figures.{Figures}
use Rattle.station_state.specs.declared.Transmitter.{Transmitter}
use Rattle.station_state.specs.declared.Transmitter.TheVariants.{NoFrame, Waiting, BackingOff, Sending, Heading}
use Rattle.station_state.specs.declared.Transmitter.TheVariants.{Jamming}
use Rattle.station_spec.specs.declared.TransmitEvent.{TransmitEvent}
use Rattle.station_spec.specs.declared.TransmitEvent.TheVariants.{Collision, Late, Sent, GivenUp}
use Rattle.station_spec.specs.declared.TransmitEvent.TheVariants.{LateEnded}
use Rattle.station_spec.specs.declared.Transmitted.{Transmitted}
use Rattle.station_spec.specs.Transmit.{closes_frame, resting, emitting, backoff_range, last_jam, backoff_bit}
use Rattle.station_spec.specs.Transmit.{back_off as backOffRule}
use Rattle.standard.specs.Language.{drawn, Variables, with_flag, with_number, Transmission, Reception, Signals}
use Rattle.standard.specs.Language.{store, Statement, offer, look, bit, over, ◌≔#◌, emit, test, skip, repeat}
use Rattle.standard.specs.Language.{call, await, number, frame_waiting, transmitting, transmit_succeeding}
use Rattle.standard.specs.Language.{new_collision, late_collision_error, jamming, attempts, current_transmit_bit}
use Rattle.standard.specs.Language.{last_transmit_bit, last_header_bit, header_bits, max_back_off, late_collision_count}
use Rattle.standard.specs.Language.{outgoing_size, wait_left}
use Rattle.standard.specs.Interpreter.{Place, waiting, ran}
use Rattle.standard.specs.RunLaws.{Goes, Turns, goes, waits, rest, set, num, emits, reports, seq, pass, enter}
use Rattle.standard.specs.RunLaws.{stay, leave, again, round, yes₁, no₁}
use Rattle.standard.specs.Reading.{wait_out}
use Rattle.standard.specs.FrameTransmitter.{watch_now, while_deferring, watching, counting, send_frame}
use Rattle.standard.specs.FrameTransmitter.{await_medium, trying, status, transmit_frame, is_offered}
use Rattle.standard.specs.FrameTransmitter.{frame_transmitter}
use Rattle.standard.specs.BitTransmitter.{header_bit, frame_bit, send_header, behind_header, behind_bit}
use Rattle.standard.specs.BitTransmitter.{send_frame_bits, bit_transmitter}

-- ---- the places of the frame transmitter

-- what follows an attempt
abbrev pub behind : Figures → List Statement
behind f = trying f ∷ status f ∷ frame_transmitter f ∷ []

abbrev pub at_offer : Figures → Place
at_offer f =
    waiting offer
    (test is_offered skip (repeat (await offer) is_offered) ∷ call (transmit_frame f) ∷ frame_transmitter f ∷ [])

abbrev pub at_defer : Figures → Place
at_defer f = waiting look (while_deferring ∷ send_frame f ∷ behind f)

abbrev pub at_wait : Figures → Place
at_wait f = waiting over (wait_out ∷ await_medium f ∷ behind f)

abbrev pub at_watch : Figures → Place
at_watch f = waiting bit (watch_now f ∷ watching f ∷ counting ∷ behind f)

abbrev pub at_over : Figures → Place
at_over f = waiting over (watching f ∷ counting ∷ behind f)

-- ---- the places of the BitTransmitter

abbrev pub at_rest : Figures → Place
at_rest f = waiting look (bit_transmitter f ∷ [])

abbrev pub at_header : Figures → Place
at_header f =
    waiting bit
    (emit header_bit ∷ (current_transmit_bit ≔# (λ s. number current_transmit_bit s + 1)) ∷ send_header ∷ behind_header f
    ∷ send_frame_bits f ∷ bit_transmitter f ∷ [])

abbrev pub at_frame : Figures → Place
at_frame f = waiting bit (emit frame_bit ∷ behind_bit f ∷ send_frame_bits f ∷ bit_transmitter f ∷ [])

-- ---- where the two stand, and what document 01's transmitter is then

-- a frame of z octets, n attempts of which are over
pub record Held (f : Figures) (v : Variables) (n z pl : ℕ) : Type 0 where
  pub tries : v.numbers attempts ≡ n
  pub room : n < f.limit
  pub size : v.numbers outgoing_size ≡ z
  pub some : 0 < z
  pub goeson : (closes_frame f && ltb 0 (v.numbers late_collision_count)) ≡ false
  pub range : 0 < n → v.numbers max_back_off ≡ 2 ^ min n f.backoff
  pub clean : v.flags new_collision ≡ false
  pub place : v.numbers drawn ≡ pl
  pub still : v.flags transmitting ≡ false

-- one in its attempt n
pub record Trying (f : Figures) (v : Variables) (n z pl : ℕ) : Type 0 where
  pub tries : v.numbers attempts + 1 ≡ n
  pub room : n ≤ f.limit
  pub size : v.numbers outgoing_size ≡ z
  pub some : 0 < z
  pub goeson : (closes_frame f && ltb 0 (v.numbers late_collision_count)) ≡ false
  pub range : 0 < v.numbers attempts → v.numbers max_back_off ≡ 2 ^ min (v.numbers attempts) f.backoff
  pub header : v.numbers last_header_bit ≡ 64
  pub goes : v.flags transmitting ≡ true
  pub place : v.numbers drawn ≡ pl
  pub free : v.flags frame_waiting ≡ false

-- bit k is next
pub data Next (f : Figures) (v : Variables) (z k : ℕ) (bt : Place) : Type 0 where
  in_header : bt ≡ at_header f → v.numbers current_transmit_bit ≡ k → v.numbers header_bits ≡ 0 → k ≤ 64
      → v.numbers last_transmit_bit ≡ 8 * z → Next f v z k bt
  in_frame : bt ≡ at_frame f → v.numbers header_bits ≡ 64 → 64 + v.numbers current_transmit_bit ≡ k → 64 < k
      → k ≤ 64 + 8 * z → v.numbers last_transmit_bit ≡ 8 * z → Next f v z k bt

pub data TransmitAt (f : Figures) (v : Variables) (n z pl : ℕ) (x : Transmitter) (at bt : Place) : Type 0 where
  idle : x ≡ NoFrame → at ≡ at_offer f → bt ≡ at_rest f → v.flags transmitting ≡ false → v.flags frame_waiting ≡ false
      → v.flags new_collision ≡ false → v.numbers drawn ≡ pl → TransmitAt f v n z pl x at bt
  held : x ≡ Waiting → at ≡ at_defer f → bt ≡ at_rest f → v.flags frame_waiting ≡ true
      → v.flags late_collision_error ≡ false → Held f v n z pl → TransmitAt f v n z pl x at bt
  backing : (w : ℕ) → x ≡ BackingOff w → at ≡ at_wait f → bt ≡ at_rest f → v.flags frame_waiting ≡ false
      → v.numbers wait_left + 1 ≡ w → Held f v n z pl → TransmitAt f v n z pl x at bt
  sending : (k : ℕ) → x ≡ Sending k → at ≡ at_watch f → v.flags transmit_succeeding ≡ true
      → v.flags new_collision ≡ false → v.flags late_collision_error ≡ false → v.flags jamming ≡ false
      → Next f v z k bt → Trying f v n z pl → TransmitAt f v n z pl x at bt
  heading : (k : ℕ) → x ≡ Heading k → at ≡ at_watch f → bt ≡ at_header f → v.flags transmit_succeeding ≡ false
      → v.flags new_collision ≡ true → v.flags late_collision_error ≡ false → v.numbers current_transmit_bit ≡ k → k ≤ 64
      → Trying f v n z pl → TransmitAt f v n z pl x at bt
  jams : (left : ℕ) (ends : Bool) → x ≡ Jamming left ends → at ≡ at_watch f → bt ≡ at_frame f
      → v.flags transmit_succeeding ≡ false → v.flags new_collision ≡ false → v.flags jamming ≡ true
      → (closes_frame f && v.flags late_collision_error) ≡ ends → v.numbers current_transmit_bit + left ≡ f.jam + 1
      → v.numbers last_transmit_bit ≡ f.jam → 0 < left → Trying f v n z pl → TransmitAt f v n z pl x at bt

-- ---- the bit's part of a bit time

-- the draw at a place, and the place after it, of all draws
abbrev pub draw_of : Signals → ℕ → ℕ
draw_of s k = s.draws.value k

abbrev pub place_next : (k draws : ℕ) → ℕ
place_next k draws = pick (eqb (k + 1) draws) 0 (k + 1)

abbrev pub place_after : (k draws : ℕ) → Bool → ℕ
place_after k draws drew = pick drew (place_next k draws) k

-- before anything is emitted or reported
abbrev pub fresh : Variables → Transmission
fresh v = record { variables = v; emission = Rest; sent = None }

pub record BitTurns (f : Figures) (d : Variables) (s : Signals) (v : Variables) (n z pl : ℕ) (at bt : Place)
    (o : Transmitted) : Type 0 where
  pub watched : Transmission
  pub emitted : Transmission
  pub ended : Transmission
  pub watch_place : Place
  pub bit_place : Place
  pub end_place : Place
  pub watch : (r : Reception) → Turns bit at (store d (fresh v) r s) (ran watch_place (store d watched r s))
  pub send : (r : Reception) → Turns bit bt (store d watched r s) (ran bit_place (store d emitted r s))
  pub end : (r : Reception) → Turns over watch_place (store d emitted r s) (ran end_place (store d ended r s))
  pub emits : emitted.emission ≡ o.emission
  pub keeps : ended.emission ≡ o.emission
  pub reports : ended.sent ≡ o.event
  pub stands : TransmitAt f ended.variables n z (place_after pl s.draws.depth o.drew)
      o.phase end_place bit_place

-- ---- what does not depend on a variable that was written

pub same_held : {f : Figures} {v w : Variables} {n z pl : ℕ} → w.numbers attempts ≡ v.numbers attempts
    → w.numbers outgoing_size ≡ v.numbers outgoing_size
    → w.numbers late_collision_count ≡ v.numbers late_collision_count → w.numbers max_back_off ≡ v.numbers max_back_off
    → w.flags new_collision ≡ v.flags new_collision → w.flags transmitting ≡ v.flags transmitting
    → w.numbers drawn ≡ v.numbers drawn → Held f v n z pl → Held f w n z pl
same_held {f} a b c e g i j h =
    record {
      tries = a ∙ h.tries;
      room = h.room;
      size = b ∙ h.size;
      some = h.some;
      goeson = ap (λ (k : ℕ). closes_frame f && ltb 0 k) c ∙ h.goeson;
      range = λ k. e ∙ h.range k;
      clean = g ∙ h.clean;
      place = j ∙ h.place;
      still = i ∙ h.still;
    }

pub same_trying : {f : Figures} {v w : Variables} {n z pl : ℕ} → w.numbers attempts ≡ v.numbers attempts
    → w.numbers outgoing_size ≡ v.numbers outgoing_size
    → w.numbers late_collision_count ≡ v.numbers late_collision_count → w.numbers max_back_off ≡ v.numbers max_back_off
    → w.numbers last_header_bit ≡ v.numbers last_header_bit → w.flags transmitting ≡ v.flags transmitting
    → w.flags frame_waiting ≡ v.flags frame_waiting → w.numbers drawn ≡ v.numbers drawn → Trying f v n z pl
    → Trying f w n z pl
same_trying {f} {v} {w} a b c e g i j l h =
    record {
      tries = ap (λ (k : ℕ). k + 1) a ∙ h.tries;
      room = h.room;
      size = b ∙ h.size;
      some = h.some;
      goeson = ap (λ (k : ℕ). closes_frame f && ltb 0 k) c ∙ h.goeson;
      range = λ k. e ∙ h.range (subst (λ (m : ℕ). 0 < m) a k) ∙ ap (λ (m : ℕ). 2 ^ min m f.backoff) (sym a);
      header = g ∙ h.header;
      goes = i ∙ h.goes;
      place = l ∙ h.place;
      free = j ∙ h.free;
    }

-- ---- at the end of a bit: the frame transmitter alone, from k to where it waits again

pub record Ends (f : Figures) (d : Variables) (s : Signals) (fuel : ℕ) (k : List Statement) (t : Transmission)
    (n z pl : ℕ) (x : Transmitter) (u : Option TransmitEvent) : Type 0 where
  pub ended : Transmission
  pub end_place : Place
  pub goes : (r : Reception) → Goes fuel k (store d t r s) (ran end_place (store d ended r s))
  pub keeps : ended.emission ≡ t.emission
  pub reports : ended.sent ≡ u
  pub stands : TransmitAt f ended.variables n z pl x end_place (at_rest f)

abbrev ten : ℕ → ℕ
ten m = suc (suc (suc (suc (suc (suc (suc (suc (suc (suc m)))))))))

module _ (f : Figures) (d : Variables) (s : Signals) (t : Transmission) (n z pl : ℕ) where
  -- the wait is over, or goes on
  wait_ends : (m : ℕ) → Held f t.variables n z pl → t.variables.flags frame_waiting ≡ false → (c : Bool)
      → ltb 0 (t.variables.numbers wait_left) ≡ c
      → Ends f d s (ten m) (wait_out ∷ await_medium f ∷ behind f) t n z pl
      (pick c (BackingOff (t.variables.numbers wait_left)) Waiting) t.sent
  wait_ends m h fw true c =
      record {
        ended = _;
        end_place = at_wait f;
        goes = λ r. stay c (seq (num rest));
        keeps = refl;
        reports = refl;
        stands =
            backing (t.variables.numbers wait_left) refl refl refl fw (omega (
              arith,
              ltb-true 0
                  (t.variables.numbers wait_left) c,
            ))
            (same_held refl refl refl refl refl refl refl h);
      }
  wait_ends m h fw false c =
      record {
        ended = _;
        end_place = at_defer f;
        goes = λ r. leave c (seq (set (seq (set (seq (seq rest))))));
        keeps = refl;
        reports = refl;
        stands = held refl refl refl refl refl (same_held refl refl refl refl refl refl refl h);
      }

backoff_rule : (w l : ℕ) → l + 1 ≡ w → (c : Bool) → ltb 0 l ≡ c → backoff_bit w ≡ resting (pick c (BackingOff l) Waiting)
unfolding backoff_bit
backoff_rule w l e true c =
    let i : leb w 1 ≡ false = lt-leb w 1 (omega (arith, ltb-true 0 l c)) in
    let j : w - 1 ≡ l = omega arith in
    rw (i, j)
backoff_rule w l e false c =
    let i : leb w 1 ≡ true = le-leb w 1 (omega (arith, ltb-false 0 l c)) in
    rw i

-- ---- backoff

pub by_eq : {C : Type 0} (a b : ℕ) → (a ≡ b → C) → ((a ≡ b → ⊥) → C) → C
by_eq {C} a b f g = go (eqb a b) refl
  where
    go : (c : Bool) → eqb a b ≡ c → C
    go true e = f (eqb-true a b e)
    go false e = g (eqb-false a b e)

pub by_le : {C : Type 0} (a b : ℕ) → (a ≤ b → C) → (b < a → C) → C
by_le {C} a b f g = go (leb a b) refl
  where
    go : (c : Bool) → leb a b ≡ c → C
    go true e = f (leb-true a b e)
    go false e = g (leb-false a b e)

pub below : (a b : ℕ) → a ≤ b → (a ≡ b → ⊥) → a < b
below a b h g = omega arith

choose_wait : (w : ℕ) (c : Bool) → eqb w 0 ≡ c → pick (ltb 0 w) (BackingOff w) Waiting ≡ pick c Waiting (BackingOff w)
choose_wait w true c = rw (le-ltb 0 w (omega (arith, eqb-true w 0 c)))
choose_wait w false c = rw (lt-ltb 0 w (omega (arith, eqb-false w 0 c)))

back_rule : (f : Figures) (n draw m : ℕ) → m ≡ 2 ^ min n f.backoff
    → pick (ltb 0 (f.slot * (draw % m))) (BackingOff (f.slot * (draw % m))) Waiting ≡ backOffRule f n draw
unfolding backOffRule backoff_range
back_rule f n draw m e =
    choose_wait (f.slot * (draw % m)) (eqb (f.slot * (draw % m)) 0) refl
    ∙ ap (λ (k : ℕ). pick (eqb (f.slot * (draw % k)) 0) Waiting (BackingOff (f.slot * (draw % k)))) e

range_one : (n b : ℕ) → n ≡ 1 → 0 < b → 2 ≡ 2 ^ min n b
range_one n b e h = let i : min n b ≡ 1 = omega arith in rw i

range_doubles : (m n b x : ℕ) → m + 1 ≡ n → n ≤ b → x ≡ 2 ^ min m b → x * 2 ≡ 2 ^ min n b
range_doubles m n b x e h p =
    let i : min n b ≡ suc m = omega arith in
    let j : min m b ≡ m = omega arith in
    ap (λ (k : ℕ). k * 2) p ∙ rw (i, j) (sym (pow-suc 2 m))

range_stays : (m n b x : ℕ) → m + 1 ≡ n → b < n → x ≡ 2 ^ min m b → x ≡ 2 ^ min n b
range_stays m n b x e h p =
    let i : min n b ≡ b = omega arith in
    let j : min m b ≡ b = omega arith in
    p ∙ rw (i, j)

-- ---- after an attempt

pub middle_false : (a b : Bool) → ((a && false) && b) ≡ false
middle_false true b = refl
middle_false false b = refl

pub last_false : (a : Bool) → (a && false) ≡ false
last_false true = refl
last_false false = refl

module _ (f : Figures) (d : Variables) (s : Signals) (t : Transmission) (n z : ℕ)
    (tr : t.variables.flags transmitting ≡ false) (fw : t.variables.flags frame_waiting ≡ false)
    (nc : t.variables.flags new_collision ≡ false) where
  -- it was sent
  sent_ends : t.variables.flags transmit_succeeding ≡ true → t.variables.flags late_collision_error ≡ false
      → t.variables.numbers attempts + 1 ≡ n → Ends f d s 63 (counting ∷ behind f) t n z
      (t.variables.numbers drawn) NoFrame (Some (Sent n))
  sent_ends sc lt e =
      record {
        ended = _;
        end_place = at_offer f;
        goes = λ r.
            seq (no₁ lt (pass (num (leave
            (ap (λ (b : Bool). (ltb (t.variables.numbers attempts + 1) f.limit && not b)
            && not (closes_frame f && ltb 0 (t.variables.numbers late_collision_count))) sc
            ∙ middle_false (ltb (t.variables.numbers attempts + 1) f.limit) _)
            (yes₁ sc (reports (round (seq (again rest)))))))));
        keeps = refl;
        reports = ap (λ (a : ℕ). Some (Sent a)) e;
        stands = idle refl refl refl tr fw nc refl;
      }

  module _ (sc : t.variables.flags transmit_succeeding ≡ false) (e : t.variables.numbers attempts ≡ n) where
    -- it ends for a late collision, or for its attempts
    late_ends : (closes_frame f && ltb 0 (t.variables.numbers late_collision_count)) ≡ true
        → Ends f d s 59 (behind f) t n z (t.variables.numbers drawn) NoFrame (Some (LateEnded n))
    late_ends l =
        record {
          ended = _;
          end_place = at_offer f;
          goes = λ r.
              leave
              (ap (λ (b : Bool). (ltb (t.variables.numbers attempts) f.limit && not
              (t.variables.flags transmit_succeeding))
              && not b) l
              ∙ last_false (ltb (t.variables.numbers attempts) f.limit && not
              (t.variables.flags transmit_succeeding)))
              (no₁ sc (yes₁ l (reports (round (seq (again rest))))));
          keeps = refl;
          reports = ap (λ (a : ℕ). Some (LateEnded a)) e;
          stands = idle refl refl refl tr fw nc refl;
        }

    gives_up : (closes_frame f && ltb 0 (t.variables.numbers late_collision_count)) ≡ false → n ≡ f.limit
        → Ends f d s 59 (behind f) t n z (t.variables.numbers drawn) NoFrame (Some (GivenUp n))
    gives_up l m =
        record {
          ended = _;
          end_place = at_offer f;
          goes = λ r.
              leave
              (ap (λ (b : Bool). (b && not (t.variables.flags transmit_succeeding))
              && not (closes_frame f && ltb 0 (t.variables.numbers late_collision_count)))
              (le-ltb (t.variables.numbers attempts) f.limit (omega arith)))
              (no₁ sc (no₁ l (reports (round (seq (again rest))))));
          keeps = refl;
          reports = ap (λ (a : ℕ). Some (GivenUp a)) e;
          stands = idle refl refl refl tr fw nc refl;
        }

    -- it is tried again: the range is set, and the wait begins
    module _ (room : n < f.limit) (some : 0 < z) (size : t.variables.numbers outgoing_size ≡ z) (least : 0 < n)
        (l : (closes_frame f && ltb 0 (t.variables.numbers late_collision_count)) ≡ false) where
      abbrev draw_now : ℕ
      draw_now = draw_of s (t.variables.numbers drawn)

      abbrev place_then : ℕ
      place_then = place_next (t.variables.numbers drawn) s.draws.depth

      abbrev Backed : ℕ → Type 0
      Backed m =
          Ends f d s 59 (behind f) t n z place_then
          (pick (ltb 0 (f.slot * (draw_now % m))) (BackingOff (f.slot * (draw_now % m))) Waiting) t.sent

      tries_again :
          ((ltb (t.variables.numbers attempts) f.limit && not (t.variables.flags transmit_succeeding))
          && not (closes_frame f && ltb 0 (t.variables.numbers late_collision_count))) ≡ true
      tries_again =
          ap₂ ◌&&◌ (ap₂ ◌&&◌ (lt-ltb (t.variables.numbers attempts) f.limit (omega arith)) (ap not sc)) (ap not l)

      holds : {w : Variables} → w.numbers attempts ≡ t.variables.numbers attempts
          → w.numbers outgoing_size ≡ t.variables.numbers outgoing_size
          → w.numbers late_collision_count ≡ t.variables.numbers late_collision_count
          → w.flags new_collision ≡ t.variables.flags new_collision
          → w.flags transmitting ≡ t.variables.flags transmitting → w.numbers max_back_off ≡ 2 ^ min n f.backoff
          → w.numbers drawn ≡ place_then → Held f w n z place_then
      holds a b c g i m q =
          record {
            tries = a ∙ e;
            room = room;
            size = b ∙ size;
            some = some;
            goeson = ap (λ (k : ℕ). closes_frame f && ltb 0 k) c ∙ l;
            range = λ k. m;
            clean = g ∙ nc;
            place = q;
            still = i ∙ tr;
          }

      once : n ≡ 1 → 2 ≡ 2 ^ min n f.backoff → Backed 2
      once i m =
          let v = t.variables in
          let w : Variables = with_number drawn place_then (with_number wait_left (f.slot * (draw_now % 2))
          (with_number max_back_off 2 v)) in
          let k = wait_ends f d s (record { variables = w; emission = t.emission; sent = t.sent }) n z place_then 38
          (holds refl refl refl refl refl m refl) fw (ltb 0 (f.slot * (draw_now % 2))) refl in
          record {
            ended = k.ended;
            end_place = k.end_place;
            goes = λ r.
                stay tries_again (seq (yes₁ (lt-ltb 0 (v.numbers attempts) (omega arith)) (enter (seq
                (yes₁ (eq-eqb (v.numbers attempts) 1 (omega arith)) (num (seq (num (seq (num (k.goes r)))))))))));
            keeps = k.keeps;
            reports = k.reports;
            stands = k.stands;
          }

      doubled : (n ≡ 1 → ⊥) → n ≤ f.backoff → t.variables.numbers max_back_off * 2 ≡ 2 ^ min n f.backoff
          → Backed (t.variables.numbers max_back_off * 2)
      doubled i j m =
          let v = t.variables in
          let w : Variables = with_number drawn place_then (with_number wait_left (f.slot * (draw_now %
          (v.numbers max_back_off * 2)))
          (with_number max_back_off (v.numbers max_back_off * 2) v)) in
          let k = wait_ends f d s (record { variables = w; emission = t.emission; sent = t.sent }) n z place_then 37
          (holds refl refl refl refl refl m refl) fw (ltb 0 (f.slot * (draw_now % (v.numbers max_back_off * 2)))) refl in
          record {
            ended = k.ended;
            end_place = k.end_place;
            goes = λ r.
                stay tries_again (seq (yes₁ (lt-ltb 0 (v.numbers attempts) (omega arith)) (enter (seq
                (no₁ (ne_eqb (v.numbers attempts) 1 (λ a. i (sym e ∙ a)))
                (yes₁ (le-leb (v.numbers attempts) f.backoff (omega arith)) (num (seq (num (seq (num
                (k.goes r))))))))))));
            keeps = k.keeps;
            reports = k.reports;
            stands = k.stands;
          }

      stays : (n ≡ 1 → ⊥) → f.backoff < n → t.variables.numbers max_back_off ≡ 2 ^ min n f.backoff
          → Backed (t.variables.numbers max_back_off)
      stays i j m =
          let v = t.variables in
          let w : Variables = with_number drawn place_then (with_number wait_left (f.slot *
          (draw_now % v.numbers max_back_off)) v) in
          let k = wait_ends f d s (record { variables = w; emission = t.emission; sent = t.sent }) n z place_then 37
          (holds refl refl refl refl refl m refl) fw (ltb 0 (f.slot * (draw_now % v.numbers max_back_off))) refl in
          record {
            ended = k.ended;
            end_place = k.end_place;
            goes = λ r.
                stay tries_again (seq (yes₁ (lt-ltb 0 (v.numbers attempts) (omega arith)) (enter (seq
                (no₁ (ne_eqb (v.numbers attempts) 1 (λ a. i (sym e ∙ a)))
                (no₁ (lt-leb (v.numbers attempts) f.backoff (omega arith)) (pass (seq (num (seq (num
                (k.goes r))))))))))));
            keeps = k.keeps;
            reports = k.reports;
            stands = k.stands;
          }

      again_as : (m : ℕ) → m ≡ 2 ^ min n f.backoff → Backed m
          → Ends f d s 59 (behind f) t n z place_then (backOffRule f n (draw_now)) t.sent
      again_as m i k =
          subst (λ (x : Transmitter). Ends f d s 59 (behind f) t n z place_then x t.sent) (back_rule f n
          (draw_now) m i) k

      again_ends : (m : ℕ) → m + 1 ≡ n → (0 < m → t.variables.numbers max_back_off ≡ 2 ^ min m f.backoff)
          → 0 < f.backoff
          → Ends f d s 59 (behind f) t n z place_then (backOffRule f n (draw_now)) t.sent
      again_ends m i k b =
          by_eq n 1 (λ a. let c = range_one n f.backoff a b in again_as 2 c (once a c))
          (λ a. by_le n f.backoff
          (λ c. let g = range_doubles m n f.backoff (t.variables.numbers max_back_off) i c (k (omega arith)) in
          again_as (t.variables.numbers max_back_off * 2) g (doubled a c g))
          (λ c. let g = range_stays m n f.backoff (t.variables.numbers max_back_off) i c (k (omega arith)) in
          again_as (t.variables.numbers max_back_off) g (stays a c g)))

  -- all that can follow a jam, behind the count of attempts
  behind_ends : (sc : t.variables.flags transmit_succeeding ≡ false) (e : t.variables.numbers attempts ≡ n)
      (ends : Bool)
      → (closes_frame f && ltb 0 (t.variables.numbers late_collision_count)) ≡ ends → n ≤ f.limit → 0 < z
      → t.variables.numbers outgoing_size ≡ z → (m : ℕ) → m + 1 ≡ n
      → (0 < m → t.variables.numbers max_back_off ≡ 2 ^ min m f.backoff) → 0 < f.backoff → t.sent ≡ None
      → (c : Bool) → eqb n f.limit ≡ c
      → (o : Transmitted) → o ≡ pick ends (emitting NoFrame JamBit (Some (LateEnded n))) (last_jam f n (draw_of s
      (t.variables.numbers drawn)))
      → Ends f d s 59 (behind f) t n z (place_after (t.variables.numbers drawn) s.draws.depth o.drew)
      o.phase o.event
  unfolding last_jam
  behind_ends sc e true l h some size m i k b u c g o q =
      subst (λ (a : Transmitted). Ends f d s 59 (behind f) t n z (place_after (t.variables.numbers drawn)
      s.draws.depth a.drew) a.phase a.event) (sym q) (late_ends sc e l)
  behind_ends sc e false l h some size m i k b u true g o q =
      subst (λ (a : Transmitted). Ends f d s 59 (behind f) t n z (place_after (t.variables.numbers drawn)
      s.draws.depth a.drew) a.phase a.event)
      (sym (q ∙ ap (λ (a : Bool). pick a (emitting NoFrame JamBit (Some (GivenUp n))) (record {
        phase = backOffRule f n
            (draw_of s (t.variables.numbers drawn));
        emission = JamBit;
        event = None;
        drew = true;
      })) g))
      (gives_up sc e l (eqb-true n f.limit g))
  behind_ends sc e false l h some size m i k b u false g o q =
      subst (λ (a : Transmitted). Ends f d s 59 (behind f) t n z (place_after (t.variables.numbers drawn)
      s.draws.depth a.drew) a.phase a.event)
      (sym (q ∙ ap (λ (a : Bool). pick a (emitting NoFrame JamBit (Some (GivenUp n))) (record {
        phase = backOffRule f n
            (draw_of s (t.variables.numbers drawn));
        emission = JamBit;
        event = None;
        drew = true;
      })) g))
      (subst (λ (a : Option TransmitEvent). Ends f d s 59 (behind f) t n z (place_next (t.variables.numbers drawn)
      s.draws.depth) (backOffRule f n (draw_of s (t.variables.numbers drawn))) a) u
      (again_ends sc e (below n f.limit h (eqb-false n f.limit g)) some size (omega arith) l m i k b))

-- the last bit of a jam is out
jam_ends : (f : Figures) (d : Variables) (s : Signals) (t : Transmission) (n z : ℕ)
    → t.variables.flags transmitting ≡ false → t.variables.flags frame_waiting ≡ false
    → t.variables.flags new_collision ≡ false → t.variables.flags transmit_succeeding ≡ false
    → t.variables.numbers attempts + 1 ≡ n → n ≤ f.limit → 0 < z → t.variables.numbers outgoing_size ≡ z
    → (0 < t.variables.numbers attempts → t.variables.numbers max_back_off ≡ 2 ^ min
    (t.variables.numbers attempts) f.backoff)
    → 0 < f.backoff → t.sent ≡ None
    → (closes_frame f && ltb 0 (t.variables.numbers late_collision_count)) ≡ false
    → (late : Bool) → t.variables.flags late_collision_error ≡ late
    → (o : Transmitted) → o ≡ pick (closes_frame f && late) (emitting NoFrame JamBit (Some (LateEnded n))) (last_jam f n
    (draw_of s (t.variables.numbers drawn)))
    → Ends f d s 63 (counting ∷ behind f) t n z (place_after (t.variables.numbers drawn) s.draws.depth
    o.drew) o.phase o.event
jam_ends f d s t n z tr fw nc sc e h some size k b u g true l o q =
    let v = t.variables in
    let w : Variables = with_number attempts (v.numbers attempts + 1) (with_number late_collision_count
    (v.numbers late_collision_count + 1) v) in
    let x = behind_ends f d s (record { variables = w; emission = t.emission; sent = t.sent }) n z tr fw nc sc e
    (closes_frame f && true)
    (ap (λ (a : Bool). closes_frame f && a) (lt-ltb 0 (v.numbers late_collision_count + 1) (omega arith))) h some size
    (v.numbers attempts) e k b u (eqb n f.limit) refl o q in
    record {
      ended = x.ended;
      end_place = x.end_place;
      goes = λ r. seq (yes₁ l (num (num (x.goes r))));
      keeps = x.keeps;
      reports = x.reports;
      stands = x.stands;
    }
jam_ends f d s t n z tr fw nc sc e h some size k b u g false l o q =
    let v = t.variables in
    let w : Variables = with_number attempts (v.numbers attempts + 1) v in
    let x = behind_ends f d s (record { variables = w; emission = t.emission; sent = t.sent }) n z tr fw nc sc e
    (closes_frame f && false) (g ∙ sym (last_false (closes_frame f))) h some size
    (v.numbers attempts) e k b u (eqb n f.limit) refl o q in
    record {
      ended = x.ended;
      end_place = x.end_place;
      goes = λ r. seq (no₁ l (pass (num (x.goes r))));
      keeps = x.keeps;
      reports = x.reports;
      stands = x.stands;
    }

-- the BitTransmitter's bit behind the header
abbrev bit_out : Variables → Emission
bit_out v = pick (v.flags jamming) JamBit (PacketBit (v.numbers header_bits + v.numbers current_transmit_bit))

module _ (f : Figures) (d : Variables) (s : Signals) (v : Variables) (n z pl : ℕ) where
  abbrev pub Bit : (at bt : Place) (o : Transmitted) → Type 0
  Bit at bt o = BitTurns f d s v n z pl at bt o

  -- nothing goes out
  pub idle_bit : v.flags transmitting ≡ false → v.flags frame_waiting ≡ false → v.flags new_collision ≡ false
      → v.numbers drawn ≡ pl → Bit (at_offer f) (at_rest f) (resting NoFrame)
  idle_bit tr fw nc dr =
      record {
        watched = _;
        emitted = _;
        ended = _;
        watch_place = _;
        bit_place = _;
        end_place = _;
        watch = λ r. waits refl;
        send = λ r. waits refl;
        end = λ r. waits refl;
        emits = refl;
        keeps = refl;
        reports = refl;
        stands = idle refl refl refl tr fw nc dr;
      }

  pub held_bit : v.flags frame_waiting ≡ true → v.flags late_collision_error ≡ false → Held f v n z pl
      → Bit (at_defer f) (at_rest f) (resting Waiting)
  held_bit fw lt h =
      record {
        watched = _;
        emitted = _;
        ended = _;
        watch_place = _;
        bit_place = _;
        end_place = _;
        watch = λ r. waits refl;
        send = λ r. waits refl;
        end = λ r. waits refl;
        emits = refl;
        keeps = refl;
        reports = refl;
        stands = held refl refl refl fw lt h;
      }

  -- a bit time of backoff
  wait_bit_lem : (x : Transmitter) → Ends f d s 64 (wait_out ∷ await_medium f ∷ behind f) (fresh v) n z pl x None
      → Bit (at_wait f) (at_rest f) (resting x)
  wait_bit_lem x k =
      record {
        watched = _;
        emitted = _;
        ended = k.ended;
        watch_place = _;
        bit_place = _;
        end_place = k.end_place;
        watch = λ r. waits refl;
        send = λ r. waits refl;
        end = λ r. goes (k.goes r);
        emits = refl;
        keeps = k.keeps;
        reports = k.reports;
        stands = k.stands;
      }

  pub by_rule : (at bt : Place) (o p : Transmitted) → p ≡ o → Bit at bt o → Bit at bt p
  by_rule at bt o p e k = subst (λ (a : Transmitted). Bit at bt a) (sym e) k

  pub backing_bit : (w : ℕ) → v.flags frame_waiting ≡ false → v.numbers wait_left + 1 ≡ w → Held f v n z pl
      → Bit (at_wait f) (at_rest f) (backoff_bit w)
  backing_bit w fw e h =
      by_rule (at_wait f) (at_rest f) _ _ (backoff_rule w (v.numbers wait_left) e (ltb 0 (v.numbers wait_left)) refl)
      (wait_bit_lem _ (wait_ends f d s (fresh v) n z pl 54 h fw (ltb 0 (v.numbers wait_left)) refl))

  -- ---- a bit goes out

  -- no collision is seen
  watch_none : (v.flags transmit_succeeding && (v.flags transmitting && hears_any s.heard)) ≡ false → (r : Reception)
      → Turns bit (at_watch f) (store d (fresh v) r s) (ran (at_over f) (store d (fresh v) r s))
  watch_none c r = goes (seq (no₁ c (pass rest)))

  -- a bit after which the attempt goes on
  on_air : (bt p : Place) {o : Transmitted} {w e : Transmission}
      → ((r : Reception) → Turns bit (at_watch f) (store d (fresh v) r s) (ran (at_over f) (store d w r s)))
      → ((r : Reception) → Turns bit bt (store d w r s) (ran p (store d e r s)))
      → e.variables.flags transmitting ≡ true → e.emission ≡ o.emission → e.sent ≡ o.event
      → TransmitAt f e.variables n z (place_after pl s.draws.depth o.drew) o.phase (at_watch f) p
      → Bit (at_watch f) bt o
  on_air bt p {o} {w} {e} a b tr em re st =
      record {
        watched = w;
        emitted = e;
        ended = e;
        watch_place = at_over f;
        bit_place = p;
        end_place = at_watch f;
        watch = a;
        send = b;
        end = λ r. goes (stay tr (enter (seq rest)));
        emits = em;
        keeps = em;
        reports = re;
        stands = st;
      }

  jam_out : v.flags jamming ≡ true → bit_out v ≡ JamBit
  jam_out j =
      ap (λ (a : Bool). pick a JamBit (PacketBit (v.numbers header_bits + v.numbers current_transmit_bit))) j

  -- a bit of jam, or of the header behind a collision
  module _ (sc : v.flags transmit_succeeding ≡ false) (y : Trying f v n z pl) where
    blind : (v.flags transmit_succeeding && (v.flags transmitting && hears_any s.heard)) ≡ false
    blind = ap (λ (a : Bool). a && (v.flags transmitting && hears_any s.heard)) sc

    pub jam_on : (left : ℕ) (ends : Bool) → v.flags new_collision ≡ false → v.flags jamming ≡ true
        → (closes_frame f && v.flags late_collision_error) ≡ ends → v.numbers current_transmit_bit + left ≡ f.jam + 1
        → v.numbers last_transmit_bit ≡ f.jam → 1 < left
        → Bit (at_watch f) (at_frame f) (emitting (Jamming (left - 1) ends) JamBit None)
    jam_on left ends nc j l c m h =
        let i : leb (v.numbers current_transmit_bit + 1) (v.numbers last_transmit_bit) ≡ true = le-leb
        (v.numbers current_transmit_bit + 1) (v.numbers last_transmit_bit) (omega arith) in
        on_air (at_frame f) (at_frame f) (watch_none blind)
        (λ r. goes (emits (no₁ nc (enter (seq (num (set (stay i (seq (seq rest))))))))))
        i (jam_out j) refl
        (jams (left - 1) ends refl refl refl sc nc j l (omega arith) m (omega arith)
        (same_trying refl refl refl refl refl (i ∙ sym y.goes) refl refl y))

    pub jam_last : (left : ℕ) → v.flags new_collision ≡ false → v.flags jamming ≡ true
        → v.numbers current_transmit_bit + left ≡ f.jam + 1 → v.numbers last_transmit_bit ≡ f.jam → left ≤ 1
        → 0 < f.backoff → (o : Transmitted) → o.emission ≡ JamBit
        → o ≡ pick (closes_frame f && v.flags late_collision_error) (emitting NoFrame JamBit (Some (LateEnded n)))
        (last_jam f n (draw_of s pl))
        → Bit (at_watch f) (at_frame f) o
    jam_last left nc j c m h b o p q =
        let i : leb (v.numbers current_transmit_bit + 1) (v.numbers last_transmit_bit) ≡ false =
        lt-leb (v.numbers current_transmit_bit + 1) (v.numbers last_transmit_bit) (omega arith) in
        let w : Variables = with_flag transmitting (leb (v.numbers current_transmit_bit + 1)
        (v.numbers last_transmit_bit)) (with_number current_transmit_bit (v.numbers current_transmit_bit + 1) v) in
        let u : Emission = bit_out v in
        let g : u ≡ JamBit = jam_out j in
        let x =
        jam_ends f d s (record { variables = w; emission = u; sent = None }) n z i y.free nc sc y.tries
        y.room
        y.some y.size y.range b refl y.goeson (v.flags late_collision_error) refl o
        (q ∙ ap (λ (k : ℕ). pick (closes_frame f && v.flags late_collision_error) (emitting NoFrame JamBit
        (Some (LateEnded n))) (last_jam f n (draw_of s k))) (sym y.place)) in
        record {
          watched = _;
          emitted = record { variables = w; emission = u; sent = None };
          ended = x.ended;
          watch_place = _;
          bit_place = at_rest f;
          end_place = x.end_place;
          watch = watch_none blind;
          send = λ r. goes (emits (no₁ nc (enter (seq (num (set (leave i (round (no₁ i rest)))))))));
          end = λ r. goes (leave i (x.goes r));
          emits = g ∙ sym p;
          keeps = x.keeps ∙ g ∙ sym p;
          reports = x.reports;
          stands =
              subst (λ (k : ℕ). TransmitAt f x.ended.variables n z (place_after k s.draws.depth o.drew)
              o.phase x.end_place (at_rest f)) y.place x.stands;
        }

    pub head_on : (k : ℕ) → v.flags new_collision ≡ true → v.flags late_collision_error ≡ false
        → v.numbers current_transmit_bit ≡ k → k < 64
        → Bit (at_watch f) (at_header f) (emitting (Heading (k + 1)) (PacketBit k) None)
    head_on k nc lt c h =
        let i : leb (v.numbers current_transmit_bit + 1) (v.numbers last_header_bit) ≡ true =
        le-leb (v.numbers current_transmit_bit + 1) (v.numbers last_header_bit) (omega (arith, y.header)) in
        on_air (at_header f) (at_header f) (watch_none blind)
        (λ r. goes (emits (num (stay i (seq (seq rest))))))
        y.goes (ap PacketBit c) refl
        (heading (k + 1) refl refl refl sc nc lt (omega arith) (omega arith)
        (same_trying refl refl refl refl refl refl refl refl y))

    pub head_last : (k : ℕ) → v.flags new_collision ≡ true → v.flags late_collision_error ≡ false
        → v.numbers current_transmit_bit ≡ k → k ≡ 64 → 0 < f.jam
        → Bit (at_watch f) (at_header f) (emitting (Jamming f.jam false) (PacketBit k) None)
    head_last k nc lt c h jam =
        let i : leb (v.numbers current_transmit_bit + 1) (v.numbers last_header_bit) ≡ false =
        lt-leb (v.numbers current_transmit_bit + 1) (v.numbers last_header_bit) (omega (arith, y.header)) in
        on_air (at_header f) (at_frame f) (watch_none blind)
        (λ r. goes (emits (num (leave i (yes₁ nc (enter (seq (num (seq (num (seq (set (set (stay y.goes (seq
        (seq rest))))))))))))))))
        y.goes (ap PacketBit c) refl
        (jams f.jam false refl refl refl sc refl refl (ap (λ (a : Bool). closes_frame f && a) lt ∙ last_false
        (closes_frame f)) (omega arith) refl jam (same_trying refl refl refl refl refl refl refl refl y))

  -- a bit of the packet, with nothing heard
  module _ (h : hears_any s.heard ≡ false) (sc : v.flags transmit_succeeding ≡ true)
      (nc : v.flags new_collision ≡ false) (lt : v.flags late_collision_error ≡ false) (nj : v.flags jamming ≡ false)
      (y : Trying f v n z pl) where
    alone : (v.flags transmit_succeeding && (v.flags transmitting && hears_any s.heard)) ≡ false
    alone =
        ap (λ (a : Bool). v.flags transmit_succeeding && (v.flags transmitting && a)) h
        ∙ ap (λ (a : Bool). v.flags transmit_succeeding && a) (last_false (v.flags transmitting))
        ∙ last_false (v.flags transmit_succeeding)

    pub header_on : (k : ℕ) → v.numbers current_transmit_bit ≡ k → v.numbers header_bits ≡ 0
        → v.numbers last_transmit_bit ≡ 8 * z → k < 64
        → Bit (at_watch f) (at_header f) (emitting (Sending (k + 1)) (PacketBit k) None)
    header_on k c hb m g =
        let i : leb (v.numbers current_transmit_bit + 1) (v.numbers last_header_bit) ≡ true =
        le-leb (v.numbers current_transmit_bit + 1) (v.numbers last_header_bit) (omega (arith, y.header)) in
        on_air (at_header f) (at_header f) (watch_none alone)
        (λ r. goes (emits (num (stay i (seq (seq rest))))))
        y.goes (ap PacketBit c) refl
        (sending (k + 1) refl refl sc nc lt nj (in_header refl (omega arith) hb (omega arith) m)
        (same_trying refl refl refl refl refl refl refl refl y))

    pub header_last : (k : ℕ) → v.numbers current_transmit_bit ≡ k → v.numbers last_transmit_bit ≡ 8 * z → k ≡ 64
        → Bit (at_watch f) (at_header f) (emitting (Sending (k + 1)) (PacketBit k) None)
    header_last k c m g =
        let i : leb (v.numbers current_transmit_bit + 1) (v.numbers last_header_bit) ≡ false =
        lt-leb (v.numbers current_transmit_bit + 1) (v.numbers last_header_bit) (omega (arith, y.header)) in
        on_air (at_header f) (at_frame f) (watch_none alone)
        (λ r. goes (emits (num (leave i (no₁ nc (seq (num (num (stay y.goes (seq (seq rest)))))))))))
        y.goes (ap PacketBit c) refl
        (sending (k + 1) refl refl sc nc lt nj (in_frame refl y.header (omega arith) (omega arith) (omega
        (arith, y.some)) m) (same_trying refl refl refl refl refl refl refl refl y))

    frame_emits : (k : ℕ) → v.numbers header_bits ≡ 64 → 64 + v.numbers current_transmit_bit ≡ k
        → bit_out v ≡
        PacketBit k
    frame_emits k hb c =
        ap₂ (λ (a : Bool) (b : ℕ). pick a JamBit (PacketBit (b + v.numbers current_transmit_bit))) nj hb ∙ ap PacketBit c

    pub frame_on : (k : ℕ) → v.numbers header_bits ≡ 64 → 64 + v.numbers current_transmit_bit ≡ k
        → v.numbers last_transmit_bit ≡ 8 * z → 64 < k → k < 64 + 8 * z
        → Bit (at_watch f) (at_frame f) (emitting (Sending (k + 1)) (PacketBit k) None)
    frame_on k hb c m g a =
        let i : leb (v.numbers current_transmit_bit + 1) (v.numbers last_transmit_bit) ≡ true =
        le-leb (v.numbers current_transmit_bit + 1) (v.numbers last_transmit_bit) (omega arith) in
        on_air (at_frame f) (at_frame f) (watch_none alone)
        (λ r. goes (emits (no₁ nc (enter (seq (num (set (stay i (seq (seq rest))))))))))
        i (frame_emits k hb c) refl
        (sending (k + 1) refl refl sc nc lt nj (in_frame refl hb (omega arith) (omega arith) (omega arith) m)
        (same_trying refl refl refl refl refl (i ∙ sym y.goes) refl refl y))

    pub frame_last : (k : ℕ) → v.numbers header_bits ≡ 64 → 64 + v.numbers current_transmit_bit ≡ k
        → v.numbers last_transmit_bit ≡ 8 * z → k ≡ 64 + 8 * z
        → Bit (at_watch f) (at_frame f) (emitting NoFrame (PacketBit k) (Some (Sent n)))
    frame_last k hb c m g =
        let i : leb (v.numbers current_transmit_bit + 1) (v.numbers last_transmit_bit) ≡ false =
        lt-leb (v.numbers current_transmit_bit + 1) (v.numbers last_transmit_bit) (omega arith) in
        let w : Variables = with_flag transmitting (leb (v.numbers current_transmit_bit + 1)
        (v.numbers last_transmit_bit)) (with_number current_transmit_bit (v.numbers current_transmit_bit + 1) v) in
        let u : Emission = bit_out v in
        let x = sent_ends f d s (record { variables = w; emission = u; sent = None }) n z i y.free nc sc lt
        y.tries in
        record {
          watched = _;
          emitted = record { variables = w; emission = u; sent = None };
          ended = x.ended;
          watch_place = _;
          bit_place = at_rest f;
          end_place = x.end_place;
          watch = watch_none alone;
          send = λ r. goes (emits (no₁ nc (enter (seq (num (set (leave i (round (no₁ i rest)))))))));
          end = λ r. goes (leave i (x.goes r));
          emits = frame_emits k hb c;
          keeps = x.keeps ∙ frame_emits k hb c;
          reports = x.reports;
          stands = subst (λ (k : ℕ). TransmitAt f x.ended.variables n z k NoFrame x.end_place (at_rest f))
              y.place x.stands;
        }

  -- a bit of the packet, with another heard
  module _ (h : hears_any s.heard ≡ true) (sc : v.flags transmit_succeeding ≡ true)
      (nc : v.flags new_collision ≡ false) (lt : v.flags late_collision_error ≡ false) (nj : v.flags jamming ≡ false)
      (y : Trying f v n z pl) (jam : 0 < f.jam) where
    crowded : (v.flags transmit_succeeding && (v.flags transmitting && hears_any s.heard)) ≡ true
    crowded = ap₂ ◌&&◌ sc (ap₂ ◌&&◌ y.goes h)

    pub header_hits : (k : ℕ) → v.numbers current_transmit_bit ≡ k → v.numbers header_bits ≡ 0 → k < 64 → 64 ≤ f.slot
        → Bit (at_watch f) (at_header f) (emitting (Heading (k + 1)) (PacketBit k) (Some (Collision k)))
    header_hits k c hb g slot =
        let i : leb (v.numbers current_transmit_bit + 1) (v.numbers last_header_bit) ≡ true =
        le-leb (v.numbers current_transmit_bit + 1) (v.numbers last_header_bit) (omega (arith, y.header)) in
        let l : ltb f.slot (v.numbers header_bits + v.numbers current_transmit_bit) ≡ false =
        le-ltb f.slot (v.numbers header_bits + v.numbers current_transmit_bit) (omega arith) in
        let e : v.numbers header_bits + v.numbers current_transmit_bit ≡ k = omega arith in
        on_air (at_header f) (at_header f) (λ r. goes (seq (yes₁ crowded (seq (no₁ l (reports (seq (set (set rest)))))))))
        (λ r. goes (emits (num (stay i (seq (seq rest))))))
        y.goes (ap PacketBit c) (ap (λ (a : ℕ). Some (Collision a)) e)
        (heading (k + 1) refl refl refl refl refl lt (omega arith) (omega arith)
        (same_trying refl refl refl refl refl refl refl refl y))

    pub header_end_hits : (k : ℕ) → v.numbers current_transmit_bit ≡ k → v.numbers header_bits ≡ 0 → k ≡ 64 → 64 ≤ f.slot
        → Bit (at_watch f) (at_header f) (emitting (Jamming f.jam false) (PacketBit k) (Some (Collision k)))
    header_end_hits k c hb g slot =
        let i : leb (v.numbers current_transmit_bit + 1) (v.numbers last_header_bit) ≡ false =
        lt-leb (v.numbers current_transmit_bit + 1) (v.numbers last_header_bit) (omega (arith, y.header)) in
        let l : ltb f.slot (v.numbers header_bits + v.numbers current_transmit_bit) ≡ false =
        le-ltb f.slot (v.numbers header_bits + v.numbers current_transmit_bit) (omega arith) in
        let e : v.numbers header_bits + v.numbers current_transmit_bit ≡ k = omega arith in
        on_air (at_header f) (at_frame f) (λ r. goes (seq (yes₁ crowded (seq (no₁ l (reports (seq (set (set rest)))))))))
        (λ r. goes (emits (num (leave i (yes₁ refl (enter (seq (num (seq (num (seq (set (set (stay y.goes (seq
        (seq rest))))))))))))))))
        y.goes (ap PacketBit c) (ap (λ (a : ℕ). Some (Collision a)) e)
        (jams f.jam false refl refl refl refl refl refl (ap (λ (a : Bool). closes_frame f && a) lt ∙ last_false
        (closes_frame f)) (omega arith) refl jam (same_trying refl refl refl refl refl refl refl refl y))

    frame_hit : (k : ℕ) → v.numbers header_bits ≡ 64 → 64 + v.numbers current_transmit_bit ≡ k
        → bit_out v ≡
        PacketBit k
    frame_hit k hb c =
        ap₂ (λ (a : Bool) (b : ℕ). pick a JamBit (PacketBit (b + v.numbers current_transmit_bit))) nj hb ∙ ap PacketBit c

    pub frame_hits : (k : ℕ) → v.numbers header_bits ≡ 64 → 64 + v.numbers current_transmit_bit ≡ k → k ≤ f.slot
        → Bit (at_watch f) (at_frame f) (emitting (Jamming f.jam false) (PacketBit k) (Some (Collision k)))
    frame_hits k hb c g =
        let l : ltb f.slot (v.numbers header_bits + v.numbers current_transmit_bit) ≡ false =
        le-ltb f.slot (v.numbers header_bits + v.numbers current_transmit_bit) (omega arith) in
        let e : v.numbers header_bits + v.numbers current_transmit_bit ≡ k = omega arith in
        on_air (at_frame f) (at_frame f) (λ r. goes (seq (yes₁ crowded (seq (no₁ l (reports (seq (set (set rest)))))))))
        (λ r. goes (emits (yes₁ refl (enter (seq (num (seq (num (seq (set (set (stay y.goes (seq
        (seq rest))))))))))))))
        y.goes (frame_hit k hb c) (ap (λ (a : ℕ). Some (Collision a)) e)
        (jams f.jam false refl refl refl refl refl refl (ap (λ (a : Bool). closes_frame f && a) lt ∙ last_false
        (closes_frame f)) (omega arith) refl jam (same_trying refl refl refl refl refl refl refl refl y))

    pub frame_late : (k : ℕ) → v.numbers header_bits ≡ 64 → 64 + v.numbers current_transmit_bit ≡ k → f.slot < k
        → Bit (at_watch f) (at_frame f)
        (emitting (Jamming f.jam (closes_frame f)) (PacketBit k) (Some (Late k (closes_frame f))))
    frame_late k hb c g =
        let l : ltb f.slot (v.numbers header_bits + v.numbers current_transmit_bit) ≡ true =
        lt-ltb f.slot (v.numbers header_bits + v.numbers current_transmit_bit) (omega arith) in
        let e : v.numbers header_bits + v.numbers current_transmit_bit ≡ k = omega arith in
        on_air (at_frame f) (at_frame f) (λ r. goes (seq (yes₁ crowded (seq (yes₁ l (seq (set (reports (seq (set
        (set rest)))))))))))
        (λ r. goes (emits (yes₁ refl (enter (seq (num (seq (num (seq (set (set (stay y.goes (seq
        (seq rest))))))))))))))
        y.goes (frame_hit k hb c) (ap (λ (a : ℕ). Some (Late a (closes_frame f))) e)
        (jams f.jam (closes_frame f) refl refl refl refl refl refl (and-true (closes_frame f))
        (omega arith) refl jam (same_trying refl refl refl refl refl refl refl refl y))
