-- The turn in which a frame may be offered. Assumes nothing.
use Rattle.std.specs.Prelude.{ℕ, ◌≡◌, refl, Bool, true, false, not, ◌&&◌, ltb}
use Rattle.std.proofs.Common.{sym, ◌∙◌, ap, ap₂, subst, subst₂, arith, ltb-true, ltb-false, lt-ltb}
use Rattle.std.proofs.Math.Bool.{and-false}
use Rattle.octets.specs.Base.{pick}
use Rattle.sheet_layout.specs.declared.Figures.{Figures}
use Rattle.station_state.specs.declared.Transmitter.{Transmitter}
use Rattle.station_state.specs.declared.Transmitter.TheVariants.{NoFrame, Waiting, BackingOff, Sending, Heading}
use Rattle.station_state.specs.declared.Transmitter.TheVariants.{Jamming}
use Rattle.station_spec.specs.Transmit.{closes_frame}
use Rattle.standard.specs.Language.{drawn, Variables, Reception, Signals, store, offer, frame_waiting}
use Rattle.standard.specs.Language.{transmitting, new_collision}
use Rattle.standard.specs.Interpreter.{Place, ran}
use Rattle.standard.specs.Seen.{Ranges, is_free}
use Rattle.standard.specs.RunLaws.{Turns, goes, waits, rest, num, seq, pass, enter, stay, again, yes₁, no₁}
use Rattle.standard.specs.RunLaws.{set as put}
use Rattle.standard.specs.TransmitLaws.{TransmitAt, idle, held, backing, sending as sendingAt, heading, jams}
use Rattle.standard.specs.TransmitLaws.{fresh, at_offer, at_defer, at_wait, at_watch, at_rest}

-- ---- an offer

-- the offer's turn: the transmitter x with n attempts of z octets becomes that of the station with the offer
pub record OfferTurn (f : Figures) (d : Variables) (s : Signals) (v : Variables) (n z pl : ℕ) (x : Transmitter)
    (at bt : Place)
    : Type 0 where
  pub after : Variables
  pub place : Place
  pub turns : (r : Reception) → Turns offer at (store d (fresh v) r s) (ran place (store d (fresh after) r s))
  pub stands : TransmitAt f after n z pl x place bt

module _ (f : Figures) (ok : Ranges f) (d : Variables) (s : Signals) (v : Variables) where
  no_offer : (n z pl : ℕ) → s.offered ≡ 0 → v.flags transmitting ≡ false → v.flags frame_waiting ≡ false
      → v.flags new_collision ≡ false → v.numbers drawn ≡ pl → OfferTurn f d s v n z pl NoFrame (at_offer f) (at_rest f)
  no_offer n z pl e tr fw nc dr =
      record {
        after = _;
        place = at_offer f;
        turns = λ r. goes (no₁ (ap (ltb 0) e) (again rest));
        stands = idle refl refl refl tr fw nc dr;
      }

  an_offer : (pl : ℕ) (c : ltb 0 s.offered ≡ true) → v.flags transmitting ≡ false → v.flags new_collision ≡ false
      → v.numbers drawn ≡ pl → OfferTurn f d s v 0 s.offered pl Waiting (at_offer f) (at_rest f)
  an_offer pl c tr nc dr =
      let g : ((ltb 0 f.limit && true) && not (closes_frame f && false)) ≡ true =
      ap₂ ◌&&◌ (ap (λ (b : Bool). b && true) (lt-ltb 0 f.limit ok.limit)) (ap not (and-false (closes_frame f))) in
      record {
        after = _;
        place = at_defer f;
        turns = λ r.
            goes (yes₁ c (pass (enter (seq (enter (num (enter (seq (num (seq (put (seq (num (seq (put (seq (stay g
            (seq (no₁ refl (pass (seq (put (seq (put (seq (seq rest))))))))))))))))))))))))));
        stands =
            held refl refl refl refl refl
            (record {
              tries = refl;
              room = ok.limit;
              size = refl;
              some = ltb-true 0 s.offered c;
              goeson = and-false (closes_frame f);
              range = λ k. absurd (omega arith);
              clean = nc;
              place = dr;
              still = tr;
            });
      }

  -- wherever the transmitter stands
  offer_idle : (n z pl : ℕ) → v.flags transmitting ≡ false → v.flags frame_waiting ≡ false → v.flags new_collision ≡
      false
      → v.numbers drawn ≡ pl → (c : Bool) → ltb 0 s.offered ≡ c
      → OfferTurn f d s v (pick c 0 n) (pick c s.offered z) pl (pick c Waiting NoFrame) (at_offer f) (at_rest f)
  offer_idle n z pl tr fw nc dr true c = an_offer pl c tr nc dr
  offer_idle n z pl tr fw nc dr false c = no_offer n z pl (omega (arith, ltb-false 0 s.offered c)) tr fw nc dr

  abbrev pub Offered : Transmitter → (n z pl : ℕ) → Place → Place → Type 0
  Offered x n z pl at bt =
      OfferTurn f d s v (pick (is_free x && ltb 0 s.offered) 0 n) (pick (is_free x && ltb 0 s.offered)
      s.offered z) pl
      (pick (is_free x && ltb 0 s.offered) Waiting x) at bt

  -- a station that holds a frame takes no other
  offer_held : (n z pl : ℕ) (x y : Transmitter) (at to bt : Place) → x ≡ y → at ≡ to → is_free y ≡ false
      → ((r : Reception) → Turns offer to (store d (fresh v) r s) (ran to (store d (fresh v) r s)))
      → TransmitAt f v n z pl x at bt → Offered x n z pl at bt
  offer_held n z pl x y at to bt p q i w k =
      let b : (is_free x && ltb 0 s.offered) ≡ false =
      ap (λ (a : Transmitter). is_free a && ltb 0 s.offered) p ∙ ap (λ (a : Bool). a && ltb 0 s.offered) i in
      subst (λ (c : Bool). OfferTurn f d s v (pick c 0 n) (pick c s.offered z) pl (pick c Waiting x) at bt) (sym b)
      (record {
        after = v;
        place = at;
        turns = subst (λ (a : Place). (r : Reception) → Turns offer a (store d (fresh v) r s) (ran a (store d
            (fresh v) r s))) (sym q) w;
        stands = k;
      })

  pub offer_turn : (n z pl : ℕ) (x : Transmitter) (at bt : Place) → TransmitAt f v n z pl x at bt → Offered x n z pl
      at bt
  offer_turn n z pl x at bt (idle p q r tr fw nc dr) =
      subst (λ (a : Transmitter). Offered a n z pl at bt) (sym p)
      (subst₂ (λ (a b : Place). Offered NoFrame n z pl a b) (sym q) (sym r)
      (offer_idle n z pl tr fw nc dr (ltb 0 s.offered) refl))
  offer_turn n z pl x at bt (held p q r fw lt y) =
      offer_held n z pl x Waiting at (at_defer f) bt p q refl (λ u. waits refl) (held p q r fw lt y)
  offer_turn n z pl x at bt (backing w p q r fw g y) =
      offer_held n z pl x (BackingOff w) at (at_wait f) bt p q refl (λ u. waits refl) (backing w p q r fw g y)
  offer_turn n z pl x at bt (sendingAt k p q sc nc lt nj b y) =
      offer_held n z pl x (Sending k) at (at_watch f) bt p q refl (λ u. waits refl) (sendingAt k p q sc nc lt nj b y)
  offer_turn n z pl x at bt (heading k p q r sc nc lt c g y) =
      offer_held n z pl x (Heading k) at (at_watch f) bt p q refl (λ u. waits refl) (heading k p q r sc nc lt c g y)
  offer_turn n z pl x at bt (jams left ends p q r sc nc j l c m g y) =
      offer_held n z pl x (Jamming left ends) at (at_watch f) bt p q refl (λ u. waits refl)
      (jams left ends p q r sc nc j l c m g y)
