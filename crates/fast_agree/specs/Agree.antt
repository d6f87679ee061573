-- A list of stretches is what happens where each station, on the carrier that its line and the list make, says what the
-- list has for it. This is what a check of a list has to show, station by station. Assumes nothing.
use Rattle.std.specs.Prelude.{ℕ, suc, ◌+◌, ◌-◌, ◌≤◌, ◌<◌, ◌≡◌, refl, Bool, true, ◌||◌, List, [], ◌∷◌, eqb, ltb}
use Rattle.std.proofs.Math.Path.{sym, ap}
use Rattle.std.proofs.Common.{◌∙◌, ap₂, arith, eq-eqb, ne_eqb}
use Rattle.octets.specs.Base.{pick}
use Rattle.octets.specs.BaseLaws.{by_test, by_eq}
use Rattle.sheet_layout.specs.declared.Figures.{Figures}
use Rattle.station_symbols.specs.declared.Symbol.{Symbol}
use Rattle.station_symbols.specs.declared.Symbol.TheVariants.{Silence, Bit, Jam}
use Rattle.station_symbols.specs.declared.Emission.{Emission}
use Rattle.station_symbols.specs.declared.Emission.TheVariants.{Rest, PacketBit, JamBit}
use Rattle.station_symbols.specs.Packet.{hears_any, packet_bit, symbol_of}
use Rattle.area.specs.Area.{clock_at, depth_at, draw_at, figures_at, count_at, space_at, station_at, frame_at}
use Rattle.bus_spec.specs.Ready.{Readiness}
use Rattle.bus_spec.specs.Run.{run_of}
use Rattle.fast_plan.specs.Plan.{Plan, line_now, Holds}
use Rattle.fast_plan.specs.Prefix.{Unhurt}
use Rattle.fast_plan.specs.Turned.{turned_of}
use Rattle.fast_list.specs.declared.Stretch.{Stretch}
use Rattle.fast_list.specs.Stretches.{end_of, symbol_in, over, plan_in, sounds_any}
use Rattle.fast_list.specs.Sounding.{Within, hears_any_lem}
use Rattle.fast_list.specs.Grown.{holds_more}
use Rattle.fast_list.specs.Course.{words_all, run_by_plan}
use Rattle.fast_talk.specs.Talk.{Talker, talker_of, carrier_at, talker_at, said_at}
use Rattle.fast_talk.specs.Talks.{said_symbol}
use Rattle.fast_talk.specs.Follows.{Follows, talked_alike, saying, symbol_said_lem, follows_hold}
use Rattle.station_tally.specs.Words.{ends_run}
use Rattle.sheet_layout.specs.Limits.{last_clock}

-- ---- what a list has a station say

-- the frame that station i holds, and its packet's bits
unfoldable pub frame_in : List ℕ → ℕ → List ℕ
frame_in a i = frame_at a i (station_at a i).frame

unfoldable pub bits_in : List ℕ → ℕ → ℕ → Symbol
bits_in a i k = Bit (packet_bit (frame_in a i) k)

unfoldable pub emitted_in : Stretch → ℕ → Emission
emitted_in r s =
    pick (ltb s r.from) Rest
    (pick (ltb s (r.from + r.bits)) (PacketBit (r.bit + (s - r.from))) (pick (ltb s (end_of r)) JamBit Rest))

abbrev pub before : Emission → Emission → Emission
before Rest y = y
before (PacketBit k) y = PacketBit k
before JamBit y = JamBit

unfoldable pub said_in : List Stretch → (i s : ℕ) → Emission
said_in [] i s = Rest
said_in (r ∷ l) i s = before (pick (eqb r.who i) (emitted_in r s) Rest) (said_in l i s)

symbol_emitted : (a : List ℕ) (r : Stretch) (s : ℕ)
    → symbol_in (bits_in a) r s ≡ symbol_of (frame_in a r.who) (emitted_in r s)
unfolding symbol_in bits_in emitted_in
symbol_emitted a r s =
    by_test (ltb s r.from)
    (λ p. rw p)
    (λ p. by_test (ltb s (r.from + r.bits))
    (λ q. rw (p, q))
    (λ q. by_test (ltb s (end_of r)) (λ c. rw (p, q, c)) (λ c. rw (p, q, c))))

over_before : (F : List ℕ) (x y : Emission) → over (symbol_of F x) (symbol_of F y) ≡ symbol_of F (before x y)
over_before F Rest y = refl
over_before F (PacketBit k) y = refl
over_before F JamBit y = refl

first_said : (a : List ℕ) (r : Stretch) (i s : ℕ) → pick (eqb r.who i) (symbol_in (bits_in a) r s) Silence
    ≡ symbol_of (frame_in a i) (pick (eqb r.who i) (emitted_in r s) Rest)
first_said a r i s =
    by_eq r.who i
    (λ w. rw (eq-eqb r.who i w)
    (symbol_emitted a r s ∙ ap (λ (k : ℕ). symbol_of (frame_in a k) (emitted_in r s)) w))
    (λ w. rw (ne_eqb r.who i w))

plan_said : (a : List ℕ) (l : List Stretch) (i s : ℕ)
    → symbol_of (frame_in a i) (said_in l i s) ≡ plan_in (bits_in a) l i s
unfolding said_in plan_in
plan_said a [] i s = refl
plan_said a (r ∷ l) i s =
    sym (over_before (frame_in a i) (pick (eqb r.who i) (emitted_in r s) Rest) (said_in l i s))
    ∙ ap₂ over (sym (first_said a r i s)) (plan_said a l i s)

-- ---- the carrier that line and list make

unfoldable pub carrier_in : List ℕ → List Stretch → (j s : ℕ) → Bool
carrier_in a l j s = hears_any (line_now a j s) || sounds_any (space_at a) l j s

carrier_is : (a : List ℕ) (l : List Stretch) (j s : ℕ) → Within (count_at a) l
    → carrier_in a l j s ≡ carrier_at a (plan_in (bits_in a) l) j s
unfolding carrier_in carrier_at bits_in
carrier_is a l j s w = sym (hears_any_lem a (bits_in a) (λ i k. refl) l j s w)

-- ---- the check of a list

-- station i agrees with the list for K steps, and is u then
unfoldable pub Agrees : List ℕ → List Stretch → (K i : ℕ) → Talker → Type 0
Agrees a l K i u =
    Follows (figures_at a) (depth_at a) (draw_at a i) (carrier_in a l i) (said_in l i) K (talker_of (station_at a i)) u

module _ (f : Figures) (D : ℕ) (g : ℕ → ℕ) (C E : ℕ → Bool) (e : (s : ℕ) → C s ≡ E s) (Q : ℕ → Emission) (K : ℕ)
    (t u : Talker) where
  follows_alike : Follows f D g C Q K t u → Follows f D g E Q K t u
  follows_alike x =
      record {
        leaves = sym (talked_alike f D g C E K t (λ s h. e s)) ∙ x.leaves;
        says = λ m h.
            ap₂ (λ (v : Talker) (b : Bool). (saying f D g v b).emission)
            (sym (talked_alike f D g C E m t (λ s l. e s))) (sym (e m))
            ∙ x.says m h;
        unhurt = λ m h.
            ap₂ (λ (v : Talker) (b : Bool). ends_run (saying f D g v b).event)
            (sym (talked_alike f D g C E m t (λ s l. e s))) (sym (e m))
            ∙ x.unhurt m h;
      }

-- Theorem 14: a list with which each station agrees holds
pub agrees_hold : (a : List ℕ) (l : List Stretch) (K : ℕ) (u : ℕ → Talker) → Readiness a → clock_at a + K ≤ last_clock
    → Within (count_at a) l → ((i : ℕ) → i < count_at a → Agrees a l K i (u i))
    → Holds a (plan_in (bits_in a) l) K × Unhurt a (plan_in (bits_in a) l) K
unfolding Agrees frame_in
agrees_hold a l K u r early w h =
    follows_hold a (plan_in (bits_in a) l) K (λ i s. said_in l i s) u r early
    (λ i hi. follows_alike (figures_at a) (depth_at a) (draw_at a i) (carrier_in a l i)
    (carrier_at a (plan_in (bits_in a) l) i) (λ s. carrier_is a l i s w) (said_in l i) K (talker_of (station_at a i)) (u i)
    (h i hi))
    (λ i s hi hs. plan_said a l i s)

-- ---- the run

module _ (a : List ℕ) (l : List Stretch) (K : ℕ) (u : ℕ → Talker) (r : Readiness a) (w : Within (count_at a) l)
    (h : (i : ℕ) → i < count_at a → Agrees a l K i (u i)) where
  -- K steps of a run, at once
  pub run_agrees : (k m : ℕ) (ws : List ℕ) → 0 < K → clock_at a + K ≤ last_clock
      → run_of (K + k) m ws a ≡ run_of k (m + K) (words_all a (plan_in (bits_in a) l) K ws)
      (turned_of a (plan_in (bits_in a) l) K)
  run_agrees k m ws pos early =
      let x = agrees_hold a l K u r early w h in
      run_by_plan a (plan_in (bits_in a) l) K r k m ws pos early x.0 x.1

  is_left : (i : ℕ) → i < count_at a → talker_at a (plan_in (bits_in a) l) i K ≡ u i
  unfolding talker_at Agrees
  is_left i hi =
      sym (talked_alike (figures_at a) (depth_at a) (draw_at a i) (carrier_in a l i) (carrier_at a (plan_in (bits_in a) l) i) K
      (talker_of (station_at a i)) (λ s q. carrier_is a l i s w))
      ∙ (h i hi).leaves

  -- one step more, in which a run may end
  pub agrees_more : clock_at a + suc K ≤ last_clock
      → ((i : ℕ) → i < count_at a
      → (saying (figures_at a) (depth_at a) (draw_at a i) (u i) (carrier_in a l i K)).emission ≡ said_in l i K)
      → Holds a (plan_in (bits_in a) l) (suc K)
  unfolding said_at frame_in
  agrees_more early e =
      holds_more a (plan_in (bits_in a) l) K (agrees_hold a l K u r (omega arith) w h).0
      (λ i hi. said_symbol a (plan_in (bits_in a) l) r i K hi (omega arith)
      ∙ symbol_said_lem a (plan_in (bits_in a) l) i K
      ∙ ap (symbol_of (frame_at a i (station_at a i).frame))
      (ap₂ (λ (v : Talker) (b : Bool). (saying (figures_at a) (depth_at a) (draw_at a i) v b).emission) (is_left i hi)
      (sym (carrier_is a l i K w))
      ∙ e i hi)
      ∙ plan_said a l i K)
