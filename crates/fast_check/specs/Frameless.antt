-- A station that holds no frame, and of which the list has no stretch, agrees with the list for any number of steps.
-- Assumes nothing.
use Rattle.std.specs.Prelude.{ℕ, zero, suc, ◌+◌, ◌<◌, ◌≡◌, refl, Bool, true, false, List, length}
use Rattle.std.proofs.Common.{sym, ◌∙◌, ap, true≢false, arith, ne_eqb}
use Rattle.octets.specs.BaseLaws.{by_eq}
use Rattle.station_symbols.specs.declared.Emission.TheVariants.{Rest}
use Rattle.station_state.specs.declared.Transmitter.{Transmitter}
use Rattle.station_state.specs.declared.Transmitter.TheVariants.{NoFrame, Waiting, BackingOff, Sending, Heading}
use Rattle.station_state.specs.declared.Transmitter.TheVariants.{Jamming}
use Rattle.station_state.specs.declared.Station.{Station}
use Rattle.area.specs.Area.{depth_at, draw_at, figures_at, station_at}
use Rattle.fast_talk.specs.Talk.{Talker, talker_of, talked_by}
use Rattle.fast_talk.specs.Follows.{none_follows}
use Rattle.fast_list.specs.declared.Stretch.{Stretch}
use Rattle.fast_hear.specs.Listed.{stretch_at, list_of}
use Rattle.fast_agree.specs.Agree.{said_in, carrier_in, Agrees}

-- none of the first n stretches is of station j
unfoldable pub NoneOf : List Stretch → (n j : ℕ) → Type 0
NoneOf l n j = (k : ℕ) → k < n → (stretch_at l k).who ≡ j → ⊥

-- the talker of station j after K steps
unfoldable pub left_by : List ℕ → List Stretch → (j K : ℕ) → Talker
left_by a l j K =
    talked_by (figures_at a) (depth_at a) (draw_at a j) (carrier_in a (list_of l (length l)) j) K
    (talker_of (station_at a j))

unfoldable pub Frameless : List ℕ → List Stretch → (j : ℕ) → Type 0
Frameless a l j = (K : ℕ) → Agrees a (list_of l (length l)) K j (left_by a l j K)

abbrev pub is_none : Transmitter → Bool
is_none NoFrame = true
is_none Waiting = false
is_none (BackingOff w) = false
is_none (Sending k) = false
is_none (Heading k) = false
is_none (Jamming l ends) = false

none_is : (x : Transmitter) → is_none x ≡ true → x ≡ NoFrame
none_is NoFrame e = refl
none_is Waiting e = absurd (true≢false (sym e))
none_is (BackingOff w) e = absurd (true≢false (sym e))
none_is (Sending k) e = absurd (true≢false (sym e))
none_is (Heading k) e = absurd (true≢false (sym e))
none_is (Jamming l ends) e = absurd (true≢false (sym e))

-- what is answered
unfoldable pub Tells : Bool → Type 0 → Type 0
Tells b A = b ≡ true → A

said_none : (l : List Stretch) (n j s : ℕ) → NoneOf l n j → said_in (list_of l n) j s ≡ Rest
unfolding list_of said_in NoneOf
said_none l zero j s h = refl
said_none l (suc n) j s h =
    rw (ne_eqb (stretch_at l n).who j (h n (omega arith))) (said_none l n j s (λ k q. h k (omega arith)))

held_none : (s : Station) → s.transmitter ≡ NoFrame → (talker_of s).transmitter ≡ NoFrame
unfolding talker_of
held_none s e = e

frameless : (a : List ℕ) (l : List Stretch) (j : ℕ) → (station_at a j).transmitter ≡ NoFrame → NoneOf l (length l) j
    → Frameless a l j
unfolding Frameless Agrees left_by
frameless a l j e h K =
    let x = none_follows (figures_at a) (depth_at a) (draw_at a j) (carrier_in a (list_of l (length l)) j) K
    (talker_of (station_at a j)) (held_none (station_at a j) e) in
    record {
      leaves = x.leaves;
      says = λ m q. x.says m q ∙ sym (said_none l (length l) j m h);
      unhurt = x.unhurt;
    }

-- ---- the ways through the code

pub none_first : (l : List Stretch) (j : ℕ) → NoneOf l 0 j
unfolding NoneOf
none_first l j k h = absurd (omega arith)

pub none_more : (l : List Stretch) (j k : ℕ) → NoneOf l k j → ((stretch_at l k).who ≡ j → ⊥) → NoneOf l (k + 1) j
unfolding NoneOf
none_more l j k h ne i q e =
    by_eq i k (λ z. ne (ap (λ (u : ℕ). (stretch_at l u).who) (sym z) ∙ e)) (λ z. h i (omega arith) e)

pub none_end : (l : List Stretch) (j n : ℕ) → NoneOf l n j → Tells true (NoneOf l n j)
unfolding Tells
none_end l j n h e = h

pub tells_not : (A : Type 0) → Tells false A
unfolding Tells
tells_not A e = absurd (true≢false (sym e))

pub frameless_is : (a : List ℕ) (l : List Stretch) (j : ℕ) (b c : Bool) (s : Station) → Tells b (NoneOf l (length l) j)
    → s ≡ station_at a j → c ≡ is_none s.transmitter → c ≡ true → Tells b (Frameless a l j)
unfolding Tells
frameless_is a l j b c s h es ec e q =
    frameless a l j (ap (λ (x : Station). x.transmitter) (sym es) ∙ none_is s.transmitter (sym ec ∙ e)) (h q)
