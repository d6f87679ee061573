-- The pieces are what is printed: from `begin` on, no `advance` is refused, each hands out the next piece of it, and
-- they come to an end. Assumes nothing.
use Prim.Native.Nat.{ℕ, zero, suc, ◌+◌, ◌-◌, ◌≤◌, ◌<◌, min}
use Rattle.std.specs.Prelude.{◌≡◌, Bool, eqb, ltb, get_or, replicate, take, drop, Option, None, Some, is_some}
use Rattle.std.proofs.Math.Path.{refl, sym, ap, ap₂}
use Rattle.std.proofs.Common.{◌∙◌, subst, true≢false, ext_get_or, take_at, drop_at, length-take-le}
use Rattle.std.proofs.Math.Bool.{true, false}
use mathlib.Core.List.{List, [], ◌∷◌, ◌++◌, append_assoc, append-nil}
use native.Mathlib.Omega.{arith}
use borrow.Author.Tests.{eq-eqb, ne_eqb, le-ltb, le-leb, eqb-false, ltb-false}
use Rattle.std.proofs.Math.ListN.{length, length-append}
use Rattle.std.proofs.lemmas.List.{length-replicate, get_or-replicate}
use Rattle.std.proofs.lemmas.List.Edits.{sets}
use Rattle.std.proofs.Math.Seq.{length-sets}
use Rattle.octets.specs.Base.{pick, accepted, number_of}
use Rattle.octets.specs.Store.{length_part, take_sets}
use Rattle.octets.specs.Turns.{blanked, length_blanked, blanked_same}
use Rattle.sheet_layout.specs.Layout.{fits_well}
use Rattle.octets.specs.BaseLaws.{by_test, by_eq, neither, none_below, below_none}
use Rattle.station_spec.specs.declared.ReceiveEvent.{ReceiveEvent}
use Rattle.station_spec.specs.declared.TransmitEvent.{TransmitEvent}
use Rattle.station_spec.specs.declared.TransmitEvent.TheVariants.{Collision, Late, Sent, GivenUp}
use Rattle.station_spec.specs.declared.TransmitEvent.TheVariants.{LateEnded}
use Rattle.area.specs.Area.{clock_at}
use Rattle.bus_start.specs.Fresh.{with_plan, fresh}
use Rattle.bus_start.specs.FreshLaws.{fresh_length, fresh_clock}
use Rattle.area_check.specs.Valid.{area_refusal}
use Rattle.bus_spec.specs.declared.Events.{Events}
use Rattle.bus_spec.specs.BitTime.{no_events, events_at, step_area}
use Rattle.bus_spec.specs.Passes.{Passing, ready_passes}
use Rattle.bus_spec.proofs.Stays.{step_clock, step_length, step_passing}
use Rattle.delivery.specs.Passing.{start_passing, offered_passes, offered_keeps}
use Rattle.bus_spec.specs.Run.{late_at, stops}
use Rattle.bus_spec.specs.Until.{has_event, eventful, Stretched, one_more, until_event}
use Rattle.bus_spec.specs.UntilLaws.{none_eventful, stretch_steps, stretch_some}
use Rattle.report_text.specs.Text.{fit_yes, fit_no, refused_line, end_line}
use Rattle.report_lines.specs.Sizes.{first_size, refused_size, refused_offer_size, end_size, step_size}
use Rattle.report_lines.specs.Events.{event_line, station_lines, step_lines}
use Rattle.plan_draws.specs.Draws.{draws_in}
use Rattle.plan_read.specs.Plan.{offer_time, offer_station, offer_destination, offer_value, offer_size, offer_data}
use Rattle.plan_read.specs.Plan.{offer_place, Planned, plan_as_read}
use Rattle.plan_read.specs.PlanTheorems.{Right, read_right, read_passes, read_formed}
use Rattle.report_spec.specs.declared.Progress.{Progress}
use Rattle.report_spec.specs.Printed.{next_offer, lies, made, offer_line, offer_text, none, after, due_offers, Course}
use Rattle.report_spec.specs.Printed.{course, before, at_end, step_then, run_on, first_text, start_area, plan_course}
use Rattle.report_spec.specs.Printed.{input_course, zeros, printed}
use Rattle.report_spec.specs.Pieces.{Moved, moved, standing, is_due, span_of, last_piece, offer_piece, times_left}
use Rattle.report_spec.specs.Pieces.{stretch_piece, step_piece, move, given, offer_short, move_refusal, advanced_on, on_front}
use Rattle.report_spec.specs.Pieces.{advanced, no_progress, start_piece, first_piece, begun, remaining, told}
use Rattle.report_spec.specs.PieceLaws.{move_last, move_offer, move_step, due_some, span_most, span_some, offer_room}
use Rattle.sheet_layout.specs.Limits.{last_clock, max_stations}
use Rattle.area.specs.Offsets.{area_size}
use Rattle.station_tally.specs.Words.{transmit_word, transmit_value, receive_word, receive_value, ends_run}

-- ---- a step without an event has no lines, and no late collision

transmit_silent : (t i : ℕ) (e : Option TransmitEvent) → is_some e ≡ false
    → event_line t i (transmit_word e) (transmit_value e) ≡ []
unfolding event_line
transmit_silent t i None h = refl
transmit_silent t i (Some e) h = absurd (true≢false h)

receive_silent : (t i : ℕ) (e : Option ReceiveEvent) → is_some e ≡ false
    → event_line t i (receive_word e) (receive_value e) ≡ []
unfolding event_line
receive_silent t i None h = refl
receive_silent t i (Some e) h = absurd (true≢false h)

station_silent : (t i : ℕ) (e : Events) → has_event e ≡ false → station_lines t i e ≡ []
unfolding has_event station_lines
station_silent t i e h =
    let b = neither (is_some e.sent) (is_some e.got) h in
    ap₂ (λ (x y : List ℕ). x ++ y) (transmit_silent t i e.sent b.0) (receive_silent t i e.got b.1)

lines_silent : (t : ℕ) (es : List Events) (n : ℕ) → ((i : ℕ) → i < n → has_event (get_or es i no_events) ≡ false)
    → step_lines t es n ≡ []
unfolding step_lines
lines_silent t es zero h = refl
lines_silent t es (suc n) h =
    ap₂ (λ (x y : List ℕ). x ++ y) (lines_silent t es n (λ i g. h i (omega arith)))
    (station_silent t n (get_or es n no_events) (h n (omega arith)))

late_transmits : (e : Option TransmitEvent) → is_some e ≡ false → ends_run e ≡ false
late_transmits None h = refl
late_transmits (Some (Collision k)) h = refl
late_transmits (Some (Late k closes)) h = absurd (true≢false h)
late_transmits (Some (Sent n)) h = refl
late_transmits (Some (GivenUp n)) h = refl
late_transmits (Some (LateEnded n)) h = refl

calm_late : (es : List Events) (i : ℕ) → has_event (get_or es i no_events) ≡ false → late_at es i ≡ false
unfolding has_event late_at
calm_late es i h =
    late_transmits (get_or es i no_events).sent
    (neither (is_some (get_or es i no_events).sent) (is_some (get_or es i no_events).got) h).0

module _ (es : List Events) (h : eventful es ≡ false) where
  each : (i : ℕ) → i < max_stations → has_event (get_or es i no_events) ≡ false
  unfolding eventful
  each i g = none_below (λ k. has_event (get_or es k no_events)) 16 i h g

  no_lines : (t : ℕ) → step_lines t es 16 ≡ []
  no_lines t = lines_silent t es 16 each

  no_late : stops es ≡ false
  no_late = below_none (late_at es) 16 (λ i g. calm_late es i (each i g))

-- ---- the offers before a step

-- whether one of m offers from octet p on is due at time t
unfoldable due_at : List ℕ → (m p t : ℕ) → Bool
due_at l m p t = pick (eqb m 0) false (eqb (offer_time l p) t)

due_is_due : (l : List ℕ) (g : Progress) (a : List ℕ) → is_due l g a ≡ due_at l g.offers g.at (clock_at a)
unfolding is_due due_at
due_is_due l g a = refl

due_more : (l : List ℕ) (m p t : ℕ) → eqb (offer_time l p) t ≡ due_at l (suc m) p t
unfolding due_at
due_more l m p t = rw (ne_eqb (suc m) 0 (λ z. omega arith))

none_due : (l : List ℕ) (m p : ℕ) (a : List ℕ) → due_at l m p (clock_at a) ≡ false → due_offers l m p a ≡ none m p a
unfolding due_offers
none_due l zero p a h = refl
none_due l (suc m) p a h = let e : eqb (offer_time l p) (clock_at a) ≡ false = due_more l m p (clock_at a) ∙ h in rw e

one_due : (l : List ℕ) (m p : ℕ) (a : List ℕ) → due_at l (suc m) p (clock_at a) ≡ true
    → due_offers l (suc m) p a ≡ after (offer_text l p a) (due_offers l m (next_offer l p) (made l p a).octets)
unfolding due_offers
one_due l m p a h = let e : eqb (offer_time l p) (clock_at a) ≡ true = due_more l m p (clock_at a) ∙ h in rw e

-- ---- a stretch of steps

run_step : (l : List ℕ) (n m p : ℕ) (a : List ℕ) → due_at l m p (clock_at a) ≡ false
    → run_on l (suc n) m p a ≡ step_then a (run_on l n m p (step_area a))
unfolding run_on
run_step l n m p a h = rw (none_due l m p a h)

run_none : (l : List ℕ) (m p : ℕ) (a : List ℕ) → run_on l 0 m p a ≡ at_end a
unfolding run_on
run_none l m p a = refl

abbrev Stretches : (l : List ℕ) (n m p : ℕ) (a : List ℕ) → Stretched → Type 0
Stretches l n m p a s =
    run_on l n m p a ≡ before (step_lines (clock_at s.octets - 1) s.events 16)
    (run_on l (times_left n s) m p s.octets)

first_calm : (l : List ℕ) (n m p : ℕ) (a : List ℕ) → Stretches l n m p a (until_event 0 a)
unfolding until_event times_left
first_calm l n m p a =
    let z : n - 0 ≡ n = omega arith in
    rw (
      no_lines (replicate 16 no_events) none_eventful (clock_at a - 1),
      no_late
          (replicate 16 no_events) none_eventful,
      z,
    )

module _ (l : List ℕ) (n m p : ℕ) (a : List ℕ) (h : due_at l m p (clock_at a) ≡ false)
    (t : clock_at (step_area a) ≡ clock_at a + 1) where
  -- the step has an event: its lines, and then the rest or the end
  step_hit : Stretches l (suc n) m p a (record { steps = 1; events = events_at a; octets = step_area a })
  unfolding times_left
  step_hit =
      let c : clock_at (step_area a) - 1 ≡ clock_at a = omega arith in
      let k : suc n - 1 ≡ n = omega arith in
      run_step l n m p a h
      ∙ rw (c, k)
      (by_test (stops (events_at a))
      (λ b. rw b (ap (before (step_lines (clock_at a) (events_at a) 16)) (sym (run_none l m p (step_area a)))))
      (λ b. rw b))

  -- it has none: the rest alone
  step_calm : (s : Stretched) → eventful (events_at a) ≡ false → Stretches l n m p (step_area a) s
      → Stretches l (suc n) m p a (one_more s)
  unfolding times_left
  step_calm s e r =
      let k : suc n - (s.steps + 1) ≡ n - s.steps = omega arith in
      run_step l n m p a h ∙ rw (no_lines (events_at a) e (clock_at a), no_late (events_at a) e, k) r

-- none of the m offers from p on is due in the k steps from time t on
abbrev Far : (l : List ℕ) (m p t k : ℕ) → Type 0
Far l m p t k = (i : ℕ) → i < k → due_at l m p (t + i) ≡ false

stretch_text : (l : List ℕ) (k n m p : ℕ) (a : List ℕ) → Passing a → clock_at a + k ≤ last_clock → k ≤ n
    → Far l m p (clock_at a) k → Stretches l n m p a (until_event k a)
unfolding until_event
stretch_text l zero n m p a v c q f = first_calm l n m p a
stretch_text l (suc k) zero m p a v c q f = absurd (omega arith)
stretch_text l (suc k) (suc n) m p a v c q f =
    let t : clock_at (step_area a) ≡ clock_at a + 1 = step_clock a v.ready in
    let z : clock_at a + 0 ≡ clock_at a = omega arith in
    let h : due_at l m p (clock_at a) ≡ false = subst (λ (x : ℕ). due_at l m p x ≡ false) z (f 0 (omega arith)) in
    let r : Stretches l n m p (step_area a) (until_event k (step_area a)) =
    stretch_text l k n m p (step_area a) (step_passing a v (omega arith)) (omega arith) (omega arith)
    (λ i g. let y : clock_at a + suc i ≡ clock_at (step_area a)
    + i = omega arith in subst (λ (x : ℕ). due_at l m p x ≡ false) y (f (suc i) (omega arith))) in
    by_test (eventful (events_at a))
    (λ b. rw b (step_hit l n m p a h t))
    (λ b. rw b (step_calm l n m p a h t (until_event k (step_area a)) b r))

-- ---- a run that goes on

-- an area that passes, bit times that it can make, and offers that lie within the input
pub record Going (l : List ℕ) (g : Progress) (a : List ℕ) : Type 0 where
  pub passing : Passing a
  pub long : length a ≡ area_size
  pub clock : clock_at a + g.times ≤ last_clock
  pub offers : (k : ℕ) → k < g.offers → lies l (offer_place l g.at k) ≡ true

place_on : (l : List ℕ) (p k : ℕ) → offer_place l (next_offer l p) k ≡ offer_place l p (suc k)
unfolding offer_place
place_on l p zero = refl
place_on l p (suc k) = ap (λ (q : ℕ). q + 15 + offer_size l q) (place_on l p k)

place_first : (l : List ℕ) (p : ℕ) → offer_place l p 0 ≡ p
unfolding offer_place
place_first l p = refl

module _ (l : List ℕ) (g : Progress) (a : List ℕ) where
  remaining_on : g.ended ≡ false → remaining l g a ≡ run_on l g.times g.offers g.at a
  unfolding remaining
  remaining_on h = ap (λ (b : Bool). pick b (course [] a) (run_on l g.times g.offers g.at a)) h

  pub remaining_off : g.ended ≡ true → remaining l g a ≡ course [] a
  unfolding remaining
  remaining_off h = ap (λ (b : Bool). pick b (course [] a) (run_on l g.times g.offers g.at a)) h

-- what a piece hands out comes first in what is still to come
abbrev pub Onward : (l : List ℕ) (g : Progress) (a : List ℕ) → Moved → Type 0
Onward l g a m = remaining l g a ≡ before m.text (remaining l m.progress m.octets)

-- ---- the last line

last_on : (l : List ℕ) (g : Progress) (a : List ℕ) → g.ended ≡ false → g.times ≡ 0 → Onward l g a (last_piece g a)
unfolding last_piece
last_on l g a h t =
    remaining_on l g a h
    ∙ ap (λ (n : ℕ). run_on l n g.offers g.at a) t
    ∙ run_none l g.offers g.at a
    ∙ ap (λ (s : List ℕ). course s a) (sym (append-nil (end_line (clock_at a))))
    ∙ ap (before (end_line (clock_at a))) (sym (remaining_off l (standing g.at g.offers 0 true) a refl))

last_going : (l : List ℕ) (g : Progress) (a : List ℕ) → Going l g a
    → Going l (last_piece g a).progress (last_piece g a).octets
unfolding last_piece
last_going l g a w =
    record {
      passing = w.passing;
      long = w.long;
      clock = (let c = w.passing.ready.clock in omega arith);
      offers = w.offers;
    }

-- ---- an offer

before_both : (s t : List ℕ) (c : Course) → before (s ++ t) c ≡ before s (before t c)
before_both s t c = ap (λ (x : List ℕ). course x c.octets) (append_assoc s t c.text)

offer_text_lem : (l : List ℕ) (n m p : ℕ) (a : List ℕ) → due_at l (suc m) p (clock_at a) ≡ true
    → run_on l (suc n) (suc m) p a ≡ before (offer_text l p a) (run_on l (suc n) m (next_offer l p) (made l p a).octets)
unfolding run_on
offer_text_lem l n m p a h =
    rw (one_due l m p a h)
    (before_both (offer_text l p a) (due_offers l m (next_offer l p) (made l p a).octets).text _)

module _ (l : List ℕ) (g : Progress) (a : List ℕ) (w : Going l g a) (n m : ℕ) (t : g.times ≡ suc n)
    (o : g.offers ≡ suc m) where
  offer_on : g.ended ≡ false → is_due l g a ≡ true → Onward l g a (offer_piece l g a)
  unfolding offer_piece
  offer_on h d =
      let e : due_at l (suc m) g.at (clock_at a) ≡ true = ap (λ (k : ℕ). due_at l k g.at (clock_at a)) (sym o)
      ∙ sym (due_is_due l g a) ∙ d in
      let z : g.offers - 1 ≡ m = omega arith in
      remaining_on l g a h
      ∙ ap₂ (λ (x y : ℕ). run_on l x y g.at a) t o
      ∙ offer_text_lem l n m g.at a e
      ∙ ap (before (offer_text l g.at a))
      (ap₂ (λ (x y : ℕ). run_on l x y (next_offer l g.at) (made l g.at a).octets) (sym t) (sym z)
      ∙ sym (remaining_on l (standing (next_offer l g.at) (g.offers - 1) g.times false)
      (made l g.at a).octets refl))

  inside : lies l g.at ≡ true
  inside = ap (lies l) (sym (place_first l g.at)) ∙ w.offers 0 (omega arith)

  six : length (offer_destination l g.at) ≡ 6
  six = length_part l (g.at + 5) 6 (omega (arith, offer_room l g.at inside))

  made_going : (Passing (made l g.at a).octets)
      × ((clock_at (made l g.at a).octets ≡ clock_at a) × (length (made l g.at a).octets ≡ length a))
  unfolding made
  made_going = (
    offered_passes a (offer_station l g.at) (offer_destination l g.at) (offer_value l g.at)
        (offer_data l g.at (offer_size l g.at)) six w.passing,
    offered_keeps a (offer_station l g.at) (offer_destination l g.at) (offer_value l g.at)
        (offer_data l g.at (offer_size l g.at)) six w.passing,
  )

  offer_going : Going l (offer_piece l g a).progress (offer_piece l g a).octets
  unfolding offer_piece
  offer_going =
      let v = made_going in
      record {
        passing = v.0;
        long = v.1.1 ∙ w.long;
        clock = (let c = w.clock in omega (arith, v.1.0));
        offers = λ k h. ap (lies l) (place_on l g.at k) ∙ w.offers (suc k) (omega arith);
      }

-- ---- steps

far : (l : List ℕ) (g : Progress) (a : List ℕ) → is_due l g a ≡ false
    → Far l g.offers g.at (clock_at a) (span_of l g a)
unfolding is_due span_of due_at
far l g a d i h =
    by_test (eqb g.offers 0)
    (λ e. rw e)
    (λ e. rw e (ne_eqb (offer_time l g.at) (clock_at a + i) (λ z. apart e z)))
  where
    apart : eqb g.offers 0 ≡ false → offer_time l g.at ≡ clock_at a + i → ⊥
    apart e z =
        by_test (ltb (clock_at a) (offer_time l g.at))
        (λ c. let q : i < min (offer_time l g.at - clock_at a) g.times = rw (e, c) at h in omega arith)
        (λ c. let q = ltb-false (clock_at a) (offer_time l g.at) c in
        let f : eqb (offer_time l g.at) (clock_at a) ≡ false = rw e at d in
        eqb-false (offer_time l g.at) (clock_at a) f (omega arith))

stretch_going : (k : ℕ) (a : List ℕ) → Passing a → clock_at a + k ≤ last_clock
    → (Passing (until_event k a).octets)
    × ((clock_at (until_event k a).octets ≡ clock_at a + (until_event k a).steps) ×
    (length (until_event k a).octets ≡ length a))
unfolding until_event
stretch_going zero a v c = (v, (omega arith, refl))
stretch_going (suc k) a v c =
    let t : clock_at (step_area a) ≡ clock_at a + 1 = step_clock a v.ready in
    let r = stretch_going k (step_area a) (step_passing a v (omega arith)) (omega arith) in
    by_test (eventful (events_at a))
    (λ b. rw b (step_passing a v (omega arith), (t, step_length a v.ready)))
    (λ b. rw b (r.0, (omega (arith, r.1.0), r.1.1 ∙ step_length a v.ready)))

module _ (l : List ℕ) (g : Progress) (a : List ℕ) (w : Going l g a) where
  few : clock_at a + span_of l g a ≤ last_clock
  few = let c = w.clock in omega (arith, span_most l g a)

  step_on : g.ended ≡ false → is_due l g a ≡ false → Onward l g a (step_piece l g a)
  unfolding stretch_piece
  step_on h d =
      let s = until_event (span_of l g a) a in
      remaining_on l g a h
      ∙ stretch_text l (span_of l g a) g.times g.offers g.at a w.passing few (span_most l g a) (far l g a d)
      ∙ ap (before (step_lines (clock_at (until_event (span_of l g a) a).octets - 1)
      (until_event (span_of l g a) a).events 16))
      (sym (remaining_on l (standing g.at g.offers (times_left g.times (until_event (span_of l g a) a)) false)
      (until_event (span_of l g a) a).octets refl))

  left_most : (s : Stretched) → times_left g.times s ≤ g.times - s.steps
  unfolding times_left
  left_most s = by_test (stops s.events) (λ b. rw b (omega arith)) (λ b. rw b (omega arith))

  step_going : Going l (step_piece l g a).progress (step_piece l g a).octets
  unfolding stretch_piece
  step_going =
      let v = stretch_going (span_of l g a) a w.passing few in
      record {
        passing = v.0;
        long = v.1.1 ∙ w.long;
        clock =
            (let c = w.clock in omega (
              arith,
              v.1.0,
              left_most (until_event (span_of l g a) a),
              stretch_steps
                  (span_of l g a) a,
              span_most l g a,
            ));
        offers = w.offers;
      }

-- ---- the next piece, whichever it is

positive : (k : ℕ) → (k ≡ 0 → ⊥) → 0 < k
positive zero f = absurd (f refl)
positive (suc k) f = omega arith

-- the pieces left at most
unfoldable pub pieces : Progress → ℕ
pieces g = pick g.ended 0 (g.times + g.offers + 1)

pieces_on : (g : Progress) → g.ended ≡ false → pieces g ≡ g.times + g.offers + 1
unfolding pieces
pieces_on g h = ap (λ (b : Bool). pick b 0 (g.times + g.offers + 1)) h

pieces_off : (g : Progress) → g.ended ≡ true → pieces g ≡ 0
unfolding pieces
pieces_off g h = ap (λ (b : Bool). pick b 0 (g.times + g.offers + 1)) h

-- what holds of a piece m handed out where the run stands at g on area a: it comes first in what is still to come, the
-- run goes on, and there are fewer pieces left
pub record Next (l : List ℕ) (g : Progress) (a : List ℕ) (m : Moved) : Type 0 where
  pub onward : Onward l g a m
  pub going : Going l m.progress m.octets
  pub fewer : pieces m.progress < pieces g

module _ (l : List ℕ) (g : Progress) (a : List ℕ) (w : Going l g a) (h : g.ended ≡ false) where
  last_next : g.times ≡ 0 → Next l g a (last_piece g a)
  unfolding last_piece
  last_next t =
      record {
        onward = last_on l g a h t;
        going = last_going l g a w;
        fewer = omega (arith, pieces_off (standing g.at g.offers 0 true) refl, pieces_on g h);
      }

  offer_next : (g.times ≡ 0 → ⊥) → is_due l g a ≡ true → Next l g a (offer_piece l g a)
  unfolding offer_piece
  offer_next t d =
      let p = positive g.times t in
      let q = due_some l a g d in
      let n : g.times ≡ suc (g.times - 1) = omega arith in
      let m : g.offers ≡ suc (g.offers - 1) = omega arith in
      record {
        onward = offer_on l g a w (g.times - 1) (g.offers - 1) n m h d;
        going = offer_going l g a w (g.times - 1) (g.offers - 1) n m;
        fewer =
            omega (
              arith,
              pieces_on (standing (next_offer l g.at) (g.offers - 1) g.times false) refl,
              pieces_on g
                  h,
            );
      }

  step_next : (g.times ≡ 0 → ⊥) → is_due l g a ≡ false → Next l g a (step_piece l g a)
  unfolding stretch_piece
  step_next t d =
      let p = positive g.times t in
      let s = span_some l g a p in
      record {
        onward = step_on l g a w h d;
        going = step_going l g a w;
        fewer =
            omega (
              arith,
              pieces_on (standing g.at g.offers
                  (times_left g.times (until_event (span_of l g a) a)) false) refl,
              pieces_on g h,
              left_most l g a w
                  (until_event (span_of l g a) a),
              stretch_some (span_of l g a) a s,
            );
      }

  pub next : Next l g a (move l g a)
  next =
      by_eq g.times 0
      (λ t. subst (Next l g a) (sym (move_last l g a h t)) (last_next t))
      (λ t. by_test (is_due l g a)
      (λ d. subst (Next l g a) (sym (move_offer l g a h t d)) (offer_next t d))
      (λ d. subst (Next l g a) (sym (move_step l g a h t d)) (step_next t d)))

-- No advance is refused.
pub not_refused : (l : List ℕ) (g : Progress) (a : List ℕ) (room : ℕ) → Going l g a → 2048 ≤ room
    → move_refusal l a room g ≡ 0
unfolding move_refusal offer_short
not_refused l g a room w h =
    let c = w.clock in
    rw (
      eq-eqb (area_refusal a) 0 (ready_passes a w.passing),
      le-ltb last_clock
          (clock_at a + g.times) c,
      le-ltb room 2048 h,
      whole,
    )
  where
    whole : offer_short l g ≡ false
    whole =
        by_eq g.offers 0
        (λ e. rw (eq-eqb g.offers 0 e))
        (λ e. rw (ne_eqb g.offers 0 e, sym (ap (lies l) (place_first l g.at)), w.offers 0 (positive g.offers e)))

-- ---- a piece has room

last_size : (g : Progress) (a : List ℕ) → length (last_piece g a).text ≤ 2048
unfolding last_piece
last_size g a = omega (arith, end_size (clock_at a))

offer_size_lem : (l : List ℕ) (g : Progress) (a : List ℕ) → length (offer_piece l g a).text ≤ 2048
unfolding offer_piece offer_text offer_line
offer_size_lem l g a =
    by_test (eqb (number_of (made l g.at a).answer) 0)
    (λ b. rw b (omega arith))
    (λ b. rw b (omega (
      arith,
      refused_offer_size (offer_time l g.at) (offer_station l g.at)
          (number_of (made l g.at a).answer),
    )))

stretch_size : (g : Progress) (s : Stretched) → length (stretch_piece g s).text ≤ 2048
unfolding stretch_piece
stretch_size g s = omega (arith, step_size (clock_at s.octets - 1) s.events 16)

start_size : (l : List ℕ) (r : Planned) (a : List ℕ) → length (start_piece l r a).text ≤ 2048
unfolding start_piece first_text
start_size l r a =
    by_test (fits_well r.layout)
    (λ b. rw b (omega (arith, first_size r.layout.count fit_yes)))
    (λ b. rw b (omega (arith, first_size r.layout.count fit_no)))

pub move_size : (l : List ℕ) (g : Progress) (a : List ℕ) → length (move l g a).text ≤ 2048
unfolding move
move_size l g a = go g.ended (eqb g.times 0) (is_due l g a)
  where
    go : (b c d : Bool) → length (pick b (moved [] g a)
        (pick c (last_piece g a) (pick d (offer_piece l g a) (step_piece l g a)))).text ≤ 2048
    go true c d = omega arith
    go false true d = last_size g a
    go false false true = offer_size_lem l g a
    go false false false = stretch_size g (until_event (span_of l g a) a)

pub first_room : (l a : List ℕ) → length (first_piece l a).text ≤ 2048
unfolding first_piece
first_room l a = go (eqb (number_of (plan_as_read l).answer) 0)
  where
    go : (b : Bool) → length (pick b (start_piece l (plan_as_read l) a)
        (moved (refused_line (number_of (plan_as_read l).answer)) no_progress a)).text ≤ 2048
    go true = start_size l (plan_as_read l) a
    go false = omega (arith, refused_size (number_of (plan_as_read l).answer))

-- ---- the first piece

zeros_same : (n : ℕ) (l : List ℕ) → length l ≡ n → blanked n l ≡ replicate n 0
zeros_same n l h =
    ext_get_or 0 (blanked n l) (replicate n 0) (length_blanked n l ∙ h ∙ sym (length-replicate n 0))
    (λ i g. let k : i < n = omega (arith, length_blanked n l) in blanked_same n i l k (omega arith)
    ∙ sym (get_or-replicate n i 0 0 k))

-- a fresh start is the same over any area of that length
start_same : (l : List ℕ) (r : Planned) (a b : List ℕ) → length a ≡ area_size → length b ≡ area_size
    → start_area l r a ≡ start_area l r b
unfolding start_area fresh
start_same l r a b h k =
    ap (with_plan r.layout r.depth (draws_in l r.drawn r.layout.count r.depth))
    (zeros_same area_size a h ∙ sym (zeros_same area_size b k))

zeros_long : length zeros ≡ area_size
zeros_long = length-replicate {A = ℕ} area_size 0

pub read_course : (l a : List ℕ) → number_of (plan_as_read l).answer ≡ 0 → input_course l a ≡ plan_course l (plan_as_read l) a
unfolding input_course
read_course l a e =
    ap (λ (b : Bool). pick b (plan_course l (plan_as_read l) a) (course (refused_line (number_of (plan_as_read l).answer)) a))
    (eq-eqb (number_of (plan_as_read l).answer) 0 e)

pub refused_course : (l a : List ℕ) → (number_of (plan_as_read l).answer ≡ 0 → ⊥)
    → input_course l a ≡ course (refused_line (number_of (plan_as_read l).answer)) a
unfolding input_course
refused_course l a e =
    ap (λ (b : Bool). pick b (plan_course l (plan_as_read l) a) (course (refused_line (number_of (plan_as_read l).answer)) a))
    (ne_eqb (number_of (plan_as_read l).answer) 0 e)

pub refused_print : (l : List ℕ) → (number_of (plan_as_read l).answer ≡ 0 → ⊥)
    → printed l ≡ refused_line (number_of (plan_as_read l).answer)
unfolding printed
refused_print l e = ap (λ (c : Course). c.text) (refused_course l zeros e)

plan_same : (l a : List ℕ) → length a ≡ area_size
    → (plan_course l (plan_as_read l) a).text ≡ (plan_course l (plan_as_read l) zeros).text
unfolding plan_course
plan_same l a h =
    ap (λ (x : List ℕ). first_text (plan_as_read l).layout ++ (run_on l (plan_as_read l).times (plan_as_read l).offers
    (plan_as_read l).first x).text)
    (start_same l (plan_as_read l) a zeros h zeros_long)

-- so the text is too
pub course_same : (l a : List ℕ) → length a ≡ area_size → (input_course l a).text ≡ printed l
unfolding printed
course_same l a h =
    by_eq (number_of (plan_as_read l).answer) 0
    (λ e. ap (λ (c : Course). c.text) (read_course l a e) ∙ plan_same l a h ∙ ap (λ (c : Course). c.text)
    (sym (read_course l zeros e)))
    (λ e. ap (λ (c : Course). c.text) (refused_course l a e) ∙ ap (λ (c : Course). c.text)
    (sym (refused_course l zeros e)))

inside_lies : (l : List ℕ) (p : ℕ) → p + 15 + offer_size l p ≤ length l → lies l p ≡ true
unfolding lies
inside_lies l p h = rw (le-leb (p + 15) (length l) (omega arith), le-leb (p + 15 + offer_size l p) (length l) h)

module _ (l a : List ℕ) (h : length a ≡ area_size) (n : number_of (plan_as_read l).answer ≡ 0) where
  y : Right l (plan_as_read l)
  y = read_right l n

  pub start_on : input_course l a ≡ before (start_piece l (plan_as_read l) a).text
      (remaining l (start_piece l (plan_as_read l) a).progress (start_piece l (plan_as_read l) a).octets)
  unfolding plan_course start_piece
  start_on =
      read_course l a n
      ∙ (ap (before (first_text (plan_as_read l).layout))
      (sym (remaining_on l (standing (plan_as_read l).first (plan_as_read l).offers (plan_as_read l).times false)
      (start_area l (plan_as_read l) a) refl)))

  pub start_going : Going l (start_piece l (plan_as_read l) a).progress (start_piece l (plan_as_read l) a).octets
  unfolding start_piece start_area
  start_going =
      let big : area_size ≤ length a = omega arith in
      let few = y.sound.count.1 in
      let d = y.depth in
      let formed = read_formed l n in
      let ds = draws_in l (plan_as_read l).drawn (plan_as_read l).layout.count (plan_as_read l).depth in
      record {
        passing =
            start_passing (plan_as_read l).layout (plan_as_read l).depth ds a big (read_passes l n) d.0 d.1 formed;
        long = fresh_length (plan_as_read l).layout (plan_as_read l).depth ds a big few d.1 formed ∙ h;
        clock =
            omega (arith, fresh_clock (plan_as_read l).layout (plan_as_read l).depth ds a big few d.1 formed, y.times);
        offers = λ k g. inside_lies l (offer_place l (plan_as_read l).first k) (y.offer k g);
      }

  start_pieces : pieces (start_piece l (plan_as_read l) a).progress ≤ 16777281
  unfolding start_piece
  start_pieces =
      omega (
        arith,
        pieces_on (standing (plan_as_read l).first (plan_as_read l).offers (plan_as_read l).times false) refl,
        y.times,
        y.many,
      )

-- ---- what a caller gets

module _ (l b z o : List ℕ) (g : Progress) (w : Going l g b) (h : 2048 ≤ length o) where
  front : take area_size (b ++ z) ≡ b
  front = take_at b z area_size w.long

  back : drop area_size (b ++ z) ≡ z
  back = drop_at b z area_size w.long

  given_on : advanced_on l b o g ≡ given o (move l g b)
  unfolding advanced_on
  given_on = rw (not_refused l g b (length o) w h)

  pub advance_on : advanced l (b ++ z) o g ≡ record {
    answer = accepted (length (move l g b).text ∷ []);
    progress = (move l g b).progress;
    octets = (move l g b).octets ++ z;
    out = sets o 0 (move l g b).text;
  }
  unfolding advanced
  advance_on =
      let k : area_size ≤ length (b ++ z) = omega (arith, length-append b z, w.long) in
      rw (le-ltb (length (b ++ z)) area_size k, front, back, given_on)

told_on : (n : ℕ) (l b z o : List ℕ) (g : Progress) → Going l g b → g.ended ≡ false → 2048 ≤ length o → pieces g ≤ n
    → told n l (advanced l (b ++ z) o g) ≡ (remaining l g b).text
unfolding told
told_on zero l b z o g w e h p = absurd (omega (arith, pieces_on g e))
told_on (suc n) l b z o g w e h p =
    let m = next l g b w e in
    let k : 2048 ≤ length (sets o 0 (move l g b).text) = omega (arith, length-sets o 0 (move l g b).text) in
    rw (advance_on l b z o g w h)
    (ap₂ (λ (x y : List ℕ). x ++ y)
    (take_sets (move l g b).text o (length (move l g b).text) refl (omega (arith, move_size l g b)))
    (by_test (move l g b).progress.ended
    (λ q. rw q (ap (λ (c : Course). c.text) (sym (remaining_off l (move l g b).progress (move l g b).octets q))))
    (λ q. rw q (told_on n l (move l g b).octets z (sets o 0 (move l g b).text) (move l g b).progress m.going q k
    (let f = m.fewer in omega arith))))
    ∙ ap (λ (c : Course). c.text) (sym m.onward))

pub started_first : (l a : List ℕ) → number_of (plan_as_read l).answer ≡ 0 → first_piece l a ≡ start_piece l (plan_as_read l) a
unfolding first_piece
started_first l a e = rw (eq-eqb (number_of (plan_as_read l).answer) 0 e)

pub refused_first : (l a : List ℕ) → (number_of (plan_as_read l).answer ≡ 0 → ⊥)
    → first_piece l a ≡ moved (refused_line (number_of (plan_as_read l).answer)) no_progress a
unfolding first_piece
refused_first l a e = rw (ne_eqb (number_of (plan_as_read l).answer) 0 e)

-- After the first piece there are no more than 16,777,281.
pub first_pieces : (l a : List ℕ) → length a ≡ area_size → pieces (first_piece l a).progress ≤ 16777281
first_pieces l a h =
    by_eq (number_of (plan_as_read l).answer) 0
    (λ e. subst (λ (m : Moved). pieces m.progress ≤ 16777281) (sym (started_first l a e)) (start_pieces l a h e))
    (λ e. subst (λ (m : Moved). pieces m.progress ≤ 16777281) (sym (refused_first l a e))
    (omega (arith, pieces_off no_progress refl)))

module _ (n : ℕ) (l a o : List ℕ) (h : area_size ≤ length a) (k : 2048 ≤ length o) where
  cut : length (take area_size a) ≡ area_size
  cut = length-take-le area_size a h

  pub begin_on : begun l a o ≡ on_front a (given o (first_piece l (take area_size a)))
  unfolding begun
  begin_on = rw (le-ltb (length a) area_size h, le-ltb (length o) 2048 k)

  -- an input that is refused has one piece
  told_refused : (number_of (plan_as_read l).answer ≡ 0 → ⊥) → told (suc n) l (begun l a o) ≡ printed l
  unfolding told
  told_refused e =
      let f : first_piece l (take area_size a) ≡ moved (refused_line (number_of (plan_as_read l).answer)) no_progress
      (take area_size a) = refused_first l (take area_size a) e in
      rw (begin_on, f)
      (append-nil _
      ∙ take_sets (refused_line (number_of (plan_as_read l).answer)) o
      (length (refused_line (number_of (plan_as_read l).answer))) refl
      (omega (arith, refused_size (number_of (plan_as_read l).answer)))
      ∙ sym (refused_print l e))

  told_whole : 16777281 ≤ n → number_of (plan_as_read l).answer ≡ 0 → told (suc n) l (begun l a o) ≡ printed l
  unfolding told start_piece
  told_whole q e =
      let f : first_piece l (take area_size a) ≡ start_piece l (plan_as_read l) (take area_size a) = started_first l
      (take area_size a) e in
      let t = first_text (plan_as_read l).layout in
      let g = standing (plan_as_read l).first (plan_as_read l).offers (plan_as_read l).times false in
      rw (begin_on, f)
      (ap₂ (λ (x y : List ℕ). x ++ y)
      (take_sets (first_text (plan_as_read l).layout) o (length (first_text (plan_as_read l).layout)) refl
      (omega (arith, start_size l (plan_as_read l) (take area_size a))))
      (told_on n l (start_area l (plan_as_read l) (take area_size a)) (drop area_size a)
      (sets o 0 (first_text (plan_as_read l).layout))
      (standing (plan_as_read l).first (plan_as_read l).offers (plan_as_read l).times false)
      (start_going l (take area_size a) cut e) refl (omega (arith, length-sets o 0 (first_text (plan_as_read l).layout)))
      (omega (arith, start_pieces l (take area_size a) cut e)))
      ∙ ap (λ (c : Course). c.text) (sym (start_on l (take area_size a) cut e))
      ∙ course_same l (take area_size a) cut)

-- From `begin` on, over any work area and any output that are long enough, the pieces are just what is printed. Of the
-- calls none is refused, and there are no more than 16,777,282.
pub told_printed : (l a o : List ℕ) → area_size ≤ length a → 2048 ≤ length o → told 16777282 l (begun l a o) ≡ printed l
told_printed l a o h k =
    by_eq (number_of (plan_as_read l).answer) 0 (λ e. told_whole 16777281 l a o h k (omega arith) e)
    (λ e. told_refused 16777281 l a o h k e)
