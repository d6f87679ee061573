-- A law for each way through the code that hands out the pieces. Assumes nothing.
use Rattle.std.specs.Prelude.{ℕ, ◌+◌, ◌-◌, ◌*◌, ◌≤◌, ◌<◌, ◌≡◌, true, false, List, [], ◌∷◌, length, get_or, take, Result, Ok, ⊤}
use Rattle.std.proofs.Common.{refl, sym, ap, ◌∙◌, arith, length-take-le}
use Rattle.std.proofs.lemmas.Bool.Decides.{nat_tests}
use Rattle.std.proofs.lemmas.Result.{err_from_is_err_and}
use borrow.Author.Tests.{ne_eqb}
use Rattle.octets.specs.Base.{pick, some, Answer, accepted, Outcome, outcome, done_answer, number_of, refusal_in, refusal_number}
use Rattle.octets.specs.BaseLaws.{some_none, some_more, some_hit, some_end, refusal_numbered}
use Rattle.octets.specs.declared.Refusal.{Refusal}
use Rattle.octets.specs.Number.{get}
use Rattle.octets.specs.NumberLaws.{Octets}
use Rattle.area.specs.Area.{clock_at}
use Rattle.bus_start.specs.Fresh.{fresh}
use Rattle.area_check.specs.Valid.{area_refusal}
use Rattle.bus_spec.specs.declared.Events.{Events}
use Rattle.bus_spec.specs.BitTime.{no_events}
use Rattle.bus_offer.specs.Offer.{offered}
use Rattle.bus_spec.specs.declared.course.Stretch.{Stretch}
use Rattle.bus_spec.specs.Run.{late_at, stops}
use Rattle.bus_spec.specs.RunLaws.{Runnable, clock_within, run_allowed}
use Rattle.bus_spec.specs.Until.{Stretched, stretch_of, until_event}
use Rattle.bus_spec.specs.UntilLaws.{stretch_steps, stretch_some}
use Rattle.bus_spec.proofs.UntilLaws.{stretch_clock}
use Rattle.report_text.specs.Text.{Written, written, puts, counted, line, refused_word, refused_offer, end_word}
use Rattle.report_text.specs.Text.{end_line}
use Rattle.report_lines.specs.Events.{step_lines}
use Rattle.plan_read.specs.declared.Offered.{Offered}
use Rattle.plan_read.specs.declared.Plan.{Plan}
use Rattle.plan_draws.specs.Draws.{draws_in}
use Rattle.plan_read.specs.Plan.{offer_in, offer_data, offer_size, Planned, plan_as_read, plan_reading}
use Rattle.plan_read.specs.PlanTheorems.{reading_right}
use Rattle.report_spec.specs.declared.Progress.{Progress}
use Rattle.report_spec.specs.Printed.{lies, made, offer_line, offer_text, first_text, start_area}
use Rattle.report_spec.specs.Pieces.{Moved, moved, standing, is_due, span_of, last_piece, offer_piece, times_left}
use Rattle.report_spec.specs.Pieces.{stretch_piece, step_piece, move, given, offer_short, move_refusal}
use Rattle.report_spec.specs.Pieces.{start_piece}
use Rattle.sheet_layout.specs.Limits.{last_clock, max_stations, max_draws}
use Rattle.area.specs.Offsets.{area_size}
use Rattle.station_tally.specs.Words.{ends_run}

-- ---- the next offer

module _ (l : List ℕ) (p : ℕ) where
  pub lies_size : lies l p ≡ true → p + 15 + offer_size l p ≤ length l
  unfolding lies
  lies_size h = grind (arith, nat_tests)

pub offer_room : (l : List ℕ) (p : ℕ) → lies l p ≡ true → p + 15 ≤ length l
offer_room l p h = omega (arith, lies_size l p h)

pub time_at : (l : List ℕ) (p : ℕ) → lies l p ≡ true → p + 4 ≤ length l
time_at l p h = omega (arith, offer_room l p h)

pub size_at : (l : List ℕ) (p : ℕ) → lies l p ≡ true → p + 13 + 2 ≤ length l
size_at l p h = omega (arith, offer_room l p h)

pub data_room : (l : List ℕ) (p z : ℕ) (o : Offered) → o ≡ offer_in l p → z ≡ o.size → lies l p ≡ true
    → p + 15 + z ≤ length l
unfolding offer_in
data_room l p z o e q h = omega (arith, lies_size l p h, q, ap (λ (x : Offered). x.size) e)

module _ (l : List ℕ) (g : Progress) where
  pub short_lies : (g.offers ≡ 0 → ⊥) → offer_short l g ≡ false → lies l g.at ≡ true
  unfolding offer_short
  short_lies h p = grind (arith, nat_tests)

  pub time_room : (g.offers ≡ 0 → ⊥) → offer_short l g ≡ false → g.at + 4 ≤ length l
  time_room h p = time_at l g.at (short_lies h p)

module _ (l : List ℕ) (g : Progress) (a : List ℕ) where
  pub span_most : span_of l g a ≤ g.times
  unfolding span_of
  span_most = grind (arith, nat_tests)

  pub span_some : 0 < g.times → 0 < span_of l g a
  unfolding span_of
  span_some h = grind (arith, nat_tests)

-- ---- the refusals

module _ (l a : List ℕ) (room : ℕ) (g : Progress) (e : 0 ≡ move_refusal l a room g) where
  area_right : 0 ≡ area_refusal a
  unfolding move_refusal
  area_right = grind (arith, nat_tests)

  clock_room : clock_at a + g.times ≤ last_clock
  unfolding move_refusal
  clock_room = grind (arith, nat_tests)

  pub refusal_room_left : 2048 ≤ room
  unfolding move_refusal
  refusal_room_left = grind (arith, nat_tests)

  pub refusal_offers : offer_short l g ≡ false
  unfolding move_refusal
  refusal_offers = grind (arith, nat_tests)

  pub refusal_steps : Octets a → Runnable g.times a
  refusal_steps o = run_allowed a g.times (clock_at a) area_right o refl (omega (arith, clock_room))

-- ---- what is handed out

hand_is : (o x : List ℕ) (e : ℕ) (m : Moved) → written e x ≡ puts o 0 m.text
    → record { answer = accepted (e ∷ []); progress = m.progress; octets = m.octets; out = x } ≡ given o m
hand_is o x e m w =
    let n : e ≡ length m.text = omega (arith, ap (λ (z : Written). z.end) w) in
    λ i. record { answer = accepted (n i ∷ []); progress = m.progress; octets = m.octets; out = (w i).octets }

pub end_is : (o x a : List ℕ) (g : Progress) (e c : ℕ) → written e x ≡ puts o 0 (counted end_word c 10) → c ≡ clock_at a
    → record {
      answer = accepted (e ∷ []);
      progress = standing g.at g.offers 0 true;
      octets = a;
      out = x;
    } ≡ given o (last_piece g a)
unfolding last_piece end_line
end_is o x a g e c w q = hand_is o x e (last_piece g a) (w ∙ ap (λ (k : ℕ). puts o 0 (counted end_word k 10)) q)

pub made_is : (l x : List ℕ) (p : ℕ) (a b : List ℕ) (r : Answer) (o : Offered)
    → outcome r b ≡ offered a o.station o.destination o.value x → x ≡ offer_data l p o.size → o ≡ offer_in l p
    → outcome r b ≡ made l p a
unfolding made offer_in
made_is l x p a b r o h q e =
    h ∙ ap (offered a o.station o.destination o.value) q
    ∙ ap (λ (z : Offered). offered a z.station z.destination z.value (offer_data l p z.size)) e

module _ (l o : List ℕ) (p : ℕ) where
  pub offer_none : written 0 o ≡ puts o 0 (offer_line l p 0)
  unfolding offer_line
  offer_none = refl

  pub offer_refused : (x : List ℕ) (d t s n : ℕ) (e : Refusal) → written d x ≡ puts o 0 (line t s refused_word n)
      → s ≡ get_or l (p + 4) 0 → t ≡ get 4 l p → n ≡ refusal_number e
      → written d x ≡ puts o 0 (offer_line l p (refusal_number e))
  unfolding offer_line refused_offer
  offer_refused x d t s n e w q r z = rw (ne_eqb (refusal_number e) 0 (refusal_numbered e), ← q, ← r, ← z) w

pub offer_is : (l o x a b : List ℕ) (g : Progress) (z e : ℕ) (d : Result ⊤ Refusal)
    → outcome (done_answer d) b ≡ made l g.at a
    → written e x ≡ puts o 0 (offer_line l g.at (refusal_in d)) → z ≡ get 2 l (g.at + 13)
    → record {
      answer = accepted (e ∷ []);
      progress = standing (g.at + 15 + z) (g.offers - 1) g.times false;
      octets = b;
      out = x;
    } ≡ given o (offer_piece l g a)
unfolding offer_piece offer_text
offer_is l o x a b g z e d h w r =
    let m : refusal_in d ≡ number_of (made l g.at a).answer = ap (λ (y : Outcome). number_of y.answer) h in
    let s : b ≡ (made l g.at a).octets = ap (λ (y : Outcome). y.octets) h in
    (λ i. record {
      answer = accepted (e ∷ []);
      progress = standing (g.at + 15 + r i) (g.offers - 1) g.times false;
      octets = s i;
      out = x;
    })
    ∙ hand_is o x e (offer_piece l g a) (w ∙ ap (λ (k : ℕ). puts o 0 (offer_line l g.at k)) m)

-- ---- the bit times left

module _ (es : List Events) (i : ℕ) where
  pub late_hit : ends_run (get_or es i no_events).sent ≡ true → i < 16 → stops es ≡ true
  unfolding late_at
  late_hit r h = sym (some_hit (late_at es) 16 i (late_at es i) refl r h)

  pub late_more : ends_run (get_or es i no_events).sent ≡ false → some (late_at es) i ≡ false
      → some (late_at es) (i + 1) ≡ false
  unfolding late_at
  late_more r h = some_more (late_at es) i (late_at es i) refl r h

-- ---- the steps

pub fewer : (n m : ℕ) (a : List ℕ) → Runnable m a → n ≤ m → Runnable n a
unfolding Runnable
fewer n m a h p = (h.0, omega (arith, h.1))

piece_is : (g : Progress) (y : Stretched) (o x : List ℕ) (d t : ℕ)
    → written d x ≡ puts o 0 (step_lines (clock_at y.octets - 1) y.events 16)
    → t ≡ pick (stops y.events) 0 (g.times - y.steps)
    → record {
      answer = accepted (d ∷ []);
      progress = standing g.at g.offers t false;
      octets = y.octets;
      out = x;
    } ≡ given o (stretch_piece g y)
unfolding stretch_piece times_left
piece_is g y o x d t w r =
    (λ i. record {
      answer = accepted (d ∷ []);
      progress = standing g.at g.offers (r i) false;
      octets = y.octets;
      out = x;
    }) ∙ hand_is o x d (stretch_piece g y) w

module _ (l a : List ℕ) (g : Progress) (n : ℕ) (e : n ≡ span_of l g a) where
  pub span_runs : Runnable g.times a → Runnable n a
  span_runs h = fewer n g.times a h (omega (arith, span_most l g a))

  module _ (s : Stretch) (b : List ℕ) (f : stretch_of s b ≡ until_event n a) where
    pub steps_within : s.steps ≤ g.times
    steps_within = omega (arith, span_most l g a, stretch_steps n a, ap (λ (x : Stretched). x.steps) f)

    pub clock_some : (c : ℕ) → c ≡ clock_at b → Runnable g.times a → 0 < g.times → 1 ≤ c
    clock_some c q h p =
        omega (
          arith,
          q,
          ap (λ (x : Stretched). clock_at x.octets) f,
          stretch_clock n a
              (span_runs h),
          stretch_some n a (omega (arith, span_some l g a p)),
        )

    pub step_is : (o x : List ℕ) (c d t : ℕ) → c ≡ clock_at b → written d x ≡ puts o 0 (step_lines (c - 1) s.events 16)
        → t ≡ pick (stops s.events) 0 (g.times - s.steps)
        → record {
          answer = accepted (d ∷ []);
          progress = standing g.at g.offers t false;
          octets = b;
          out = x;
        } ≡ given o (step_piece l g a)
    step_is o x c d t q w r =
        let z : stretch_of s b ≡ until_event (span_of l g a) a = f ∙ ap (λ (k : ℕ). until_event k a) e in
        piece_is g (stretch_of s b) o x d t (w ∙ ap (λ (k : ℕ). puts o 0 (step_lines (k - 1) s.events 16)) q) r
        ∙ ap (λ (y : Stretched). given o (stretch_piece g y)) z

-- ---- a call

module _ (l : List ℕ) (g : Progress) (a : List ℕ) where
  pub move_ended : g.ended ≡ true → move l g a ≡ moved [] g a
  unfolding move
  move_ended h = rw h

  pub move_last : g.ended ≡ false → g.times ≡ 0 → move l g a ≡ last_piece g a
  unfolding move
  move_last h t = grind (arith, nat_tests)

  pub move_offer : g.ended ≡ false → (g.times ≡ 0 → ⊥) → is_due l g a ≡ true → move l g a ≡ offer_piece l g a
  unfolding move
  move_offer h t d = grind (arith, nat_tests)

  pub move_step : g.ended ≡ false → (g.times ≡ 0 → ⊥) → is_due l g a ≡ false → move l g a ≡ step_piece l g a
  unfolding move
  move_step h t d = grind (arith, nat_tests)

pub due_some : (l a : List ℕ) (g : Progress) → is_due l g a ≡ true → 0 < g.offers
unfolding is_due
due_some l a g h = grind (arith, nat_tests)

pub due_lies : (l a : List ℕ) (g : Progress) → is_due l g a ≡ true → offer_short l g ≡ false → lies l g.at ≡ true
due_lies l a g h p = short_lies l g (λ z. let q = due_some l a g h in omega arith) p

-- ---- the first piece

pub start_is : (l o x a b : List ℕ) (p : Plan) (e : ℕ) (ds : List (List ℕ)) → b ≡ fresh p.layout p.depth ds a
    → ds ≡ draws_in l p.drawn p.layout.count p.depth
    → written e x ≡ puts o 0 (first_text p.layout)
    → record {
      answer = accepted (e ∷ []);
      progress = standing p.first p.offers p.times false;
      octets = b;
      out = x;
    } ≡ given o (start_piece l (plan_reading (Ok p)) a)
unfolding start_piece start_area
start_is l o x a b p e ds h q w =
    let s : b ≡ start_area l (plan_reading (Ok p)) a = h ∙ ap (λ (d : List (List ℕ)). fresh p.layout p.depth d a) q in
    (λ i. record {
      answer = accepted (e ∷ []);
      progress = standing p.first p.offers p.times false;
      octets = s i;
      out = x;
    }) ∙ hand_is o x e (start_piece l (plan_reading (Ok p)) a) w

module _ (l : List ℕ) (p : Plan) (e : plan_reading (Ok p) ≡ plan_as_read l) where
  passed : number_of (plan_as_read l).answer ≡ 0
  passed = sym (ap (λ (r : Planned). number_of r.answer) e)

  pub start_few : p.layout.count ≤ max_stations
  start_few = (reading_right l p e).sound.count.1

  pub start_some : 0 < p.layout.count
  start_some = omega (arith, (reading_right l p e).sound.count.0)

  pub start_shallow : p.depth ≤ max_draws
  start_shallow = (reading_right l p e).depth.1

  pub start_draws : p.drawn + 2 * (p.layout.count * p.depth) ≤ length l
  start_draws = (reading_right l p e).draws

-- ---- an area longer than one must be

pub front_long : (a : List ℕ) → area_size ≤ length a → length (take area_size a) ≡ area_size
front_long a h = length-take-le area_size a h

-- ---- what the functions' proofs go by

pub ruleset lates = (some_none, some_end, late_hit, late_more)

pub ruleset tests = (nat_tests)

pub ruleset times = (nat_tests, time_room)

pub ruleset checks = (nat_tests, clock_within, err_from_is_err_and)

pub ruleset refusals = (nat_tests, refusal_numbered)

pub ruleset fronts = (nat_tests, front_long)

pub ruleset offers = (nat_tests, refusal_numbered, offer_room, lies_size, offer_refused)

pub ruleset steps = (nat_tests, span_runs, steps_within, clock_some, step_is)

pub ruleset moves = (move_ended, move_last, move_offer, move_step, due_some, due_lies)

pub ruleset rights = (refusal_room_left, refusal_offers, refusal_steps)

pub ruleset advances = (refusals, err_from_is_err_and, moves, rights)
