-- A window on the area: its stations, its lines, its clock; and that it is so many steps. Assumes nothing.
use Rattle.std.specs.Prelude.{ℕ, ◌+◌, ◌≤◌, ◌<◌, ◌≡◌, refl, Some, None, length, take, get_or}
use Rattle.std.proofs.Math.Path.{sym, ap, subst}
use Rattle.std.proofs.Common.{◌∙◌, arith, length-take, get_or-take}
use Rattle.octets.specs.Filled.{filled_at}
use Rattle.fast_heard.specs.declared.Sight.{Sight}
use Rattle.fast_heard.specs.Sights.{sight_of, unseen, sights_of}
use mathlib.Core.List.{List}
use Rattle.octets.specs.Turns.{turns_none, turns_more, turns_end}
use Rattle.sheet_layout.specs.declared.Figures.{Figures}
use Rattle.area.specs.Area.{clock_at, with_clock, depth_at, figures_at, count_at}
use Rattle.bus_spec.specs.BitTime.{step_area}
use Rattle.bus_spec.specs.Ready.{Ready}
use Rattle.bus_spec.specs.RunLaws.{Runnable}
use Rattle.fast_plan.specs.Plan.{steps}
use Rattle.fast_plan.specs.Calm.{AllCalm}
use Rattle.fast_plan.proofs.Calm.{calm_holds}
use Rattle.fast_plan.specs.Exact.{own_all}
use Rattle.fast_plan.specs.Placed.{lines_done}
use Rattle.fast_plan.specs.Turned.{turned_of}
use Rattle.fast_plan.proofs.Turned.{steps_turned}
use Rattle.fast_heard.specs.Hearing.{plan_of, emits_at}
use Rattle.fast_lines.specs.declared.Emitter.{Emitter}
use Rattle.fast_lines.specs.Lines.{emitters_of, plan_by, Settles}
use Rattle.fast_lines.specs.LinesLaws.{moved_settles, moved_lines}
use Rattle.fast_bound.specs.Bound.{AllLast, ReadFrom, Sighted}
use Rattle.fast_window.specs.Window.{Begins, settled_of, Lasting, Passed}
use Rattle.sheet_layout.specs.Limits.{last_clock, max_stations}

pub begins : (a : List ℕ) (f : Figures) (d n t c : ℕ) → Ready a → f ≡ figures_at a → d ≡ depth_at a → c ≡ count_at a
    → n ≡ c → t ≡ clock_at a → Begins a f d n t
unfolding Begins Ready
begins a f d n t c r ef ed ec en et = record { ready = r; figures = ef; depth = ed; count = en ∙ ec; clock = et }

module _ (a : List ℕ) (f : Figures) (d n t r : ℕ) (v : Begins a f d n t) (es : List Emitter) (ee : es ≡ emitters_of a n)
    (y : List ℕ) (ey : y ≡ own_all a (plan_of a) r n a) where
  count : n ≡ count_at a
  unfolding Begins
  count = v.count

  pub steps_settles : t + r ≤ last_clock → Lasting a r → Settles n t r es y
  unfolding Begins Lasting AllLast emits_at
  steps_settles early l =
      subst (λ (q : List Emitter). Settles n t r q y) (sym ee)
      (subst (Settles n t r (emitters_of a n)) (sym ey)
      (rw (count, v.clock) (moved_settles a v.ready (plan_of a) r (omega (arith, v.clock)) l.lasts)))

  pub steps_settled : (z : List ℕ) → z ≡ lines_done y (plan_by y es) r n y → z ≡ settled_of a r
  unfolding Begins settled_of
  steps_settled z ez =
      let e : y ≡ own_all a (plan_of a) r (count_at a) a = ey ∙ ap (λ (k : ℕ). own_all a (plan_of a) r k a) count in
      ez ∙ rw (ee, count) (rw e (moved_lines a v.ready (plan_of a) r (own_all a (plan_of a) r (count_at a) a)))

module _ (a : List ℕ) (f : Figures) (d n t : ℕ) (v : Begins a f d n t) where
  pub begins_read : ReadFrom a f n t
  unfolding Begins ReadFrom
  begins_read = record { ready = v.ready; figures = v.figures; count = v.count; clock = v.clock }

  pub begins_clock : t ≡ clock_at a
  unfolding Begins
  begins_clock = v.clock

-- what is seen of the first n places is what each of n stations hears of
module _ (a : List ℕ) (n : ℕ) (ws : List Sight) (e : ws ≡ sights_of a n) (el : length ws ≡ 16) (few : n ≤ max_stations) where
  seen_long : length (take n ws) ≡ n
  seen_long = omega (arith, length-take n ws)

  pub seen_few : length (take n ws) ≤ max_stations
  seen_few = omega (arith, seen_long)

  pub seen_sighted : Sighted a (take n ws)
  unfolding Sighted sights_of
  seen_sighted j d h =
      let lt : j < n = omega (arith, seen_long) in
      get_or-take n ws j d lt ∙ ap (λ (q : List Sight). get_or q j d) e
      ∙ filled_at unseen (sight_of a n) n j d lt
      ∙ ap (λ (k : ℕ). sight_of a k j) (sym seen_long)

  pub seen_begins : (f : Figures) (d t : ℕ) → Begins a f d n t → Begins a f d (length (take n ws)) t
  seen_begins f d t v = subst (λ (k : ℕ). Begins a f d k t) (sym seen_long) v

  pub seen_read : (f : Figures) (d t : ℕ) → Begins a f d n t → ReadFrom a f (length (take n ws)) t
  seen_read f d t v = begins_read a f d (length (take n ws)) t (seen_begins f d t v)

pub window_made : (a : List ℕ) (f : Figures) (d n t r : ℕ) (z b : List ℕ) → Begins a f d n t → z ≡ settled_of a r
    → b ≡ with_clock z (t + r) → b ≡ turned_of a (plan_of a) r
unfolding settled_of turned_of
window_made a f d n t r z b v ez eb = let et = begins_clock a f d n t v in eb ∙ rw (ez, et)

module _ (a : List ℕ) (m r : ℕ) where
  pub lasting : AllLast a r → 12 ≤ r → Lasting a r
  unfolding Lasting
  lasting l h = record { some = omega arith; lasts = l }

  pub pass_some : (f : Figures) (d n t : ℕ) (b : List ℕ) → Begins a f d n t → t + m ≤ last_clock → AllCalm a (plan_of a) r
      → r ≤ m → 12 ≤ r → b ≡ turned_of a (plan_of a) r → Passed m (Some r) a b
  unfolding Passed Begins
  pass_some f d n t b v early calm h pos eb =
      record {
        some = omega arith;
        within = h;
        calm = calm;
        made =
            eb ∙ sym (steps_turned a (plan_of a) r (omega arith) v.ready (omega (arith, v.clock))
            (calm_holds a (plan_of a) r calm));
      }

  pub pass_singly : (b : List ℕ) → AllCalm a (plan_of a) r → r ≤ m → 0 < r → b ≡ steps r a → Passed m (Some r) a b
  unfolding Passed
  pass_singly b calm h pos eb = record { some = pos; within = h; calm = calm; made = eb }

  -- where there are as many as a window has at the least
  pub pass_least : (b : List ℕ) → AllCalm a (plan_of a) r → r ≤ m → 2 ≤ r → b ≡ steps r a → Passed m (Some r) a b
  pass_least b calm h two eb = pass_singly b calm h (omega arith) eb

pub single_runs : (a : List ℕ) (f : Figures) (d n t m r : ℕ) → Begins a f d n t → t + m ≤ last_clock → r ≤ m
    → Runnable r a
unfolding Begins Runnable
single_runs a f d n t m r v early h = (v.ready, omega (arith, v.clock))

module _ (a : List ℕ) where
  pub single_none : a ≡ steps 0 a
  unfolding steps
  single_none = turns_none _ a

  pub single_more : (s : ℕ) (x y : List ℕ) → y ≡ step_area x → x ≡ steps s a → y ≡ steps (s + 1) a
  unfolding steps
  single_more s x y e h = turns_more _ s a x y e h

  pub single_end : (r s : ℕ) (x : List ℕ) → s ≤ r → r ≤ s → x ≡ steps s a → x ≡ steps r a
  unfolding steps
  single_end r s x p q h = turns_end _ r s a x p q h

pub pass_none : (a : List ℕ) (m : ℕ) → Passed m None a a
unfolding Passed
pass_none a m = refl
