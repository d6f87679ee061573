-- The turns of a step, of an area that is ready (the specs' Ready): in its turn a station is still what it was before
-- the step. Assumes nothing.
use Rattle.std.specs.Prelude.{ℕ, ◌+◌, ◌≤◌, ◌<◌, ◌≡◌, List, set}
use Rattle.std.proofs.Common.{sym, ◌∙◌, arith}
use Rattle.std.proofs.Math.Path.{ap, subst}
use Rattle.std.proofs.Math.ListN.{length}
use Rattle.octets.specs.Filled.{filled_more}
use Rattle.octets.specs.Turns.{turns_more}
use Rattle.sheet_layout.specs.declared.Figures.{Figures}
use Rattle.area.specs.Area.{station_at}
use Rattle.area.specs.AreaLaws.{station_by}
use Rattle.bus_spec.specs.declared.Act.{Act}
use Rattle.bus_spec.specs.declared.Events.{Events}
use Rattle.bus_spec.specs.BitTime.{act_in, settled, turned_in, turn_in, events_in}
use Rattle.bus_spec.specs.BitTime.{events_of, no_events}
use Rattle.bus_spec.specs.InPlace.{Ahead, same_act, length_turned}
use Rattle.bus_spec.proofs.InPlace.{ahead_all}
use Rattle.area.specs.Offsets.{area_size}
use Rattle.bus_spec.specs.Ready.{CanAct, Able, AllAble, kept}

-- ---- the turns

module _ (f : Figures) (d n t i : ℕ) (a x : List ℕ) (v : AllAble n f a) (hi : i < n) (room : area_size ≤ length a)
    (e : x ≡ turned_in f d n t a i) where
  behind : Ahead t i a x
  unfolding turned_in AllAble
  behind = subst (Ahead t i a) (sym e) (ahead_all n t i (act_in f d t a) a v.0 (λ k h. kept f d t a k) (omega arith))

  long : length x ≡ length a
  long = ap length e ∙ length_turned f d n t a i

  -- in its turn a station is still what it was before the step, and acts as it does there
  pub turn_able : Able f x i
  unfolding Able AllAble
  turn_able =
      let few = v.0.few in
      let s : station_at x i ≡ station_at a i = station_by x a i (omega arith) (omega (arith, long)) room behind.plan
      (behind.record_of i (omega arith) (omega arith)) in
      subst (CanAct f) (sym s) (v.1 i hi)

  pub acts_same : act_in f d t x i ≡ act_in f d t a i
  unfolding AllAble
  acts_same =
      let few = v.0.few in
      same_act f d t i i a x (omega arith) (omega arith) room long (v.1 i hi).draw
      (omega (arith, (v.1 i hi).held)) behind

  pub turn_next : (b : List ℕ) → b ≡ turn_in f d n t i x → b ≡ turned_in f d n t a (i + 1)
  unfolding turn_in turned_in
  turn_next b p =
      turns_more (λ j y. settled n t j (act_in f d t a j) y) i a x b
      (p ∙ ap (λ (r : Act). settled n t i r x) acts_same) e

  pub events_next : (r : Events) (es : List Events) → r ≡ events_of (act_in f d t x i) → es ≡ events_in f d t a i
      → set es i r ≡ events_in f d t a (i + 1)
  unfolding events_in AllAble
  events_next r es p q =
      filled_more no_events (λ j. events_of (act_in f d t a j)) i n es r (p ∙ ap events_of acts_same) hi v.0.few q
