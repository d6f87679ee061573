-- What a station emits by a plan is what its deference and transmitter alone say, on whether anything is heard. So a plan
-- holds where each of them says what the plan does. Assumes nothing.
use Prim.Native.Nat.{ℕ, zero, suc, ◌+◌, ◌≤◌, ◌<◌}
use Rattle.std.specs.Prelude.{◌≡◌, refl, Bool, false, length}
use Rattle.std.proofs.Common.{sym, ◌∙◌, arith}
use Rattle.std.proofs.Math.Path.{ap, ap₂}
use mathlib.Core.List.{List}
use Rattle.octets.specs.Turns.{turns}
use Rattle.sheet_layout.specs.declared.Figures.{Figures}
use Rattle.station_symbols.specs.declared.Heard.{Heard}
use Rattle.station_symbols.specs.declared.Emission.{Emission}
use Rattle.station_symbols.specs.Packet.{hears_any, symbol_of}
use Rattle.station_state.specs.declared.Station.{Station}
use Rattle.station_spec.specs.declared.Stepped.{Stepped}
use Rattle.station_spec.specs.declared.Transmitted.{Transmitted}
use Rattle.station_spec.specs.Transmit.{octets_held}
use Rattle.station_spec.specs.Step.{next_station, stepped}
use Rattle.area.specs.Area.{clock_at, depth_at, draw_at, figures_at, count_at, station_at, frame_at, buffer_at}
use Rattle.area.specs.AreaLaws.{draw_by, frame_by}
use Rattle.bus_spec.specs.declared.Act.{Act}
use Rattle.bus_spec.specs.Range.{held_small}
use Rattle.bus_spec.specs.Ready.{Readiness}
use Rattle.fast_plan.specs.Own.{outcome_on, act_on, by_itself, by_itself_more, by_itself_none, length_itself, itself_stays}
use Rattle.fast_plan.specs.Plan.{Plan, hears, own_after, act_after, Holds}
use Rattle.fast_plan.specs.Prefix.{Unhurt}
use Rattle.fast_segment.specs.Alone.{Moves, turn_station, itself_moves}
use Rattle.fast_talk.specs.Talk.{Talker, talker_of, sending_on, talked, talked_by, carrier_at, talker_at, said_at}
use Rattle.fast_talk.specs.Talk.{symbol_said}
use Rattle.station_tally.specs.Words.{ends_run}
use Rattle.area.specs.Offsets.{area_size, frame_room}
use Rattle.sheet_layout.specs.Limits.{last_clock, max_draws, max_stations}

-- ---- a step

pub talked_step : (f : Figures) (s : Station) (draws draw : ℕ) (buffer : List ℕ) (h : Heard)
    → talker_of (stepped f s draws draw buffer h).station ≡ talked f draws draw (hears_any h) (talker_of s)
unfolding talker_of talked stepped next_station
talked_step f s draws draw buffer h = refl

pub said_step : (f : Figures) (s : Station) (draws draw : ℕ) (buffer : List ℕ) (h : Heard)
    → (stepped f s draws draw buffer h).emission ≡ (sending_on f (talker_of s) draw (hears_any h)).emission
unfolding talker_of stepped
said_step f s draws draw buffer h = refl

pub event_step : (f : Figures) (s : Station) (draws draw : ℕ) (buffer : List ℕ) (h : Heard)
    → (stepped f s draws draw buffer h).sent ≡ (sending_on f (talker_of s) draw (hears_any h)).event
unfolding talker_of stepped
event_step f s draws draw buffer h = refl

draw_of_lem : (s : Station) → s.draw ≡ (talker_of s).draw
unfolding talker_of
draw_of_lem s = refl

held_of : (s : Station) → octets_held s.transmitter s.frame ≡ octets_held (talker_of s).transmitter
    (talker_of s).frame
unfolding talker_of
held_of s = refl

-- ---- many steps

module _ (f : Figures) (D i t : ℕ) (a : List ℕ) (v : Moves f D i t a) (H : ℕ → Heard) where
  C : ℕ → Bool
  C s = hears_any (H s)

  after : ℕ → List ℕ
  after m = by_itself f D i H m a

  -- its draws and its frame stay
  drawn : (m k : ℕ) → k < max_draws → draw_at (after m) i k ≡ draw_at a i k
  unfolding after
  drawn m k h = draw_by (after m) a i k v.index h (itself_stays f D i H m a v.index).draws

  framed : (m z : ℕ) → z ≤ frame_room → frame_at (after m) i z ≡ frame_at a i z
  unfolding after
  framed m z h =
      frame_by (after m) a i z v.index h (omega (arith, length_itself f D i H m a, v.room)) v.room
      (itself_stays f D i H m a v.index).frame

  there : ℕ → Station
  there m = station_at (after m) i

  module _ (m : ℕ) (early : t + m < 4294967294) where
    moves : Moves f D i (t + m) (after m)
    unfolding after
    moves = itself_moves f D i H m t a (omega arith) v

    small : (there m).draw < max_draws
    unfolding there
    small = omega (arith, moves.fine.draw, v.depth)

    step_draw : draw_at (after m) i (there m).draw ≡ draw_at a i (talker_of (there m)).draw
    step_draw = drawn m (there m).draw small ∙ ap (draw_at a i) (draw_of_lem (there m))

    -- one turn more
    turned : there (suc m) ≡ (act_on f D i (H m) (after m)).outcome.station
    unfolding there after
    turned =
        ap (λ (x : List ℕ). station_at x i) (by_itself_more f D i H m a)
        ∙ turn_station f D i (H m) (t + m) (after m) moves (omega arith)

    talk_step : talker_of (there (suc m))
        ≡ talked f D (draw_at a i (talker_of (there m)).draw) (C m) (talker_of (there m))
    unfolding there act_on outcome_on C
    talk_step =
        ap talker_of turned
        ∙ talked_step f (there m) D (draw_at (after m) i (there m).draw) (buffer_at (after m) i) (H m)
        ∙ ap (λ (w : ℕ). talked f D w (C m) (talker_of (there m))) step_draw

    talk_emission : (act_on f D i (H m) (after m)).outcome.emission
        ≡ (sending_on f (talker_of (there m)) (draw_at a i (talker_of (there m)).draw) (C m)).emission
    unfolding there act_on outcome_on C
    talk_emission =
        said_step f (there m) D (draw_at (after m) i (there m).draw) (buffer_at (after m) i) (H m)
        ∙ ap (λ (w : ℕ). (sending_on f (talker_of (there m)) w (C m)).emission) step_draw

    talk_event : (act_on f D i (H m) (after m)).outcome.sent
        ≡ (sending_on f (talker_of (there m)) (draw_at a i (talker_of (there m)).draw) (C m)).event
    unfolding there act_on outcome_on C
    talk_event =
        event_step f (there m) D (draw_at (after m) i (there m).draw) (buffer_at (after m) i) (H m)
        ∙ ap (λ (w : ℕ). (sending_on f (talker_of (there m)) w (C m)).event) step_draw

    held : octets_held (there m).transmitter (there m).frame ≤ frame_room
    unfolding there
    held = omega (arith, held_small (there m).frame (there m).transmitter moves.fine.frame)

    talk_symbol : (act_on f D i (H m) (after m)).symbol
        ≡ symbol_of (frame_at a i (octets_held (talker_of (there m)).transmitter (talker_of (there m)).frame))
        (act_on f D i (H m) (after m)).outcome.emission
    unfolding there act_on outcome_on
    talk_symbol =
        ap (λ (l : List ℕ). symbol_of l (act_on f D i (H m) (after m)).outcome.emission)
        (framed m (octets_held (there m).transmitter (there m).frame) held
        ∙ ap (frame_at a i) (held_of (there m)))

  talk_by : (m : ℕ) → t + m < 4294967295
      → talker_of (there m) ≡ talked_by f D (draw_at a i) C m (talker_of (station_at a i))
  unfolding talked_by turns there after
  talk_by zero h = ap (λ (x : List ℕ). talker_of (station_at x i)) (by_itself_none f D i H a)
  talk_by (suc m) h =
      talk_step m (omega arith)
      ∙ ap (λ (u : Talker). talked f D (draw_at a i u.draw) (C m) u) (talk_by m (omega arith))

-- ---- by a plan

module _ (a : List ℕ) (P : Plan) (r : Readiness a) (i s : ℕ) (hi : i < count_at a)
    (early : clock_at a + s ≤ last_clock) where
  moving : Moves (figures_at a) (depth_at a) i (clock_at a) a
  moving =
      record {
        figured = r.figures;
        depth = r.depth;
        index = omega (arith, r.spread.few);
        room = r.long;
        fine = r.fine i hi;
      }

  is_talker : talker_of (station_at (own_after a P i s) i) ≡ talker_at a P i s
  unfolding talker_at own_after carrier_at there after C
  is_talker = talk_by (figures_at a) (depth_at a) i (clock_at a) a moving (hears a P i) s (omega arith)

  -- Theorem 8: what it emits, and its transmit event
  pub said_symbol : (act_after a P i s).symbol ≡ symbol_said a P i s
  unfolding act_after own_after symbol_said said_at carrier_at there after C
  said_symbol =
      talk_symbol (figures_at a) (depth_at a) i (clock_at a) a moving (hears a P i) s (omega arith)
      ∙ ap₂ (λ (u : Talker) (e : Emission). symbol_of (frame_at a i (octets_held u.transmitter u.frame)) e)
      is_talker
      (talk_emission (figures_at a) (depth_at a) i (clock_at a) a moving (hears a P i) s (omega arith)
      ∙ ap (λ (u : Talker). (sending_on (figures_at a) u (draw_at a i u.draw) (carrier_at a P i s)).emission) is_talker)

  pub said_event : (act_after a P i s).outcome.sent ≡ (said_at a P i s).event
  unfolding act_after own_after said_at carrier_at there after C
  said_event =
      talk_event (figures_at a) (depth_at a) i (clock_at a) a moving (hears a P i) s (omega arith)
      ∙ ap (λ (u : Talker). (sending_on (figures_at a) u (draw_at a i u.draw) (carrier_at a P i s)).event) is_talker

-- a plan holds where each says what it has
pub talk_holds : (a : List ℕ) (P : Plan) (K : ℕ) → Readiness a → clock_at a + K ≤ last_clock
    → ((i s : ℕ) → i < count_at a → s < K → symbol_said a P i s ≡ P i s) → Holds a P K
unfolding Holds
talk_holds a P K r early h s i hs hi = said_symbol a P r i s hi (omega arith) ∙ h i s hi hs

pub talk_unhurt : (a : List ℕ) (P : Plan) (K : ℕ) → Readiness a → clock_at a + K ≤ last_clock
    → ((i s : ℕ) → i < count_at a → s < K → ends_run (said_at a P i s).event ≡ false) → Unhurt a P K
unfolding Unhurt
talk_unhurt a P K r early h s i hs hi =
    ap ends_run (said_event a P r i s hi (omega arith)) ∙ h i s hi hs
