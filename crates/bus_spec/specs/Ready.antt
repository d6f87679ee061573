-- What an area must be for a step without checks 1 and 2: those checks give it, and a step keeps it. The turns of such
-- a step are in proofs/ReadyTurns. Assumes nothing.
use Rattle.std.specs.Prelude.{ℕ, ◌≤◌, ◌<◌, ◌≡◌, Bool, true, false, ◌||◌, List, ltb}
use Rattle.std.proofs.Common.{sym, ◌∙◌, arith, ltb-true}
use Rattle.std.proofs.Math.Path.{ap, subst}
use Rattle.std.proofs.Math.ListN.{length}
use Rattle.octets.specs.BaseLaws.{by_test}
use Rattle.octets.specs.Store.{length_part}
use Rattle.octets.specs.WordsLaws.{Small}
use Rattle.sheet_layout.specs.declared.Figures.{Figures}
use Rattle.sheet_layout.specs.CheckLaws.{Figured}
use Rattle.sheet_layout.specs.Check.{refusal_of}
use Rattle.station_symbols.specs.declared.Heard.{Heard}
use Rattle.station_symbols.specs.declared.Heard.TheVariants.{Nothing, Clean, Spoiled}
use Rattle.station_state.specs.declared.Receiver.{Receiver}
use Rattle.station_state.specs.declared.Receiver.TheVariants.{Listening, Readable, Seeking, Collecting}
use Rattle.station_spec.specs.Receive.{stored_bit, seek, seek_bit, collect, collect_bit, hear, addressed, opening}
use Rattle.station_spec.specs.Receive.{decide, ended, receive}
use Rattle.station_spec.specs.Transmit.{octets_held}
use Rattle.station_state.specs.declared.Station.{Station}
use Rattle.station_spec.specs.Step.{Roomy, stepped}
use Rattle.area.specs.Area.{clock_at, depth_at, figures_at, count_at, layout_at, counters_at, station_at, buffer_at, symbol_at}
use Rattle.area.specs.Area.{arrival_at, max_code}
use Rattle.bus_spec.specs.declared.Act.{Act}
use Rattle.bus_spec.specs.declared.Events.{Events}
use Rattle.bus_spec.specs.BitTime.{outcome_in, act_in, act_at, turned_in, events_in, advanced_in}
use Rattle.bus_spec.specs.BitTime.{step_area, events_at}
use Rattle.bus_spec.specs.Range.{Fine, fine_room, held_small}
use Rattle.bus_spec.specs.InPlace.{Kept, Spread}
use Rattle.sheet_layout.specs.Limits.{last_clock, max_stations, max_draws}
use Rattle.area.specs.Offsets.{area_size, from, the_buffer, frame_room}
use Rattle.frame_build.specs.Limits.{buffer_octets, buffer_bits, shortest_frame}

-- ---- what each station must be

pub record CanAct (f : Figures) (s : Station) : Type 0 where
  pub room : Roomy f s buffer_octets
  pub draw : s.draw < max_draws
  pub held : octets_held s.transmitter s.frame ≤ buffer_octets

-- shut, so that a search does not enter them
unfoldable pub Able : Figures → List ℕ → ℕ → Type 0
Able f a i = CanAct f (station_at a i)

unfoldable pub AllAble : ℕ → Figures → List ℕ → Type 0
AllAble n f a = Spread n a × ((i : ℕ) → i < n → CanAct f (station_at a i))

module _ (f : Figures) (a : List ℕ) (i : ℕ) (s : Station) (p : Able f a i) (e : s ≡ station_at a i) where
  can : CanAct f s
  unfolding Able
  can = subst (CanAct f) (sym e) p

  pub able_draw : s.draw < max_draws
  able_draw = can.draw

  pub able_held : (z : ℕ) → z ≡ octets_held s.transmitter s.frame → z ≤ frame_room
  able_held z q = omega (arith, can.held)

  pub able_room : (b : List ℕ) → b ≡ buffer_at a i → i < max_stations → area_size ≤ length a → Roomy f s (length b)
  unfolding buffer_at
  able_room b q h g =
      let n : length b ≡ buffer_octets = ap length q ∙ length_part a (from (the_buffer i)) buffer_octets (omega arith) in
      subst (Roomy f s) (sym n) can.room

-- ---- a bit that is stored is one that the buffer holds

pub stored_kept : (n : ℕ) (b : Bool) → Kept (stored_bit n b)
unfolding stored_bit
stored_kept n b = by_test (ltb n buffer_bits) (λ c. rw c (ltb-true n buffer_bits c)) (λ c. rw c tt)

seek_kept : (row : ℕ) (sp own clean b : Bool) → Kept (seek row sp own clean b).stored
unfolding seek seek_bit
seek_kept row sp own true b = tt
seek_kept row sp own false b = tt

hear_kept : (x : Receiver) (clean b e : Bool) → Kept (hear x clean b e).stored
unfolding hear collect collect_bit
hear_kept Listening clean b e = seek_kept 1 false e clean b
hear_kept (Readable n) clean b e = seek_kept 1 false e clean b
hear_kept (Seeking row sp own) clean b e = seek_kept row sp (own || e) clean b
hear_kept (Collecting n sp own) clean b e = stored_kept n b

decide_kept : (address buffer : List ℕ) (n : ℕ) (sp own : Bool) → Kept (decide address buffer n sp own).stored
unfolding decide opening
decide_kept address buffer n sp own =
    by_test (ltb n shortest_frame)
    (λ c. rw c tt)
    (λ c. by_test own (λ o. rw (c, o) tt)
    (λ o. by_test (addressed address buffer) (λ b. rw (c, o, b) tt) (λ b. rw (c, o, b) tt)))

ended_kept : (address buffer : List ℕ) (x : Receiver) → Kept (ended address buffer x).stored
unfolding ended
ended_kept address buffer Listening = tt
ended_kept address buffer (Readable n) = tt
ended_kept address buffer (Seeking row sp own) = tt
ended_kept address buffer (Collecting n sp own) = decide_kept address buffer n sp own

pub receive_kept : (address buffer : List ℕ) (x : Receiver) (h : Heard) (e : Bool)
    → Kept (receive address buffer x h e).stored
unfolding receive
receive_kept address buffer x Nothing e = ended_kept address buffer x
receive_kept address buffer x (Clean b) e = hear_kept x true b e
receive_kept address buffer x Spoiled e = hear_kept x false false e

pub kept : (f : Figures) (d t : ℕ) (a : List ℕ) (i : ℕ) → Kept (act_in f d t a i).outcome.stored
unfolding act_in outcome_in stepped
kept f d t a i = receive_kept (station_at a i).address (buffer_at a i) (station_at a i).receiver (arrival_at a i t) _

pub kept_at : (a : List ℕ) (i : ℕ) → i < count_at a → Kept (act_at a i).outcome.stored
unfolding act_at
kept_at a i h = kept (figures_at a) (depth_at a) (clock_at a) a i

pub acts_kept : (f : Figures) (d t : ℕ) (a : List ℕ) (i : ℕ) (r : Act) → r ≡ act_in f d t a i → Kept r.outcome.stored
acts_kept f d t a i r e = subst (λ (x : Act). Kept x.outcome.stored) (sym e) (kept f d t a i)

-- ---- the area

pub record Readiness (a : List ℕ) : Type 0 where
  pub long : area_size ≤ length a
  pub sound : refusal_of (layout_at a) ≡ 0
  pub figures : Figured (figures_at a)
  pub spread : Spread (count_at a) a
  pub depth : (1 ≤ depth_at a) × (depth_at a ≤ max_draws)
  pub clock : clock_at a ≤ last_clock
  pub fine : (i : ℕ) → i < count_at a → Fine (figures_at a) (depth_at a) (clock_at a) (station_at a i)
  pub codes : (i u : ℕ) → i < count_at a → symbol_at a i u ≤ max_code
  pub counts : (i : ℕ) → i < count_at a → Small (counters_at a i)

-- shut, so that a search does not enter it
unfoldable pub Ready : List ℕ → Type 0
Ready a = Readiness a

ready_can : (a : List ℕ) → Readiness a → (i : ℕ) → i < count_at a → CanAct (figures_at a) (station_at a i)
ready_can a r i h =
    let v = r.fine i h in
    record {
      room =
          fine_room (figures_at a) r.figures (depth_at a) (clock_at a) (station_at a i) r.depth.1
          (omega (arith, r.clock)) v buffer_octets (omega arith);
      draw = omega (arith, v.draw, r.depth);
      held = held_small (station_at a i).frame (station_at a i).transmitter v.frame;
    }

pub ready_few : (a : List ℕ) (n : ℕ) → n ≡ count_at a → Ready a → n ≤ max_stations
unfolding Ready
ready_few a n e r = omega (arith, r.spread.few)

pub ready_able : (a : List ℕ) (n : ℕ) (f : Figures) → n ≡ count_at a → f ≡ figures_at a → Ready a → AllAble n f a
unfolding Ready AllAble
ready_able a n f e g r = rw (e, g) (r.spread, ready_can a r)

pub step_is : (f : Figures) (d n t : ℕ) (a b : List ℕ) → b ≡ advanced_in f d n t a → n ≡ count_at a → t ≡ clock_at a
    → d ≡ depth_at a → f ≡ figures_at a → b ≡ step_area a
unfolding advanced_in turned_in step_area act_at
step_is f d n t a b p en et ed ef = p ∙ rw (en, et, ed, ef)

pub step_events : (f : Figures) (d n t : ℕ) (a : List ℕ) (es : List Events) → es ≡ events_in f d t a n → n ≡ count_at a
    → t ≡ clock_at a → d ≡ depth_at a → f ≡ figures_at a
    → es ≡ events_at a
unfolding events_in events_at act_at
step_events f d n t a es p en et ed ef = p ∙ rw (en, et, ed, ef)

pub ruleset stepping = (ready_few, ready_able, step_events)
