-- The area is the encoding of a world: the same clock, stations, frames and buffers, and in each delay line what the
-- emissions so far will come to. A step keeps it. Assumes nothing.
use Prim.Native.Nat.{ℕ, suc, ◌+◌, ◌-◌, ◌≤◌, ◌<◌}
use Rattle.std.specs.Prelude.{◌≡◌, Bool, true}
use Rattle.std.proofs.Math.Path.{refl, sym, ap, ap₂, subst}
use Rattle.std.proofs.Common.{◌∙◌, true≢false}
use mathlib.Core.List.{List}
use native.Mathlib.Omega.{arith}
use Rattle.std.proofs.Math.Numerals.{add-one}
use Rattle.std.proofs.Math.ListN.{length}
use Rattle.octets.specs.BaseLaws.{by_eq}
use Rattle.octets.specs.Turns.{turns}
use Rattle.sheet_layout.specs.declared.Figures.{Figures}
use Rattle.station_symbols.specs.declared.Heard.{Heard}
use Rattle.station_symbols.specs.declared.Symbol.{Symbol}
use Rattle.station_symbols.specs.declared.Emission.{Emission}
use Rattle.station_symbols.specs.declared.Emission.TheVariants.{Rest}
use Rattle.station_symbols.specs.Packet.{symbol_of, hears_any}
use Rattle.station_state.specs.declared.Transmitter.{Transmitter}
use Rattle.station_state.specs.declared.Transmitter.TheVariants.{NoFrame, Waiting, BackingOff, Sending, Heading}
use Rattle.station_state.specs.declared.Transmitter.TheVariants.{Jamming}
use Rattle.station_spec.specs.Transmit.{octets_held, transmit}
use Rattle.station_state.specs.declared.Station.{Station}
use Rattle.station_spec.specs.declared.Stepped.{Stepped}
use Rattle.station_spec.specs.Step.{tries_after, deferring, stepped, next_station}
use Rattle.area.specs.Places.{clock, depth, layout, draws, station, frame, buffer, place, Keeps}
use Rattle.area.specs.Area.{clock_at, depth_at, draw_at, figures_at, count_at, address_at, space_at, station_at, frame_at}
use Rattle.area.specs.Area.{buffer_at, arrival_at, met}
use Rattle.area.specs.AreaLaws.{depth_by, draw_by, figures_by, count_by, address_by, space_by, frame_by, arrival_by}
use Rattle.area.specs.AreaLaws.{arrival_turn, clock_keeps}
use Rattle.bus_spec.specs.BitTime.{outcome_in, act_in, act_at, settled, step_area}
use Rattle.bus_spec.specs.Range.{FrameIn}
use Rattle.bus_spec.specs.Ready.{Readiness, kept_at}
use Rattle.bus_spec.specs.After.{stored_in}
use Rattle.bus_spec.proofs.Stays.{step_length, step_layout, step_depth, step_draws, step_frame, step_clock}
use Rattle.bus_spec.proofs.Stays.{step_station}
use Rattle.bus_spec.proofs.Stays.{step_buffer}
use Rattle.bus_offer.specs.Offer.{holds}
use Rattle.bus_meeting.specs.Net.{Net, gathered, heard, grown}
use Rattle.trace.specs.World.{World, outcome, symbol, step}
use Rattle.bus_meeting.specs.Gather.{gathered_same}
use Rattle.trace.specs.Keep.{held_back}
use Rattle.bus_meeting.specs.Meet.{adds, Ends, grown_ends, heard_grown, heard_far}
use Rattle.bus_meeting.specs.Lines.{share, share_adds, line_all, clear_all}
use Rattle.area.specs.Offsets.{area_size, ring, frame_room}
use Rattle.sheet_layout.specs.Limits.{max_draws, max_stations}

-- the layout, the draws and the addresses of area a are P's
pub record Plan (P : Net) (a : List ℕ) : Type 0 where
  pub count : count_at a ≡ P.n
  pub figures : figures_at a ≡ P.fig
  pub deep : depth_at a ≡ P.depth
  pub draw : (i k : ℕ) → i < P.n → k < max_draws → draw_at a i k ≡ P.draw i k
  pub address : (i : ℕ) → i < P.n → address_at a i ≡ P.address i
  pub space : (i j : ℕ) → i < P.n → j < P.n → space_at a i j ≡ P.d i j

-- and its state is w
pub record Encodes (P : Net) (a : List ℕ) (w : World) : Type 0 where
  pub plan : Plan P a
  pub time : clock_at a ≡ w.clock
  pub state : (i : ℕ) → i < P.n → station_at a i ≡ w.station i
  pub buffers : (i : ℕ) → i < P.n → buffer_at a i ≡ w.buffer i
  -- a frame that is held is at its place
  pub frames : (i : ℕ) → i < P.n → holds (w.station i).transmitter ≡ true
      → frame_at a i (w.station i).frame ≡ w.frame i
  pub ends : Ends w.clock w.past
  -- the delay lines: place u of j's line holds what the others emitted so far that reaches j in step u
  pub line : (j u : ℕ) → j < P.n → w.clock ≤ u → u < w.clock + ring → arrival_at a j u ≡ heard P w.past j u

-- a plan goes by its parts
pub plan_by_lem : (P : Net) (a b : List ℕ) → P.n ≤ max_stations → area_size ≤ length a → area_size ≤ length b
    → Keeps layout b a → Keeps depth b a → Keeps draws b a → Plan P a → Plan P b
plan_by_lem P a b few la lb k kd kw p =
    record {
      count = count_by b a k ∙ p.count;
      figures = figures_by b a k ∙ p.figures;
      deep = depth_by b a kd ∙ p.deep;
      draw = λ i m hi hm. draw_by b a i m (omega arith) hm kw ∙ p.draw i m hi hm;
      address = λ i hi. address_by b a i (omega arith) lb la k ∙ p.address i hi;
      space = λ i j hi hj. space_by b a i j (omega arith) (omega arith) k ∙ p.space i j hi hj;
    }

-- ---- a station acts the same in both

rests : (f : Figures) (z n draw : ℕ) (start h : Bool) → (transmit f NoFrame z n draw start h).emission ≡ Rest
unfolding transmit
rests f z n draw start h = refl

-- the symbol is that of the frame held; with none there is silence
same_symbol : (a : List ℕ) (i : ℕ) (x : Transmitter) (z : ℕ) (F : List ℕ) (e : Emission)
    → (holds x ≡ true → frame_at a i z ≡ F) → (x ≡ NoFrame → e ≡ Rest)
    → symbol_of (frame_at a i (octets_held x z)) e ≡ symbol_of F e
same_symbol a i NoFrame z F e h n = rw (n refl)
same_symbol a i Waiting z F e h n = ap (λ (l : List ℕ). symbol_of l e) (h refl)
same_symbol a i (BackingOff w) z F e h n = ap (λ (l : List ℕ). symbol_of l e) (h refl)
same_symbol a i (Sending k) z F e h n = ap (λ (l : List ℕ). symbol_of l e) (h refl)
same_symbol a i (Heading k) z F e h n = ap (λ (l : List ℕ). symbol_of l e) (h refl)
same_symbol a i (Jamming m ends) z F e h n = ap (λ (l : List ℕ). symbol_of l e) (h refl)

as_outcome : (a : List ℕ) (i : ℕ) → outcome_in (figures_at a) (depth_at a) (clock_at a) a i ≡ (act_at a i).outcome
unfolding act_at act_in
as_outcome a i = refl

module _ (P : Net) (a : List ℕ) (w : World) (e : Encodes P a w) (r : Readiness a) where
  few : P.n ≤ max_stations
  few = let c = r.spread.few in omega (arith, e.plan.count)

  counted : (i : ℕ) → i < P.n → i < count_at a
  counted i h = omega (arith, e.plan.count)

  pub same_outcome : (i : ℕ) → i < P.n → (act_at a i).outcome ≡ outcome P w i
  unfolding act_at act_in outcome_in outcome
  same_outcome i hi =
      let s = e.state i hi in
      let d : (station_at a i).draw < max_draws = omega (arith, (r.fine i (counted i hi)).draw, r.depth) in
      ap (λ (t : ℕ). stepped (figures_at a) (station_at a i) (depth_at a) (draw_at a i (station_at a i).draw) (buffer_at a i)
      (arrival_at a i t)) e.time
      ∙ ap (λ (h : Heard). stepped (figures_at a) (station_at a i) (depth_at a) (draw_at a i (station_at a i).draw)
      (buffer_at a i) h) (e.line i w.clock hi (omega arith) (omega arith))
      ∙ ap (λ (x : ℕ). stepped (figures_at a) (station_at a i) (depth_at a) x (buffer_at a i)
      (heard P w.past i w.clock)) (e.plan.draw i (station_at a i).draw hi d)
      ∙ ap (λ (x : Station). stepped (figures_at a) x (depth_at a) (P.draw i x.draw) (buffer_at a i)
      (heard P w.past i w.clock)) s
      ∙ ap (λ (f : Figures). stepped f (w.station i) (depth_at a) (P.draw i (w.station i).draw) (buffer_at a i)
      (heard P w.past i w.clock)) e.plan.figures
      ∙ ap₂ (λ (m : ℕ) (b : List ℕ). stepped P.fig (w.station i) m (P.draw i (w.station i).draw) b
      (heard P w.past i w.clock)) e.plan.deep (e.buffers i hi)

  silent : (i : ℕ) → (w.station i).transmitter ≡ NoFrame → (outcome P w i).emission ≡ Rest
  unfolding outcome stepped
  silent i z =
      let s = w.station i in
      let h = heard P w.past i w.clock in
      let b = (deferring P.fig s h).start in
      let m = tries_after s.attempts b in
      ap (λ (x : Transmitter). (transmit P.fig x s.frame m (P.draw i s.draw) b (hears_any h)).emission) z
      ∙ rests P.fig s.frame m (P.draw i s.draw) b (hears_any h)

  pub same_symbols : (i : ℕ) → i < P.n → (act_at a i).symbol ≡ symbol P w i
  unfolding act_at act_in symbol
  same_symbols i hi =
      ap₂ (λ (x : Station) (o : Stepped). symbol_of (frame_at a i (octets_held x.transmitter x.frame)) o.emission)
      (e.state i hi) (as_outcome a i ∙ same_outcome i hi)
      ∙ same_symbol a i (w.station i).transmitter (w.station i).frame (w.frame i) (outcome P w i).emission
      (e.frames i hi) (silent i)

-- a frame that is held is small
pub frame_room_lem : (x : Transmitter) (z : ℕ) → holds x ≡ true → FrameIn x z → z ≤ frame_room
frame_room_lem NoFrame z h v = absurd (true≢false (sym h))
frame_room_lem Waiting z h v = omega (arith, v.1)
frame_room_lem (BackingOff w) z h v = omega (arith, v.1)
frame_room_lem (Sending k) z h v = omega (arith, v.1)
frame_room_lem (Heading k) z h v = omega (arith, v.1)
frame_room_lem (Jamming m ends) z h v = omega (arith, v.1)

-- ---- the delay lines

module _ (P : Net) (a : List ℕ) (w : World) (e : Encodes P a w) (r : Readiness a) where
  turned : List ℕ
  turned = turns (λ i x. settled (count_at a) (clock_at a) i (act_at a i) x) (count_at a) a

  after_clock : (j u : ℕ) → arrival_at (step_area a) j u ≡ arrival_at turned j u
  unfolding step_area turned
  after_clock j u =
      arrival_by (step_area a) turned j u (clock_keeps (place j u) turned (clock_at a + 1) (λ p q. omega arith))

  line_turned : (j u : ℕ) → j < P.n → w.clock < u → u < w.clock + ring
      → arrival_at turned j u ≡ heard P (step P w).past j u
  unfolding turned step
  line_turned j u hj lo hi =
      let c = e.time in
      line_all (count_at a) (clock_at a) (act_at a) a r.spread (kept_at a) r.long (count_at a) j u (omega arith)
      (omega (arith, e.plan.count)) (λ z. omega arith)
      ∙ ap₂ met (e.line j u hj (omega arith) hi)
      (ap (λ (m : ℕ). gathered m (λ i. share (clock_at a) (space_at a i j) i (act_at a i).symbol j u)) e.plan.count
      ∙ gathered_same P.n (λ i. share (clock_at a) (space_at a i j) i (act_at a i).symbol j u)
      (adds P.d w.clock (symbol P w) j u) (λ i hi'. one i j u hi' hj lo hi))
      ∙ sym (heard_grown P w.clock (symbol P w) w.past j u e.ends)
    where
      one : (i j u : ℕ) → i < P.n → j < P.n → w.clock < u → u < w.clock + ring
          → share (clock_at a) (space_at a i j) i (act_at a i).symbol j u ≡ adds P.d w.clock (symbol P w) j u i
      one i j u hi hj lo up =
          ap (λ (c : ℕ). share c (space_at a i j) i (act_at a i).symbol j u) e.time
          ∙ ap₂ (λ (d : ℕ) (s : Symbol). share w.clock d i s j u) (e.plan.space i j hi hj)
          (same_symbols P a w e r i hi)
          ∙ share_adds P.d 0 w.clock (symbol P w) j u i _ _ (omega arith) (omega arith)
          (λ ne. subst (λ (x : ℕ). 0 < x) (e.plan.space i j hi hj)
          (r.spread.pos i j (counted P a w e r i hi) (counted P a w e r j hj) ne))
          (subst (λ (x : ℕ). x < ring) (e.plan.space i j hi hj)
          (r.spread.near i j (counted P a w e r i hi) (counted P a w e r j hj))) lo up

  -- the place of this step is that of step t + 256: it is empty, and nothing takes so long
  line_last : (j : ℕ) → j < P.n → arrival_at turned j (w.clock + ring) ≡ heard P (step P w).past j (w.clock + ring)
  unfolding turned step
  line_last j hj =
      arrival_turn turned j (w.clock + ring) (clock_at a) (omega (arith, e.time))
      ∙ clear_all (count_at a) (clock_at a) (act_at a) a r.spread (kept_at a) r.long (count_at a) j (omega arith)
      (counted P a w e r j hj)
      ∙ sym (heard_far P (suc w.clock) (grown w.clock (symbol P w) w.past) j (w.clock + ring)
      (grown_ends w.clock (symbol P w) w.past e.ends)
      (λ i hi. omega (
        arith,
        e.plan.space i j hi hj,
        r.spread.near i j (counted P a w e r i hi)
            (counted P a w e r j hj),
      )))

  still_held : (i : ℕ) → holds (outcome P w i).station.transmitter ≡ true → holds (w.station i).transmitter ≡ true
  unfolding outcome stepped next_station
  still_held i h = held_back P.fig (w.station i).transmitter _ _ _ _ _ h

  same_size : (i : ℕ) → (outcome P w i).station.frame ≡ (w.station i).frame
  unfolding outcome stepped next_station
  same_size i = refl

  held_room : (i : ℕ) → i < P.n → holds (w.station i).transmitter ≡ true → (w.station i).frame ≤ frame_room
  held_room i hi h =
      frame_room_lem (w.station i).transmitter (w.station i).frame h
      (subst (λ (x : Station). FrameIn x.transmitter x.frame) (e.state i hi)
      (r.fine i (counted P a w e r i hi)).frame)

  pub encodes_step : Encodes P (step_area a) (step P w)
  unfolding step
  encodes_step =
      let big : area_size ≤ length (step_area a) = omega (arith, step_length a r, r.long) in
      record {
        plan =
            plan_by_lem P a (step_area a) (few P a w e r) r.long big (step_layout a r) (step_depth a r) (step_draws a r)
            e.plan;
        time = step_clock a r ∙ add-one (clock_at a) ∙ ap suc e.time;
        state =
            λ i hi. step_station a r i (counted P a w e r i hi)
            ∙ ap (λ (o : Stepped). o.station) (same_outcome P a w e r i hi);
        buffers =
            λ i hi. step_buffer a r i (counted P a w e r i hi)
            ∙ ap₂ (λ (b : List ℕ) (o : Stepped). stored_in b o.stored) (e.buffers i hi)
            (same_outcome P a w e r i hi);
        frames = λ i hi h.
            let k = few P a w e r in
            ap (frame_at (step_area a) i) (same_size i)
            ∙ frame_by (step_area a) a i (w.station i).frame (omega arith) (held_room i hi (still_held i h)) big
            r.long (step_frame a r i (omega arith))
            ∙ e.frames i hi (still_held i h);
        ends = grown_ends w.clock (symbol P w) w.past e.ends;
        line =
            λ j u hj lo hi. after_clock j u
            ∙ by_eq u (w.clock + ring) (λ z. rw z (line_last j hj)) (λ z. line_turned j u hj lo (omega arith));
      }
