-- An accepted offer keeps the encoding. Assumes nothing.
use Rattle.std.specs.Prelude.{ℕ, ◌+◌, ◌≤◌, ◌<◌, ◌≡◌, refl, Bool, false, List}
use Rattle.std.proofs.Common.{sym, ◌∙◌, subst, arith}
use Rattle.std.proofs.Math.Path.{ap, ap₂}
use Rattle.std.proofs.Math.Bool.{true}
use borrow.Author.Tests.{eq-eqb, ne_eqb}
use Rattle.std.proofs.Math.ListN.{length}
use Rattle.octets.specs.BaseLaws.{by_eq}
use Rattle.station_state.specs.declared.Transmitter.TheVariants.{NoFrame, Waiting, BackingOff, Sending, Heading}
use Rattle.station_state.specs.declared.Transmitter.TheVariants.{Jamming}
use Rattle.station_state.specs.declared.Station.{Station}
use Rattle.area.specs.Places.{Part, clock, depth, draws, counters, station, frame, buffer, place, Off, Keeps}
use Rattle.area.specs.Area.{clock_at, count_at, station_at, frame_at, with_frame, buffer_at, arrival_at}
use Rattle.area.specs.AreaLaws.{keeps_trans, frame_by, buffer_by, arrival_by, frame_same, station_keeps, counters_keeps}
use Rattle.area.specs.AreaLaws.{length_frame, length_station, length_counters}
use Rattle.bus_spec.specs.Range.{FrameIn}
use Rattle.bus_spec.specs.Passes.{Passing}
use Rattle.bus_offer.specs.Offer.{holds, offered_station, with_held, with_offered}
use Rattle.bus_meeting.specs.Net.{Net, heard}
use Rattle.trace.specs.World.{Offer, frame_for, World, given}
use Rattle.delivery.specs.Passing.{holding, holding_length, holding_frame, elsewhere, offer_layout, offer_clock}
use Rattle.delivery.specs.Passing.{offer_own, offer_other}
use Rattle.bus_meeting.specs.Meet.{Ends}
use Rattle.delivery.specs.Encode.{Plan, Encodes, plan_by_lem, frame_room_lem}
use Rattle.area.specs.Offsets.{area_size, ring, frame_room}
use Rattle.frame_build.specs.Limits.{buffer_octets}
use Rattle.sheet_layout.specs.Limits.{max_stations}

sized : (s : Station) (n : ℕ) → (offered_station s n).frame ≡ n
unfolding offered_station
sized s n = refl

module _ (P : Net) (a : List ℕ) (w : World) (e : Encodes P a w) (v : Passing a) (o : Offer P) (hi : o.to < P.n)
    (free : holds (w.station o.to).transmitter ≡ false)
    (f : List ℕ) (ef : f ≡ frame_for P o) (low : 64 ≤ length f) (high : length f ≤ buffer_octets) where
  there : o.to < count_at a
  there = omega (arith, e.plan.count)

  few : P.n ≤ max_stations
  few = let c = v.ready.spread.few in omega (arith, e.plan.count)

  big : area_size ≤ length (holding a f o.to)
  big = omega (arith, holding_length a f o.to, v.ready.long)

  keeps : (p : Part) → Off p (frame o.to) → Off p (station o.to) → Off p (counters o.to)
      → Keeps p (holding a f o.to) a
  keeps p x y z = elsewhere a f o.to v there low high p x y z

  state_there : (j : ℕ) → j < P.n → station_at (holding a f o.to) j ≡ (given P o w).station j
  unfolding given
  state_there j hj =
      by_eq j o.to
      (λ z. rw (z, eq-eqb o.to o.to refl)
      (offer_own a f o.to v there low high ∙ ap₂ offered_station (e.state o.to hi) (ap length ef)))
      (λ ne. rw (ne_eqb j o.to ne)
      (offer_other a f o.to v there low high j (omega (arith, few)) ne ∙ e.state j hj))

  frames_there : (j : ℕ) → j < P.n → holds ((given P o w).station j).transmitter ≡ true
      → frame_at (holding a f o.to) j ((given P o w).station j).frame ≡ (given P o w).frame j
  unfolding given
  frames_there j hj =
      by_eq j o.to
      (λ z. rw (z, eq-eqb o.to o.to refl)
      (λ h. ap (frame_at (holding a f o.to) o.to)
      (sized (w.station o.to) (length (frame_for P o)) ∙ ap length (sym ef))
      ∙ holding_frame a f o.to v.ready.long (omega (arith, few)) (omega arith) ∙ ef))
      (λ ne. rw (ne_eqb j o.to ne)
      (λ h. frame_by (holding a f o.to) a j (w.station j).frame (omega (arith, few)) (held_small j hj h) big
      v.ready.long
      (keeps (frame j) (λ p q. ne (omega arith)) (λ p q. omega (arith, few)) (λ p q. omega (arith, few)))
      ∙ e.frames j hj h))
    where
      held_small : (k : ℕ) → k < P.n → holds (w.station k).transmitter ≡ true → (w.station k).frame ≤ frame_room
      held_small k hk h =
          frame_room_lem (w.station k).transmitter (w.station k).frame h
          (subst (λ (x : Station). FrameIn x.transmitter x.frame) (e.state k hk)
          (v.ready.fine k (omega (arith, e.plan.count))).frame)

  given_clock : clock_at a ≡ (given P o w).clock
  unfolding given
  given_clock = e.time

  given_buffer : (j : ℕ) → j < P.n → buffer_at a j ≡ (given P o w).buffer j
  unfolding given
  given_buffer j hj = e.buffers j hj

  given_ends : Ends (given P o w).clock (given P o w).past
  unfolding given
  given_ends = e.ends

  given_line : (j u : ℕ) → j < P.n → (given P o w).clock ≤ u → u < (given P o w).clock + ring
      → arrival_at a j u ≡ heard P (given P o w).past j u
  unfolding given
  given_line j u hj lo up = e.line j u hj lo up

  pub encodes_offer : Encodes P (holding a f o.to) (given P o w)
  encodes_offer =
      record {
        plan = plan_by_lem P a (holding a f o.to) few v.ready.long big (offer_layout a f o.to v there low high)
            (keeps depth (λ p q. omega arith) (λ p q. omega arith) (λ p q. omega arith))
            (keeps draws (λ p q. omega arith) (λ p q. omega arith) (λ p q. omega arith)) e.plan;
        time = offer_clock a f o.to v there low high ∙ given_clock;
        state = state_there;
        buffers = λ j hj.
            buffer_by (holding a f o.to) a j (omega (arith, few)) big v.ready.long
            (keeps (buffer j) (λ p q. omega (arith, few)) (λ p q. omega (arith, few)) (λ p q. omega (arith, few)))
            ∙ given_buffer j hj;
        frames = frames_there;
        ends = given_ends;
        line = λ j u hj lo up.
            arrival_by (holding a f o.to) a j u
            (keeps (place j u) (λ p q. omega (arith, few)) (λ p q. omega (arith, few)) (λ p q. omega (arith, few)))
            ∙ given_line j u hj lo up;
      }
