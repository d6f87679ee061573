-- Frames that came, and the sender of one; what a report says of the step. That a station reports a frame got exactly
-- when another sent it one is in proofs/Received. Assumes nothing.
use Rattle.std.specs.Prelude.{ℕ, zero, suc, ◌+◌, ◌<◌, ◌≡◌, Bool, true, false, List, Some}
use Rattle.std.proofs.Common.{sym, ◌∙◌, ap, arith}
use Rattle.station_symbols.specs.declared.Heard.TheVariants.{Nothing, Clean}
use Rattle.station_spec.specs.declared.TransmitEvent.TheVariants.{Sent}
use Rattle.station_spec.specs.declared.ReceiveEvent.TheVariants.{GotOk}
use Rattle.station_state.specs.declared.Receiver.TheVariants.{Listening, Collecting}
use Rattle.station_spec.specs.Receive.{addressed}
use Rattle.bus_meeting.specs.Net.{Net}
use Rattle.trace.specs.World.{Offer, fresh_station, fresh, before}
use Rattle.bus_meeting.specs.Gather.{on}
use Rattle.trace.specs.Run.{state, frame_in, buffer_in, out_at, emits, sees, Sound, sees_clean}
use Rattle.trace.specs.Run.{sees_nothing}
use Rattle.trace.specs.Inv.{Whole}
use Rattle.trace.specs.Sent.{ends_whole}
use Rattle.trace.specs.Listen.{reception_at, receiver_ready, got_is, receiver_next}
use Rattle.trace.specs.Decide.{Ok, receive_ok_lem, last_clean}

-- Where a frame that station j has whole in step u came from.
pub record Came (P : Net) (inp : ℕ → List (Offer P)) (j u : ℕ) : Type 0 where
  pub from : ℕ
  pub start : ℕ
  pub at : ℕ
  pub station : from < P.n
  pub other : from ≡ j → ⊥
  pub whole : Whole P inp from start at
  pub delay : u ≡ suc (at + P.d from j)

-- Another station reported sent a frame addressed to station j, which comes to its end there in step u.
pub record Sender (P : Net) (inp : ℕ → List (Offer P)) (j u : ℕ) : Type 0 where
  pub from : ℕ
  pub at : ℕ
  pub attempts : ℕ
  pub station : from < P.n
  pub other : from ≡ j → ⊥
  pub delay : u ≡ suc (at + P.d from j)
  pub sent : (out_at P inp from at).sent ≡ Some (Sent attempts)
  pub for : addressed (P.address j) (frame_in P inp from at) ≡ true

module _ (P : Net) (inp : ℕ → List (Offer P)) (span : ℕ) (L : Sound P span) where
  fresh_receiver : (j : ℕ) → (state P inp 0 j).receiver ≡ Listening
  unfolding before fresh fresh_station
  fresh_receiver j = receiver_ready P inp 0 j

  ok_now : (j u m : ℕ) → j < P.n → (out_at P inp j u).got ≡ Some (GotOk m)
      → Ok (state P inp u j).receiver (sees P inp j u)
  unfolding reception_at
  ok_now j u m hj e =
      receive_ok_lem (P.address j) (buffer_in P inp j u) (state P inp u j).receiver (sees P inp j u) (emits P inp j u) m
      (sym (got_is P inp span L j hj u) ∙ e)

  -- the step that reports it hears nothing
  pub got_silent : (j u m : ℕ) → j < P.n → (out_at P inp j u).got ≡ Some (GotOk m) → sees P inp j u ≡ Nothing
  got_silent j u m hj e = (ok_now j u m hj e).silence

  clean_last : (j t n : ℕ) (o : Bool) → j < P.n → (state P inp (suc t) j).receiver ≡ Collecting n false o
      → (b : Bool) × (sees P inp j t ≡ Clean b)
  unfolding reception_at
  clean_last j t n o hj e =
      last_clean (P.address j) (buffer_in P inp j t) (state P inp t j).receiver (sees P inp j t) (emits P inp j t) n o
      (sym (receiver_next P inp span L j hj t) ∙ e)

  -- the one heard last ended there, not in a jam bit
  last_whole : (j t : ℕ) (b : Bool) → sees P inp j t ≡ Clean b → sees P inp j (suc t) ≡ Nothing → Came P inp j (suc t)
  last_whole j t b e q =
      let o = sees_clean P inp j t b e in
      let s = sees_nothing P inp j (suc t) q o.from (suc o.at) o.station o.other
      (omega (arith, o.delay)) in
      let w = ends_whole P inp span L o.from o.at o.station (ap on o.is) (ap on s)
      (λ z. let y : ◌≡◌ {A = ℕ} 0 1 = cc (z, o.is) in omega arith) in
      record {
        from = o.from;
        start = w.0;
        at = o.at;
        station = o.station;
        other = o.other;
        whole = w.1;
        delay = omega (arith, o.delay);
      }

  came_step : (j u : ℕ) → j < P.n → Ok (state P inp u j).receiver (sees P inp j u) → Came P inp j u
  came_step j zero hj k = absurd (let z : ◌≡◌ {A = ℕ} 0 1 = cc (k.collected, fresh_receiver j) in omega arith)
  came_step j (suc t) hj k =
      let c = clean_last j t k.bits false hj k.collected in last_whole j t c.0 c.1 k.silence

  -- A frame that is got was sent.
  pub got_came : (j u m : ℕ) → j < P.n → (out_at P inp j u).got ≡ Some (GotOk m) → Came P inp j u
  got_came j u m hj e = came_step j u hj (ok_now j u m hj e)
