-- The receiver's step in the words of the trace: what it is of, what it leaves, and that a step without others ends a
-- reception. Assumes nothing.
use Rattle.std.specs.Prelude.{ℕ, zero, suc, ◌/◌, ◌<◌, ◌≡◌, Bool, true, false, ltb, eqb, length, get_or, Option, None, Some}
use Rattle.std.proofs.Math.Path.{refl, ap, ap₂}
use Rattle.std.proofs.Common.{sym, ◌∙◌, length-set}
use mathlib.Core.List.{List}
use Rattle.octets.specs.Base.{values_of}
use Rattle.octets.specs.BaseLaws.{by_test}
use Rattle.station_symbols.specs.declared.Heard.{Heard}
use Rattle.station_symbols.specs.declared.Heard.TheVariants.{Nothing, Clean}
use Rattle.station_symbols.specs.Packet.{is_emission}
use Rattle.station_state.specs.declared.Receiver.{Receiver}
use Rattle.station_state.specs.declared.Receiver.TheVariants.{Listening, Readable, Seeking, Collecting}
use Rattle.station_spec.specs.declared.Received.{Received}
use Rattle.station_spec.specs.declared.Stored.{Stored}
use Rattle.station_spec.specs.Receive.{hear, addressed, open_answer, readable_after, opening, decide, ended, receive}
use Rattle.station_state.specs.declared.Station.{Station}
use Rattle.bus_offer.specs.Offer.{offered_station}
use Rattle.trace.specs.Basic.{either}
use Rattle.bus_spec.specs.After.{stored_in}
use Rattle.bus_meeting.specs.Net.{Net}
use Rattle.trace.specs.World.{Offer, fresh, before}
use Rattle.bus_meeting.specs.Gather.{on}
use Rattle.trace.specs.Run.{state, frame_in, buffer_in, out_at, emits, sees, send_at, receive_at, Sound, Kept}
use Rattle.trace.specs.Run.{ready_kept, ready_buffer, buffer_suc, out_got, out_stored, sig_is, next_receiver}
use Rattle.trace.specs.Run.{on_symbol, address_is}
use Rattle.frame_build.specs.Limits.{shortest_frame}

-- ---- a step

unfoldable pub reception_at : (P : Net) → (ℕ → List (Offer P)) → (j t : ℕ) → Received
reception_at P inp j t =
    receive (P.address j) (buffer_in P inp j t) (state P inp t j).receiver (sees P inp j t) (emits P inp j t)

kept_receiver : (P : Net) (i : ℕ) (os : List (Offer P)) (s r : Station) (F G : List ℕ) → Kept P os i s r F G
    → r.receiver ≡ s.receiver
unfolding offered_station
kept_receiver P i os s r F G k =
    either k (λ x. ap (λ (q : Station). q.receiver) x.0) (λ x. ap (λ (q : Station). q.receiver) x.1)

stored_length : (b : List ℕ) (s : Option Stored) → length (stored_in b s) ≡ length b
stored_length b None = refl
stored_length b (Some s) = length-set b (s.bit / 8) _

module _ (P : Net) (inp : ℕ → List (Offer P)) where
  -- offers leave a receiver as it is
  pub receiver_ready : (t j : ℕ) → (state P inp t j).receiver ≡ ((before P inp t).station j).receiver
  receiver_ready t j =
      kept_receiver P j (inp t) ((before P inp t).station j) (state P inp t j) ((before P inp t).frame j)
      (frame_in P inp j t) (ready_kept P inp t j)

  fresh_buffer : (j : ℕ) → (before P inp 0).buffer j ≡ P.blank j
  unfolding before fresh
  fresh_buffer j = refl

  pub buffer_length : (t j : ℕ) → length (buffer_in P inp j t) ≡ length (P.blank j)
  buffer_length zero j = ap length (ready_buffer P inp 0 j ∙ fresh_buffer j)
  buffer_length (suc t) j =
      ap length (ready_buffer P inp (suc t) j ∙ buffer_suc P inp t j)
      ∙ stored_length (buffer_in P inp j t) (out_at P inp j t).stored ∙ buffer_length t j

  module _ (span : ℕ) (L : Sound P span) (j : ℕ) (hj : j < P.n) (t : ℕ) where
    emits_by : is_emission (send_at P inp j t).emission ≡ emits P inp j t
    emits_by = sym (ap on (sig_is P inp span L j hj t) ∙ on_symbol (frame_in P inp j t) (send_at P inp j t).emission)

    reception_is : receive_at P inp j t ≡ reception_at P inp j t
    unfolding receive_at send_at reception_at
    reception_is =
        ap₂ (λ (a : List ℕ) (e : Bool). receive a (buffer_in P inp j t) (state P inp t j).receiver (sees P inp j t) e)
        (address_is P inp span L t j hj) emits_by

    pub got_is : (out_at P inp j t).got ≡ (reception_at P inp j t).event
    got_is = out_got P inp span L j hj t ∙ ap (λ (r : Received). r.event) reception_is

    pub receiver_next : (state P inp (suc t) j).receiver ≡ (reception_at P inp j t).receiver
    receiver_next =
        receiver_ready (suc t) j ∙ next_receiver P inp span L j hj t ∙ ap (λ (r : Received). r.receiver) reception_is

    pub buffer_next : buffer_in P inp j (suc t) ≡ stored_in (buffer_in P inp j t) (reception_at P inp j t).stored
    buffer_next =
        ready_buffer P inp (suc t) j ∙ buffer_suc P inp t j
        ∙ ap (stored_in (buffer_in P inp j t))
        (out_stored P inp span L j hj t ∙ ap (λ (r : Received). r.stored) reception_is)

    -- nothing is heard, or a clean symbol while j is silent
    pub reception_nothing : sees P inp j t ≡ Nothing
        → reception_at P inp j t ≡ ended (P.address j) (buffer_in P inp j t) (state P inp t j).receiver
    unfolding reception_at receive
    reception_nothing e =
        ap (λ (h : Heard). receive (P.address j) (buffer_in P inp j t) (state P inp t j).receiver h (emits P inp j t))
        e

    pub reception_clean : (b : Bool) → sees P inp j t ≡ Clean b → emits P inp j t ≡ false
        → reception_at P inp j t ≡ hear (state P inp t j).receiver true b false
    unfolding reception_at receive
    reception_clean b e o = ap₂ (receive (P.address j) (buffer_in P inp j t) (state P inp t j).receiver) e o

-- ---- outside a reception

abbrev pub Idle : Receiver → Type 0
Idle Listening = Unit {0}
Idle (Readable n) = Unit {0}
Idle (Seeking row spoiled own) = ⊥
Idle (Collecting n spoiled own) = ⊥

opening_idle : (B : List ℕ) (n : ℕ) (spoiled : Bool) → Idle (opening B n spoiled).receiver
unfolding opening readable_after
opening_idle B n spoiled = by_test (eqb (get_or (values_of (open_answer B n spoiled)) 0 0) 5) (λ e. rw e tt) (λ e. rw e tt)

decide_idle : (A B : List ℕ) (n : ℕ) (spoiled own : Bool) → Idle (decide A B n spoiled own).receiver
unfolding decide
decide_idle A B n spoiled own =
    by_test (ltb n shortest_frame) (λ c. rw c tt)
    (λ c. by_test own (λ o. rw (c, o) tt)
    (λ o. by_test (addressed A B) (λ d. rw (c, o, d) (opening_idle B n spoiled)) (λ d. rw (c, o, d) tt)))

-- where nothing is heard a reception is over
pub ended_idle : (A B : List ℕ) (r : Receiver) → Idle (ended A B r).receiver
unfolding ended
ended_idle A B Listening = tt
ended_idle A B (Readable n) = tt
ended_idle A B (Seeking row spoiled own) = tt
ended_idle A B (Collecting n spoiled own) = decide_idle A B n spoiled own
