-- A readable frame: it is the one last got, octet for octet, from the step after until the station hears another.
-- Assumes nothing.
use Rattle.std.specs.Prelude.{ℕ, zero, suc, ◌+◌, ◌-◌, ◌*◌, ◌≤◌, ◌<◌, true, List, length, take, None, Some}
use Rattle.std.proofs.Math.Path.{◌≡◌}
use Rattle.std.proofs.Common.{sym, ◌∙◌, ap, subst, add-zero, add-suc}
use native.Mathlib.Omega.{arith}
use Rattle.octets.specs.BaseLaws.{by_eq}
use Rattle.sheet_layout.specs.Layout.{gap_of}
use Rattle.station_symbols.specs.declared.Heard.TheVariants.{Nothing}
use Rattle.station_spec.specs.declared.ReceiveEvent.TheVariants.{GotOk}
use Rattle.station_state.specs.declared.Receiver.TheVariants.{Readable}
use Rattle.station_spec.specs.declared.Received.{Received}
use Rattle.station_spec.specs.Receive.{addressed, deciding, ended, receive}
use Rattle.trace.specs.Basic.{either}
use Rattle.bus_spec.specs.After.{stored_in}
use Rattle.bus_meeting.specs.Net.{Net}
use Rattle.trace.specs.World.{Offer, fresh_station, fresh, before}
use Rattle.trace.specs.Run.{state, frame_in, buffer_in, out_at, emits, sees, Sound, ready_buffer}
use Rattle.trace.specs.Frames.{client_in}
use Rattle.trace.specs.Listen.{reception_at, receiver_ready, got_is, receiver_next, buffer_next, reception_nothing}
use Rattle.trace.proofs.Reception.{whole_complete}
use Rattle.trace.specs.Received.{Came, Sender}
use Rattle.trace.proofs.Received.{whole_for, got_whole, came_sender, sender_came, received}
use Rattle.trace.specs.Decide.{Leaves, receive_reads, ended_readable}
use Rattle.station_spec.specs.Transmit.{shortest_packet}
use Rattle.trace.specs.Readable.{Reads, Read}

module _ (P : Net) (inp : ℕ → List (Offer P)) (span : ℕ) (L : Sound P span) (j : ℕ) (hj : j < P.n) where
  -- a decision changes no octet
  decided : (t : ℕ) (F : List ℕ) (m : ℕ) → reception_at P inp j t ≡ deciding (Readable (length F)) (Some (GotOk m))
      → take (length F) (buffer_in P inp j t) ≡ F → Reads P inp j (suc t) F
  decided t F m q b =
      record {
        receiver = receiver_next P inp span L j hj t ∙ ap (λ (r : Received). r.receiver) q;
        octets =
            ap (take (length F)) (buffer_next P inp span L j hj t
            ∙ ap (λ (r : Received). stored_in (buffer_in P inp j t) r.stored) q) ∙ b;
      }

  still : (t n : ℕ) → (state P inp t j).receiver ≡ Readable n → sees P inp j t ≡ Nothing
      → reception_at P inp j t ≡ deciding (Readable n) None
  still t n r e =
      reception_nothing P inp span L j hj t e ∙ ap (ended (P.address j) (buffer_in P inp j t)) r
      ∙ ended_readable (P.address j) (buffer_in P inp j t) n

  same_buffer : (t n : ℕ) → (state P inp t j).receiver ≡ Readable n → sees P inp j t ≡ Nothing
      → buffer_in P inp j (suc t) ≡ buffer_in P inp j t
  same_buffer t n r e =
      buffer_next P inp span L j hj t ∙ ap (λ (x : Received). stored_in (buffer_in P inp j t) x.stored) (still t n r e)

  reads_on : (t : ℕ) (F : List ℕ) → sees P inp j t ≡ Nothing → Reads P inp j t F → Reads P inp j (suc t) F
  reads_on t F e v =
      record {
        receiver =
            receiver_next P inp span L j hj t ∙ ap (λ (x : Received). x.receiver) (still t (length F) v.receiver e);
        octets = ap (take (length F)) (same_buffer t (length F) v.receiver e) ∙ v.octets;
      }

  reads_while : (t : ℕ) (F : List ℕ) → Reads P inp j t F → (k : ℕ)
      → ((s : ℕ) → t ≤ s → s < t + k → sees P inp j s ≡ Nothing) → Reads P inp j (t + k) F
  reads_while t F v zero q = subst (λ (x : ℕ). Reads P inp j x F) (sym (add-zero t)) v
  reads_while t F v (suc k) q =
      subst (λ (x : ℕ). Reads P inp j x F) (sym (add-suc t k))
      (reads_on (t + k) F (q (t + k) (omega arith) (omega arith))
      (reads_while t F v k (λ s lo up. q s lo (omega arith))))

  leaves : (t n : ℕ) → (state P inp (suc t) j).receiver ≡ Readable n
      → Leaves (P.address j) (buffer_in P inp j t) (state P inp t j).receiver (sees P inp j t) (emits P inp j t) n
  unfolding reception_at
  leaves t n e =
      receive_reads (P.address j) (buffer_in P inp j t) (state P inp t j).receiver (sees P inp j t) (emits P inp j t) n
      (sym (receiver_next P inp span L j hj t) ∙ e)

  got_by : (t m : ℕ) → (receive (P.address j) (buffer_in P inp j t) (state P inp t j).receiver (sees P inp j t)
      (emits P inp j t)).event ≡ Some (GotOk m) → (out_at P inp j t).got ≡ Some (GotOk m)
  unfolding reception_at
  got_by t m e = got_is P inp span L j hj t ∙ e

  none_fresh : (n : ℕ) → (state P inp 0 j).receiver ≡ Readable n → ⊥
  unfolding before fresh fresh_station
  none_fresh n e = let z : ◌≡◌ {A = ℕ} 0 1 = cc (receiver_ready P inp 0 j, e) in omega arith

module _ (P : Net) (inp : ℕ → List (Offer P)) (span : ℕ) (L : Sound P span) (g : gap_of P.fig ≤ 64 + P.fig.jam)
    (fits : 2 * span ≤ shortest_packet P.fig) (j : ℕ) (hj : j < P.n) where
  module _ (u : ℕ) (c : Came P inp j u) (d : addressed (P.address j) c.whole.frame ≡ true) where
    reads_next : Reads P inp j (suc u) c.whole.frame
    reads_next =
        subst (λ (x : ℕ). Reads P inp j (suc x) c.whole.frame) (sym c.delay)
        (decided P inp span L j hj (suc (c.at + P.d c.from j)) c.whole.frame (client_in c.whole.frame)
        (whole_for P inp span L g fits c.from c.start c.at c.station c.whole j hj c.other d)
        (whole_complete P inp span L g fits c.from c.start c.at c.station c.whole j hj
        c.other).buffer)

    -- A whole frame addressed to station j that came to its end there in step u can be read after it, as long as j
    -- hears nothing.
    pub readable : (t : ℕ) → u < t → ((s : ℕ) → u ≤ s → s < t → sees P inp j s ≡ Nothing)
        → Reads P inp j t c.whole.frame
    readable t l q =
        subst (λ (x : ℕ). Reads P inp j x c.whole.frame) (omega arith)
        (reads_while P inp span L j hj (suc u) c.whole.frame reads_next (t - suc u)
        (λ s lo up. q s (omega arith) (omega arith)))

  -- The same in document 01's words: a frame reported sent, and one reported got.
  pub sent_readable : (u t : ℕ) (s : Sender P inp j u) → u < t → ((x : ℕ) → u ≤ x → x < t → sees P inp j x ≡ Nothing)
      → Reads P inp j t (frame_in P inp s.from s.at)
  sent_readable u t s l q =
      let r = sender_came P inp span L g fits j u hj s in subst (Reads P inp j t) r.1
      (readable u r.0 r.2 t l q)

  pub got_readable : (u t m : ℕ) → (out_at P inp j u).got ≡ Some (GotOk m) → u < t
      → ((x : ℕ) → u ≤ x → x < t → sees P inp j x ≡ Nothing)
      → (s : Sender P inp j u) × Reads P inp j t (frame_in P inp s.from s.at)
  got_readable u t m v l q = let s = (received P inp span L g fits j u m hj v).0 in (s, sent_readable u t s l q)

  read_new : (t n m : ℕ) → (state P inp (suc t) j).receiver ≡ Readable n → sees P inp j t ≡ Nothing
      → (out_at P inp j t).got ≡ Some (GotOk m) → Read P inp j (suc t) n
  read_new t n m e q v =
      let w = got_whole P inp span L g fits j t m hj v in
      let r = reads_next t w.0 w.1 in
      let z : n ≡ length w.0.whole.frame = cc (e, r.receiver) in
      record {
        at = t;
        size = m;
        past = omega arith;
        got = v;
        came = w.0;
        for = w.1;
        octets = z;
        buffer = ap (λ (k : ℕ). take k (buffer_in P inp j (suc t))) z ∙ r.octets;
        quiet = λ s lo up. subst (λ (x : ℕ). sees P inp j x ≡ Nothing) (omega arith) q;
      }

  read_on : (t n : ℕ) → (state P inp t j).receiver ≡ Readable n → sees P inp j t ≡ Nothing → Read P inp j t n
      → Read P inp j (suc t) n
  read_on t n e q v =
      record {
        at = v.at;
        size = v.size;
        past = omega (arith, v.past);
        got = v.got;
        came = v.came;
        for = v.for;
        octets = v.octets;
        buffer = ap (take n) (same_buffer P inp span L j hj t n e q) ∙ v.buffer;
        quiet = λ s lo up. by_eq s t (λ z. rw z q) (λ z. v.quiet s lo (omega arith));
      }

  -- What can be read from station j is such a frame.
  pub read : (t n : ℕ) → (state P inp t j).receiver ≡ Readable n → Read P inp j t n
  read zero n e = absurd (none_fresh P inp span L j hj n e)
  read (suc t) n e =
      let l = leaves P inp span L j hj t n e in
      either l.why
      (λ r. read_on t n r l.silence (read t n r))
      (λ x. read_new t n x.0 e l.silence (got_by P inp span L j hj t x.0 x.1))

  -- what can be read was reported sent
  pub read_sender : (t n : ℕ) (r : Read P inp j t n)
      → (s : Sender P inp j r.at) × (frame_in P inp s.from s.at ≡ r.came.whole.frame)
  read_sender t n r = came_sender P inp span L g fits j r.at hj r.came r.for

  -- The same of the world before step t's offers.
  pub reads_before : (t : ℕ) (F : List ℕ) → Reads P inp j t F
      → (((before P inp t).station j).receiver ≡ Readable (length F)) × (take (length F) ((before P inp t).buffer j) ≡ F)
  reads_before t F r =
      (sym (receiver_ready P inp t j) ∙ r.receiver, ap (take (length F)) (sym (ready_buffer P inp t j)) ∙ r.octets)

  pub read_before : (t n : ℕ) → ((before P inp t).station j).receiver ≡ Readable n
      → (r : Read P inp j t n) × (take n ((before P inp t).buffer j) ≡ r.came.whole.frame)
  read_before t n e =
      let r = read t n (receiver_ready P inp t j ∙ e) in (r, ap (take n) (sym (ready_buffer P inp t j)) ∙ r.buffer)
