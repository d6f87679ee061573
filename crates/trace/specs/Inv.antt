-- What the transmitter's phase says of the trace: kept by every step. Assumes nothing.
use Prim.Native.Nat.{ℕ, suc, ◌+◌, ◌*◌, ◌%◌, ◌≤◌, ◌<◌}
use Rattle.std.specs.Prelude.{◌≡◌, Bool, List, ◌⊎◌, ltb, leb, eqb, length, Some}
use Rattle.std.proofs.Math.Path.{refl, ap, subst}
use Rattle.std.proofs.Common.{sym, ◌∙◌}
use Rattle.std.proofs.Math.Bool.{true, false}
use Rattle.std.proofs.Math.Logic.{inl, inr}
use native.Mathlib.Omega.{arith}
use Rattle.std.proofs.Math.Nat.{suc_inj, add-zero}
use borrow.Author.Tests.{leb-true, leb-false, ltb-false, eqb-true}
use Rattle.octets.specs.BaseLaws.{by_test, by_eq}
use Rattle.sheet_layout.specs.declared.Figures.{Figures}
use Rattle.station_symbols.specs.declared.Heard.TheVariants.{Nothing}
use Rattle.station_symbols.specs.declared.Symbol.TheVariants.{Bit, Jam}
use Rattle.station_symbols.specs.declared.Emission.TheVariants.{PacketBit, JamBit}
use Rattle.station_symbols.specs.Packet.{packet_bit, symbol_of}
use Rattle.station_spec.specs.declared.TransmitEvent.TheVariants.{Sent}
use Rattle.station_state.specs.declared.Transmitter.{Transmitter}
use Rattle.station_state.specs.declared.Transmitter.TheVariants.{NoFrame, Waiting, BackingOff, Sending, Heading}
use Rattle.station_state.specs.declared.Transmitter.TheVariants.{Jamming}
use Rattle.station_spec.specs.Transmit.{packet_length, after_bit, collision, send_bit, head_bit, backoff_range, back_off}
use Rattle.station_spec.specs.Transmit.{closes_frame, last_jam, jam_bit, backoff_bit, wait_bit, transmit}
use Rattle.bus_spec.specs.Range.{NumberIn}
use Rattle.bus_offer.specs.Offer.{holds}
use Rattle.trace.specs.Basic.{clash}
use Rattle.trace.specs.Trace as trace
use Rattle.trace.specs.Trace.{Hears, Start}
use Rattle.bus_meeting.specs.Net.{Net}
use Rattle.trace.specs.World.{Offer}
use Rattle.bus_meeting.specs.Gather.{on}
use Rattle.trace.specs.Run.{frame_in, out_at, sig, emits, sees, Sound}
use Rattle.frame_build.specs.Limits.{buffer_octets}

-- station i hears another in step t, and is busy then
abbrev pub HeardIn : (P : Net) → (ℕ → List (Offer P)) → ℕ → ℕ → Type 0
HeardIn P inp i t = Hears P.n P.d (emits P inp) i t

abbrev pub BusyIn : (P : Net) → (ℕ → List (Offer P)) → ℕ → ℕ → Type 0
BusyIn P inp i t = trace.Busy P.n P.d (emits P inp) i t

-- A run of station i began with step a and goes on up to step t, exclusive.
pub record Ran (P : Net) (inp : ℕ → List (Offer P)) (i a t : ℕ) : Type 0 where
  pub start : Start (emits P inp) i a
  pub on : (s : ℕ) → a ≤ s → s < t → emits P inp i s ≡ true

-- The run of station i over the steps a to e is its whole packet, with no collision, and sent in step e.
pub record Whole (P : Net) (inp : ℕ → List (Offer P)) (i a e : ℕ) : Type 0 where
  pub frame : List ℕ
  pub attempts : ℕ
  pub sent : (out_at P inp i e).sent ≡ Some (Sent attempts)
  pub size : (64 ≤ length frame) × (length frame ≤ buffer_octets)
  pub long : a + packet_length (length frame) ≡ suc e
  pub ran : Ran P inp i a (suc e)
  pub held : (s : ℕ) → a ≤ s → s ≤ e → frame_in P inp i s ≡ frame
  pub bits : (k : ℕ) → k < packet_length (length frame) → sig P inp i (a + k) ≡ Bit (packet_bit frame (k + 1))
  pub clear : (y : ℕ) → a ≤ y → y ≤ e → sees P inp i y ≡ Nothing

-- A run of station i ended with step b: in a jam bit, or as a whole packet.
pub record Over (P : Net) (inp : ℕ → List (Offer P)) (i b : ℕ) : Type 0 where
  pub begin : ℕ
  pub ran : Ran P inp i begin (suc b)
  pub long : begin + (64 + P.fig.jam) ≤ suc b
  pub how : (sig P inp i b ≡ Jam) ⊎ Whole P inp i begin b

-- ---- the invariant, before step t

abbrev pub Resting : (P : Net) → (ℕ → List (Offer P)) → ℕ → ℕ → Type 0
Resting P inp i t = (b : ℕ) → suc b ≡ t → emits P inp i b ≡ true → Over P inp i b

-- bit k of the packet of F is next
pub record Sends (P : Net) (inp : ℕ → List (Offer P)) (i t : ℕ) (F : List ℕ) (k : ℕ) : Type 0 where
  pub begin : ℕ
  pub place : begin + k ≡ suc t
  pub some : 1 < k
  pub ran : Ran P inp i begin t
  pub held : (s : ℕ) → begin ≤ s → s < t → frame_in P inp i s ≡ F
  pub bits : (j : ℕ) → suc j < k → sig P inp i (begin + j) ≡ Bit (packet_bit F (suc j))
  pub clear : (y : ℕ) → begin ≤ y → y < t → sees P inp i y ≡ Nothing

-- header bit k is next, after a collision
pub record Heads (P : Net) (inp : ℕ → List (Offer P)) (i t k : ℕ) : Type 0 where
  pub begin : ℕ
  pub place : begin + k ≡ suc t
  pub some : 1 < k
  pub ran : Ran P inp i begin t

-- r jam bits are left
pub record Jams (P : Net) (inp : ℕ → List (Offer P)) (i t r : ℕ) : Type 0 where
  pub begin : ℕ
  pub place : begin + (64 + P.fig.jam) ≤ t + r
  pub past : begin < t
  pub ran : Ran P inp i begin t

abbrev pub TxInv : (P : Net) → (ℕ → List (Offer P)) → (i t : ℕ) → List ℕ → Transmitter → Type 0
TxInv P inp i t F NoFrame = Resting P inp i t
TxInv P inp i t F Waiting = Resting P inp i t
TxInv P inp i t F (BackingOff w) = Resting P inp i t
TxInv P inp i t F (Sending k) = Sends P inp i t F k
TxInv P inp i t F (Heading k) = Heads P inp i t k
TxInv P inp i t F (Jamming r ends) = Jams P inp i t r

-- ---- what is emitted

pub bit_sent : (f : Figures) (z n k : ℕ) (hears : Bool) → (send_bit f z n k hears).emission ≡ PacketBit k
unfolding send_bit collision
bit_sent f z n k true = by_test (ltb f.slot k) (λ e. rw e) (λ e. rw e)
bit_sent f z n k false = by_test (eqb k (packet_length z)) (λ e. rw e) (λ e. rw e)

pub jam_sent : (f : Figures) (n draw left : ℕ) (ends : Bool) → (jam_bit f n draw left ends).emission ≡ JamBit
unfolding jam_bit last_jam
jam_sent f n draw left ends =
    by_test (leb left 1)
    (λ e. by_test ends (λ d. rw (e, d))
    (λ d. by_test (eqb n f.limit) (λ c. rw (e, d, c)) (λ c. rw (e, d, c))))
    (λ e. rw e)

-- ---- the step

module _ (P : Net) (inp : ℕ → List (Offer P)) (span : ℕ) (L : Sound P span) (i t : ℕ) where
  -- one more step of a run
  pub more : (a : ℕ) → Ran P inp i a t → emits P inp i t ≡ true → Ran P inp i a (suc t)
  more a r o = record { start = r.start; on = λ s lo hi. by_eq s t (λ z. rw z o) (λ z. r.on s lo (omega arith)) }

  first : ((s : ℕ) → suc s ≡ t → emits P inp i s ≡ false) → emits P inp i t ≡ true → Ran P inp i t (suc t)
  first fr o =
      record {
        start = record { on = o; fresh = fr };
        on = λ s lo hi. subst (λ (x : ℕ). emits P inp i x ≡ true) (omega arith) o;
      }

  rest : Over P inp i t → Resting P inp i (suc t)
  rest v b z o = subst (λ (x : ℕ). Over P inp i x) (sym (suc_inj z)) v

  silent_rest : emits P inp i t ≡ false → Resting P inp i (suc t)
  silent_rest e b z o = clash o (rw (suc_inj z) e)

  -- after bit k of a run with a collision
  after_bit_lem : (F : List ℕ) (a k : ℕ) (ends : Bool) → a + k ≡ suc t → 1 ≤ k → Ran P inp i a (suc t)
      → TxInv P inp i (suc t) F (after_bit P.fig.jam k ends)
  unfolding after_bit
  after_bit_lem F a k ends w p r =
      by_test (ltb k 64)
      (λ e. rw e (record { begin = a; place = omega arith; some = omega arith; ran = r }))
      (λ e. let l = ltb-false k 64 e in rw e (record { begin = a; place = omega arith; past = omega arith; ran = r }))

  -- bit k of the packet of F, of z octets, goes out in step t
  send_bit_lem : (F : List ℕ) (z n k : ℕ) (hears : Bool) (a : ℕ) → z ≡ length F → 64 ≤ z → z ≤ buffer_octets
      → k ≤ packet_length z
      → a + k ≡ suc t → 1 ≤ k → Ran P inp i a (suc t)
      → ((s : ℕ) → a ≤ s → s ≤ t → frame_in P inp i s ≡ F)
      → ((j : ℕ) → j < k → sig P inp i (a + j) ≡ Bit (packet_bit F (suc j)))
      → ((y : ℕ) → a ≤ y → y < t → sees P inp i y ≡ Nothing)
      → (hears ≡ false → sees P inp i t ≡ Nothing)
      → (out_at P inp i t).sent ≡ (send_bit P.fig z n k hears).event
      → TxInv P inp i (suc t) F (send_bit P.fig z n k hears).phase
  unfolding send_bit collision
  send_bit_lem F z n k true a ez lo hi up w p r hd bs cl nh ev =
      by_test (ltb P.fig.slot k)
      (λ c. rw c (after_bit_lem F a k (closes_frame P.fig) w p r))
      (λ c. rw c (after_bit_lem F a k false w p r))
  send_bit_lem F z n k false a ez lo hi up w p r hd bs cl nh ev =
      by_test (eqb k (packet_length z))
      (λ e. let q = eqb-true k (packet_length z) e in
      rw e (rest (record {
        begin = a;
        ran = r;
        long = omega (arith, L.figures.jam);
        how = inr (record {
          frame = F;
          attempts = n;
          sent = rw e at ev;
          size = (omega arith, omega arith);
          long = omega arith;
          ran = r;
          held = hd;
          bits = λ j l. let e : suc j ≡ j + 1 = omega arith in rw e at (bs j (omega arith));
          clear = cl';
        });
      })))
      (λ e. rw e (record {
        begin = a;
        place = omega arith;
        some = omega arith;
        ran = r;
        held = λ s l u. hd s l (omega arith);
        bits = λ j l. bs j (omega arith);
        clear = λ y l u. cl' y l (omega arith);
      }))
    where
      cl' : (y : ℕ) → a ≤ y → y ≤ t → sees P inp i y ≡ Nothing
      cl' y l u = by_eq y t (λ q. rw q (nh refl)) (λ q. cl y l (omega arith))

  backed_off : (F : List ℕ) (n draw : ℕ) → Resting P inp i (suc t) → TxInv P inp i (suc t) F (back_off P.fig n draw)
  unfolding back_off
  backed_off F n draw o =
      by_test (eqb (P.fig.slot * (draw % backoff_range n P.fig.backoff)) 0) (λ e. rw e o) (λ e. rw e o)

  jam_bit_lem : (F : List ℕ) (n draw r : ℕ) (ends : Bool) → 1 ≤ r → Jams P inp i t r → sig P inp i t ≡ Jam
      → TxInv P inp i (suc t) F (jam_bit P.fig n draw r ends).phase
  unfolding jam_bit last_jam
  jam_bit_lem F n draw r ends p j y =
      let m = more j.begin j.ran (ap on y) in
      by_test (leb r 1)
      (λ e. let l = leb-true r 1 e in
      let o : Resting P inp i (suc t) = rest (record {
        begin = j.begin;
        ran = m;
        long = omega (arith, j.place);
        how = inl y;
      }) in
      by_test ends (λ d. rw (e, d) o)
      (λ d. by_test (eqb n P.fig.limit) (λ c. rw (e, d, c) o) (λ c. rw (e, d, c) (backed_off F n draw o))))
      (λ e. let l = leb-false r 1 e in
      rw e (record { begin = j.begin; place = omega (arith, j.place); past = omega (arith, j.past); ran = m }))

  -- The transmitter's step keeps its invariant.
  pub tx_step : (F : List ℕ) (x : Transmitter) (z n draw : ℕ) (start hears : Bool)
      → frame_in P inp i t ≡ F
      → (holds x ≡ true → (z ≡ length F) × (64 ≤ z) × (z ≤ buffer_octets))
      → NumberIn P.fig z x
      → (start ≡ true → (s : ℕ) → suc s ≡ t → emits P inp i s ≡ false)
      → (hears ≡ false → sees P inp i t ≡ Nothing)
      → sig P inp i t ≡ symbol_of F (transmit P.fig x z n draw start hears).emission
      → (out_at P inp i t).sent ≡ (transmit P.fig x z n draw start hears).event
      → TxInv P inp i t F x → TxInv P inp i (suc t) F (transmit P.fig x z n draw start hears).phase
  unfolding transmit wait_bit head_bit backoff_bit
  tx_step F NoFrame z n draw start hears fi hz nu fr nh sy ev v = silent_rest (ap on sy)
  tx_step F Waiting z n draw true hears fi hz nu fr nh sy ev v =
      let h = hz refl in
      let y : sig P inp i t ≡ Bit (packet_bit F 1) = sy ∙ ap (symbol_of F) (bit_sent P.fig z n 1 hears) in
      send_bit_lem F z n 1 hears t h.0 h.1 h.2 (omega arith) (omega arith) (omega arith)
      (first (fr refl) (ap on y))
      (λ s l u. subst (λ (x : ℕ). frame_in P inp i x ≡ F) (omega arith) fi)
      (λ j l. let e : j ≡ 0 = omega arith in rw (e, add-zero t) y)
      (λ y l u. absurd (omega arith)) nh ev
  tx_step F Waiting z n draw false hears fi hz nu fr nh sy ev v = silent_rest (ap on sy)
  tx_step F (BackingOff w) z n draw start hears fi hz nu fr nh sy ev v =
      by_test (leb w 1)
      (λ e. rw e (silent_rest (ap on (rw e at sy))))
      (λ e. rw e (silent_rest (ap on (rw e at sy))))
  tx_step F (Sending k) z n draw start hears fi hz nu fr nh sy ev v =
      let h = hz refl in
      let y : sig P inp i t ≡ Bit (packet_bit F k) = sy ∙ ap (symbol_of F) (bit_sent P.fig z n k hears) in
      let c = v.place in
      let o = v.some in
      send_bit_lem F z n k hears v.begin h.0 h.1 h.2 nu.1 v.place (omega arith)
      (more v.begin v.ran (ap on y))
      (λ s l u. by_eq s t (λ q. rw q fi) (λ q. v.held s l (omega arith)))
      (λ j l. by_eq (suc j) k
      (λ q. let e : v.begin + j ≡ t = omega arith in rw (e, q) y)
      (λ q. v.bits j (omega arith)))
      v.clear nh ev
  tx_step F (Heading k) z n draw start hears fi hz nu fr nh sy ev v =
      after_bit_lem F v.begin k false v.place (omega (arith, v.some)) (more v.begin v.ran (ap on sy))
  tx_step F (Jamming r ends) z n draw start hears fi hz nu fr nh sy ev v =
      jam_bit_lem F n draw r ends nu.0 v (sy ∙ ap (symbol_of F) (jam_sent P.fig n draw r ends))
