-- A whole packet at another station: it is collected, and nothing else with it. Assumes nothing.
use Rattle.std.specs.Prelude.{ℕ, zero, suc, ◌+◌, ◌-◌, ◌*◌, ◌≤◌, ◌<◌, ◌≡◌, refl, Bool, List, [], ◌∷◌, ◌++◌, length, get_or, take}
use Rattle.std.proofs.Math.Path.{sym, ap}
use Rattle.std.proofs.Common.{◌∙◌, subst, arith, add-zero, add-suc, take-suc, take_all, lt-ltb}
use Rattle.std.proofs.Math.Bool.{true, false}
use Rattle.std.proofs.Math.ListN.{get_or-append}
use Rattle.octets.specs.Bits.{bits_of}
use Rattle.sheet_layout.specs.Layout.{gap_of}
use Rattle.station_symbols.specs.declared.Heard.TheVariants.{Clean}
use Rattle.station_symbols.specs.Packet.{preamble, delimiter, packet_bits, frame_bit, packet_bit}
use Rattle.station_symbols.specs.PacketLaws.{bit_of_frame}
use Rattle.station_state.specs.declared.Receiver.{Receiver}
use Rattle.station_state.specs.declared.Receiver.TheVariants.{Listening, Readable, Seeking, Collecting}
use Rattle.station_spec.specs.declared.Received.{Received}
use Rattle.station_spec.specs.Receive.{next_row, stored_bit, hearing, seek_bit, seek, collect_bit, collect, hear}
use Rattle.station_spec.specs.Receive.{storing}
use Rattle.bus_spec.specs.After.{stored_in}
use Rattle.bus_meeting.specs.Net.{Net}
use Rattle.trace.specs.World.{Offer}
use Rattle.bus_meeting.specs.Gather.{on}
use Rattle.trace.specs.Run.{state, buffer_in, emits, Sound}
use Rattle.trace.specs.Inv.{Whole}
use Rattle.trace.specs.Alone.{Passes}
use Rattle.trace.proofs.Alone.{passes}
use Rattle.trace.specs.Collect.{Filled, filled_none, filled_more, filled_all}
use Rattle.trace.specs.Frames.{whole_octets}
use Rattle.trace.specs.Listen.{reception_at, receiver_next, buffer_next, buffer_length, reception_nothing}
use Rattle.trace.specs.Listen.{reception_clean, Idle, ended_idle}
use Rattle.frame_build.specs.Limits.{buffer_bits}
use Rattle.station_spec.specs.Transmit.{shortest_packet}
use Rattle.trace.specs.Reception.{Complete}

-- ---- a reception of clean symbols

-- the receiver after clean symbols, its station silent
along : Receiver → List Bool → Receiver
along r [] = r
along r (b ∷ l) = along (hear r true b false).receiver l

along_more : (r : Receiver) (l : List Bool) (b : Bool)
    → along r (l ++ (b ∷ [])) ≡ (hear (along r l) true b false).receiver
unfolding along
along_more r [] b = refl
along_more r (x ∷ l) b = along_more (hear r true x false).receiver l b

header : List Bool
header = preamble 7 ++ delimiter

along_header : (r : Receiver) → Idle r → along r header ≡ Collecting 0 false false
unfolding header along hear seek seek_bit next_row
along_header Listening v = refl
along_header (Readable n) v = refl
along_header (Seeking row spoiled own) v = absurd v
along_header (Collecting n spoiled own) v = absurd v

collect_clean : (n : ℕ) (b : Bool) → n < buffer_bits
    → hear (Collecting n false false) true b false ≡ hearing (Collecting (suc n) false false) (storing n b)
unfolding hear collect collect_bit stored_bit
collect_clean n b h = let e : n + 1 ≡ suc n = omega arith in rw (e, lt-ltb n buffer_bits h)

-- the packet's bits, by place
header_bit_lem : (F : List ℕ) (k : ℕ) → k < 64 → packet_bit F (k + 1) ≡ get_or header k false
unfolding packet_bit packet_bits header
header_bit_lem F k h =
    let e : k + 1 ≡ suc k = omega arith in rw e (get_or-append (preamble 7 ++ delimiter) (bits_of F) false k h)

body_bit : (F : List ℕ) (n : ℕ) → packet_bit F (64 + n + 1) ≡ frame_bit F n
body_bit F n =
    let e : 64 + n + 1 - 65 ≡ n = omega arith in
    sym (bit_of_frame F (64 + n + 1) (frame_bit F (64 + n + 1 - 65)) (omega arith) refl) ∙ ap (frame_bit F) e

module _ (P : Net) (inp : ℕ → List (Offer P)) (span : ℕ) (L : Sound P span) (g : gap_of P.fig ≤ 64 + P.fig.jam)
    (fits : 2 * span ≤ shortest_packet P.fig) where
  module _ (i a e : ℕ) (hi : i < P.n) (w : Whole P inp i a e) (j : ℕ) (hj : j < P.n) (ne : i ≡ j → ⊥) where
    come : Passes P inp i a e w.frame j
    come = passes P inp span L g fits i a e hi w j hj ne

    quiet : (k : ℕ) → k < 64 + 8 * length w.frame → emits P inp j (a + P.d i j + k) ≡ false
    quiet k l = ap on (come.listens (a + P.d i j + k) (omega arith) (omega (arith, w.long)))

    -- the reception begins with the packet
    first_idle : Idle (state P inp (a + P.d i j) j).receiver
    first_idle =
        let t : ℕ = a + P.d i j - 1 in
        let z : suc t ≡ a + P.d i j = omega (arith, L.metric.pos i j hi hj ne) in
        subst (λ (x : ℕ). Idle (state P inp x j).receiver) z
        (subst Idle (sym (receiver_next P inp span L j hj t ∙ ap (λ (r : Received). r.receiver)
        (reception_nothing P inp span L j hj t (come.before t z))))
        (ended_idle (P.address j) (buffer_in P inp j t) (state P inp t j).receiver))

    clean_step : (k : ℕ) (b : Bool) → k < 64 + 8 * length w.frame → packet_bit w.frame (k + 1) ≡ b
        → reception_at P inp j (a + P.d i j + k) ≡ hear (state P inp (a + P.d i j + k) j).receiver true b false
    clean_step k b l q =
        reception_clean P inp span L j hj (a + P.d i j + k) b (come.comes k l ∙ ap Clean q) (quiet k l)

    -- its header
    header_step : (k : ℕ) → k < 64
        → (state P inp (a + P.d i j + k) j).receiver ≡ along (state P inp (a + P.d i j) j).receiver (take k header)
        → (state P inp (suc (a + P.d i j + k)) j).receiver ≡ along (state P inp (a + P.d i j) j).receiver
        (take (suc k) header)
    unfolding header
    header_step k l h =
        receiver_next P inp span L j hj (a + P.d i j + k)
        ∙ ap (λ (r : Received). r.receiver)
        (clean_step k (get_or header k false) (omega arith) (header_bit_lem w.frame k l))
        ∙ ap (λ (r : Receiver). (hear r true (get_or header k false) false).receiver) h
        ∙ sym (along_more (state P inp (a + P.d i j) j).receiver (take k header) (get_or header k false))
        ∙ ap (along (state P inp (a + P.d i j) j).receiver) (sym (take-suc header k false l))

    header_start : (state P inp (a + P.d i j + 0) j).receiver ≡ along (state P inp (a + P.d i j) j).receiver
        (take 0 header)
    unfolding along
    header_start = ap (λ (x : ℕ). (state P inp x j).receiver) (add-zero (a + P.d i j))

    in_header : (k : ℕ) → k ≤ 64
        → (state P inp (a + P.d i j + k) j).receiver ≡ along (state P inp (a + P.d i j) j).receiver (take k header)
    in_header zero l = header_start
    in_header (suc k) l =
        ap (λ (x : ℕ). (state P inp x j).receiver) (add-suc (a + P.d i j) k)
        ∙ header_step k l (in_header k (omega arith))

    past_header : (state P inp (a + P.d i j + 64) j).receiver ≡ Collecting 0 false false
    unfolding header
    past_header =
        in_header 64 (omega arith)
        ∙ ap (along (state P inp (a + P.d i j) j).receiver) (take_all 64 header (omega arith))
        ∙ along_header (state P inp (a + P.d i j) j).receiver first_idle

    -- its frame's bits
    record Collects (n : ℕ) (t : ℕ) : Type 0 where
      receiver : (state P inp t j).receiver ≡ Collecting n false false
      buffer : Filled w.frame n (buffer_in P inp j t)

    collect_start : Collects 0 (a + P.d i j + 64)
    collect_start =
        record {
          receiver = past_header;
          buffer = filled_none w.frame (buffer_in P inp j (a + P.d i j + 64))
              (omega (arith, w.size, L.room j hj, buffer_length P inp (a + P.d i j + 64) j));
        }

    collect_step : (n : ℕ) → n < 8 * length w.frame → Collects n (a + P.d i j + (64 + n))
        → Collects (suc n) (suc (a + P.d i j + (64 + n)))
    collect_step n l v =
        let t : ℕ = a + P.d i j + (64 + n) in
        let q : reception_at P inp j t ≡ hearing (Collecting (suc n) false false) (storing n (frame_bit w.frame n)) =
        clean_step (64 + n) (frame_bit w.frame n) (omega arith) (body_bit w.frame n)
        ∙ ap (λ (r : Receiver). hear r true (frame_bit w.frame n) false) v.receiver
        ∙ collect_clean n (frame_bit w.frame n) (omega (arith, w.size)) in
        record {
          receiver = receiver_next P inp span L j hj t ∙ ap (λ (r : Received). r.receiver) q;
          buffer = subst (Filled w.frame (suc n))
              (sym (buffer_next P inp span L j hj t
              ∙ ap (λ (r : Received). stored_in (buffer_in P inp j t) r.stored) q))
              (filled_more w.frame (whole_octets P inp span L i a e hi w) n (buffer_in P inp j t) v.buffer l);
        }

    collecting : (n : ℕ) → n ≤ 8 * length w.frame → Collects n (a + P.d i j + (64 + n))
    collecting zero l = collect_start
    collecting (suc n) l = subst (Collects (suc n)) (omega arith) (collect_step n l (collecting n (omega arith)))

    -- A whole packet is collected.
    pub whole_complete : Complete P inp j (suc (e + P.d i j)) w.frame
    whole_complete =
        let v = collecting (8 * length w.frame) (omega arith) in
        let z : a + P.d i j + (64 + 8 * length w.frame) ≡ suc (e + P.d i j) = omega (arith, w.long) in
        record {
          receiver = subst (λ (x : ℕ). (state P inp x j).receiver ≡ Collecting (8 * length w.frame) false false) z
              v.receiver;
          buffer = subst (λ (x : ℕ). take (length w.frame) (buffer_in P inp j x) ≡ w.frame) z
              (filled_all w.frame (buffer_in P inp j (a + P.d i j + (64 + 8 * length w.frame))) v.buffer);
          silence = come.after;
        }
