-- What a station hears of a whole packet; and the run of a frame that was sent, clear of others. That it passes every
-- other station so is in proofs/Alone. Assumes nothing.
use Rattle.std.specs.Prelude.{ℕ, suc, ◌+◌, ◌*◌, ◌≤◌, ◌<◌, ◌≡◌, List, length}
use Rattle.std.proofs.Common.{ap, arith}
use Rattle.sheet_layout.specs.Layout.{gap_of}
use Rattle.station_symbols.specs.declared.Heard.TheVariants.{Nothing, Clean}
use Rattle.station_symbols.specs.declared.Symbol.TheVariants.{Silence}
use Rattle.station_symbols.specs.Packet.{packet_bit}
use Rattle.station_spec.specs.Transmit.{packet_length, shortest_packet}
use Rattle.trace.specs.Trace.{Clear}
use Rattle.bus_meeting.specs.Net.{Net}
use Rattle.trace.specs.World.{Offer}
use Rattle.bus_meeting.specs.Gather.{on}
use Rattle.trace.specs.Run.{sig, emits, sees, Sound}
use Rattle.trace.specs.Inv.{Whole}
use Rattle.trace.specs.Keep.{unheard_in}
use Rattle.trace.specs.Sent.{whole_after}

-- What station j hears of the whole packet that station i sends over the steps a to e.
pub record Passes (P : Net) (inp : ℕ → List (Offer P)) (i a e : ℕ) (F : List ℕ) (j : ℕ) : Type 0 where
  pub comes : (k : ℕ) → k < packet_length (length F) → sees P inp j (a + P.d i j + k) ≡ Clean (packet_bit F (k + 1))
  pub before : (t : ℕ) → suc t ≡ a + P.d i j → sees P inp j t ≡ Nothing
  pub after : sees P inp j (suc (e + P.d i j)) ≡ Nothing
  pub listens : (s : ℕ) → a + P.d i j ≤ s → s ≤ e + P.d i j → sig P inp j s ≡ Silence

module _ (P : Net) (inp : ℕ → List (Offer P)) (span : ℕ) (L : Sound P span)
    (g : gap_of P.fig ≤ 64 + P.fig.jam) (fits : 2 * span ≤ shortest_packet P.fig) where
  module _ (i a e : ℕ) (hi : i < P.n) (w : Whole P inp i a e) where
    pub clear : Clear P.n span P.d (emits P inp) i a e
    clear =
        record {
          station = hi;
          start = w.ran.start;
          order = omega (arith, w.long);
          long = omega (arith, w.long, w.size);
          on = λ s lo up. w.ran.on s lo (omega arith);
          off = ap on (whole_after P inp span L i a e hi w);
          quiet = λ y lo up. unheard_in P inp span L i y (w.clear y lo up);
        }
