-- A frame that was sent passes every other station alone and whole, with silence around it. Assumes nothing.
use Rattle.std.specs.Prelude.{ℕ, suc, ◌+◌, ◌*◌, ◌≤◌, ◌<◌, ◌≡◌, true, List, ◌⊎◌, length}
use Rattle.std.proofs.Common.{sym, arith}
use Rattle.octets.specs.BaseLaws.{by_test}
use Rattle.sheet_layout.specs.Layout.{gap_of}
use Rattle.station_symbols.specs.declared.Symbol.TheVariants.{Bit}
use Rattle.station_symbols.specs.Packet.{packet_bit}
use Rattle.station_spec.specs.Transmit.{packet_length, shortest_packet}
use Rattle.trace.specs.Basic.{either}
use Rattle.trace.specs.Trace.{Clear}
use Rattle.trace.proofs.Trace.{alone, apart, listens, silent_before, silent_after}
use Rattle.bus_meeting.specs.Net.{Net}
use Rattle.trace.specs.World.{Offer}
use Rattle.bus_meeting.specs.Gather.{on, off_is}
use Rattle.trace.specs.Hear.{Only, only_heard, silence_heard}
use Rattle.trace.specs.Run.{sig, emits, sees, Sound}
use Rattle.trace.specs.Inv.{Whole}
use Rattle.trace.specs.Keep.{some_gap}
use Rattle.trace.proofs.Keep.{lawful}
use Rattle.trace.specs.Alone.{Passes, clear}

module _ (P : Net) (inp : ℕ → List (Offer P)) (span : ℕ) (L : Sound P span)
    (g : gap_of P.fig ≤ 64 + P.fig.jam) (fits : 2 * span ≤ shortest_packet P.fig) where
  module _ (i a e : ℕ) (hi : i < P.n) (w : Whole P inp i a e) where
    clear_run : Clear P.n span P.d (emits P inp) i a e
    clear_run = clear P inp span L g fits i a e hi w

    -- Another station emits well before the packet passes it, or well after.
    pub others_apart : (k s : ℕ) → k < P.n → (i ≡ k → ⊥) → emits P inp k s ≡ true
        → (s + P.d i k + suc (gap_of P.fig) ≤ a) ⊎ (e + P.d i k + suc (gap_of P.fig) ≤ s)
    others_apart k s hk ne o = apart (lawful P inp span L g) clear_run k s hk ne o

    only : (j k : ℕ) → j < P.n → (i ≡ j → ⊥) → k < packet_length (length w.frame)
        → Only P.n P.d (sig P inp) j (a + P.d i j + k) (Bit (packet_bit w.frame (k + 1)))
    only j k hj ne l =
        record {
          from = i;
          at = a + k;
          station = hi;
          other = ne;
          delay = omega arith;
          is = w.bits k l;
          rest = λ x y hx nj nf z. by_test (on (sig P inp x y))
              (λ o. absurd (either (alone (lawful P inp span L g) clear_run j x y (a + P.d i j + k) hj hx (λ q. nf (sym q))
              (some_gap P inp span L) o z)
              (λ h. omega arith) (λ h. omega (arith, w.long))))
              (λ o. off_is (sig P inp x y) o);
        }

    -- A frame that was sent is heard alone and whole at every other station, which listens.
    pub passes : (j : ℕ) → j < P.n → (i ≡ j → ⊥) → Passes P inp i a e w.frame j
    unfolding sees
    passes j hj ne =
        record {
          comes = λ k l. only_heard P (sig P inp) j (a + P.d i j + k) (Bit (packet_bit w.frame (k + 1)))
              (only j k hj ne l);
          before = λ t z. silence_heard P (sig P inp) j t
              (silent_before (lawful P inp span L g) clear_run j t hj ne (some_gap P inp span L) z);
          after = silence_heard P (sig P inp) j (suc (e + P.d i j))
              (silent_after (lawful P inp span L g) clear_run j hj ne (some_gap P inp span L));
          listens = λ s lo up. off_is (sig P inp j s) (listens (lawful P inp span L g) clear_run j s hj ne lo up);
        }
