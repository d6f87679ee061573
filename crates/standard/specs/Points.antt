-- Two points beside the theorem: whom it concerns, and which collisions are late. Assumes nothing.
use Rattle.std.specs.Prelude.{ℕ, ◌+◌, ◌-◌, ◌≡◌, ltb}
use Rattle.std.proofs.Common.{sym, ◌∙◌, arith, lt-ltb, le-ltb}
use Rattle.sheet_layout.specs.declared.Figures.{Figures}
use Rattle.sheet_layout.specs.CheckLaws.{Figured}
use Rattle.standard.specs.Seen.{Ranges}
use Rattle.standard.specs.Language.{Variables, current_transmit_bit, header_bits}
use Rattle.standard.specs.Interpreter.{Place}
use Rattle.standard.specs.TransmitLaws.{Next, in_header, in_frame, by_le}

-- ---- every layout that passes check 5 has what the theorem asks for

pub figured_ranges : (f : Figures) → Figured f → Ranges f
figured_ranges f h =
    record {
      slot = h.slot.0;
      gap2 = h.gap2.0;
      jam = h.jam.0;
      limit = h.limit.0;
      backoff = h.backoff.0;
    }

-- ---- late

-- The page (4.2.8) compares the position in header or frame with minFrameSize - headerSize, 512 - 64; document 01
-- compares the packet's bit with the slot. At the slot of 512 they agree, whatever bit is next.
pub late_as_printed : (f : Figures) (v : Variables) (z k : ℕ) (bt : Place) → f.slot ≡ 512 → Next f v z k bt
    → ltb (512 - 64) (v.numbers current_transmit_bit)
    ≡ ltb f.slot (v.numbers header_bits + v.numbers current_transmit_bit)
late_as_printed f v z k bt s (in_header b c h g m) =
    le-ltb 448 (v.numbers current_transmit_bit) (omega arith)
    ∙ sym (le-ltb f.slot (v.numbers header_bits + v.numbers current_transmit_bit) (omega arith))
late_as_printed f v z k bt s (in_frame b h c g i m) =
    by_le (v.numbers current_transmit_bit) 448
    (λ a. le-ltb 448 (v.numbers current_transmit_bit) a
    ∙ sym (le-ltb f.slot (v.numbers header_bits + v.numbers current_transmit_bit) (omega arith)))
    (λ a. lt-ltb 448 (v.numbers current_transmit_bit) a
    ∙ sym (lt-ltb f.slot (v.numbers header_bits + v.numbers current_transmit_bit) (omega arith)))
