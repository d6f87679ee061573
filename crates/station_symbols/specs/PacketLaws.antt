-- The bits of a packet, by number. Assumes nothing.
use Rattle.std.specs.Prelude.{ℕ, ◌+◌, ◌-◌, ◌/◌, ◌%◌, ◌^◌, ◌≤◌, ◌<◌, ◌≡◌, Bool, true, false, List, ◌∷◌, ◌++◌, leb, eqb, length, get_or}
use Rattle.std.proofs.Math.Path.{sym}
use Rattle.std.proofs.Common.{◌∙◌, ap, arith, le-leb, get_or-append-add}
use Rattle.std.proofs.lemmas.Bool.{lt-leb}
use Rattle.std.proofs.Math.ListN.{get_or-append}
use Rattle.octets.specs.Base.{pick}
use Rattle.octets.specs.Bits.{bits_of}
use Rattle.octets.specs.BitsLaws.{octet_bit, octet_bit_past}
use Rattle.octets.specs.Table.{entry}
use Rattle.station_symbols.specs.declared.Symbol.TheVariants.{Bit}
use Rattle.station_symbols.specs.declared.Emission.{Emission}
use Rattle.station_symbols.specs.declared.Emission.TheVariants.{PacketBit}
use Rattle.station_symbols.specs.Packet.{preamble, delimiter, packet_bits, frame_bit, packet_bit, symbol_of}

-- ---- a frame's bits

pub frame_bit_past : (f : List ℕ) (j : ℕ) → length f ≤ j / 8 → false ≡ frame_bit f j
unfolding frame_bit
frame_bit_past f j h = sym (octet_bit_past f j h)

pub frame_bit_lem : (f : List ℕ) (j x : ℕ) → x ≡ get_or f (j / 8) 0 → j / 8 < length f
    → eqb (x / 2 ^ (j % 8) % 2) 1 ≡ frame_bit f j
unfolding frame_bit
frame_bit_lem f j x p h = ap (λ (y : ℕ). eqb (y / 2 ^ (j % 8) % 2) 1) p ∙ sym (octet_bit f j h)

-- ---- the header, with the place before bit 1: ones at odd numbers, and at 64

header_bit : ℕ → Bool
header_bit k = pick (leb k 62) (eqb (k % 2) 1) true

header : List Bool
header = false ∷ (preamble 7 ++ delimiter)

header_bit_lem : (k : ℕ) → k < 65 → get_or header k false ≡ header_bit k
unfolding header header_bit
header_bit_lem k h = entry header_bit false 65 k h

in_header : (f : List ℕ) (k : ℕ) → k < 65 → packet_bit f k ≡ header_bit k
unfolding packet_bit packet_bits header
in_header f k h = get_or-append header (bits_of f) false k h ∙ header_bit_lem k h

past_header : (f : List ℕ) (k : ℕ) → 64 < k → packet_bit f k ≡ frame_bit f (k - 65)
unfolding packet_bit packet_bits frame_bit header
past_header f k h =
    let e : k ≡ length header + (k - 65) = omega arith in
    ap (λ (i : ℕ). get_or (header ++ bits_of f) i false) e ∙ get_or-append-add header (bits_of f) (k - 65) false

module _ (f : List ℕ) (k : ℕ) where
  pub bit_alternates : k ≤ 62 → eqb (k % 2) 1 ≡ packet_bit f k
  unfolding header_bit
  bit_alternates h = sym (in_header f k (omega arith) ∙ rw (le-leb k 62 h))

  pub bit_delimits : 62 < k → k ≤ 64 → true ≡ packet_bit f k
  unfolding header_bit
  bit_delimits h g = sym (in_header f k (omega arith) ∙ rw (lt-leb k 62 h))

  pub bit_of_frame : (b : Bool) → 64 < k → b ≡ frame_bit f (k - 65) → b ≡ packet_bit f k
  bit_of_frame b h p = p ∙ sym (past_header f k h)

pub symbol_bit : (f : List ℕ) (e : Emission) (k : ℕ) (b : Bool) → e ≡ PacketBit k → b ≡ packet_bit f k
    → Bit b ≡ symbol_of f e
symbol_bit f e k b p q = rw p (ap Bit q)
