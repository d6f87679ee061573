-- Symbols, what is heard, and the bits of a packet (document 01, "Frames" and "One bit time").
-- The laws are in PacketLaws. Assumes nothing.
use Rattle.std.specs.Prelude.{ℕ, zero, suc, Bool, true, false, List, [], ◌∷◌, ◌++◌, get_or}
use Rattle.octets.specs.Bits.{bits_of}
use Rattle.station_symbols.specs.declared.Symbol.{Symbol}
use Rattle.station_symbols.specs.declared.Symbol.TheVariants.{Silence, Bit, Jam}
use Rattle.station_symbols.specs.declared.Heard.{Heard}
use Rattle.station_symbols.specs.declared.Heard.TheVariants.{Nothing, Clean, Spoiled}
use Rattle.station_symbols.specs.declared.Emission.{Emission}
use Rattle.station_symbols.specs.declared.Emission.TheVariants.{Rest, PacketBit, JamBit}

-- whether any other is heard
abbrev pub hears_any : Heard → Bool
hears_any Nothing = false
hears_any (Clean b) = true
hears_any Spoiled = true

-- whether anything is emitted
abbrev pub is_emission : Emission → Bool
is_emission Rest = false
is_emission (PacketBit k) = true
is_emission JamBit = true

-- "seven octets of bits 10101010"
abbrev pub preamble : ℕ → List Bool
preamble zero = []
preamble (suc n) = true ∷ false ∷ true ∷ false ∷ true ∷ false ∷ true ∷ false ∷ preamble n

-- "the delimiter 10101011"
abbrev pub delimiter : List Bool
delimiter = true ∷ false ∷ true ∷ false ∷ true ∷ false ∷ true ∷ true ∷ []

-- "A packet is seven octets .., the delimiter .., then the frame: 64 header bits, then 512..12,144."
unfoldable pub packet_bits : List ℕ → List Bool
packet_bits f = preamble 7 ++ delimiter ++ bits_of f

-- bit j of a frame's octets, counted from 0; 0 past their end
unfoldable pub frame_bit : List ℕ → ℕ → Bool
frame_bit f j = get_or (bits_of f) j false

-- packet bit k, counted from 1: place 0 holds none
unfoldable pub packet_bit : List ℕ → ℕ → Bool
packet_bit f k = get_or (false ∷ packet_bits f) k false

-- the symbol that an emission is, of the packet that carries a frame
abbrev pub symbol_of : List ℕ → Emission → Symbol
symbol_of f Rest = Silence
symbol_of f (PacketBit k) = Bit (packet_bit f k)
symbol_of f JamBit = Jam
