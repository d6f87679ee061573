-- A published value of the definition, by computation; the others are run by the program `vectors`.
use Rattle.std.specs.Prelude.{◌≡◌, refl, [], ◌∷◌}
use Rattle.std.proofs.Math.Bool.{xor}
use Rattle.octets.specs.Bits.{low_bits, bits_of, low_first}
use Rattle.frame_crc.specs.Crc.{generator, add, complement_first, remainder, dividend, crc_bits, crc_of}

-- the check value of CRC-32: that of "123456789"
check_value : crc_of (49 ∷ 50 ∷ 51 ∷ 52 ∷ 53 ∷ 54 ∷ 55 ∷ 56 ∷ 57 ∷ []) ≡ 0xcbf4_3926
unfolding low_bits bits_of low_first generator add complement_first remainder dividend crc_bits crc_of xor
check_value = refl
