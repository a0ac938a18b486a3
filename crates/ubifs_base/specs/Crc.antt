-- Checksums with a reflected polynomial, bit by bit.
use Rattle.std.specs.Prelude.{ℕ, zero, suc, ◌/◌, ◌%◌, ◌==◌, if◌then◌else◌, bit_xor, List, [], ◌∷◌}

-- what is added where the bit that falls out is 1
abbrev pub feedback : ℕ → ℕ → ℕ
feedback polynomial bit = if bit == 1 then polynomial else 0

-- one step: the lowest bit falls out
abbrev pub crc_bit : ℕ → ℕ → ℕ
crc_bit polynomial crc = bit_xor (crc / 2) (feedback polynomial (crc % 2))

-- n steps
unfoldable pub crc_bits : ℕ → ℕ → ℕ → ℕ
crc_bits polynomial zero crc = crc
crc_bits polynomial (suc n) crc = crc_bits polynomial n (crc_bit polynomial crc)

-- a byte is added to the lowest bits, and falls out
abbrev pub crc_byte : ℕ → ℕ → ℕ → ℕ
crc_byte polynomial crc byte = crc_bits polynomial 8 (bit_xor crc byte)

-- going on from crc
abbrev pub crc_from : ℕ → ℕ → List ℕ → ℕ
crc_from polynomial crc [] = crc
crc_from polynomial crc (byte ∷ bytes) = crc_from polynomial (crc_byte polynomial crc byte) bytes

-- the checksum of nodes: the polynomial of CRC-32, and no inversion at the end
unfoldable pub crc32_of : List ℕ → ℕ
crc32_of bytes = crc_from 0xEDB88320 0xFFFFFFFF bytes

-- the checksum of properties nodes
unfoldable pub crc16_of : List ℕ → ℕ
crc16_of bytes = crc_from 0xA001 0xFFFF bytes
