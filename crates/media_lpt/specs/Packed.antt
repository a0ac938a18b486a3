-- Numbers of so many bits each, packed one behind another, lowest bit first.
use Rattle.std.specs.Prelude.{◌≡◌, ℕ, ◌+◌, ◌*◌, ◌/◌, ◌%◌, ◌^◌, ◌<◌, List, [], ◌∷◌, length, drop}
use Rattle.ubifs_base.specs.Crc.{crc16_of}
use Rattle.ubifs_base.specs.Properties.{bytes_for, node_head_bits}

-- a field: how many bits it takes, and the number that they say
pub record Field : Type 0 where
  pub width : ℕ
  pub value : ℕ

-- a number of so many bits
abbrev pub field : ℕ → ℕ → Field
field width value = record { width = width; value = value }

-- the bits that the fields take
unfoldable pub bits_len : List Field → ℕ
bits_len [] = 0
bits_len (first ∷ rest) = first.width + bits_len rest

-- the fields as one number, the first in its lowest bits
unfoldable pub packed_number : List Field → ℕ
packed_number [] = 0
packed_number (first ∷ rest) = first.value + 2 ^ first.width * packed_number rest

-- each number fits its bits
unfoldable pub AllFit : List Field → Type 0
AllFit [] = Unit {0}
AllFit (first ∷ rest) = (first.value < 2 ^ first.width) × AllFit rest

-- the bytes as one number, the first in its lowest bits
unfoldable pub bytes_number : List ℕ → ℕ
bytes_number [] = 0
bytes_number (byte ∷ rest) = byte + 256 * bytes_number rest

-- These bytes, all of them, are a properties node of this type with these fields: first the checksum of all that follows it, then the type, then the fields, and zero bits to the end of the last byte.
pub record IsPacked (bytes : List ℕ) (kind : ℕ) (fields : List Field) : Type 0 where
  pub long : length bytes ≡ bytes_for (node_head_bits + bits_len fields)
  pub spelled : bytes_number bytes ≡ packed_number (field 16 (crc16_of (drop 2 bytes)) ∷ field 4 kind ∷ fields)

-- The fields were put into the bytes from this bit on, and nothing else changed.
pub record IsPut (old : List ℕ) (bit : ℕ) (fields : List Field) (new : List ℕ) : Type 0 where
  pub same_len : length new ≡ length old
  pub sum : bytes_number new ≡ bytes_number old + 2 ^ bit * packed_number fields

-- nothing stands in the bytes from this bit on
pub record IsFree (bytes : List ℕ) (bit : ℕ) : Type 0 where
  pub below : bytes_number bytes < 2 ^ bit

-- the fields stand in the bytes from this bit on
unfoldable pub IsAt : List ℕ → ℕ → List Field → Type 0
IsAt bytes bit [] = Unit {0}
IsAt bytes bit (first ∷ rest) = (first.value ≡ bytes_number bytes / 2 ^ bit % 2 ^ first.width) × IsAt bytes (bit + first.width) rest

-- The bytes are a properties node of this type and of so many bits behind its head, whatever its fields say.
pub record IsFramed (bytes : List ℕ) (type bits : ℕ) : Type 0 where
  pub long : length bytes ≡ bytes_for (node_head_bits + bits)
  pub checksum : bytes_number bytes % 2 ^ 16 ≡ crc16_of (drop 2 bytes)
  pub kind : bytes_number bytes / 2 ^ 16 % 2 ^ 4 ≡ type
  pub filled : bytes_number bytes < 2 ^ (node_head_bits + bits)
