-- The header of a node: magic, checksum, and 16 bytes that the checksum covers.
use Rattle.std.specs.Prelude.{◌≡◌, ◌≢◌, ◌<◌, ◌≤◌, ◌⊎◌, ℕ, ◌==◌, ◌||◌, not, nat_lt, if◌then◌else◌, List, length, take, drop, slice_index, Result, Ok, Err}
use Rattle.byteorder.specs.Endian.{little_number}
use Rattle.ubifs_base.specs.Crc.{crc32_of}
use Rattle.ubifs_base.specs.declared.header.Head.{Head}
use Rattle.ubifs_base.specs.declared.header.FrameFault.{FrameFault}
use Rattle.ubifs_base.specs.declared.header.FrameFault.TheVariants.{Short, Magic, Len, Crc}
use Rattle.ubifs_base.specs.declared.header.TheConstants.{MAGIC}

-- the magic that stands there
abbrev pub magic_at : List ℕ → ℕ
magic_at bytes = little_number 4 bytes

-- the checksum that stands there
abbrev pub crc_at : List ℕ → ℕ
crc_at bytes = little_number 4 (drop 4 bytes)

-- the length that stands there
abbrev pub len_at : List ℕ → ℕ
len_at bytes = little_number 4 (drop 16 bytes)

-- the checksum of the node's bytes from 8 on
abbrev pub crc_wanted : List ℕ → ℕ
crc_wanted bytes = crc32_of (drop 8 (take (len_at bytes) bytes))

-- the head of the node at the front of the bytes, or the first fault
unfoldable pub unframed : List ℕ → Result Head FrameFault
unframed bytes =
    if nat_lt (length bytes) 24 then Err (Short (length bytes))
    else if not (magic_at bytes == MAGIC) then Err (Magic (magic_at bytes))
    else if nat_lt (len_at bytes) 24 || nat_lt (length bytes) (len_at bytes) then Err (Len (len_at bytes))
    else if not (crc_at bytes == crc_wanted bytes) then Err (Crc (crc_wanted bytes) (crc_at bytes))
    else Ok (record { sqnum = little_number 8 (drop 8 bytes); len = len_at bytes; kind = slice_index bytes 20; group = slice_index bytes 21 })

-- too few bytes for a header
abbrev pub IsShort : List ℕ → Type 0
IsShort bytes = length bytes < 24

-- else, another magic
pub record HasOtherMagic (bytes : List ℕ) : Type 0 where
  pub long : 24 ≤ length bytes
  pub other : magic_at bytes ≢ MAGIC

-- else, a length under 24 or over the bytes that are there
pub record HasBadLen (bytes : List ℕ) : Type 0 where
  pub long : 24 ≤ length bytes
  pub magic : magic_at bytes ≡ MAGIC
  pub bad : (len_at bytes < 24) ⊎ (length bytes < len_at bytes)

-- else, another checksum than the bytes have
pub record HasOtherCrc (bytes : List ℕ) : Type 0 where
  pub long : 24 ≤ length bytes
  pub magic : magic_at bytes ≡ MAGIC
  pub low : 24 ≤ len_at bytes
  pub high : len_at bytes ≤ length bytes
  pub other : crc_at bytes ≢ crc_wanted bytes

-- what a header that is read says
pub record HasHead (bytes : List ℕ) (head : Head) : Type 0 where
  pub long : 24 ≤ length bytes
  pub magic : little_number 4 bytes ≡ MAGIC
  pub low : 24 ≤ head.len
  pub high : head.len ≤ length bytes
  pub crc : little_number 4 (drop 4 bytes) ≡ crc32_of (drop 8 (take head.len bytes))
  pub sqnum : head.sqnum ≡ little_number 8 (drop 8 bytes)
  pub len : head.len ≡ little_number 4 (drop 16 bytes)
  pub kind : head.kind ≡ slice_index bytes 20
  pub group : head.group ≡ slice_index bytes 21
