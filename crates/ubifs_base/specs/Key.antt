-- Simple keys: two words, the inode number and then the type above 29 bits of value.
use Rattle.std.specs.Prelude.{ℕ, ◌+◌, ◌*◌, ◌/◌, ◌%◌, ◌^◌, ◌<◌, ◌==◌, if◌then◌else◌, List, ◌++◌, drop, Option, Some, None}
use Rattle.byteorder.specs.Endian.{little_bytes, little_number}
use Rattle.ubifs_base.specs.declared.key.Key.{Key}
use Rattle.ubifs_base.specs.declared.key.Key.TheVariants.{Ino, Block, Dent, Xent}

-- the two words of a key
abbrev pub key_words : Key → ℕ × ℕ
key_words (Ino ino) = (ino, 0)
key_words (Block ino block) = (ino, 1 * 2 ^ 29 + block)
key_words (Dent dir hash) = (dir, 2 * 2 ^ 29 + hash)
key_words (Xent ino hash) = (ino, 3 * 2 ^ 29 + hash)

-- the parts fit: an inode number has 32 bits, a block and a hash have 29
abbrev pub IsKey : Key → Type 0
IsKey (Ino ino) = ino < 2 ^ 32
IsKey (Block ino block) = (ino < 2 ^ 32) × (block < 2 ^ 29)
IsKey (Dent dir hash) = (dir < 2 ^ 32) × (hash < 2 ^ 29)
IsKey (Xent ino hash) = (ino < 2 ^ 32) × (hash < 2 ^ 29)

-- the eight bytes of a key, each word with its lowest byte first
abbrev pub key_spelled : Key → List ℕ
key_spelled key = little_bytes 4 (key_words key).0 ++ little_bytes 4 (key_words key).1

-- the key of two words: none where the type is above 3, or an inode's key has a value
abbrev pub key_from : ℕ → ℕ → Option Key
key_from first second =
    let kind = second / 2 ^ 29 in
    let value = second % 2 ^ 29 in
    if kind == 0 then (if value == 0 then Some (Ino first) else None)
    else if kind == 1 then Some (Block first value)
    else if kind == 2 then Some (Dent first value)
    else if kind == 3 then Some (Xent first value)
    else None

-- the key that eight bytes spell
unfoldable pub key_of : List ℕ → Option Key
key_of bytes = key_from (little_number 4 bytes) (little_number 4 (drop 4 bytes))
