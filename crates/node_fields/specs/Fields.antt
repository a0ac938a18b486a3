-- A body as fields, one after another, and a tail of bytes.
use Rattle.std.specs.Prelude.{◌≡◌, ℕ, ◌+◌, ◌^◌, ◌<◌, ◌≤◌, List, [], ◌∷◌, ◌++◌, length, take, drop, replicate, ⊤}
use Rattle.byteorder.specs.Endian.{little_bytes, little_number}
use Rattle.ubifs_base.specs.Key.{key_words}
use Rattle.ubifs_base.specs.declared.key.Key.{Key}

-- a number of so many bytes, lowest first, or so many bytes that are ignored
pub data Field : Type 0 where
  number : (width value : ℕ) → Field
  ignored : (width : ℕ) → Field

-- These bytes are these fields, in order, and then the tail. Ignored bytes may be anything.
unfoldable pub Spells : List Field → List ℕ → List ℕ → Type 0
Spells [] tail bytes = bytes ≡ tail
Spells (number width value ∷ fields) tail bytes =
    (value < 256 ^ width) × (take width bytes ≡ little_bytes width value) × Spells fields tail (drop width bytes)
Spells (ignored width ∷ fields) tail bytes = (width ≤ length bytes) × Spells fields tail (drop width bytes)

-- the spelling in which all that is ignored is 0
unfoldable pub spelling : List Field → List ℕ → List ℕ
spelling [] tail = tail
spelling (number width value ∷ fields) tail = little_bytes width value ++ spelling fields tail
spelling (ignored width ∷ fields) tail = replicate width 0 ++ spelling fields tail

-- a key: its two words, and eight bytes that are ignored
abbrev pub key_fields : Key → List Field
key_fields key = number 4 (key_words key).0 ∷ number 4 (key_words key).1 ∷ ignored 8 ∷ []

-- how many bytes the fields take
abbrev pub total_width : List Field → ℕ
total_width [] = 0
total_width (number width value ∷ fields) = width + total_width fields
total_width (ignored width ∷ fields) = width + total_width fields

-- each number fits its bytes
abbrev pub AllFit : List Field → Type 0
AllFit [] = ⊤
AllFit (number width value ∷ fields) = (value < 256 ^ width) × AllFit fields
AllFit (ignored width ∷ fields) = AllFit fields

-- from this place on, the numbers that stand in the bytes are those of the fields
abbrev pub Reads : ℕ → List Field → List ℕ → Type 0
Reads place [] bytes = ⊤
Reads place (number width value ∷ fields) bytes = (little_number width (drop place bytes) ≡ value) × Reads (place + width) fields bytes
Reads place (ignored width ∷ fields) bytes = Reads (place + width) fields bytes
