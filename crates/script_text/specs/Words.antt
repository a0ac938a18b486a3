-- Words of a line, and the bytes, modes and numbers that they spell.
use Rattle.std.specs.Prelude.{ℕ, ◌+◌, ◌*◌, ◌-◌, ◌/◌, ◌%◌, ◌<◌, ◌≤◌, ◌^◌, ◌≡◌, ◌≢◌, ◌⊎◌, ◌&&◌, Bool, false, true, not, nat_lt, nat_le, List, [], ◌∷◌, ◌++◌, length, slice_index}
use Rattle.std.specs.List.{list_any, list_all}
use Rattle.std.specs.Fmt.{decimal, digits}
use Rattle.std.specs.Str.{IsUtf8}
use Rattle.fs_model.specs.Path.{components, is_absolute, is_empty}
use Rattle.script_text.specs.Escapes.{is_printable, hex_digit}

-- a number in octal digits, as a mode is written
abbrev pub octal : ℕ → List ℕ
octal n = digits 8 false n

-- no byte of the text is this one
abbrev pub Lacks : ℕ → List ℕ → Type 0
Lacks byte [] = Unit {0}
Lacks byte (x ∷ xs) = (x ≢ byte) × Lacks byte xs

-- no plus in front, and no zero before other digits
abbrev pub IsPlainNumeral : List ℕ → Type 0
IsPlainNumeral bytes = (slice_index bytes 0 ≢ 43) × (slice_index bytes 0 ≡ 48 → length bytes ≡ 1)

-- The text begins with a byte, and this follows: the byte itself, where it is printable ASCII other than the space and `%`, or `%` and its two lower-case hex digits.
abbrev pub BeginsWithByte : List ℕ → ℕ → List ℕ → Type 0
BeginsWithByte text byte rest = (byte < 256)
    × (((is_printable byte ≡ true) × (text ≡ byte ∷ rest)) ⊎ (text ≡ 37 ∷ hex_digit (byte / 16) ∷ hex_digit (byte % 16) ∷ rest))

-- the word spells the bytes, one after another
abbrev pub IsWordSpelled : List ℕ → List ℕ → Type 0
IsWordSpelled word [] = word ≡ []
IsWordSpelled word (byte ∷ bytes) = (rest : List ℕ) × BeginsWithByte word byte rest × IsWordSpelled rest bytes

-- `/`, or components each after a slash, none of them empty
abbrev pub is_rooted : List ℕ → Bool
is_rooted bytes = is_absolute bytes && not (list_any is_empty (components bytes))

abbrev pub is_octal_digit : ℕ → Bool
is_octal_digit byte = nat_le 48 byte && nat_lt byte 56

-- the number that octal digits behind a number say
abbrev pub octal_number : ℕ → List ℕ → ℕ
octal_number n [] = n
octal_number n (digit ∷ more) = octal_number (8 * n + (digit - 48)) more

-- one to four octal digits, of which the first may be zeros
pub record IsMode (word : List ℕ) (mode : ℕ) : Type 0 where
  pub some : 1 ≤ length word
  pub few : length word ≤ 4
  pub octal : list_all is_octal_digit word ≡ true
  pub value : octal_number 0 word ≡ mode

-- a word that names a file as it stands: UTF-8, without a space and without a newline
pub record IsFileWord (word : List ℕ) : Type 0 where
  pub some : word ≢ []
  pub no_space : Lacks 32 word
  pub no_newline : Lacks 10 word
  pub text : IsUtf8 word

-- a word of the grammar, with what it says: a fixed word, a number below a power of 2, a mode, a path, a target or a file's name
pub data Word : Type 0 where
  Fixed : List ℕ → Word
  Number : ℕ → ℕ → Word
  Mode : ℕ → Word
  Path : List ℕ → Word
  Target : List ℕ → Word
  FileName : List ℕ → Word

-- the text is such a word
abbrev pub IsWord : Word → List ℕ → Type 0
IsWord (Fixed text) word = word ≡ text
IsWord (Number bits n) word = (n < 2 ^ bits) × (word ≡ decimal n)
IsWord (Mode mode) word = IsMode word mode
IsWord (Path path) word = IsWordSpelled word path × (is_rooted path ≡ true)
IsWord (Target target) word = IsWordSpelled word target
IsWord (FileName name) word = (word ≡ name) × IsFileWord name

-- the text is such words, with one space between them
abbrev pub AreSpacedWords : List Word → List ℕ → Type 0
AreSpacedWords [] text = text ≡ []
AreSpacedWords (word ∷ []) text = IsWord word text
AreSpacedWords (word ∷ next ∷ words) text = (first : List ℕ) × (rest : List ℕ) × IsWord word first × AreSpacedWords (next ∷ words) rest × (text ≡ first ++ (32 ∷ rest))
