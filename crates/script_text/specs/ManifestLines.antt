-- The lines of a manifest behind its first one: a directory, a file, a copy of a file, a symbolic link or a further name each.
use Rattle.std.specs.Prelude.{ℕ, ◌+◌, ◌<◌, ◌≤◌, ◌≡◌, ◌≢◌, ◌⊎◌, Option, Some, None, IsTrue, List, [], ◌∷◌, ◌++◌, length, codes}
use Rattle.fs_model.specs.Proper.{are_bytes}
use Rattle.script_text.specs.declared.manifest.Manifest.{Manifest}
use Rattle.script_text.specs.declared.manifest_line.ManifestLine.{ManifestLine}
use Rattle.script_text.specs.declared.manifest_line.ManifestLine.TheVariants.{Dir, File, Copy, Symlink, Link}
use Rattle.script_text.specs.Manifest.{HasRange, volume_line}
use Rattle.script_text.specs.Script.{BeginsWithEnd, end_line}
use Rattle.script_text.specs.Words.{Word, Fixed, Number, Mode, Path, Target, FileName, IsFileWord, AreSpacedWords}
use Rattle.text_lines.specs.Lines.{ended}

-- the first word of a line
abbrev pub made_name : ManifestLine → List ℕ
made_name (Dir path mode) = codes "dir"
made_name (File path mode len byte) = codes "file"
made_name (Copy path mode name) = codes "copy"
made_name (Symlink path target) = codes "symlink"
made_name (Link old new) = codes "link"

-- the words behind it
abbrev pub made_words : ManifestLine → List Word
made_words (Dir path mode) = Path path ∷ Mode mode ∷ []
made_words (File path mode len byte) = Path path ∷ Mode mode ∷ Number 32 len ∷ Number 8 byte ∷ []
made_words (Copy path mode name) = Path path ∷ Mode mode ∷ FileName name ∷ []
made_words (Symlink path target) = Path path ∷ Target target ∷ []
made_words (Link old new) = Path old ∷ Path new ∷ []

-- a file has 16,777,216 bytes at most
abbrev pub HasFewBytes : ManifestLine → Type 0
HasFewBytes (File path mode len byte) = len ≤ 16777216
HasFewBytes line = Unit {0}

-- the text is this line, without its newline: its words, in 10,000 bytes at most
pub record IsManifestLineOf (line : ManifestLine) (text : List ℕ) : Type 0 where
  pub words : AreSpacedWords (Fixed (made_name line) ∷ made_words line) text
  pub few : HasFewBytes line
  pub short : length text ≤ 10000

-- the text is these lines, one after another
abbrev pub AreManifestLinesOf : List ManifestLine → List ℕ → Type 0
AreManifestLinesOf [] text = text ≡ []
AreManifestLinesOf (line ∷ lines) text = (first : List ℕ) × (rest : List ℕ) × IsManifestLineOf line first × AreManifestLinesOf lines rest × (text ≡ ended first ++ rest)

-- the text begins with such a line
abbrev pub BeginsWithManifestLine : List ℕ → Type 0
BeginsWithManifestLine text = (line : ManifestLine) × (first : List ℕ) × (rest : List ℕ) × IsManifestLineOf line first × (text ≡ ended first ++ rest)

-- Behind `before` good lines the text ends as it should: with the line `end`. Or the first line that is none has this number: there are 100,000 good ones; or no line follows; or something follows `end`.
unfoldable pub EndsManifest : ℕ → List ℕ → Option ℕ → Type 0
EndsManifest before rest None = (before < 100000) × (rest ≡ end_line)
EndsManifest before rest (Some number) = ((before ≡ 100000) × (number ≡ before + 1))
    ⊎ ((before < 100000) × (BeginsWithManifestLine rest → ⊥) × (BeginsWithEnd rest → ⊥) × (number ≡ before + 1))
    ⊎ ((before < 100000) × ((more : List ℕ) × (more ≢ []) × (rest ≡ end_line ++ more)) × (number ≡ before + 2))

-- the text is these lines, with so many before them, and then ends well, or has its first bad line there
pub record AreManifestLines (before : ℕ) (text : List ℕ) (lines : List ManifestLine) (bad : Option ℕ) : Type 0 where
  pub good : List ℕ
  pub rest : List ℕ
  pub are : AreManifestLinesOf lines good
  pub text_is : text ≡ good ++ rest
  pub ends : EndsManifest (before + length lines) rest bad

-- The text is a line with this geometry and these lines. `bad` is the number of the first line that isn't in the grammar by its words alone.
pub record IsListedManifest (text : List ℕ) (volume : Manifest) (lines : List ManifestLine) (bad : Option ℕ) : Type 0 where
  pub behind : List ℕ
  pub text_is : text ≡ volume_line volume ++ behind
  pub range : HasRange volume
  pub listed : AreManifestLines 1 behind lines bad

-- no line with a geometry stands first
abbrev pub HasNoVolume : List ℕ → Type 0
HasNoVolume text = (volume : Manifest) (rest : List ℕ) → HasRange volume → text ≡ volume_line volume ++ rest → ⊥

-- what a line gives to keep is bytes, no file has too many, and a file that is copied has a name
abbrev pub IsGivenLine : ManifestLine → Type 0
IsGivenLine (Dir path mode) = IsTrue (are_bytes path)
IsGivenLine (File path mode len byte) = IsTrue (are_bytes path) × (len ≤ 16777216) × (byte < 256)
IsGivenLine (Copy path mode name) = IsTrue (are_bytes path) × IsFileWord name
IsGivenLine (Symlink path target) = IsTrue (are_bytes path) × IsTrue (are_bytes target)
IsGivenLine (Link old new) = IsTrue (are_bytes new)
