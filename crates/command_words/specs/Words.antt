-- The grammar of a command's words.
use Rattle.std.specs.Prelude.{◌≡◌, ◌≢◌, ◌⊎◌, ℕ, List, [], ◌∷◌, slice_index, codes}
use Rattle.command_words.specs.declared.command.Command.{Command}
use Rattle.command_words.specs.declared.command.Command.TheVariants.{Run, Mkfs, OfImage}
use Rattle.command_words.specs.declared.command.ImageCommand.{ImageCommand}
use Rattle.command_words.specs.declared.command.ImageCommand.TheVariants.{Check, Dump}

-- a word that names a file: it isn't empty, and no dash stands in front
abbrev pub IsFileName : List ℕ → Type 0
IsFileName word = (word ≢ []) × (slice_index word 0 ≢ 45)

-- the words `run`, a manifest or an image, a script, and the image to be written
pub record AreRunWords (words : List (List ℕ)) (volume script image : List ℕ) : Type 0 where
  pub words_are : words ≡ codes "run" ∷ volume ∷ script ∷ image ∷ []
  pub volume_is : IsFileName volume
  pub script_is : IsFileName script
  pub image_is : IsFileName image

-- the words `mkfs`, a manifest, and the image to be made
pub record AreMkfsWords (words : List (List ℕ)) (manifest image : List ℕ) : Type 0 where
  pub words_are : words ≡ codes "mkfs" ∷ manifest ∷ image ∷ []
  pub manifest_is : IsFileName manifest
  pub image_is : IsFileName image

-- the word for a command on an image
abbrev pub command_word : ImageCommand → List ℕ
command_word Check = codes "check"
command_word Dump = codes "dump"

-- such a word and an image
pub record AreImageWords (words : List (List ℕ)) (command : ImageCommand) (image : List ℕ) : Type 0 where
  pub words_are : words ≡ command_word command ∷ image ∷ []
  pub image_is : IsFileName image

-- the words are `run` with names of which this holds
pub record OnRun (words : List (List ℕ)) (P : List ℕ → List ℕ → List ℕ → Type 0) : Type 0 where
  pub volume : List ℕ
  pub script : List ℕ
  pub image : List ℕ
  pub is : AreRunWords words volume script image
  pub holds : P volume script image

-- the words are `mkfs` with names of which this holds
pub record OnMkfs (words : List (List ℕ)) (P : List ℕ → List ℕ → Type 0) : Type 0 where
  pub manifest : List ℕ
  pub image : List ℕ
  pub is : AreMkfsWords words manifest image
  pub holds : P manifest image

-- the words are a command on an image, and this holds of it and of the name
pub record OnImage (words : List (List ℕ)) (P : ImageCommand → List ℕ → Type 0) : Type 0 where
  pub command : ImageCommand
  pub image : List ℕ
  pub is : AreImageWords words command image
  pub holds : P command image

-- the words say this command, with these names
abbrev pub AreWordsOf : List (List ℕ) → Command → Type 0
AreWordsOf words (Run volume script image) = AreRunWords words volume.now script.now image.now
AreWordsOf words (Mkfs manifest image) = AreMkfsWords words manifest.now image.now
AreWordsOf words (OfImage command image) = AreImageWords words command image.now

-- the words say a command
abbrev pub IsInGrammar : List (List ℕ) → Type 0
IsInGrammar words =
    OnRun words (λ volume script image. Unit {0}) ⊎ OnMkfs words (λ manifest image. Unit {0}) ⊎ OnImage words (λ command image. Unit {0})

-- The words are neither a run of three files, nor a making of an image, nor a check or a dump of one.
abbrev pub IsOutsideGrammar : List (List ℕ) → Type 0
IsOutsideGrammar words = ((volume script image : List ℕ) → AreRunWords words volume script image → ⊥)
    × ((command : ImageCommand) (image : List ℕ) → AreImageWords words command image → ⊥)
    × ((manifest image : List ℕ) → AreMkfsWords words manifest image → ⊥)
