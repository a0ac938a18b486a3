-- The command line as `clap` takes it apart.
use Rattle.std.specs.Prelude.{◌≡◌, ◌⊎◌, true, false, ℕ, List, [], ◌∷◌, map, Some, None, codes}
use Rattle.clap.specs.Words.{App, app_of, Row, Rule, Shape, new_rule, subcommand_rows_of}
use Rattle.clap.specs.Simple.{new_shape}
use Rattle.clap.specs.declared.builder.value_parser.Reading.TheVariants.{AsWritten}
use Rattle.clap.specs.declared.builder.command.Command.{Command}
use Rattle.clap.specs.declared.builder.command.Command.TheViews.{out-Command as fields_of}
use Rattle.clap.specs.declared.parser.ArgMatches.{ArgMatches}
use Rattle.clap.specs.declared.parser.matches.ValueSource.TheVariants.{CommandLine}
use Rattle.command_words.specs.Words.{AreMkfsWords, AreImageWords, AreRunWords, command_word}
use Rattle.command_words.specs.declared.command.ImageCommand.{ImageCommand}

-- a required word of this name
abbrev pub word_rule : List ℕ → Rule
word_rule id = record (new_rule id) { required = true }

-- a subcommand of this name, with these required words
abbrev pub subcommand_shape : List ℕ → List (List ℕ) → Shape
subcommand_shape name ids = record (new_shape name) { rules = map word_rule ids }

abbrev pub run_shape : Shape
run_shape = subcommand_shape (codes "run") (codes "volume" ∷ codes "script" ∷ codes "image" ∷ [])

abbrev pub mkfs_shape : Shape
mkfs_shape = subcommand_shape (codes "mkfs") (codes "manifest" ∷ codes "image" ∷ [])

-- a subcommand on an image
abbrev pub image_shape : List ℕ → Shape
image_shape name = subcommand_shape name (codes "image" ∷ [])

-- a parser of this shape without subcommands, of which no word holds below it too
abbrev pub IsSubcommand : Shape → Command → Type 0
IsSubcommand shape made = (app_of made ≡ record { top = shape; subs = [] }) × ((fields_of made).has_globals ≡ false)

-- the program above its subcommands, without any help
abbrev pub program_shape : Shape
program_shape = record (new_shape (codes "ubifs")) {
  is_leaf = false;
  no_binary_name = true;
  disable_help_flag = true;
  disable_help_subcommand = true;
}

-- the program with its subcommands
abbrev pub program_app : App
program_app = record {
  top = program_shape;
  subs = run_shape ∷ mkfs_shape ∷ image_shape (codes "check") ∷ image_shape (codes "dump") ∷ [];
}

-- what is found for such a word
abbrev pub word_row : List ℕ → List ℕ → Row
word_row id text = record {
  id = id;
  values = text ∷ [];
  count = None;
  source = Some CommandLine;
  reading = AsWritten;
}

-- the words are a run of these names
pub record IsRunTaken (words : List (List ℕ)) (rows : List Row) : Type 0 where
  pub volume : List ℕ
  pub script : List ℕ
  pub image : List ℕ
  pub is : AreRunWords words volume script image
  pub rows_are : rows ≡ word_row (codes "volume") volume ∷ word_row (codes "script") script ∷ word_row (codes "image") image ∷ []

-- the words are a making of an image, of these names
pub record IsMkfsTaken (words : List (List ℕ)) (rows : List Row) : Type 0 where
  pub manifest : List ℕ
  pub image : List ℕ
  pub is : AreMkfsWords words manifest image
  pub rows_are : rows ≡ word_row (codes "manifest") manifest ∷ word_row (codes "image") image ∷ []

-- the words are this command on the image of this name
pub record IsImageTaken (words : List (List ℕ)) (command : ImageCommand) (rows : List Row) : Type 0 where
  pub image : List ℕ
  pub is : AreImageWords words command image
  pub rows_are : rows ≡ word_row (codes "image") image ∷ []

-- the subcommand of the words was found with just its names
abbrev pub AreTakenApart : List (List ℕ) → ArgMatches → Type 0
AreTakenApart words m = (rows : List Row) × (((subcommand_rows_of m ≡ Some (codes "run", rows)) × IsRunTaken words rows)
    ⊎ ((subcommand_rows_of m ≡ Some (codes "mkfs", rows)) × IsMkfsTaken words rows)
    ⊎ ((command : ImageCommand) × (subcommand_rows_of m ≡ Some (command_word command, rows)) × IsImageTaken words command rows))
