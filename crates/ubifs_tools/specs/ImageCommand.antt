-- What the commands `check` and `dump` answer, over the files that they are given.
use Rattle.std.specs.Prelude.{◌≡◌, ◌⊎◌, ℕ, List}
use Rattle.ubifs_base.specs.Faults.{Rose}
use Rattle.io_edges.specs.Keeper.{KeeperState, SameFiles}
use Rattle.image_report.specs.Told.{IsUnsound, ListsSound, TellsSound}
use Rattle.ubifs_tools.specs.Command.{IsMissing, Told, file_line}
use Rattle.command_words.specs.declared.command.ImageCommand.{ImageCommand}
use Rattle.command_words.specs.declared.command.ImageCommand.TheVariants.{Check, Dump}

-- The bytes are a sound image. What is told of it is whether it is clean, and its space; or the listing of its LEBs.
abbrev pub Tells : ImageCommand → List ℕ → List ℕ → Type 0
Tells Check bytes text = TellsSound bytes text
Tells Dump bytes text = ListsSound bytes text

-- An image isn't sound, and the line says what is wrong with it first.
pub record IsBadImage (old new : KeeperState) (image line : List ℕ) : Type 0 where
  pub bytes : List ℕ
  pub told : Told old image bytes
  pub unsound : IsUnsound bytes line
  pub same : SameFiles old new

-- An image is sound, and the text tells of it what was asked for.
pub record IsTextOf (command : ImageCommand) (old new : KeeperState) (image text : List ℕ) : Type 0 where
  pub bytes : List ℕ
  pub told : Told old image bytes
  pub tells : Tells command bytes text
  pub same : SameFiles old new

-- The keeper failed, or there is no such image; the line names it.
abbrev pub IsNoImage : KeeperState → KeeperState → List ℕ → List ℕ → Type 0
IsNoImage old new image line = (Rose old.faults new.faults ⊎ IsMissing old image) × (line ≡ file_line image)
