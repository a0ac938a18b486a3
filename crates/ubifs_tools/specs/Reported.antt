-- How a command on an image ended, over a keeper's files before and after it.
use Rattle.std.specs.Prelude.{ℕ, List}
use Rattle.io_edges.specs.Keeper.{KeeperState, SameFiles}
use Rattle.ubifs_tools.specs.ImageCommand.{IsBadImage, IsNoImage, IsTextOf}
use Rattle.command_words.specs.declared.command.ImageCommand.{ImageCommand}
use Rattle.ubifs_tools.specs.declared.image_command.Reported.{Reported}
use Rattle.ubifs_tools.specs.declared.image_command.Reported.TheVariants.{Unread, BadImage, Done}

abbrev pub IsReported : ImageCommand → KeeperState → KeeperState → List ℕ → Reported → Type 0
IsReported command old new image (Unread line) = IsNoImage old new image line.items × SameFiles old new
IsReported command old new image (BadImage line) = IsBadImage old new image line.items
IsReported command old new image (Done text) = IsTextOf command old new image text.items
