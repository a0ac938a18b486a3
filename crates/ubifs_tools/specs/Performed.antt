-- What became of the files of a run.
use Rattle.std.specs.Prelude.{ℕ, List}
use Rattle.ubifs_base.specs.declared.raw_geometry.RawGeometry.{RawGeometry}
use Rattle.ubifs_base.specs.NodeLaws.{IsBytes}
use Rattle.fs_model.specs.declared.space.Space.{Space}
use Rattle.fs_model.specs.Files.{Tree}
use Rattle.image_report.specs.Told.{HoldsVolume, IsUnsound}
use Rattle.io_edges.specs.Keeper.{KeeperState}
use Rattle.script_text.specs.declared.part.Part.{Part}
use Rattle.ubifs_tools.specs.RunCommand.{IsBadGeometry, IsBadText, IsBadVolume, IsCopyUnread, IsRunDone, IsRunOf}
use Rattle.ubifs_tools.specs.declared.beginning.RunOn.{RunOn}
use Rattle.ubifs_tools.specs.declared.beginning.RunOn.TheVariants as on
use Rattle.ubifs_tools.specs.declared.perform.Ran.{Ran}
use Rattle.ubifs_tools.specs.declared.perform.Ran.TheVariants.{Unread, BadText, BadImage, BadGeometry, Done}

-- The script was run on the volume that this image holds, and this is what it printed and left.
pub record IsRunFrom (start : List ℕ) (parts : List Part) (text image : List ℕ) : Type 0 where
  pub geo : RawGeometry
  pub tree : Tree
  pub space : Space
  pub left : Tree
  pub bytes : IsBytes start
  pub volume : HoldsVolume start geo tree space
  pub run : IsRunOf (record { geo = geo; start = start; tree = tree; space = space; parts = parts; text = text; image = image; left = left })

-- what became of an image on which a run was to begin
abbrev pub IsRunOn : List ℕ → List Part → RunOn → Type 0
IsRunOn start parts (on.Unsound line) = IsUnsound start line.items
IsRunOn start parts (on.Ended output) = IsRunFrom start parts output.text.items output.image.items

-- what became of a volume and a script
abbrev pub IsRan : KeeperState → KeeperState → List ℕ × List ℕ → Ran → Type 0
IsRan old new texts (Unread line) = IsCopyUnread old new texts line.items
IsRan old new texts (BadText line) = IsBadText texts line.items
IsRan old new texts (BadImage line) = IsBadVolume texts line.items
IsRan old new texts (BadGeometry line) = IsBadGeometry old texts line.items
IsRan old new texts (Done text image) = IsRunDone old texts text.items image.items
