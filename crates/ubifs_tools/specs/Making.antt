-- What the command `mkfs` answers, over the files that it is given.
use Rattle.std.specs.Prelude.{◌≡◌, ◌⊎◌, ℕ, ◌<◌, ◌≤◌, false, IsTrue, if◌then◌else◌, List, [], ◌∷◌, codes}
use Rattle.std.specs.Fmt.{decimal}
use Rattle.ubifs_base.specs.Faults.{Rose}
use Rattle.ubifs_base.specs.Geometry.{IsGeometry}
use Rattle.ubifs_base.specs.GeometryFaults.{IsFirstOut, tested_fields}
use Rattle.ubifs_base.specs.declared.raw_geometry.GeomFault.{GeomFault}
use Rattle.ubifs_base.specs.declared.raw_geometry.RawGeometry.{RawGeometry}
use Rattle.ubi_volume.specs.Volume.{image_of}
use Rattle.text_lines.specs.Lines.{line_of}
use Rattle.fs_model.specs.Files.{Tree}
use Rattle.fs_model.specs.Proper.{IsProper}
use Rattle.script_text.specs.declared.manifest.Manifest.{Manifest}
use Rattle.manifest_tree.specs.ManifestTree.{IsFirstBadTreeLine}
use Rattle.tree_space.specs.Laid.{IsTreeAdmitted, bytes_needed, bytes_of_room}
use Rattle.image_report.specs.Lebs.{AreLebsOfGeometry}
use Rattle.whole_image.specs.Made.{IsMadeImage, packed_geometry}
use Rattle.io_edges.specs.Keeper.{KeeperState, SameFiles, SetsFile}
use Rattle.ubifs_tools.specs.Copies.{CopiesFile, IsFilledManifest, IsUnfilled}
use Rattle.ubifs_tools.specs.Pieces.{volume_image}
use Rattle.ubifs_tools.specs.Command.{IsMissing, Told, bad_line, field_name, file_line, manifest_geometry, no_identifier}
use Rattle.ubifs_tools.specs.declared.command.Ended.{Ended}
use Rattle.ubifs_tools.specs.declared.command.Ended.TheVariants.{Unread, BadText, BadGeometry, Done}
use Rattle.ubifs_tools.specs.declared.mkfs.Copied.{Copied}
use Rattle.ubifs_tools.specs.declared.mkfs.Copied.TheVariants as copied
use Rattle.ubifs_tools.specs.declared.mkfs.Filled.{Filled}
use Rattle.ubifs_tools.specs.declared.mkfs.Filled.TheVariants as filled
use Rattle.ubifs_tools.specs.declared.mkfs.MadeVolume.{MadeVolume}
use Rattle.ubifs_tools.specs.declared.mkfs.MadeVolume.TheVariants as on_volume
use Rattle.ubifs_tools.specs.declared.perform.Performed.{Performed}
use Rattle.ubifs_tools.specs.declared.perform.Performed.TheVariants as performed

-- the text isn't in its grammar, and the line names its first bad line
pub record IsBadTree (text line : List ℕ) : Type 0 where
  pub number : ℕ
  pub bad : IsFirstBadTreeLine text number
  pub line_is : line ≡ bad_line (codes "manifest") number

-- admission refuses the tree, and the line tells the two sides of its test
pub record IsTooFull (geo : RawGeometry) (tree : Tree) (line : List ℕ) : Type 0 where
  pub more : bytes_of_room geo tree < bytes_needed geo tree
  pub line_is : line ≡ line_of (codes "full" ∷ decimal (bytes_needed geo tree) ∷ decimal (bytes_of_room geo tree) ∷ [])

-- The image's bytes are those of a volume that holds a sound image of exactly this tree, and the line tells how many LEBs that are.
pub record IsToldImage (geo : RawGeometry) (tree : Tree) (told image : List ℕ) : Type 0 where
  pub holds : ℕ → List ℕ
  pub made : IsMadeImage holds geo no_identifier tree
  pub lebs : AreLebsOfGeometry holds geo
  pub image_is : image ≡ image_of holds geo.leb_cnt
  pub told_is : told ≡ line_of (codes "made" ∷ decimal geo.leb_cnt ∷ [])

-- The geometry of the image that is made of a manifest. If that says `packed` it has just the main LEBs that its tree takes, and else as many as it says.
abbrev pub made_geometry : Manifest → Tree → RawGeometry
made_geometry volume tree = if volume.packed then packed_geometry (manifest_geometry volume) tree else manifest_geometry volume

-- the first field of a geometry that is out of its range, and the line that tells it
abbrev pub IsOutOfRange : RawGeometry → List ℕ → Type 0
IsOutOfRange geo line = (fault : GeomFault) × IsFirstOut geo tested_fields fault × (line ≡ line_of (codes "geometry" ∷ field_name fault.field ∷ decimal fault.value ∷ []))

-- The text is a manifest whose files were read, but its geometry has a field out of range. Or the image's geometry has, if it says `packed`; if it doesn't, it has fewer than 24
-- main LEBs, or admission refuses the tree.
pub record HasNoImage (files : KeeperState) (text line : List ℕ) : Type 0 where
  pub volume : Manifest
  pub tree : Tree
  pub is : IsFilledManifest files text volume tree
  pub why : IsOutOfRange (manifest_geometry volume) line
      ⊎ (IsGeometry (manifest_geometry volume) × IsTrue volume.packed × IsOutOfRange (packed_geometry (manifest_geometry volume) tree) line)
      ⊎ (IsGeometry (manifest_geometry volume) × (volume.packed ≡ false) × (volume.main < 24) × (line ≡ line_of (codes "small" ∷ decimal volume.main ∷ codes "24" ∷ [])))
      ⊎ (IsGeometry (manifest_geometry volume) × (volume.packed ≡ false) × (24 ≤ volume.main) × IsTooFull (manifest_geometry volume) tree line)

-- An image of a tree was made, and the line tells how many LEBs it has; or admission refuses the tree.
abbrev pub IsImageMade : RawGeometry → Tree → MadeVolume → Type 0
IsImageMade geo tree (on_volume.BadGeometry line) = IsTooFull geo tree line.items
IsImageMade geo tree (on_volume.Done told made) = IsTreeAdmitted geo tree × IsToldImage geo tree told.items (volume_image made)

-- An image of a tree was made on a volume with no LEB to spare, and the line tells how many LEBs it has. Or that volume has a field out of range.
abbrev pub IsPackedMade : RawGeometry → Tree → MadeVolume → Type 0
IsPackedMade geo tree (on_volume.BadGeometry line) = IsOutOfRange (packed_geometry geo tree) line.items
IsPackedMade geo tree (on_volume.Done told made) = IsToldImage (packed_geometry geo tree) tree told.items (volume_image made)

-- The text is a manifest whose files were read, and an image of its tree, which is proper, was made. If it doesn't say `packed`, it has 24 main LEBs at least, and admission takes the tree.
pub record IsMadeOf (files : KeeperState) (text told image : List ℕ) : Type 0 where
  pub volume : Manifest
  pub tree : Tree
  pub is : IsFilledManifest files text volume tree
  pub proper : IsProper tree
  pub geometry : IsGeometry (manifest_geometry volume)
  pub roomy : volume.packed ≡ false → (24 ≤ volume.main) × IsTreeAdmitted (manifest_geometry volume) tree
  pub made : IsToldImage (made_geometry volume tree) tree told image

-- what became of a manifest's text and of the files that it copies
abbrev pub IsFilledAs : KeeperState → KeeperState → List ℕ → Filled → Type 0
IsFilledAs old new text (filled.Unread line) = IsUnfilled old new text line.items
IsFilledAs old new text (filled.BadText line) = IsBadTree text line.items
IsFilledAs old new text (filled.Made made) = IsFilledManifest old text made.volume made.tree × IsProper made.tree

-- what became of the files that a manifest copies
abbrev pub IsCopiedAs : KeeperState → KeeperState → List ℕ → Copied → Type 0
IsCopiedAs old new text (copied.Unread line) = IsUnfilled old new text line.items
IsCopiedAs old new text (copied.Made made) = IsFilledManifest old text made.volume made.tree × IsProper made.tree

-- what became of a manifest whose files were read
abbrev pub IsMkfsMade : KeeperState → List ℕ → Performed → Type 0
IsMkfsMade files text (performed.BadGeometry line) = HasNoImage files text line.items
IsMkfsMade files text (performed.Done told image) = IsMadeOf files text told.items image.items

-- the same of the volume that holds the image
abbrev pub IsVolumeMade : KeeperState → List ℕ → MadeVolume → Type 0
IsVolumeMade files text (on_volume.BadGeometry line) = HasNoImage files text line.items
IsVolumeMade files text (on_volume.Done told made) = IsMadeOf files text told.items (volume_image made)

-- the image was written, and this is told; or the keeper failed, and the line names the image
abbrev pub IsWrittenAs : KeeperState → KeeperState → List ℕ → List ℕ → List ℕ → Ended → Type 0
IsWrittenAs old new image bytes told (Done text) = (text.items ≡ told) × (IsTrue old.tells → SetsFile old image bytes new) × (new.tells ≡ old.tells)
IsWrittenAs old new image bytes told (Unread line) = Rose old.faults new.faults × (line.items ≡ file_line image) × SameFiles old new
IsWrittenAs old new image bytes told (BadText line) = ⊥
IsWrittenAs old new image bytes told (BadGeometry line) = ⊥

-- the work was done, over this text and with this image, which the keeper has now
pub record IsMkfsFinished (old new : KeeperState) (manifest image : List ℕ) (told : List ℕ) : Type 0 where
  pub text : List ℕ
  pub bytes : List ℕ
  pub read : Told old manifest text
  pub made : IsMadeOf old text told bytes
  pub written : IsTrue old.tells → SetsFile old image bytes new
  pub telling : new.tells ≡ old.tells

-- nothing was done, because of what was read; the files are as they were
pub record IsMkfsTurnedDown (old new : KeeperState) (manifest : List ℕ) (Why : List ℕ → Type 0) : Type 0 where
  pub text : List ℕ
  pub read : Told old manifest text
  pub why : Why text
  pub same : SameFiles old new

-- the manifest copies a file of this name, and those that it copies before were read
pub record ReadsCopy (files : KeeperState) (manifest name : List ℕ) : Type 0 where
  pub text : List ℕ
  pub read : Told files manifest text
  pub copies : CopiesFile files text name

-- A call of the keeper failed, or a file that is to be read isn't there, the first of them; the line names the file.
pub record IsMkfsUnread (old new : KeeperState) (manifest image line : List ℕ) : Type 0 where
  pub name : List ℕ
  pub why : (Rose old.faults new.faults × ((name ≡ manifest) ⊎ (name ≡ image) ⊎ ReadsCopy old manifest name))
      ⊎ (IsMissing old name × ((name ≡ manifest) ⊎ ReadsCopy old manifest name))
  pub line_is : line ≡ file_line name
  pub same : SameFiles old new

-- how the command ended
abbrev pub IsMkfsEnded : KeeperState → KeeperState → List ℕ → List ℕ → Ended → Type 0
IsMkfsEnded old new manifest image (Unread line) = IsMkfsUnread old new manifest image line.items
IsMkfsEnded old new manifest image (BadText line) = IsMkfsTurnedDown old new manifest (λ text. IsBadTree text line.items)
IsMkfsEnded old new manifest image (BadGeometry line) = IsMkfsTurnedDown old new manifest (λ text. HasNoImage old text line.items)
IsMkfsEnded old new manifest image (Done text) = IsMkfsFinished old new manifest image text.items
