-- What the keeper has of the files that a manifest copies.
use Rattle.std.specs.Prelude.{◌≡◌, ◌⊎◌, ◌≤◌, ℕ, List, [], ◌∷◌}
use Rattle.ubifs_base.specs.Faults.{Rose}
use Rattle.fs_model.specs.Files.{Tree}
use Rattle.script_text.specs.declared.manifest.Manifest.{Manifest}
use Rattle.manifest_tree.specs.CopiedFiles.{IsMadeManifest, IsNamedManifest}
use Rattle.manifest_tree.specs.declared.copied.CopiedFile.{CopiedFile}
use Rattle.io_edges.specs.Keeper.{KeeperState, SameFiles}
use Rattle.ubifs_tools.specs.Command.{IsMissing, Told, file_line}
use Rattle.ubifs_tools.specs.declared.copies.Copies.{Copies}
use Rattle.ubifs_tools.specs.declared.copies.Copies.TheVariants as copies
use Rattle.ubifs_tools.specs.declared.copies.Copy.{Copy}
use Rattle.ubifs_tools.specs.declared.copies.Copy.TheVariants as copy

-- each of these files has these bytes, in order
abbrev pub AreCopiesTold : KeeperState → List CopiedFile → List (List ℕ) → Type 0
AreCopiesTold files [] [] = Unit {0}
AreCopiesTold files [] (bytes ∷ more) = ⊥
AreCopiesTold files (copied ∷ rest) [] = ⊥
AreCopiesTold files (copied ∷ rest) (bytes ∷ more) = Told files copied.name bytes × AreCopiesTold files rest more

-- one of these files has this name, and those in front of it were read
abbrev pub ComesTo : KeeperState → List CopiedFile → List ℕ → Type 0
ComesTo files [] name = ⊥
ComesTo files (copied ∷ rest) name = (name ≡ copied.name) ⊎ (((bytes : List ℕ) × Told files copied.name bytes) × ComesTo files rest name)

-- The text is a manifest of this geometry. With the bytes that the keeper has of the files that it copies, it makes this tree.
pub record IsFilledManifest (files : KeeperState) (text : List ℕ) (volume : Manifest) (tree : Tree) : Type 0 where
  pub bytes : List (List ℕ)
  pub is : IsMadeManifest text volume bytes tree
  pub told : AreCopiesTold files is.copied bytes

-- the text is a manifest that copies a file of this name, and those that it copies before were read
pub record CopiesFile (files : KeeperState) (text name : List ℕ) : Type 0 where
  pub volume : Manifest
  pub copied : List CopiedFile
  pub tree : Tree
  pub is : IsNamedManifest text volume copied tree
  pub comes : ComesTo files copied name

-- Files were read: they are as they were, and the count of faults didn't fall.
pub record FilesStay (old new : KeeperState) : Type 0 where
  pub same : SameFiles old new
  pub telling : new.tells ≡ old.tells
  pub counted : old.faults ≤ new.faults

-- what became of one file
abbrev pub IsReadCopy : KeeperState → KeeperState → List ℕ → Copy → Type 0
IsReadCopy old new name (copy.Read bytes) = Told old name bytes
IsReadCopy old new name (copy.Unread line) = (Rose old.faults new.faults ⊎ IsMissing old name) × (line.items ≡ file_line name)

-- The keeper failed at one of these files, or has none of its name, and those in front of it were read; the line names it.
pub record IsUnreadCopy (old new : KeeperState) (copied : List CopiedFile) (line : List ℕ) : Type 0 where
  pub name : List ℕ
  pub comes : ComesTo old copied name
  pub why : Rose old.faults new.faults ⊎ IsMissing old name
  pub line_is : line ≡ file_line name

-- what became of all of them
abbrev pub AreReadCopies : KeeperState → KeeperState → List CopiedFile → Copies → Type 0
AreReadCopies old new copied (copies.Read files) = AreCopiesTold old copied files.items
AreReadCopies old new copied (copies.Unread line) = IsUnreadCopy old new copied line.items

-- The text is a manifest, but a file that it copies wasn't read; the line names the first one.
pub record IsUnfilled (old new : KeeperState) (text line : List ℕ) : Type 0 where
  pub name : List ℕ
  pub copies : CopiesFile old text name
  pub why : Rose old.faults new.faults ⊎ IsMissing old name
  pub line_is : line ≡ file_line name
