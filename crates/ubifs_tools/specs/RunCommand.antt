-- What the command `run` makes of a volume and a script, over the files that it is given.
use Rattle.std.specs.Prelude.{◌≡◌, ◌⊎◌, ℕ, Option, Some, None, List, take, codes}
use Rattle.ubifs_base.specs.Faults.{Rose}
use Rattle.ubifs_base.specs.NodeLaws.{IsBytes}
use Rattle.ubifs_base.specs.declared.raw_geometry.RawGeometry.{RawGeometry}
use Rattle.ubi_volume.specs.Volume.{image_of}
use Rattle.fs_model.specs.declared.refusal.Cause.{Cause}
use Rattle.fs_model.specs.declared.space.Space.{Space}
use Rattle.fs_model.specs.Files.{Tree}
use Rattle.fs_model.specs.Settled.{settled}
use Rattle.image_report.specs.Lebs.{AreLebsOfGeometry}
use Rattle.image_report.specs.Told.{HoldsFiles, HoldsVolume, IsUnsound}
use Rattle.io_edges.specs.Keeper.{KeeperState}
use Rattle.script_text.specs.declared.part.Part.{Part}
use Rattle.script_text.specs.declared.manifest.Manifest.{Manifest}
use Rattle.script_text.specs.Script.{IsScript, IsFirstBadLine}
use Rattle.manifest_tree.specs.CopiedFiles.{IsNamedManifest}
use Rattle.manifest_tree.specs.declared.copied.CopiedFile.{CopiedFile}
use Rattle.script_run.specs.declared.whole.Run.{Run}
use Rattle.script_run.specs.Opening.{mounted_space}
use Rattle.script_run.specs.Played.{IsPlayed, IsReadText}
use Rattle.tree_nodes.specs.Stored.{stored_tree}
use Rattle.ubifs_tools.specs.Command.{IsLeftImage, IsMissing, IsInputRead, Told, bad_line, file_line}
use Rattle.ubifs_tools.specs.Copies.{CopiesFile}
use Rattle.ubifs_tools.specs.Making.{HasNoImage, IsBadTree, IsMadeOf}

-- Bytes that begin with this word are a manifest, and all others are an image.
abbrev pub BeginsAsManifest : List ℕ → Type 0
BeginsAsManifest bytes = take 7 bytes ≡ codes "volume "

-- The image on which a run on these bytes begins: what `mkfs` makes of a manifest, or the bytes themselves.
abbrev pub IsBegunOn : KeeperState → List ℕ → List ℕ → Type 0
IsBegunOn files bytes start =
    (BeginsAsManifest bytes × ((told : List ℕ) × IsMadeOf files bytes told start))
    ⊎ ((BeginsAsManifest bytes → ⊥) × (start ≡ bytes))

-- the bytes are a volume on which a run begins with this geometry and these files
pub record IsVolumeOf (files : KeeperState) (bytes : List ℕ) (geo : RawGeometry) (tree : Tree) : Type 0 where
  pub start : List ℕ
  pub begun : IsBegunOn files bytes start
  pub holds : HoldsFiles start geo tree

-- nothing is wrong with the text of a volume: it is a manifest, or no text
abbrev pub HasGoodText : List ℕ → Type 0
HasGoodText bytes = BeginsAsManifest bytes → (m : Manifest) × (copied : List CopiedFile) × (tree : Tree) × IsNamedManifest bytes m copied tree

-- A text isn't in its grammar, the manifest's before the script's; the line names the first bad line.
abbrev pub IsBadText : List ℕ × List ℕ → List ℕ → Type 0
IsBadText texts line =
    (BeginsAsManifest texts.0 × IsBadTree texts.0 line)
    ⊎ (HasGoodText texts.0 × ((number : ℕ) × IsFirstBadLine texts.1 number × (line ≡ bad_line (codes "script") number)))

-- The script is in its grammar, but the volume is an image that isn't sound; the line says what is wrong with it first.
pub record IsBadVolume (texts : List ℕ × List ℕ) (line : List ℕ) : Type 0 where
  pub parts : List Part
  pub script : IsScript texts.1 parts
  pub no_text : BeginsAsManifest texts.0 → ⊥
  pub unsound : IsUnsound texts.0 line

-- The script is in its grammar, but the volume is a manifest of which `mkfs` makes no image.
pub record IsBadGeometry (files : KeeperState) (texts : List ℕ × List ℕ) (line : List ℕ) : Type 0 where
  pub parts : List Part
  pub script : IsScript texts.1 parts
  pub manifest : BeginsAsManifest texts.0
  pub none : HasNoImage files texts.0 line

-- Both texts are in their grammar, but a file that the manifest copies isn't read, the first of them; the line names it.
pub record IsCopyUnread (old new : KeeperState) (texts : List ℕ × List ℕ) (line : List ℕ) : Type 0 where
  pub parts : List Part
  pub script : IsScript texts.1 parts
  pub manifest : BeginsAsManifest texts.0
  pub name : List ℕ
  pub copies : CopiesFile old texts.0 name
  pub why : Rose old.faults new.faults ⊎ IsMissing old name
  pub line_is : line ≡ file_line name

-- A call of the keeper failed, or a file that is to be read isn't there, the first of them; the line names the file.
abbrev pub IsUnread : KeeperState → KeeperState → List ℕ → List ℕ → List ℕ → List ℕ → Type 0
IsUnread old new manifest script image line =
    (Rose old.faults new.faults × ((name : List ℕ) × ((name ≡ manifest) ⊎ (name ≡ script) ⊎ (name ≡ image)) × (line ≡ file_line name)))
    ⊎ (IsMissing old manifest × (line ≡ file_line manifest))
    ⊎ (((bytes : List ℕ) × Told old manifest bytes) × IsMissing old script × (line ≡ file_line script))
    ⊎ ((texts : List ℕ × List ℕ) × IsInputRead old manifest script texts × IsCopyUnread old new texts line)

-- The files that a run leaves, as its image says them: each directory has the links and the size that are reckoned, and a block of no inode isn't there.
abbrev pub files_left : Run → Tree
files_left run = stored_tree run.tree

-- A run of a script on the volume of an image: its geometry, its bytes, its tree and its space; the script's lines; and what was printed and left.
pub record ImageRun : Type 0 where
  pub geo : RawGeometry
  pub start : List ℕ
  pub tree : Tree
  pub space : Space
  pub parts : List Part
  pub text : List ℕ
  pub image : List ℕ
  pub left : Tree

-- the numbers with which its volume is mounted
abbrev pub mount_numbers : ImageRun → Space
mount_numbers it = mounted_space it.geo it.tree it.space

-- The text is that of the script's phases and of the lines between them, from the volume's tree on, beside its index. The image's bytes are those of a volume that holds what is left of the
-- tree that was put, without what has no name.
pub record IsRunWritten (it : ImageRun) : Type 0 where
  pub run : Run
  pub played : IsPlayed it.geo it.tree (mount_numbers it).weight it.parts run
  pub text_is : it.text ≡ run.text.items
  pub holds : ℕ → List ℕ
  pub image_left : IsLeftImage it.geo run.tree holds
  pub lebs : AreLebsOfGeometry holds it.geo
  pub image_is : it.image ≡ image_of holds it.geo.leb_cnt
  pub left_is : it.left ≡ files_left run

-- The text is that of the script's lines on the volume, which may only be read. The image is the one that was there, and so are the files.
pub record IsUnchanged (cause : Cause) (it : ImageRun) : Type 0 where
  pub printed : IsReadText cause it.tree it.parts it.text
  pub image_is : it.image ≡ it.start
  pub left_is : it.left ≡ it.tree

-- what a run leaves on a volume that may be written, or for a cause only be read
abbrev pub IsRunFor : Option Cause → ImageRun → Type 0
IsRunFor None it = IsRunWritten it
IsRunFor (Some cause) it = IsUnchanged cause it

-- What a run leaves on its volume. Whether that may be written its numbers say.
abbrev pub IsRunOf : ImageRun → Type 0
IsRunOf it = IsRunFor (settled it.geo (mount_numbers it)) it

-- The work was done. The volume is a manifest of which an image was made, or a sound image. The script is in its grammar, and it was run on the volume of that image.
pub record IsRunDone (files : KeeperState) (texts : List ℕ × List ℕ) (text image : List ℕ) : Type 0 where
  pub start : List ℕ
  pub begun : IsBegunOn files texts.0 start
  pub bytes : IsBytes start
  pub geo : RawGeometry
  pub tree : Tree
  pub space : Space
  pub volume : HoldsVolume start geo tree space
  pub parts : List Part
  pub script : IsScript texts.1 parts
  pub left : Tree
  pub run : IsRunOf (record { geo = geo; start = start; tree = tree; space = space; parts = parts; text = text; image = image; left = left })
