-- What the command `run` answers, over the files that it is given.
use Rattle.std.specs.Prelude.{◌≡◌, ◌≢◌, ◌⊎◌, ℕ, IsTrue, Some, None, List, [], ◌∷◌, ◌++◌, replicate, take, slice_index, codes}
use Rattle.std.specs.Fmt.{decimal}
use Rattle.ubifs_base.specs.Faults.{Rose}
use Rattle.ubifs_base.specs.Geometry.{plain_geometry}
use Rattle.ubifs_base.specs.declared.raw_geometry.RawGeometry.{RawGeometry}
use Rattle.ubifs_base.specs.declared.raw_geometry.GeomField.{GeomField}
use Rattle.ubifs_base.specs.declared.raw_geometry.GeomField.TheVariants.{LebSize, MinIo, LogLebs, LptLebs, OrphLebs, LebCnt, MaxLebCnt, Fanout, LsaveCnt}
use Rattle.fs_model.specs.Files.{Tree}
use Rattle.io_edges.specs.Keeper.{KeeperState}
use Rattle.io_edges.specs.Sink.{SinkState}
use Rattle.whole_image.specs.Made.{IsMadeImage}
use Rattle.script_text.specs.declared.manifest.Manifest.{Manifest}
use Rattle.text_lines.specs.Lines.{line_of}

-- where the files are told, this one has these bytes
abbrev pub Told : KeeperState → List ℕ → List ℕ → Type 0
Told files name bytes = IsTrue files.tells → files.content name ≡ Some bytes

-- what was read: the bytes of a manifest or of an image, and a script's text
pub record IsInputRead (files : KeeperState) (manifest script : List ℕ) (texts : List ℕ × List ℕ) : Type 0 where
  pub manifest_told : Told files manifest texts.0
  pub script_told : Told files script texts.1

-- the geometry that a manifest names
abbrev pub manifest_geometry : Manifest → RawGeometry
manifest_geometry m = plain_geometry m.leb_size m.min_io m.main m.fanout

-- the line that tells a text's first bad line
abbrev pub bad_line : List ℕ → ℕ → List ℕ
bad_line word number = line_of (word ∷ codes "line" ∷ decimal number ∷ [])

-- the word for a field of a geometry
abbrev pub field_name : GeomField → List ℕ
field_name LebSize = codes "leb_size"
field_name MinIo = codes "min_io"
field_name LogLebs = codes "log_lebs"
field_name LptLebs = codes "lpt_lebs"
field_name OrphLebs = codes "orph_lebs"
field_name LebCnt = codes "leb_cnt"
field_name MaxLebCnt = codes "max_leb_cnt"
field_name Fanout = codes "fanout"
field_name LsaveCnt = codes "lsave_cnt"

-- the identifier in the superblock of a run's image
abbrev pub no_identifier : List ℕ
no_identifier = replicate 16 0

-- What a run leaves of a tree: a whole image of it, which is sound.
unfoldable pub IsLeftImage : RawGeometry → Tree → (ℕ → List ℕ) → Type 0
IsLeftImage geo tree holds = IsMadeImage holds geo no_identifier tree

-- the files are told, and there is none of this name
abbrev pub IsMissing : KeeperState → List ℕ → Type 0
IsMissing files name = IsTrue files.tells × (files.content name ≡ None)

-- the line that names a file
abbrev pub file_line : List ℕ → List ℕ
file_line name = line_of (codes "file" ∷ name ∷ [])

-- Where text is told: all of it was added, or a first part where the sink failed, or nothing where it found no memory.
abbrev pub IsPrinted : SinkState → SinkState → List ℕ → Type 0
IsPrinted old new text = IsTrue old.tells
    → (new.text ≡ old.text ++ text)
    ⊎ ((n : ℕ) × (new.text ≡ old.text ++ take n text) × Rose old.faults new.faults)
    ⊎ ((new.text ≡ old.text) × Rose old.shortages new.shortages)

-- Where text is told, all of it was added.
abbrev pub IsTold : SinkState → SinkState → List ℕ → Type 0
IsTold old new text = IsTrue old.tells → new.text ≡ old.text ++ text
