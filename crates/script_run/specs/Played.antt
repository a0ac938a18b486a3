-- What a whole script leaves.
use Rattle.std.specs.Prelude.{◌≡◌, ℕ, Some, None, List, []}
use Rattle.ubifs_base.specs.declared.raw_geometry.RawGeometry.{RawGeometry}
use Rattle.ubifs_base.specs.Areas.{main_lebs}
use Rattle.fs_model.specs.declared.refusal.Cause.{Cause}
use Rattle.fs_model.specs.declared.space.Space.{Space}
use Rattle.fs_model.specs.Cover.{tree_bytes}
use Rattle.fs_model.specs.Files.{Tree}
use Rattle.fs_model.specs.Journal.{Journal}
use Rattle.fs_model.specs.Proper.{IsProper}
use Rattle.fs_model.specs.Orphan.{without_nameless}
use Rattle.fs_model.specs.Settled.{settled}
use Rattle.plain_backing.specs.Covering.{IsCovering}
use Rattle.script_text.specs.declared.part.Part.{Part}
use Rattle.script_run.specs.declared.whole.Played.{Played}
use Rattle.script_run.specs.declared.whole.Played.TheVariants.{Written, Unchanged}
use Rattle.script_run.specs.declared.whole.Run.{Run}
use Rattle.script_run.specs.Opening.{mounted_space}
use Rattle.script_run.specs.Reading.{IsReadRun, Reading, reading_on}
use Rattle.script_run.specs.Phases.{ArePhases}
use Rattle.script_run.specs.Run.{IsScriptCovered, IsScriptLeft, LeavesOnly, ScriptRunning, opening_on}

-- The text is that of the script's phases and of the lines between them. The first begins on a volume with this tree, of which a cut leaves nothing else, and with an index of this weight. All that was promised behind the last line has room. The tree that is left is the one that is stored behind the last line, without what has no name.
pub record IsPlayed (geo : RawGeometry) (tree : Tree) (weight : ℕ) (parts : List Part) (run : Run) : Type 0 where
  pub first : Journal
  pub only : LeavesOnly first tree
  pub last : ScriptRunning
  pub lines : ArePhases geo (opening_on tree first weight) [] parts run.text.items last
  pub covered : IsScriptCovered geo last
  pub left : IsScriptLeft last
  pub named : run.tree ≡ without_nameless last.stored

-- The tree has room on a volume of this geometry: with some weight of an index, all that is promised of it has room.
pub record IsCoveredIn (geo : RawGeometry) (tree : Tree) : Type 0 where
  pub space : Space
  pub main : space.main ≡ main_lebs geo
  pub used : space.used ≡ tree_bytes tree
  pub covers : IsCovering geo tree space None

-- The text is that of the lines, one after another, on a volume with this tree that may only be read.
pub record IsReadText (cause : Cause) (tree : Tree) (parts : List Part) (text : List ℕ) : Type 0 where
  pub last : Reading
  pub lines : IsReadRun cause (reading_on tree) parts text last

-- The script was played on a volume with these numbers, which may be written or, for a cause, only be read.
abbrev pub IsPlayedIn : RawGeometry → Tree → Space → List Part → Played → Type 0
IsPlayedIn geo tree space parts (Written run) = (settled geo space ≡ None) × IsPlayed geo tree space.weight parts run
IsPlayedIn geo tree space parts (Unchanged text) = (cause : Cause) × (settled geo space ≡ Some cause) × IsReadText cause tree parts text.items

-- The script was played on a volume with this tree whose image has this space.
abbrev pub IsPlayedOn : RawGeometry → Tree → Space → List Part → Played → Type 0
IsPlayedOn geo tree space parts played = IsPlayedIn geo tree (mounted_space geo tree space) parts played

-- what was written can be made an image of
abbrev pub CanBeImaged : RawGeometry → Played → Type 0
CanBeImaged geo (Written run) = IsProper run.tree × IsCoveredIn geo run.tree
CanBeImaged geo (Unchanged text) = Unit {0}
