-- What changes make of an index.
use Rattle.std.specs.Prelude.{◌≡◌, ℕ, true, List, IfOk, OnErr, OnOk, Result}
use Rattle.index_cache.specs.declared.calls.Staged.{Staged}
use Rattle.index_commit.specs.Standing.{AreOutside}
use Rattle.index_media.specs.KeyedRow.{KeyedRow, bare}
use Rattle.index_tree.specs.Shape.{fits}
use Rattle.node_table.specs.Changing.{changed_row}
use Rattle.node_table.specs.declared.change.Change.{Change}
use Rattle.ubi_volume.specs.Volume.{VolumeState}
use Rattle.ubi_volume.specs.declared.fault.AreaFault.{AreaFault}
use Rattle.mounted_index.specs.Shown.{KeepsOutside, Shows, ShowsStaged, StandsIn}
use Rattle.mounted_index.specs.declared.mounted.MountedIndex.{MountedIndex}

-- Changes that make a row of one that the index shows were staged: it shows the latter until they are adopted. Clean nodes of the row that
-- they make stand where those of the other one stood, whatever is written elsewhere
pub record AreChangesStaged (old new : VolumeState) (after : MountedIndex) (row made : KeyedRow) (result : Result Staged AreaFault) : Type 0 where
  pub shown : Shows new after row
  pub staged : IfOk result (λ staged. ShowsStaged new after staged made)
  pub stands : (kept : List ℕ) → StandsIn old kept row → OnOk result (StandsIn new kept made)
  pub outside : OnOk result (KeepsOutside row made)

-- changes that make a row of one that the index showed were made, or none of them was
pub record AreChangesMade {T : Type 0} (old new : VolumeState) (after : MountedIndex) (row made : KeyedRow) (result : Result T AreaFault) : Type 0 where
  pub done : OnOk result (Shows new after made)
  pub err : OnErr result (Shows new after row)
  pub stands : (kept : List ℕ) → StandsIn old kept row → OnOk result (StandsIn new kept made)

-- the clause of changes_keep_what_stands of index_commit on one change
abbrev pub ChangedNodesStand : Type 0
ChangedNodesStand = (fanout : ℕ) (change : Change) (contents : ℕ → List ℕ) (lebs : List ℕ) (row : KeyedRow) → fits fanout (bare row) ≡ true
    → AreOutside contents lebs row → AreOutside contents lebs (changed_row fanout change row)
