-- Which index is shown, over a volume and from memory, and where it stands.
use Rattle.std.specs.Prelude.{◌≡◌, ◌<◌, ℕ, Bool, true, false, List}
use Rattle.commit_steps.specs.UnderWay.{AreWithinLebs}
use Rattle.index_cache.specs.Paged.{fanout_of, keyed_tree_of, DoesIndexStand}
use Rattle.index_cache.specs.declared.calls.Staged.{Staged}
use Rattle.index_commit.specs.Lebs.{IsGiven}
use Rattle.index_commit.specs.Standing.{AreOutside}
use Rattle.index_media.specs.KeyedRow.{KeyedRow, all_clean}
use Rattle.index_media.specs.PlacedRow.{PlacedRow}
use Rattle.node_cache.specs.Kept.{AreKept}
use Rattle.node_cache.specs.Loaded.{IsIndexOn}
use Rattle.table_nodes.specs.NodeView.{tree_at}
use Rattle.node_table.specs.Staging.{IsSoundRoot}
use Rattle.node_table.specs.Unloaded.{DoesRootStand}
use Rattle.ubi_volume.specs.Volume.{VolumeState}
use Rattle.mounted_index.specs.declared.mounted.IndexNodes.{IndexNodes}
use Rattle.mounted_index.specs.declared.mounted.IndexNodes.TheVariants.{OnMedium, InMemory}
use Rattle.mounted_index.specs.declared.mounted.MountedIndex.{MountedIndex}

-- A row has these nodes: all of them stand on the volume from a root on, clean, or they are seen in memory, and those of them that aren't loaded stand on
-- the volume
abbrev pub IsRowOfNodes : VolumeState → ℕ → KeyedRow → IndexNodes → Type 0
IsRowOfNodes state fanout row (OnMedium root) = (placed : PlacedRow) × (row ≡ all_clean placed) × IsIndexOn state fanout root placed
IsRowOfNodes state fanout row (InMemory index) = (row ≡ keyed_tree_of index) × (fanout_of index ≡ fanout) × DoesIndexStand state index

-- over a volume in this state the index has this row, whatever look-ups keep of it: that may be of what stood there before
abbrev pub IsTakenUp : VolumeState → MountedIndex → KeyedRow → Type 0
IsTakenUp state index row = IsRowOfNodes state index.geometry.fanout row index.nodes

-- over a volume in this state the index shows this row, and nodes that look-ups keep are those of their places
pub record Shows (state : VolumeState) (index : MountedIndex) (row : KeyedRow) : Type 0 where
  pub nodes : IsTakenUp state index row
  pub kept : AreKept state.holds index.cache

-- a row is seen below a staged root, and its nodes that aren't loaded stand on the volume
abbrev pub IsStagedRow : VolumeState → ℕ → KeyedRow → Staged → IndexNodes → Type 0
IsStagedRow state fanout row staged (OnMedium root) = ⊥
IsStagedRow state fanout row staged (InMemory index) =
    (row ≡ tree_at index.table.nodes.items staged.root) × (fanout_of index ≡ fanout) × IsSoundRoot index.table.nodes.items staged.root × DoesRootStand state index.table.nodes.items staged.root

-- over a volume in this state the index shows this row, once these changes are adopted
pub record ShowsStaged (state : VolumeState) (index : MountedIndex) (staged : Staged) (row : KeyedRow) : Type 0 where
  pub nodes : IsStagedRow state index.geometry.fanout row staged index.nodes
  pub kept : AreKept state.holds index.cache

-- whether no node is in memory, but those that look-ups keep
abbrev pub are_on_medium : IndexNodes → Bool
are_on_medium (OnMedium root) = true
are_on_medium (InMemory index) = false

abbrev pub on_volume_alone : MountedIndex → Bool
on_volume_alone index = are_on_medium index.nodes

-- an index shows over a volume what it showed before, once changes are adopted too, and is on the volume alone if it was
pub record KeepsShown (old new : VolumeState) (before after : MountedIndex) : Type 0 where
  pub shown : (row : KeyedRow) → Shows old before row → Shows new after row
  pub staged : (staged : Staged) (row : KeyedRow) → ShowsStaged old before staged row → ShowsStaged new after staged row
  pub alone : on_volume_alone after ≡ on_volume_alone before
  pub geometry : after.geometry ≡ before.geometry

-- the clean nodes of a row stand on a volume, in these LEBs of it
pub record StandsIn (state : VolumeState) (lebs : List ℕ) (row : KeyedRow) : Type 0 where
  pub there : (k : ℕ) → IsGiven lebs k → k < state.leb_cnt
  pub within : AreWithinLebs state.holds lebs row

-- wherever clean nodes of the one row stand outside of some LEBs, those of the other one do
abbrev pub KeepsOutside : KeyedRow → KeyedRow → Type 0
KeepsOutside row made = (contents : ℕ → List ℕ) (others : List ℕ) → AreOutside contents others row → AreOutside contents others made
