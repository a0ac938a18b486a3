-- What a commit makes of an index.
use Rattle.std.specs.Prelude.{◌≡◌, ◌⊎◌, ◌<◌, ◌≤◌, ◌+◌, ◌-◌, ◌++◌, ℕ, List, Option, None, Some, IfOk, Result, Ok, Err, length, ⊤}
use Rattle.std.specs.Int.{div_ceil}
use Rattle.ubifs_base.specs.Geometry.{index_nodes_per_leb}
use Rattle.ubifs_base.specs.RawOf.{raw_of}
use Rattle.ubifs_base.specs.declared.raw_geometry.RawGeometry.{RawGeometry}
use Rattle.index_cache.specs.Paged.{fanout_of, keyed_tree_of}
use Rattle.index_cache.specs.declared.paged.PagedIndex.{PagedIndex}
use Rattle.index_commit.specs.Answers.{IsIndexNotFailed}
use Rattle.index_commit.specs.LebTexts.{AreLebsLeft, AreLebsOf}
use Rattle.index_commit.specs.Lebs.{AreLebsApart}
use Rattle.index_commit.specs.Ordered.{AreKeysInOrder, IsNotEqualKeys}
use Rattle.index_commit.specs.Rooms.{all_rooms, last_head, rooms_of}
use Rattle.index_commit.specs.Written.{AreLebsSettled, IsHeadIn}
use Rattle.index_commit.specs.declared.index_at.IndexAt.{IndexAt}
use Rattle.index_commit.specs.declared.index_fault.IndexFault.{IndexFault}
use Rattle.index_commit.specs.declared.index_fault.IndexFault.TheVariants.{Memory, Full, EqualKeys, Volume}
use Rattle.index_media.specs.Clean.{placed_of}
use Rattle.index_media.specs.KeyedRow.{KeyedRow, no_more, leaf_in, node_in, all_clean, bare}
use Rattle.index_media.specs.PlacedRow.{PlacedRow, Stretch}
use Rattle.index_tree.specs.Distinct.{AreDistinct}
use Rattle.index_tree.specs.Shape.{contents}
use Rattle.media_sys.specs.Index.{Index}
use Rattle.media_sys.specs.declared.branch.Branch.{Branch}
use Rattle.node_cache.specs.Loaded.{IsIndexOn}
use Rattle.node_table.specs.Dirty.{dirty_below}
use Rattle.node_table.specs.Placing.{KeepsPlaces}
use Rattle.ubi_volume.specs.Volume.{VolumeState, Keeps, Leaves}
use Rattle.mounted_index.specs.Shown.{KeepsShown, Shows, StandsIn}
use Rattle.mounted_index.specs.declared.mounted.IndexNodes.{IndexNodes}
use Rattle.mounted_index.specs.declared.mounted.IndexNodes.TheVariants.{OnMedium, InMemory}
use Rattle.mounted_index.specs.declared.mounted.MountedIndex.{MountedIndex}

-- the row stands on a volume from this root on, all of it clean, as an index that a mount takes up; without a root it is empty
abbrev pub IsRootOn : VolumeState → ℕ → KeyedRow → Option Branch → Type 0
IsRootOn state fanout row None = row ≡ no_more
IsRootOn state fanout row (Some root) = (placed : PlacedRow) × (row ≡ all_clean placed) × IsIndexOn state fanout root placed

-- This tells where a row stands on a volume once so many nodes are written to these LEBs, and where the next one may go, if one was. Of the
-- given LEBs that the row is in a cut leaves what they hold. If no leaf stands twice, nodes that were dirty have the rooms of the LEBs in
-- order, and others the rooms that they had
pub record IsWrittenAt (state : VolumeState) (geo : RawGeometry) (lebs : List ℕ) (nodes : ℕ) (before now : KeyedRow) (at : IndexAt) : Type 0 where
  pub root : IsRootOn state geo.fanout now at.root
  pub settled : AreLebsSettled state lebs (placed_of now)
  pub head : at.head ≡ last_head geo lebs nodes
  pub end : (at.head ≡ None) ⊎ IsHeadIn state lebs at.head
  pub rooms : AreDistinct (contents (bare before)) → rooms_of now ≡ all_rooms geo lebs 0 (rooms_of before)

-- Nodes were written to these LEBs, with the sequence numbers behind the first: each LEB has those of its rooms, or it is as it was. A cut
-- leaves of each what it might have left before, or all of that
pub record AreNodesWritten {T : Type 0} (geo : RawGeometry) (old new : VolumeState) (lebs : List ℕ) (first last : ℕ) (result : Result T IndexFault) : Type 0 where
  pub nodes : List Index
  pub number : last ≡ first + length nodes
  pub left : Leaves old new (AreLebsLeft geo lebs old first nodes)
  pub texts : IsIndexNotFailed result → AreLebsOf geo lebs old new first nodes

-- an index has these nodes once it is written: it is on the volume alone, from the root on, or empty
abbrev pub HasNodesFrom : ℕ → Option Branch → IndexNodes → Type 0
HasNodesFrom fanout None nodes = (index : PagedIndex) × (nodes ≡ InMemory index) × (keyed_tree_of index ≡ no_more) × (fanout_of index ≡ fanout)
HasNodesFrom fanout (Some root) nodes = nodes ≡ OnMedium root

-- how many nodes a commit has to write: the dirty ones below the root, each as often as links lead to it
abbrev pub nodes_to_write : IndexNodes → ℕ
nodes_to_write (OnMedium root) = 0
nodes_to_write (InMemory index) = length (dirty_below index.table.nodes.items index.root)

-- a node that has no place counts as a dirty one
abbrev pub dirty_one : Option Stretch → ℕ
dirty_one None = 1
dirty_one (Some place) = 0

-- how many nodes of a row are dirty
abbrev pub dirty_nodes_in : KeyedRow → ℕ
dirty_nodes_in no_more = 0
dirty_nodes_in (leaf_in x rest) = dirty_nodes_in rest
dirty_nodes_in (node_in key place children rest) = dirty_one place + dirty_nodes_in children + dirty_nodes_in rest

-- it holds where a commit wants memory, or LEBs
abbrev pub OnWant : {T : Type 0} → Type 0 → Result T IndexFault → Type 0
OnWant P (Ok x) = ⊤
OnWant P (Err Memory) = P
OnWant P (Err (Full need given)) = P
OnWant P (Err EqualKeys) = ⊤
OnWant P (Err (Volume count)) = ⊤

-- a commit that needs so many LEBs says that they are wanting exactly if so few are given, unless memory is wanting first
abbrev pub IsShortOf : {T : Type 0} → ℕ → ℕ → Result T IndexFault → Type 0
IsShortOf need given (Ok x) = need ≤ given
IsShortOf need given (Err Memory) = ⊤
IsShortOf need given (Err (Full n m)) = (given < need) × (n ≡ need) × (m ≡ given)
IsShortOf need given (Err EqualKeys) = need ≤ given
IsShortOf need given (Err (Volume count)) = need ≤ given

-- an index shows this row, and its clean nodes stand in LEBs none of which a commit is given
pub record IsBeside (state : VolumeState) (lebs kept : List ℕ) (index : MountedIndex) (row : KeyedRow) : Type 0 where
  pub shown : Shows state index row
  pub stands : StandsIn state kept row
  pub apart : AreLebsApart kept lebs

-- A commit of an index that showed this row. It shows the same shape and leaves, with places for nodes that were dirty. If memory or LEBs
-- are wanting, the volume, the number, and what is shown or staged are as before. LEBs are wanting exactly if they don't take the dirty
-- nodes, unless memory is wanting first. Unless the volume failed, clean nodes stand in the given LEBs and in those of before. Keys in
-- order are never refused
pub record IsCommit (old new : VolumeState) (lebs kept : List ℕ) (first last : ℕ) (before after : MountedIndex) (row : KeyedRow) (result : Result IndexAt IndexFault) : Type 0 where
  pub now : KeyedRow
  pub shown : Shows new after now
  pub places : KeepsPlaces row now
  pub at : IfOk result (IsWrittenAt new (raw_of before.geometry) lebs (last - first) row now)
  pub untouched : OnWant (Keeps old new × (now ≡ row) × (last ≡ first)) result
  pub same : OnWant (KeepsShown old new before after) result
  pub full : IsShortOf (div_ceil (nodes_to_write before.nodes) (index_nodes_per_leb (raw_of before.geometry))) (length lebs) result
  pub stands : IsIndexNotFailed result → StandsIn new (lebs ++ kept) now
  pub order : AreKeysInOrder row → IsNotEqualKeys result
