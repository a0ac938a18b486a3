-- What is seen of an index.
use Rattle.std.specs.Prelude.{◌≡◌, ℕ, List, Option}
use Rattle.index_tree.specs.declared.leaf.Leaf.{Leaf}
use Rattle.index_media.specs.KeyedRow.{KeyedRow}
use Rattle.node_table.specs.Dirty.{dirty_below}
use Rattle.table_nodes.specs.NodeView.{tree_at, leaves_at}
use Rattle.table_nodes.specs.Links.{AreNodesAdded}
use Rattle.node_table.specs.Staging.{IsSoundRoot}
use Rattle.node_table.specs.Unloaded.{DoesRootStand}
use Rattle.table_nodes.specs.declared.node.Root.{Root}
use Rattle.ubi_volume.specs.Volume.{VolumeState}
use Rattle.index_cache.specs.declared.paged.PagedIndex.{PagedIndex}

-- its shape, with the keys of branches, and with places where nodes are clean
abbrev pub keyed_tree_of : PagedIndex → KeyedRow
keyed_tree_of index = tree_at index.table.nodes.items index.root

-- its leaves from left to right
abbrev pub leaves_of : PagedIndex → List Leaf
leaves_of index = leaves_at index.table.nodes.items index.root

-- nodes of the index that aren't loaded stand on a volume where they were met
abbrev pub DoesIndexStand : VolumeState → PagedIndex → Type 0
DoesIndexStand state index = DoesRootStand state index.table.nodes.items index.root

-- the index that a commit writes: that of its last freeze, with the places that its nodes have got since
abbrev pub frozen_of : PagedIndex → KeyedRow
frozen_of index = tree_at index.table.nodes.items index.frozen

-- the numbers of its dirty nodes, each behind those below it
abbrev pub dirty_of : PagedIndex → List ℕ
dirty_of index = dirty_below index.table.nodes.items index.frozen

-- the most children that its nodes have
abbrev pub fanout_of : PagedIndex → ℕ
fanout_of index = index.table.fanout

-- an index keeps its nodes, the most children that they have, and what is frozen, with its places and its dirty nodes; other
-- nodes may have come behind them
pub record KeepsNodes (old new : PagedIndex) : Type 0 where
  pub added : AreNodesAdded old.table.nodes.items new.table.nodes.items
  pub fanout : fanout_of new ≡ fanout_of old
  pub frozen : new.frozen ≡ old.frozen
  pub frozen_tree : frozen_of new ≡ frozen_of old
  pub dirty : dirty_of new ≡ dirty_of old

-- an index keeps its two roots and the most children that its nodes have, and each root that was sound is sound still
pub record KeepsRoots (old new : PagedIndex) : Type 0 where
  pub root : new.root ≡ old.root
  pub frozen : new.frozen ≡ old.frozen
  pub fanout : fanout_of new ≡ fanout_of old
  pub sound : (root : Option Root) → IsSoundRoot old.table.nodes.items root → IsSoundRoot new.table.nodes.items root
