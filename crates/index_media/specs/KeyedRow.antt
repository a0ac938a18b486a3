-- The shape of an index as it is kept while it is changed: nodes have their branches' keys, and places where they are clean.
use Rattle.std.specs.Prelude.{◌≡◌, ◌<◌, Option, Some, ⊤}
use Rattle.ubifs_base.specs.declared.key.Key.{Key}
use Rattle.index_tree.specs.Order.{key_rank}
use Rattle.index_tree.specs.Shape.{Shape, done, leaf, node, count, first_rank}
use Rattle.index_tree.specs.declared.leaf.Leaf.{Leaf}
use Rattle.index_media.specs.PlacedRow.{PlacedRow, ended, leaf_at, node_at, Stretch, stretch_of}

-- a row of siblings: leaves, or nodes, each with its branch's key, its place (none: it is dirty) and the row of its children
pub data KeyedRow : Type 0 where
  no_more : KeyedRow
  leaf_in : Leaf → KeyedRow → KeyedRow
  node_in : Key → Option Stretch → KeyedRow → KeyedRow → KeyedRow

-- the same row without keys of branches and places
abbrev pub bare : KeyedRow → Shape
bare no_more = done
bare (leaf_in x rest) = leaf x (bare rest)
bare (node_in key place children rest) = node (bare children) (bare rest)

-- a row that stands on a medium, all of it clean
abbrev pub all_clean : PlacedRow → KeyedRow
all_clean ended = no_more
all_clean (leaf_at x rest) = leaf_in x (all_clean rest)
all_clean (node_at branch children rest) =
    node_in branch.key (Some (stretch_of branch)) (all_clean children) (all_clean rest)

-- each node has a child, and its branch's key is its first leaf's
abbrev pub HaveFirstKeys : KeyedRow → Type 0
HaveFirstKeys no_more = ⊤
HaveFirstKeys (leaf_in x rest) = HaveFirstKeys rest
HaveFirstKeys (node_in key place children rest) =
    (0 < count (bare children)) × (key_rank key ≡ first_rank (bare children)) × HaveFirstKeys children × HaveFirstKeys rest
