-- What is told of leaves and nodes, and of which leaves.
use Rattle.std.specs.Prelude.{◌≡◌, ℕ, true, List, fold, map}
use Rattle.std.specs.List.{AllByRecursion}
use Rattle.media_leaf.specs.LeafNode.{IsLeaf, LeafNode}
use Rattle.index_tree.specs.declared.index.Index.{Index}
use Rattle.index_tree.specs.Distinct.{AreDistinct}
use Rattle.index_tree.specs.Shape.{contents}
use Rattle.index_tree.specs.Tree.{shape}
use Rattle.leaf_map.specs.Kept.{Kept, Placed, shown}
use Rattle.leaf_map.specs.LeafMap.{IsLeafMap}
use Rattle.leaf_map.specs.Parts.{Parts, is_shown}
use Rattle.leaf_map.specs.Recovered.{nodes_in_order, leaves_found, listed_left, without_orphan}
use Rattle.journal_scan.specs.Content.{node_content_of, told}
use Rattle.journal_scan.specs.Places.{HavePlaces}
use Rattle.journal_scan.specs.declared.journal_node.JournalNode.{JournalNode}
use Rattle.log_replay.specs.Standing.{AreFresh, leaves, names_in}

-- what is told of a leaf: what its node says, where it stands
abbrev pub told_leaf : Kept → JournalNode
told_leaf x = record { content = node_content_of x.node; sqnum = x.sqnum; lnum = x.leaf.lnum; offs = x.leaf.offs; len = x.leaf.len }

-- An index has these leaves, which are those of an index, and of each this is told; no two names have one leaf.
pub record AreLeavesOf (kept : List Kept) (index : Index) (found : List JournalNode) : Type 0 where
  pub in_index : contents (shape index.root) ≡ leaves kept
  pub told : found ≡ map told_leaf kept
  pub leaf_map : IsLeafMap kept
  pub distinct : AreDistinct (leaves (names_in kept))

-- Of these nodes this is told, and they can be applied to leaves.
pub record AreNodesOf (kept : List Kept) (placed : List Placed) (nodes : List JournalNode) : Type 0 where
  pub of_nodes : nodes ≡ map told placed
  pub leaf_nodes : AllByRecursion (λ x. IsLeaf x.node) placed
  pub fresh : AreFresh kept placed

-- the leaves after some inodes are gone that are listed and have no links
abbrev pub without_orphans : List Kept → List ℕ → List Kept
without_orphans kept listed = fold without_orphan kept listed

-- a node of the grammar that sets an inode, a block or a name
pub record IsSetting (node : LeafNode) : Type 0 where
  pub leaf : IsLeaf node
  pub shown : is_shown (shown node) ≡ true

-- What was read is that of a journal: each copy sets an inode, a block or a name; the leaves that are found are those of an index, and no two committed ones are one; and all nodes stand at places of their own, which the log names.
pub record IsOfJournal (parts : Parts) : Type 0 where
  pub copies : AllByRecursion (λ c. IsSetting c.node) parts.copies
  pub found : IsLeafMap (leaves_found parts)
  pub distinct : AreDistinct (map (λ c. c.leaf) parts.committed)
  pub places : HavePlaces parts.named parts.copies parts.nodes

-- This is told of what a mount has read: an index of the leaves that were found, what is said of each, the nodes in order of number, and the listed inodes that may go.
pub record IsToldBy (parts : Parts) (index : Index) (found nodes : List JournalNode) (listed : List ℕ) : Type 0 where
  pub journal : IsOfJournal parts
  pub in_index : contents (shape index.root) ≡ leaves (leaves_found parts)
  pub of_leaves : found ≡ map told_leaf (leaves_found parts)
  pub of_nodes : nodes ≡ map told (nodes_in_order parts.nodes)
  pub of_list : listed ≡ listed_left parts
