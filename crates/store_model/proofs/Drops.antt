-- An inode that goes leaves the leaves that show the files without it.
use Rattle.std.proofs.Common.{arith, ◌≤◌, ℕ, List, refl, ap, ◌∙◌, not}
use Rattle.std.specs.Prelude.{filter}
use Rattle.media_leaf.specs.LeafNode.{IsLeaf}
use Rattle.fs_model.specs.declared.change.Change.TheVariants.{DropInode}
use Rattle.fs_model.specs.Change.{without_inode}
use Rattle.fs_model.specs.Files.{Tree}
use Rattle.group_nodes.specs.Nodes.{node_of}
use Rattle.leaf_map.specs.After.{is_gone}
use Rattle.leaf_map.specs.Kept.{Kept, Placed}
use Rattle.store_model.proofs.Puts.{KeptLaw, Show, TreeLaw}

-- the node of an inode that goes, wherever it might stand
abbrev gone_node : ℕ → Placed
gone_node ino = record { node = node_of (DropInode ino); sqnum = 0; group = 0; lnum = 0; offs = 0; len = 0 }

abbrev with_highest : ℕ → Tree → Tree
with_highest highest tree = record tree { highest = highest }

pub drop_shows : TreeLaw → KeptLaw → (ino : ℕ) (live : List Kept) (tree : Tree) → 1 ≤ ino → Show live tree
    → Show (filter (λ x. not (is_gone (DropInode ino) x)) live) (without_inode tree ino)
drop_shows trees keeps ino live tree some s = let is : IsLeaf (node_of (DropInode ino)) = record { numbered = some; most = omega arith; plain = λ _. refl } in record {
  leaves = keeps (DropInode ino) (gone_node ino) live is refl s.leaves;
  tree_is = ap (with_highest tree.highest) (trees (DropInode ino) (gone_node ino) live tree.highest is refl s.leaves) ∙ ap (λ t. without_inode t ino) s.tree_is;
}
