-- What the live nodes of a tree say: the tree itself, in which what is reckoned of a directory is written down.
use Rattle.std.specs.Prelude.{◌≡◌, ℕ, is_some, Bool, IsTrue, List, Some, filter, map}
use Rattle.ubifs_base.specs.R5.{r5_of}
use Rattle.fs_model.specs.declared.change.Change.TheVariants.{SetEntry}
use Rattle.fs_model.specs.declared.inode.Entry.{Entry}
use Rattle.fs_model.specs.declared.inode.Inode.{Inode}
use Rattle.fs_model.specs.Directory.{links_of}
use Rattle.fs_model.specs.Files.{Tree, entry_at, inode_at}
use Rattle.media_leaf.specs.LeafNode.{IsLeaf}
use Rattle.leaf_map.specs.Kept.{Placed, shown}
use Rattle.leaf_map.specs.Parts.{is_shown}
use Rattle.image_maker.specs.Leaves.{live_leaves, stored_size}

-- these nodes are the live nodes of a tree in their order, wherever they stand
abbrev pub AreNodesOfTree : Tree → List Placed → Type 0
AreNodesOfTree tree nodes = map (λ x. x.node) nodes ≡ live_leaves tree

-- an inode as its node says it, of a directory with the links and the size that are reckoned
abbrev pub as_stored : Tree → ℕ × Inode → ℕ × Inode
as_stored tree e = (e.0, record e.1 { size = stored_size tree e.0 e.1; nlink = links_of tree e.0 e.1 })

-- whether a block's inode is there
abbrev pub is_owned : Tree → (ℕ × ℕ) × List ℕ → Bool
is_owned tree b = is_some (inode_at tree b.0.0)

-- The tree as its nodes say it: each directory has the links and the size that are reckoned, and a block without an inode has no node.
abbrev pub stored_tree : Tree → Tree
stored_tree tree = record tree { inodes = map (as_stored tree) tree.inodes; blocks = filter (is_owned tree) tree.blocks }

-- the hash and the name of an entry
abbrev pub hash_and_name : Entry → ℕ × List ℕ
hash_and_name e = (r5_of e.name, e.name)

-- a node of the grammar that shows an inode of a known kind, a block or a name, and that only if the tree has it
pub record IsLiveLeaf (tree : Tree) (x : Placed) : Type 0 where
  pub is : IsLeaf x.node
  pub shows : IsTrue (is_shown (shown x.node))
  pub named : (e : Entry) → shown x.node ≡ Some (SetEntry e) → entry_at tree e.dir e.name ≡ Some e
