-- The live leaf nodes of a tree, in order of key.
use Rattle.std.specs.Prelude.{ℕ, ◌==◌, if◌then◌else◌, List, ◌∷◌, ◌++◌, map, filter}
use Rattle.std.specs.List.{flat_map}
use Rattle.media_leaf.specs.LeafNode.{LeafNode}
use Rattle.group_nodes.specs.Nodes.{node_of}
use Rattle.fs_model.specs.declared.change.Change.TheVariants.{SetInode, SetEntry, SetBlock}
use Rattle.fs_model.specs.declared.inode.Inode.{Inode}
use Rattle.fs_model.specs.declared.inode.Entry.{Entry}
use Rattle.fs_model.specs.Directory.{entries_in, by_hash, links_of, dir_size}
use Rattle.fs_model.specs.Files.{Tree}
use Rattle.fs_model.specs.Path.{is_dir}

-- the size that an inode's node has; a directory's is reckoned
abbrev pub stored_size : Tree → ℕ → Inode → ℕ
stored_size tree ino node = if is_dir node.kind then dir_size tree ino else node.size

-- the node of an inode, whose links are reckoned too where it is a directory
abbrev pub inode_leaf : Tree → ℕ → Inode → LeafNode
inode_leaf tree ino node = node_of (SetInode ino (record node { size = stored_size tree ino node; nlink = links_of tree ino node }))

-- the node of a block
abbrev pub block_leaf : (ℕ × ℕ) × List ℕ → LeafNode
block_leaf stored = node_of (SetBlock stored.0.0 stored.0.1 stored.1)

-- the node of an entry
abbrev pub entry_leaf : Entry → LeafNode
entry_leaf e = node_of (SetEntry e)

-- the nodes of an inode: its own, those of its blocks, and those of the entries in it
abbrev pub leaf_nodes_of : Tree → ℕ × Inode → List LeafNode
leaf_nodes_of tree node =
    inode_leaf tree node.0 node.1
    ∷ (map block_leaf (filter (λ stored. stored.0.0 == node.0) tree.blocks) ++ map entry_leaf (by_hash (entries_in tree node.0)))

-- all nodes, inode by inode
abbrev pub live_leaves : Tree → List LeafNode
live_leaves tree = flat_map (leaf_nodes_of tree) tree.inodes
