-- Leaf nodes as they are read.
use Rattle.std.specs.Prelude.{ℕ, ◌==◌, ◌&&◌, Bool, List, Option, Some, None, nat_eq, true, false}
use Rattle.std.specs.Cmp.Lexicographic.{pointwise}
use Rattle.media_leaf.specs.LeafNode.{IsLeafNode, LeafNode, inode, block, entry, truncation}
use Rattle.media_leaf.specs.declared.data_node.DataNode.{DataNode}
use Rattle.media_leaf.specs.declared.dent_node.DentNode.{DentNode}
use Rattle.media_leaf.specs.declared.ino_node.InoNode.{InoNode}
use Rattle.media_leaf.specs.declared.trun_node.TrunNode.{TrunNode}
use Rattle.shown_leaves.specs.declared.stored_node.StoredNode.{StoredNode}
use Rattle.shown_leaves.specs.declared.stored_node.StoredNode.TheVariants.{Inode, Block, Entry, Truncation}

-- the node that was read
abbrev pub leaf_node : StoredNode → LeafNode
leaf_node (Inode node) = inode node
leaf_node (Block node) = block node
leaf_node (Entry node) = entry node
leaf_node (Truncation node) = truncation node

-- these bytes are this node, or none
abbrev pub IsStoredIn : List ℕ → Option StoredNode → Type 0
IsStoredIn bytes (Some node) = (sqnum : ℕ) × (group : ℕ) × IsLeafNode bytes sqnum group (leaf_node node)
IsStoredIn bytes None = (sqnum group : ℕ) (node : LeafNode) → IsLeafNode bytes sqnum group node → ⊥

-- whether two nodes say the same, field by field
abbrev pub is_same_truth : Bool → Bool → Bool
is_same_truth true b = b
is_same_truth false true = false
is_same_truth false false = true

abbrev pub is_same_inode : InoNode → InoNode → Bool
is_same_inode a b =
    (a.ino == b.ino)
    && ((a.size == b.size)
    && ((a.atime == b.atime)
    && ((a.ctime == b.ctime)
    && ((a.mtime == b.mtime)
    && ((a.nlink == b.nlink)
    && ((a.uid == b.uid)
    && ((a.gid == b.gid)
    && ((a.mode == b.mode)
    && ((a.flags == b.flags)
    && ((a.xattr_cnt == b.xattr_cnt)
    && ((a.xattr_size == b.xattr_size)
    && ((a.xattr_names == b.xattr_names)
    && pointwise nat_eq a.bytes b.bytes))))))))))))

abbrev pub is_same_block : DataNode → DataNode → Bool
is_same_block a b = (a.ino == b.ino) && ((a.block == b.block) && pointwise nat_eq a.bytes b.bytes)

abbrev pub is_same_entry : DentNode → DentNode → Bool
is_same_entry a b = (a.dir == b.dir) && ((a.inum == b.inum) && ((a.kind == b.kind) && (pointwise nat_eq a.name b.name && is_same_truth a.attribute b.attribute)))

abbrev pub is_same_truncation : TrunNode → TrunNode → Bool
is_same_truncation a b = (a.ino == b.ino) && ((a.old_size == b.old_size) && (a.new_size == b.new_size))
