-- Which leaf node carries a change of a tree, and which change a leaf node carries (the node table of ubifs-media.h).
use Rattle.std.specs.Prelude.{◌≡◌, ℕ, ◌+◌, ◌*◌, ◌/◌, ◌%◌, ◌<◌, ◌==◌, not, Bool, true, if◌then◌else◌, false, List, [], Option, Some, None, IfSome}
use Rattle.std.specs.Option.{option_map}
use Rattle.ubifs_base.specs.declared.key.Key.{Key}
use Rattle.ubifs_base.specs.declared.key.Key.TheVariants.{Ino, Block as BlockKey}
use Rattle.media_leaf.specs.Entry.{entry_key}
use Rattle.media_leaf.specs.LeafNode.{LeafNode, IsLeafNode, inode, block, entry, truncation}
use Rattle.media_leaf.specs.declared.dent_node.DentNode.{DentNode}
use Rattle.media_leaf.specs.declared.ino_node.InoNode.{InoNode}
use Rattle.fs_model.specs.declared.change.Change.{Change}
use Rattle.fs_model.specs.declared.change.Change.TheVariants.{SetInode, SetEntry, DropEntry, SetBlock, CutBlocks, DropInode}
use Rattle.fs_model.specs.declared.inode.Inode.{Inode}
use Rattle.fs_model.specs.declared.inode.Kind.{Kind}
use Rattle.fs_model.specs.declared.inode.Kind.TheVariants.{File, Dir, Symlink, Block, Char, Fifo, Socket}

-- the file type bits of a mode
abbrev pub type_bits : Kind → ℕ
type_bits File = 0o100000
type_bits Dir = 0o040000
type_bits Symlink = 0o120000
type_bits Block = 0o060000
type_bits Char = 0o020000
type_bits Fifo = 0o010000
type_bits Socket = 0o140000

-- the type of an entry
abbrev pub type_of_entry : Kind → ℕ
type_of_entry File = 0
type_of_entry Dir = 1
type_of_entry Symlink = 2
type_of_entry Block = 3
type_of_entry Char = 4
type_of_entry Fifo = 5
type_of_entry Socket = 6

-- the kind of which these are the file type bits
abbrev pub kind_of_bits : ℕ → Option Kind
kind_of_bits bits =
    if bits == 0o100000 then Some File
    else if bits == 0o040000 then Some Dir
    else if bits == 0o120000 then Some Symlink
    else if bits == 0o060000 then Some Block
    else if bits == 0o020000 then Some Char
    else if bits == 0o010000 then Some Fifo
    else if bits == 0o140000 then Some Socket
    else None

-- the kind of which this is the type of entries
abbrev pub kind_of_type : ℕ → Option Kind
kind_of_type type =
    if type == 0 then Some File
    else if type == 1 then Some Dir
    else if type == 2 then Some Symlink
    else if type == 3 then Some Block
    else if type == 4 then Some Char
    else if type == 5 then Some Fifo
    else if type == 6 then Some Socket
    else None

-- the file type bits that stand in a mode
abbrev pub bits_of : ℕ → ℕ
bits_of mode = mode / 0o10000 % 0o20 * 0o10000

-- the node of an inode, which has no attributes beside it
abbrev pub inode_node : ℕ → Inode → InoNode
inode_node ino node = record {
  ino = ino;
  size = node.size;
  atime = node.atime;
  ctime = node.ctime;
  mtime = node.mtime;
  nlink = node.nlink;
  uid = node.uid;
  gid = node.gid;
  mode = type_bits node.kind + node.mode;
  flags = node.flags;
  xattr_cnt = 0;
  xattr_size = 0;
  xattr_names = 0;
  bytes = node.extra;
}

-- an inode that goes: a file without links, of which all else is 0
abbrev pub gone_inode : Inode
gone_inode = record { kind = File; mode = 0; uid = 0; gid = 0; flags = 0; nlink = 0; size = 0; atime = 0; ctime = 0; mtime = 0; extra = [] }

-- the node that carries a change
abbrev pub node_of : Change → LeafNode
node_of (SetInode ino node) = inode (inode_node ino node)
node_of (SetEntry e) = entry (record { dir = e.dir; inum = e.ino; kind = type_of_entry e.kind; name = e.name; attribute = false })
node_of (DropEntry dir name) = entry (record { dir = dir; inum = 0; kind = 0; name = name; attribute = false })
node_of (SetBlock ino number bytes) = block (record { ino = ino; block = number; bytes = bytes })
node_of (CutBlocks ino old_size new_size) = truncation (record { ino = ino; old_size = old_size; new_size = new_size })
node_of (DropInode ino) = inode (inode_node ino gone_inode)

-- an inode that is set has a mode of permission bits alone
abbrev pub HasPlainMode : Change → Type 0
HasPlainMode (SetInode ino node) = node.mode < 0o10000
HasPlainMode change = Unit {0}

-- the inode that a node says, if this is its kind
abbrev pub inode_of : InoNode → Kind → Inode
inode_of node kind = record {
  kind = kind;
  mode = node.mode % 0o10000;
  uid = node.uid;
  gid = node.gid;
  flags = node.flags;
  nlink = node.nlink;
  size = node.size;
  atime = node.atime;
  ctime = node.ctime;
  mtime = node.mtime;
  extra = node.bytes;
}

-- what an inode's node carries: without links the inode goes
abbrev pub inode_change : InoNode → Option Change
inode_change node =
    if node.nlink == 0 then Some (DropInode node.ino)
    else option_map (λ kind. SetInode node.ino (inode_of node kind)) (kind_of_bits (bits_of node.mode))

-- what an entry's node carries: without an inode the name goes, and an attribute is none
abbrev pub entry_change : DentNode → Option Change
entry_change node =
    if node.attribute then None
    else if node.inum == 0 then Some (DropEntry node.dir node.name)
    else option_map (λ kind. SetEntry (record { dir = node.dir; name = node.name; ino = node.inum; kind = kind })) (kind_of_type node.kind)

-- the change that a node carries
abbrev pub change_of : LeafNode → Option Change
change_of (inode node) = inode_change node
change_of (block node) = Some (SetBlock node.ino node.block node.bytes)
change_of (entry node) = entry_change node
change_of (truncation node) = Some (CutBlocks node.ino node.old_size node.new_size)

-- This is what is read of bytes: the change that their node carries, and none where they are no node.
pub record IsChangeReadOf (bytes : List ℕ) (read : Option Change) : Type 0 where
  pub exact : (sqnum group : ℕ) (node : LeafNode) → IsLeafNode bytes sqnum group node → read ≡ change_of node
  pub some : IfSome read (λ change. (sqnum : ℕ) × (group : ℕ) × (node : LeafNode) × IsLeafNode bytes sqnum group node × (change_of node ≡ Some change))

-- The key of a node's leaf in the index: its inode, its block, or its directory and the hash of its name. A truncation has no leaf.
abbrev pub leaf_key : LeafNode → Option Key
leaf_key (inode node) = Some (Ino node.ino)
leaf_key (block node) = Some (BlockKey node.ino node.block)
leaf_key (entry node) = Some (entry_key node)
leaf_key (truncation node) = None
