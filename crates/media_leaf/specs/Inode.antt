-- Inode nodes: the attributes of a file or directory, and the data that stands beside them.
use Rattle.std.specs.Prelude.{◌≡◌, ℕ, ◌-◌, ◌/◌, ◌%◌, ◌≤◌, ◌==◌, ◌||◌, ◌&&◌, not, nat_lt, if◌then◌else◌, Bool, false, List, [], ◌∷◌, ◌++◌, length, drop, Option, Some, None}
use Rattle.byteorder.specs.Endian.{little_number}
use Rattle.ubifs_base.specs.declared.key.Key.TheVariants.{Ino}
use Rattle.node_fields.specs.Fields.{Field, number, ignored, key_fields}
use Rattle.media_leaf.specs.declared.ino_node.InoNode.{InoNode}

-- whether a mode's file type is a symbolic link, a block device or a character device
abbrev pub may_hold_data : ℕ → Bool
may_hold_data mode =
    let file_type = mode / 0o10000 % 0o20 in
    file_type == 0o12 || file_type == 0o06 || file_type == 0o02

-- what an inode node may say
pub record IsInoNode (node : InoNode) : Type 0 where
  pub numbered : 1 ≤ node.ino
  pub most : length node.bytes ≤ 4096
  pub plain : may_hold_data node.mode ≡ false → length node.bytes ≡ 0

-- the ignored sequence number of its creation, and its size
abbrev pub size_fields : InoNode → List Field
size_fields node = ignored 8 ∷ number 8 node.size ∷ []

-- its times in seconds, and the ignored nanoseconds of each
abbrev pub time_fields : InoNode → List Field
time_fields node = number 8 node.atime ∷ number 8 node.ctime ∷ number 8 node.mtime ∷ ignored 4 ∷ ignored 4 ∷ ignored 4 ∷ []

-- its links, its owner and its mode
abbrev pub owner_fields : InoNode → List Field
owner_fields node = number 4 node.nlink ∷ number 4 node.uid ∷ number 4 node.gid ∷ number 4 node.mode ∷ number 4 node.flags ∷ []

-- how much data and how many attributes it has
abbrev pub extra_fields : InoNode → List Field
extra_fields node =
    number 4 (length node.bytes) ∷ number 4 node.xattr_cnt ∷ number 4 node.xattr_size ∷ ignored 4 ∷ number 4 node.xattr_names ∷ []

-- the ignored compression of its file, and padding
abbrev pub last_fields : List Field
last_fields = ignored 2 ∷ ignored 26 ∷ []

-- after the header: the key and the above
abbrev pub inode_fields : InoNode → List Field
inode_fields node =
    key_fields (Ino node.ino) ++ (size_fields node ++ (time_fields node ++ (owner_fields node ++ (extra_fields node ++ last_fields))))

-- whether a body of this type spells a node
unfoldable pub is_inode : ℕ → List ℕ → Bool
is_inode kind body =
    let mode = little_number 4 (drop 80 body) in
    let size = little_number 4 (drop 88 body) in
    if not (kind == 0) then false
    else if nat_lt (length body) 136 then false
    else if not (little_number 4 (drop 4 body) == 0) then false
    else if nat_lt (little_number 4 body) 1 then false
    else if nat_lt 4096 size then false
    else if not (length body - 136 == size) then false
    else not (not (size == 0) && not (may_hold_data mode))

-- the node that such a body spells
unfoldable pub inode_at : List ℕ → InoNode
inode_at body = record {
  ino = little_number 4 body;
  size = little_number 8 (drop 24 body);
  atime = little_number 8 (drop 32 body);
  ctime = little_number 8 (drop 40 body);
  mtime = little_number 8 (drop 48 body);
  nlink = little_number 4 (drop 68 body);
  uid = little_number 4 (drop 72 body);
  gid = little_number 4 (drop 76 body);
  mode = little_number 4 (drop 80 body);
  flags = little_number 4 (drop 84 body);
  xattr_cnt = little_number 4 (drop 92 body);
  xattr_size = little_number 4 (drop 96 body);
  xattr_names = little_number 4 (drop 104 body);
  bytes = drop 136 body;
}

-- the node that a body of this type spells, if it spells one
unfoldable pub read_inode : ℕ → List ℕ → Option InoNode
read_inode kind body = if is_inode kind body then Some (inode_at body) else None
