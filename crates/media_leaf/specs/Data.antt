-- Data nodes: a block of a file.
use Rattle.std.specs.Prelude.{ℕ, ◌-◌, ◌/◌, ◌%◌, ◌^◌, ◌<◌, ◌≤◌, ◌==◌, not, nat_lt, if◌then◌else◌, Bool, false, List, [], ◌∷◌, ◌++◌, length, drop, Option, Some, None}
use Rattle.byteorder.specs.Endian.{little_number}
use Rattle.ubifs_base.specs.declared.key.Key.TheVariants.{Block}
use Rattle.node_fields.specs.Fields.{Field, number, ignored, key_fields}
use Rattle.media_leaf.specs.declared.data_node.DataNode.{DataNode}

-- what a data node may say
pub record IsDataNode (node : DataNode) : Type 0 where
  pub block_fits : node.block < 2 ^ 29
  pub some : 1 ≤ length node.bytes
  pub most : length node.bytes ≤ 4096

-- after the header: the key, the size, no compression, and the ignored size before compression
abbrev pub data_fields : DataNode → List Field
data_fields node = key_fields (Block node.ino node.block) ++ (number 4 (length node.bytes) ∷ number 2 0 ∷ ignored 2 ∷ [])

-- whether a body of this type spells a node
unfoldable pub is_data : ℕ → List ℕ → Bool
is_data kind body =
    let second = little_number 4 (drop 4 body) in
    let size = little_number 4 (drop 16 body) in
    if not (kind == 1) then false
    else if nat_lt (length body) 24 then false
    else if not (second / 2 ^ 29 == 1) then false
    else if not (little_number 2 (drop 20 body) == 0) then false
    else if nat_lt size 1 then false
    else if nat_lt 4096 size then false
    else length body - 24 == size

-- the node that such a body spells
unfoldable pub data_at : List ℕ → DataNode
data_at body = record { ino = little_number 4 body; block = little_number 4 (drop 4 body) % 2 ^ 29; bytes = drop 24 body }

-- the node that a body of this type spells, if it spells one
unfoldable pub read_data : ℕ → List ℕ → Option DataNode
read_data kind body = if is_data kind body then Some (data_at body) else None
