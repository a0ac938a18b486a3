-- Entry nodes: a name in a directory, or the name of an attribute.
use Rattle.std.specs.Prelude.{ℕ, ◌+◌, ◌-◌, ◌/◌, ◌%◌, ◌^◌, ◌<◌, ◌≤◌, ◌==◌, ◌&&◌, ◌||◌, not, nat_lt, if◌then◌else◌, Bool, false, IsTrue, List, [], ◌∷◌, ◌++◌, length, take, drop, slice_index, Option, Some, None}
use Rattle.std.specs.List.{list_all}
use Rattle.byteorder.specs.Endian.{little_number}
use Rattle.ubifs_base.specs.declared.key.Key.{Key}
use Rattle.ubifs_base.specs.declared.key.Key.TheVariants.{Dent, Xent}
use Rattle.ubifs_base.specs.NodeType.{type_number}
use Rattle.ubifs_base.specs.declared.node_type.NodeType.TheVariants as types
use Rattle.ubifs_base.specs.R5.{r5_of}
use Rattle.node_fields.specs.Fields.{Field, number, ignored, key_fields}
use Rattle.media_leaf.specs.declared.dent_node.DentNode.{DentNode}

-- a byte that may stand in a name: neither zero nor a slash
abbrev pub is_name_byte : ℕ → Bool
is_name_byte byte = not (byte == 0) && not (byte == 47)

-- what an entry node may say
pub record IsDentNode (node : DentNode) : Type 0 where
  pub inum_fits : node.inum < 2 ^ 32
  pub kind_known : node.kind ≤ 6
  pub some : 1 ≤ length node.name
  pub most : length node.name ≤ 255
  pub plain : IsTrue (list_all is_name_byte node.name)

-- an entry's key has the hash of its name
abbrev pub entry_key : DentNode → Key
entry_key node = if node.attribute then Xent node.dir (r5_of node.name) else Dent node.dir (r5_of node.name)

-- the type of an attribute's entry, or of a directory's
abbrev pub entry_type : DentNode → ℕ
entry_type node = if node.attribute then type_number types.Attribute else type_number types.Entry

-- after the header: the key, the inode, its kind, the name's length, and the ignored cookie
abbrev pub entry_fields : DentNode → List Field
entry_fields node =
    key_fields (entry_key node)
    ++ (number 8 node.inum ∷ ignored 1 ∷ number 1 node.kind ∷ number 2 (length node.name) ∷ ignored 4 ∷ [])

-- the name, and a zero byte
abbrev pub entry_tail : DentNode → List ℕ
entry_tail node = node.name ++ (0 ∷ [])

-- the name that stands in a body
abbrev pub name_of : List ℕ → List ℕ
name_of body = take (little_number 2 (drop 26 body)) (drop 32 body)

-- of a body whose fields are in range: whether this may be a name, and the key is its key
unfoldable pub is_named : ℕ → List ℕ → List ℕ → Bool
is_named kind body name =
    let second = little_number 4 (drop 4 body) in
    if not (list_all is_name_byte name) then false
    else if not (second / 2 ^ 29 == kind) then false
    else second % 2 ^ 29 == r5_of name

-- whether a body of this type spells a node
unfoldable pub is_entry : ℕ → List ℕ → Bool
is_entry kind body =
    let size = little_number 2 (drop 26 body) in
    if not (kind == 2 || kind == 3) then false
    else if nat_lt (length body) 33 then false
    else if nat_lt 4294967295 (little_number 8 (drop 16 body)) then false
    else if nat_lt 6 (slice_index body 25) then false
    else if nat_lt size 1 then false
    else if nat_lt 255 size then false
    else if not (length body - 33 == size) then false
    else if not (slice_index body (32 + size) == 0) then false
    else is_named kind body (name_of body)

-- the node that such a body spells
unfoldable pub entry_at : ℕ → List ℕ → DentNode
entry_at kind body = record { dir = little_number 4 body; inum = little_number 8 (drop 16 body); kind = slice_index body 25; name = name_of body; attribute = kind == 3 }

-- the node that a body of this type spells, if it spells one
unfoldable pub read_entry : ℕ → List ℕ → Option DentNode
read_entry kind body = if is_entry kind body then Some (entry_at kind body) else None
