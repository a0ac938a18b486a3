-- Truncation nodes: a file was cut.
use Rattle.std.specs.Prelude.{ℕ, ◌==◌, not, if◌then◌else◌, Bool, false, List, [], ◌∷◌, length, drop, Option, Some, None}
use Rattle.byteorder.specs.Endian.{little_number}
use Rattle.node_fields.specs.Fields.{Field, number, ignored}
use Rattle.media_leaf.specs.declared.trun_node.TrunNode.{TrunNode}

-- after the header: the inode's number, the size before and the size after; there is no key
abbrev pub truncation_fields : TrunNode → List Field
truncation_fields node = number 4 node.ino ∷ ignored 12 ∷ number 8 node.old_size ∷ number 8 node.new_size ∷ []

-- whether a body of this type spells a node
unfoldable pub is_truncation : ℕ → List ℕ → Bool
is_truncation kind body =
    if not (kind == 4) then false
    else length body == 32

-- the node that such a body spells
unfoldable pub truncation_at : List ℕ → TrunNode
truncation_at body = record { ino = little_number 4 body; old_size = little_number 8 (drop 16 body); new_size = little_number 8 (drop 24 body) }

-- the node that a body of this type spells, if it spells one
unfoldable pub read_truncation : ℕ → List ℕ → Option TrunNode
read_truncation kind body = if is_truncation kind body then Some (truncation_at body) else None
