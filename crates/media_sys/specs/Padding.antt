-- Padding nodes: how many bytes behind them are passed over.
use Rattle.std.specs.Prelude.{ℕ, ◌==◌, ◌&&◌, Bool, List, [], ◌∷◌, length}
use Rattle.byteorder.specs.Endian.{little_number}
use Rattle.node_fields.specs.Fields.{Field, number}
use Rattle.media_sys.specs.declared.pad_node.PadNode.{PadNode}

-- after the header: how many bytes
abbrev pub padding_fields : PadNode → List Field
padding_fields node = number 4 node.pad_len ∷ []

-- whether a body of this type is that of a padding node
unfoldable pub is_padding : ℕ → List ℕ → Bool
is_padding kind body = kind == 5 && length body == 4

-- and which
unfoldable pub padding_at : List ℕ → PadNode
padding_at body = record { pad_len = little_number 4 body }
