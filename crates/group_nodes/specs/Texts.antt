-- The text of a leaf node: its bytes, and 0xCE up to a multiple of 8.
use Rattle.std.specs.Prelude.{ℕ, ◌+◌, ◌-◌, List, ◌++◌, length, replicate}
use Rattle.media_leaf.specs.LeafNode.{LeafNode, inode, block, entry, truncation, written}
use Rattle.fs_model.specs.declared.change.Change.{Change}
use Rattle.fs_model.specs.Cover.{round_8}
use Rattle.group_nodes.specs.Nodes.{node_of}

-- how many bytes a node takes
abbrev pub leaf_len : LeafNode → ℕ
leaf_len (inode node) = 160 + length node.bytes
leaf_len (block node) = 48 + length node.bytes
leaf_len (entry node) = 57 + length node.name
leaf_len (truncation node) = 56

-- and with the bytes up to a multiple of 8
abbrev pub padded_leaf_bytes : LeafNode → ℕ
padded_leaf_bytes leaf = round_8 (leaf_len leaf)

-- a node's bytes, and 0xCE up to a multiple of 8
abbrev pub padded_node : List ℕ → List ℕ
padded_node bytes = bytes ++ replicate (round_8 (length bytes) - length bytes) 0xCE

-- the text of a leaf with this sequence number and group type
unfoldable pub leaf_text : ℕ → ℕ → LeafNode → List ℕ
leaf_text sqnum group leaf = padded_node (written sqnum group leaf)

-- how many bytes the text of a change's node takes
abbrev pub text_bytes : Change → ℕ
text_bytes change = padded_leaf_bytes (node_of change)
