-- The key of a leaf node, by its type and the words in it.
use Rattle.std.specs.Prelude.{ℕ, Option, Some, None}
use Rattle.ubifs_base.specs.declared.key.Key.{Key}
use Rattle.ubifs_base.specs.declared.key.Key.TheVariants.{Ino, Block, Dent, Xent}
use Rattle.ubifs_base.specs.declared.node_type.NodeType.{NodeType}
use Rattle.ubifs_base.specs.declared.node_type.NodeType.TheVariants as types

-- the key of a leaf node of this type, with this first word and this value in the second
abbrev pub key_by : NodeType → ℕ → ℕ → Option Key
key_by types.Inode first value = Some (Ino first)
key_by types.Data first value = Some (Block first value)
key_by types.Entry first value = Some (Dent first value)
key_by types.Attribute first value = Some (Xent first value)
key_by other first value = None
