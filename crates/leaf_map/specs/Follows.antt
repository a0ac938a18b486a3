-- What a change makes of an index's leaves, told of the leaves alone.
use Rattle.std.specs.Prelude.{ℕ, ◌+◌, ◌-◌, ◌/◌, ◌^◌, List, Option, Some, None}
use Rattle.ubifs_base.specs.declared.key.Key.{Key}
use Rattle.ubifs_base.specs.declared.key.Key.TheVariants.{Block}
use Rattle.index_tree.specs.declared.leaf.Leaf.{Leaf}
use Rattle.index_tree.specs.Order.{placed}
use Rattle.index_tree.specs.Removal.{without}
use Rattle.index_tree.specs.Replacement.{swapped}
use Rattle.leaf_map.specs.Kept.{Kept}

-- a leaf in the place of an old one, if there is one, and else behind all of no greater key
abbrev pub with_leaf : Option Kept → Leaf → List Leaf → List Leaf
with_leaf None new xs = placed new xs
with_leaf (Some old) new xs = swapped old.leaf new xs

-- the leaves without an old one, if there is one
abbrev pub without_old : Option Kept → List Leaf → List Leaf
without_old None xs = xs
without_old (Some old) xs = without old.leaf xs

-- the key of an inode's first block that has no byte below a size
abbrev pub block_key_from : ℕ → ℕ → Key
block_key_from ino size = Block ino ((size + 4095) / 4096)

-- the greatest key that a block of an inode can have
abbrev pub last_block_key : ℕ → Key
last_block_key ino = Block ino (2 ^ 29 - 1)
