-- The greatest block leaf of an inode.
use Rattle.std.specs.Prelude.{ℕ, ◌+◌, ◌*◌, ◌-◌, ◌^◌, ◌==◌, nat_le, Bool, false, List, Option, None, filter}
use Rattle.std.specs.List.{last_or}
use Rattle.ubifs_base.specs.declared.key.Key.{Key}
use Rattle.ubifs_base.specs.declared.key.Key.TheVariants.{Ino, Block, Dent, Xent}
use Rattle.index_tree.specs.declared.leaf.Leaf.{Leaf}
use Rattle.index_tree.specs.Order.{leaf_rank}

-- whether a key is that of a block of this inode
abbrev pub is_block_of : ℕ → Key → Bool
is_block_of ino (Ino owner) = false
is_block_of ino (Block owner block) = owner == ino
is_block_of ino (Dent dir hash) = false
is_block_of ino (Xent owner hash) = false

-- the block leaves of an inode, in order
abbrev pub blocks_of : ℕ → List Leaf → List Leaf
blocks_of ino xs = filter (λ x. is_block_of ino x.key) xs

-- the last block leaf of an inode, none where there is none
abbrev pub last_block : ℕ → List Leaf → Option Leaf
last_block ino xs = last_or None (blocks_of ino xs)

-- the leaves of this rank and of lower ones
abbrev pub up_to : ℕ → List Leaf → List Leaf
up_to rank xs = filter (λ x. nat_le (leaf_rank x) rank) xs

-- the greatest rank that a block of this inode can have
abbrev pub last_rank : ℕ → ℕ
last_rank ino = ino * 2 ^ 33 + 2 * 2 ^ 29 - 1
