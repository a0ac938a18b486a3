-- Trees that hang together alike: they may differ in blocks, and in what else their inodes say.
use Rattle.std.specs.Prelude.{◌≡◌, ℕ, IsTrue, nat_le, List, map}
use Rattle.std.specs.List.{list_all}
use Rattle.std.specs.Map.{keys_of}
use Rattle.fs_model.specs.declared.inode.Inode.{Inode}
use Rattle.fs_model.specs.declared.inode.Kind.{Kind}
use Rattle.fs_model.specs.Files.{Tree, Inodes, pair_cmp}
use Rattle.fs_model.specs.Proper.{ascends, is_inode_node, is_block_node}

-- what holds an inode in its tree: its kind and its links
abbrev pub kind_and_links : Inode → Kind × ℕ
kind_and_links inode = (inode.kind, inode.nlink)

-- one thing of each inode, by number
abbrev pub told_by : {X : Type 0} → (Inode → X) → Inodes → List (ℕ × X)
told_by what inodes = map (λ e. (e.0, what e.1)) inodes

-- the same entries and highest number, and inodes of the same numbers, kinds and links
pub record IsBuiltAlike (a b : Tree) : Type 0 where
  pub inodes : told_by kind_and_links a.inodes ≡ told_by kind_and_links b.inodes
  pub entries : a.entries ≡ b.entries
  pub highest : a.highest ≡ b.highest

-- each inode and each block is a node, and the blocks ascend, none past the highest number
pub record HasNodes (tree : Tree) : Type 0 where
  pub inode_nodes : IsTrue (list_all is_inode_node tree.inodes)
  pub blocks_ascend : IsTrue (ascends pair_cmp (keys_of tree.blocks))
  pub block_nodes : IsTrue (list_all is_block_node tree.blocks)
  pub block_numbers : IsTrue (list_all (λ e. nat_le e.0.0 tree.highest) tree.blocks)
