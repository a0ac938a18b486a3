-- When pages were put between two states of the files, and nothing else was done.
use Rattle.std.specs.Prelude.{◌≡◌, ℕ, false, Some}
use Rattle.fs_model.specs.declared.inode.Inode.{Inode}
use Rattle.fs_model.specs.Files.{Files, inode_at, size_of}
use Rattle.fs_model.specs.Path.{is_dir}
use Rattle.fs_model.specs.Same.{trimmed_blocks}

-- Nothing differs but zeros at the ends of blocks, which are read where nothing stands, and these leave the size of all but directories, whose size is reckoned. Such files are the same to every caller.
pub record IsAlike (a b : Files) : Type 0 where
  pub inodes : a.tree.inodes ≡ b.tree.inodes
  pub blocks : trimmed_blocks a.tree.blocks ≡ trimmed_blocks b.tree.blocks
  pub entries : a.tree.entries ≡ b.tree.entries
  pub highest : a.tree.highest ≡ b.tree.highest
  pub handles : a.handles ≡ b.handles
  pub sizes : (ino : ℕ) (inode : Inode) → inode_at a.tree ino ≡ Some inode → is_dir inode.kind ≡ false → size_of a.tree ino inode ≡ size_of b.tree ino inode
