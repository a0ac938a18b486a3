-- When two states are the same to every caller.
use Rattle.std.specs.Prelude.{◌≡◌, ℕ, ◌==◌, if◌then◌else◌, List, [], ◌∷◌, map}
use Rattle.fs_model.specs.declared.inode.Inode.{Inode}
use Rattle.fs_model.specs.Files.{Files, Inodes, Blocks}
use Rattle.fs_model.specs.Path.{is_dir}

abbrev pub before_zeros : ℕ → List ℕ → List ℕ
before_zeros byte [] = if byte == 0 then [] else byte ∷ []
before_zeros byte (next ∷ bytes) = byte ∷ next ∷ bytes

-- the bytes up to the last one that isn't zero
abbrev pub trimmed : List ℕ → List ℕ
trimmed [] = []
trimmed (byte ∷ bytes) = before_zeros byte (trimmed bytes)

-- blocks by number, each up to its last byte that isn't zero
abbrev pub trimmed_blocks : Blocks → Blocks
trimmed_blocks blocks = map (λ b. (b.0, trimmed b.1)) blocks

-- an inode without what is reckoned: a directory's links and size
abbrev pub as_told : Inode → Inode
as_told inode = if is_dir inode.kind then record inode { nlink = 0; size = 0 } else inode

-- inodes by number, without what is reckoned
abbrev pub told_inodes : Inodes → Inodes
told_inodes inodes = map (λ e. (e.0, as_told e.1)) inodes

-- Two states are the same: blocks may differ in zeros at their ends, which are read where nothing stands, and directories in the links and the size that their inodes say, which are reckoned.
pub record IsSame (a b : Files) : Type 0 where
  pub inodes : told_inodes a.tree.inodes ≡ told_inodes b.tree.inodes
  pub blocks : trimmed_blocks a.tree.blocks ≡ trimmed_blocks b.tree.blocks
  pub entries : a.tree.entries ≡ b.tree.entries
  pub highest : a.tree.highest ≡ b.tree.highest
  pub handles : a.handles ≡ b.handles
