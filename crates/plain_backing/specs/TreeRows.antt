-- What a visit of a tree in order of key shows at each step.
use Rattle.std.specs.Prelude.{ℕ, List}
use Rattle.fs_model.specs.declared.inode.Inode.{Inode}
use denote.Ref.{Bor}

-- the inode that is shown, by its number
abbrev pub inode_row : ℕ × Bor Inode → ℕ × Inode
inode_row row = (row.0, row.1.now)

-- the block that is shown, by its inode and number
abbrev pub block_row : (ℕ × ℕ) × Bor (List ℕ) → (ℕ × ℕ) × List ℕ
block_row row = (row.0, row.1.now)
