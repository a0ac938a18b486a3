-- Which blocks a walk over those of an inode cuts.
use Rattle.std.specs.Prelude.{ℕ, ◌*◌, ◌==◌, ◌&&◌, Bool, nat_le}

-- whether a block is of this inode and begins at this size or past it
abbrev pub is_block_cut : ℕ → ℕ → ℕ × ℕ → Bool
is_block_cut ino size key = (key.0 == ino) && nat_le size (4096 * key.1)
