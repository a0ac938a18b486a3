-- What writes mean to who reads.
use Rattle.std.specs.Prelude.{◌≡◌, ◌≢◌, ℕ, ◌+◌, ◌<◌, ◌≤◌, ◌⊎◌}
use Rattle.fs_model.specs.Files.{Blocks, byte_at, blocks_written}

-- After n copies of a byte are written from a place of a file on, those places have it, and each other place of this file and of others has what it had.
pub record IsKept (blocks : Blocks) (ino place n byte : ℕ) : Type 0 where
  pub inside : (p : ℕ) → place ≤ p → p < place + n → byte_at (blocks_written blocks ino place n byte) ino p ≡ byte
  pub outside : (p : ℕ) → (p < place) ⊎ (place + n ≤ p) → byte_at (blocks_written blocks ino place n byte) ino p ≡ byte_at blocks ino p
  pub others : (other p : ℕ) → other ≢ ino → byte_at (blocks_written blocks ino place n byte) other p ≡ byte_at blocks other p
