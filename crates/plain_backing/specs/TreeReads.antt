-- What is read of the blocks of a tree.
use Rattle.std.specs.Prelude.{◌≡◌, ℕ, ◌≤◌, Bool, true, is_some}
use Rattle.std.specs.BTreeMap.{is_at}
use Rattle.std.specs.Map.{lookup}
use Rattle.fs_model.specs.Files.{Blocks, pair_cmp}

-- whether an inode has a block of this number
abbrev pub has_block : Blocks → ℕ → ℕ → Bool
has_block blocks ino block = is_some (lookup (is_at (pair_cmp (ino, block))) blocks)

-- an inode has a block of this number, and none of a greater one
pub record IsGreatestBlock (blocks : Blocks) (ino last : ℕ) : Type 0 where
  pub there : has_block blocks ino last ≡ true
  pub greatest : (block : ℕ) → has_block blocks ino block ≡ true → block ≤ last
