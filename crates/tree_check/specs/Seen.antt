-- Which leaves show what one before them shows.
use Rattle.std.specs.Prelude.{ℕ, ◌*◌, ◌==◌, ◌&&◌, ◌||◌, nat_le, Bool, false, List, Option, Some, None, is_some, min}
use Rattle.std.specs.BTreeMap.{BTreeMap, get}
use Rattle.std.specs.Option.{option_map_or}
use Rattle.std.specs.Ordering.{nat_cmp}
use Rattle.fs_model.specs.Files.{name_cmp, pair_cmp}
use Rattle.fs_model.specs.Path.{is_same_name}
use Rattle.tree_check.specs.declared.seen_leaves.SeenLeaves.{SeenLeaves}
use Rattle.tree_check.specs.declared.shown_leaf.Shown.{Shown}
use Rattle.tree_check.specs.declared.shown_leaf.Shown.TheVariants.{Inode, Entry, Deletion, Block, Truncation, Nothing}

-- whether an inode of this number is shown
abbrev pub same_inode : ℕ → Shown → Bool
same_inode ino (Inode other kind links) = other == ino
same_inode ino other = false

-- whether this name of this directory is
abbrev pub same_name : ℕ → List ℕ → Shown → Bool
same_name dir name (Entry d n ino kind) = (d == dir) && is_same_name n name
same_name dir name other = false

-- whether this block of this inode is
abbrev pub same_block : ℕ → ℕ → Shown → Bool
same_block ino block (Block other at) = (other == ino) && (at == block)
same_block ino block other = false

-- whether a truncation of an inode to so many bytes cuts this block of that inode off
abbrev pub is_cut_by : ℕ → ℕ → ℕ → ℕ → Bool
is_cut_by ino size other at = (other == ino) && nat_le size (4096 * at)

-- whether a block is shown that it cuts off
abbrev pub cuts_block : ℕ → ℕ → Shown → Bool
cuts_block ino size (Block other at) = is_cut_by ino size other at
cuts_block ino size other = false

-- whether what one leaf shows makes obsolete what another does: the same inode, name or block, the name that is deleted, or a block that is cut off
abbrev pub same_told : Shown → Shown → Bool
same_told (Inode ino kind links) other = same_inode ino other
same_told (Entry dir name ino kind) other = same_name dir name other
same_told (Deletion dir name) other = same_name dir name other
same_told (Block ino block) other = same_block ino block other
same_told (Truncation ino size) other = cuts_block ino size other
same_told Nothing other = false

-- whether one of these truncations cuts a block off
abbrev pub is_cut_off : BTreeMap ℕ ℕ → ℕ → ℕ → Bool
is_cut_off cuts ino block = option_map_or (λ size. nat_le size (4096 * block)) (get nat_cmp cuts ino) false

-- the lesser of a size and another, if that is there
abbrev pub least_at : Option ℕ → ℕ → ℕ
least_at None size = size
least_at (Some least) size = min size least

-- whether what was seen makes this obsolete
abbrev pub is_seen : SeenLeaves → Shown → Bool
is_seen seen (Inode ino kind links) = is_some (get nat_cmp seen.inodes ino)
is_seen seen (Entry dir name ino kind) = is_some (get name_cmp seen.names (dir, name))
is_seen seen (Block ino block) = is_some (get pair_cmp seen.blocks (ino, block)) || is_cut_off seen.cuts ino block
is_seen seen other = false
