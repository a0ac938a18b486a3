-- The state of the plain model: a tree of inodes, blocks and entries, and the handles of open files. Maps are finite, as their entries in order of key.
use Rattle.std.specs.Prelude.{ℕ, ◌+◌, ◌-◌, ◌*◌, ◌/◌, ◌%◌, ◌==◌, if◌then◌else◌, max, Option, Some, None, List, [], ◌∷◌, ◌++◌, length, get_or, take, drop, replicate, map, fold, suc, min}
use Rattle.std.specs.List.{range_with_len}
use Rattle.std.specs.declared.cmp.Ordering.{Ordering}
use Rattle.std.specs.Ordering.{nat_cmp, ordering_then}
use Rattle.std.specs.Cmp.Lexicographic.{slice_cmp}
use Rattle.std.specs.BTreeMap.{insert_entry, is_at}
use Rattle.std.specs.Map.{lookup}
use Rattle.std.specs.Option.{unwrap_or}
use Rattle.fs_model.specs.declared.inode.Inode.{Inode}
use Rattle.fs_model.specs.declared.inode.Entry.{Entry}

abbrev pub Inodes : Type 0
Inodes = List (ℕ × Inode)

-- blocks by inode and number
abbrev pub Blocks : Type 0
Blocks = List ((ℕ × ℕ) × List ℕ)

-- entries by directory and name
abbrev pub Entries : Type 0
Entries = List ((ℕ × List ℕ) × Entry)

-- open files by caller and slot
abbrev pub Handles : Type 0
Handles = List ((ℕ × ℕ) × ℕ)

-- inodes, blocks and entries, and the highest inode number that was ever used
pub record Tree : Type 0 where
  pub inodes : Inodes
  pub blocks : Blocks
  pub entries : Entries
  pub highest : ℕ

-- a tree, and who has which of its files open
pub record Files : Type 0 where
  pub tree : Tree
  pub handles : Handles

-- by the first number, and then by the second
abbrev pub pair_cmp : ℕ × ℕ → ℕ × ℕ → Ordering
pair_cmp a b = ordering_then (nat_cmp a.0 b.0) (nat_cmp a.1 b.1)

-- by directory, and then by name
abbrev pub name_cmp : ℕ × List ℕ → ℕ × List ℕ → Ordering
name_cmp a b = ordering_then (nat_cmp a.0 b.0) (slice_cmp nat_cmp a.1 b.1)

abbrev pub inode_at : Tree → ℕ → Option Inode
inode_at tree ino = lookup (is_at (nat_cmp ino)) tree.inodes

abbrev pub entry_at : Tree → ℕ → List ℕ → Option Entry
entry_at tree dir name = lookup (is_at (name_cmp (dir, name))) tree.entries

abbrev pub handle_at : Files → ℕ → ℕ → Option ℕ
handle_at files caller slot = lookup (is_at (pair_cmp (caller, slot))) files.handles

-- the stored bytes of a block, of which a missing one has none
abbrev pub block_at : Blocks → ℕ → ℕ → List ℕ
block_at blocks ino block = unwrap_or (lookup (is_at (pair_cmp (ino, block))) blocks) []

abbrev pub with_block : Blocks → ℕ → ℕ → List ℕ → Blocks
with_block blocks ino block bytes = insert_entry pair_cmp blocks (ino, block) bytes

-- where the last block of an inode ends
abbrev pub blocks_end : Blocks → ℕ → ℕ
blocks_end [] ino = 0
blocks_end (entry ∷ blocks) ino = if entry.0.0 == ino then max (4096 * entry.0.1 + length entry.1) (blocks_end blocks ino) else blocks_end blocks ino

-- a file's size is the greater of its inode's size and the end of its last block
abbrev pub size_of : Tree → ℕ → Inode → ℕ
size_of tree ino inode = max inode.size (blocks_end tree.blocks ino)

-- the byte at a place of a file: zero where no block has one
abbrev pub byte_at : Blocks → ℕ → ℕ → ℕ
byte_at blocks ino place = get_or (block_at blocks ino (place / 4096)) (place % 4096) 0

-- n bytes of a list from a place on, and zeros past its end
abbrev pub piece_of : List ℕ → ℕ → ℕ → List ℕ
piece_of bytes from n = map (λ k. get_or bytes k 0) (range_with_len from n)

-- n bytes from a place of a file on
abbrev pub bytes_from : Blocks → ℕ → ℕ → ℕ → List ℕ
bytes_from blocks ino place n = map (byte_at blocks ino) (range_with_len place n)

-- the pages that n bytes from a place on touch
abbrev pub pages_of : ℕ → ℕ → List ℕ
pages_of place n = if n == 0 then [] else range_with_len (place / 4096) (suc ((place + n - 1) / 4096 - place / 4096))

-- The bytes of a page once this byte stands from `from` up to `to` in it: zeros lead up to it where the page was shorter.
abbrev pub overlaid : List ℕ → ℕ → ℕ → ℕ → List ℕ
overlaid old from to byte = take from (old ++ replicate (from - length old) 0) ++ replicate (to - from) byte ++ drop to old

-- a block of a file once a byte stands in it wherever n bytes from a place on touch it
abbrev pub page_written : Blocks → ℕ → ℕ → ℕ → ℕ → ℕ → List ℕ
page_written blocks ino place n byte page = overlaid (block_at blocks ino page) (place - 4096 * page) (min (place + n - 4096 * page) 4096) byte

-- the blocks with this one written so
abbrev pub with_page : ℕ → ℕ → ℕ → ℕ → Blocks → ℕ → Blocks
with_page ino place n byte blocks page = with_block blocks ino page (page_written blocks ino place n byte page)

-- the blocks once n copies of a byte stand from a place of a file on
abbrev pub blocks_written : Blocks → ℕ → ℕ → ℕ → ℕ → Blocks
blocks_written blocks ino place n byte = fold (with_page ino place n byte) blocks (pages_of place n)

-- the greatest number among the blocks of an inode, and none where it has no block
abbrev pub last_block_of : Blocks → ℕ → Option ℕ
last_block_of [] ino = None
last_block_of (entry ∷ blocks) ino = if entry.0.0 == ino then Some (max entry.0.1 (unwrap_or (last_block_of blocks ino) 0)) else last_block_of blocks ino
