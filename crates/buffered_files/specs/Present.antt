-- The files as callers see them: a tree, under the dirty pages and the inodes of their files.
use Rattle.std.specs.Prelude.{◌≡◌, ℕ, ◌+◌, ◌-◌, ◌*◌, ◌≤◌, ◌==◌, Bool, false, IsTrue, min, Some, List, ◌++◌, length, replicate, fold, filter, not, is_some}
use Rattle.std.specs.List.{AllByRecursion, list_any}
use Rattle.std.specs.Ordering.{nat_cmp}
use Rattle.std.specs.BTreeMap.{insert_entry, is_at}
use Rattle.std.specs.Map.{lookup, keys_of}
use Rattle.fs_model.specs.declared.inode.Inode.{Inode}
use Rattle.fs_model.specs.declared.inode.Kind.TheVariants.{File}
use Rattle.fs_model.specs.declared.page_node.PageNode.{PageNode}
use Rattle.fs_model.specs.Files.{Tree, Files, Inodes, Blocks, inode_at, pair_cmp, block_at, blocks_end, pages_of}
use Rattle.fs_model.specs.Proper.{IsProper, ascends, is_inode_node, is_block_node}
use Rattle.page_cache.specs.Pages.{is_page}
use Rattle.page_cache.specs.declared.dirty_page.DirtyPage.{DirtyPage}
use Rattle.buffered_files.specs.declared.kept.Kept.{Kept}

-- dirty pages in order of first dirtying
abbrev pub DirtyPages : Type 0
DirtyPages = List ((ℕ × ℕ) × DirtyPage)

abbrev pub with_inode : Inodes → ℕ × Inode → Inodes
with_inode inodes e = insert_entry nat_cmp inodes e.0 e.1

abbrev pub with_page : Blocks → (ℕ × ℕ) × DirtyPage → Blocks
with_page blocks e = insert_entry pair_cmp blocks e.0 e.1.bytes

-- a tree with these inodes and pages in place of its own
abbrev pub covered : Tree → Inodes → DirtyPages → Tree
covered tree inodes dirty = record tree { inodes = fold with_inode tree.inodes inodes; blocks = fold with_page tree.blocks dirty }

-- the files as callers see them
abbrev pub present : Tree → Kept → Files
present tree kept = record { tree = covered tree kept.inodes kept.pages.dirty; handles = kept.handles }

-- the inode of a file with dirty pages: that of a file in the tree, with as many links
pub record FitsFile (tree : Tree) (ino : ℕ) (inode : Inode) : Type 0 where
  pub node : IsTrue (is_inode_node (ino, inode))
  pub kind : inode.kind ≡ File
  pub below : (old : Inode) × (inode_at tree ino ≡ Some old) × (old.kind ≡ File) × (old.nlink ≡ inode.nlink)

-- a dirty page: a block up to its file's end, and the file's inode beside it
abbrev pub FitsPages : Inodes → (ℕ × ℕ) × DirtyPage → Type 0
FitsPages inodes e =
    (inode : Inode) × (lookup (is_at (nat_cmp e.0.0)) inodes ≡ Some inode)
    × IsTrue (is_block_node (e.0, e.1.bytes)) × (4096 * e.0.1 + length e.1.bytes ≤ inode.size)

-- a clean page: the bytes of that block of a tree
abbrev pub FitsClean : Blocks → (ℕ × ℕ) × List ℕ → Type 0
FitsClean blocks e = e.1 ≡ block_at blocks e.0.0 e.0.1

-- a dirty page: no shorter than that block of a tree below it
abbrev pub FitsOver : Blocks → (ℕ × ℕ) × DirtyPage → Type 0
FitsOver blocks e = length (block_at blocks e.0.0 e.0.1) ≤ length e.1.bytes

-- whether a page of an inode is dirty
abbrev pub has_dirty : DirtyPages → ℕ → Bool
has_dirty dirty ino = list_any (λ e. e.0.0 == ino) dirty

-- the dirty pages of the other inodes
abbrev pub dirty_of_others : DirtyPages → ℕ → DirtyPages
dirty_of_others dirty ino = filter (λ e. not (e.0.0 == ino)) dirty

-- What is kept fits a tree. Each dirty page and its file's inode do, and a dirty page is no shorter than its block. No block of the tree ends behind a size that is kept. An inode without a dirty page is that of the tree, and each clean page has the bytes of its block.
pub record IsKept (tree : Tree) (kept : Kept) : Type 0 where
  pub proper : IsProper tree
  pub ascends : IsTrue (ascends nat_cmp (keys_of kept.inodes))
  pub inodes : (ino : ℕ) (inode : Inode) → lookup (is_at (nat_cmp ino)) kept.inodes ≡ Some inode → FitsFile tree ino inode
  pub ends : (ino : ℕ) (inode : Inode) → lookup (is_at (nat_cmp ino)) kept.inodes ≡ Some inode → blocks_end tree.blocks ino ≤ inode.size
  pub pages : AllByRecursion (FitsPages kept.inodes) kept.pages.dirty
  pub settled : (ino : ℕ) (inode : Inode) → lookup (is_at (nat_cmp ino)) kept.inodes ≡ Some inode → has_dirty kept.pages.dirty ino ≡ false → inode_at tree ino ≡ Some inode
  pub clean : AllByRecursion (FitsClean tree.blocks) kept.pages.clean
  pub covers : AllByRecursion (FitsOver tree.blocks) kept.pages.dirty

-- the same is kept, but for clean pages
abbrev pub IsSameButClean : Kept → Kept → Type 0
IsSameButClean old new = new ≡ record old { pages = record old.pages { clean = new.pages.clean } }

-- how many bytes of a page stand before its file's end
abbrev pub bytes_before_end : ℕ → ℕ → ℕ
bytes_before_end size block = min (size - 4096 * block) 4096

-- bytes with zeros up to this length
abbrev pub filled : List ℕ → ℕ → List ℕ
filled bytes len = bytes ++ replicate (len - length bytes) 0

-- a dirty page as it is put: its bytes up to its file's end, with the inode
abbrev pub page_of : (ℕ × ℕ) × DirtyPage → Inode → PageNode
page_of e inode = record { ino = e.0.0; block = e.0.1; bytes = filled e.1.bytes (bytes_before_end inode.size e.0.1); inode = inode }

-- how many of the pages that n bytes from a place of a file on touch aren't dirty
abbrev pub newly_dirty : DirtyPages → ℕ → ℕ → ℕ → ℕ
newly_dirty dirty ino place n = length (filter (λ page. not (is_some (lookup (is_page (ino, page)) dirty))) (pages_of place n))
