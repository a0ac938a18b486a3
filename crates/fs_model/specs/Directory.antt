-- What a directory holds, and what is reckoned from it: its links, its size and whether it is empty.
use Rattle.std.specs.Prelude.{ℕ, Bool, ◌+◌, ◌-◌, ◌==◌, min, max, nat_lt, if◌then◌else◌, List, [], filter, fold, count_by, sum_by}
use Rattle.std.specs.BTreeMap.{insert_entry}
use Rattle.std.specs.Map.{values_of}
use Rattle.ubifs_base.specs.R5.{r5_of}
use Rattle.fs_model.specs.declared.inode.Inode.{Inode}
use Rattle.fs_model.specs.declared.inode.Entry.{Entry}
use Rattle.fs_model.specs.declared.share.Share.{Share}
use Rattle.fs_model.specs.Cover.{entry_bytes}
use Rattle.fs_model.specs.Files.{Tree, name_cmp, size_of}
use Rattle.fs_model.specs.Path.{is_dir, is_empty}

-- the entries of a directory, in order of name
abbrev pub entries_in : Tree → ℕ → List Entry
entries_in tree dir = filter (λ e. e.dir == dir) (values_of tree.entries)

-- entries in the order in which they are listed: that of the hash, and then of the name (`key_r5_hash` of Linux fs/ubifs)
abbrev pub by_hash : List Entry → List Entry
by_hash entries = values_of (fold (λ sorted e. insert_entry name_cmp sorted (r5_of e.name, e.name) e) [] entries)

-- whether nothing is in a directory
abbrev pub has_no_entry : Tree → ℕ → Bool
has_no_entry tree dir = is_empty (entries_in tree dir)

-- the links of a directory: its name and itself, and one for each directory in it (`ubifs_mkdir` of Linux fs/ubifs)
abbrev pub dir_links : Tree → ℕ → ℕ
dir_links tree dir = 2 + count_by (λ e. is_dir e.kind) (entries_in tree dir)

-- the size of a directory: that of its inode's node, and of its entries' (`CALC_DENT_SIZE` of Linux fs/ubifs)
abbrev pub dir_size : Tree → ℕ → ℕ
dir_size tree dir = 160 + sum_by entry_bytes (entries_in tree dir)

-- what an entry adds to its directory: a link where it names a directory, and the bytes of its node
abbrev pub share_of : Entry → Share
share_of entry = record { links = if is_dir entry.kind then 1 else 0; bytes = entry_bytes entry }

abbrev pub no_share : Share
no_share = record { links = 0; bytes = 0 }

-- A directory's inode once this came and that went: its links and its size change by just so much, within what a node can carry, and it says one link at least (`ubifs_mkdir` and `ubifs_rename` of Linux fs/ubifs).
abbrev pub counted : Share → Share → Inode → Inode
counted came gone inode = record inode {
  nlink = if is_dir inode.kind then max 1 (min (inode.nlink + came.links) 4294967295 - gone.links) else inode.nlink;
  size = if is_dir inode.kind then min (inode.size + came.bytes) 18446744073709551615 - gone.bytes else inode.size;
}

-- the links that an inode has; a directory's are reckoned, whatever its inode says
abbrev pub links_of : Tree → ℕ → Inode → ℕ
links_of tree ino inode = if is_dir inode.kind then dir_links tree ino else inode.nlink

-- the size that an inode has; a directory's is reckoned
abbrev pub shown_size : Tree → ℕ → Inode → ℕ
shown_size tree ino inode = if is_dir inode.kind then dir_size tree ino else size_of tree ino inode

-- whether there is no link left for a further one (EMLINK of link(2))
abbrev pub is_linked_out : ℕ → Bool
is_linked_out links = nat_lt 64999 links
