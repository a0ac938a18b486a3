-- Proper trees: each leaf has a node (ubifs-media.h), entries and inodes fit one another, and directories hang together.
use Rattle.std.specs.Prelude.{ℕ, zero, suc, Bool, true, false, IsTrue, ◌==◌, if◌then◌else◌, ◌^◌, ◌&&◌, ◌||◌, not, nat_lt, nat_le, List, [], ◌∷◌, length, filter}
use Rattle.std.specs.declared.cmp.Ordering.{Ordering}
use Rattle.std.specs.Ordering.{nat_cmp, is_lt}
use Rattle.std.specs.List.{list_any, list_all}
use Rattle.std.specs.Map.{keys_of, values_of}
use Rattle.std.specs.Option.{option_map_or}
use Rattle.fs_model.specs.declared.inode.Inode.{Inode}
use Rattle.fs_model.specs.declared.inode.Entry.{Entry}
use Rattle.fs_model.specs.declared.inode.Kind.{Kind}
use Rattle.fs_model.specs.declared.inode.Kind.TheVariants.{File, Dir, Symlink, Block, Char, Fifo, Socket}
use Rattle.fs_model.specs.Files.{Tree, inode_at, pair_cmp, name_cmp}
use Rattle.fs_model.specs.Path.{is_dir, is_empty, is_same_name}

-- whether keys ascend
abbrev pub ascends : {K : Type 0} → (K → K → Ordering) → List K → Bool
ascends cmp [] = true
ascends cmp (key ∷ []) = true
ascends cmp (key ∷ next ∷ keys) = is_lt (cmp key next) && ascends cmp (next ∷ keys)

abbrev pub are_bytes : List ℕ → Bool
are_bytes bytes = list_all (λ b. nat_lt b 256) bytes

-- whether two kinds are one
abbrev pub same_kind : Kind → Kind → Bool
same_kind File File = true
same_kind Dir Dir = true
same_kind Symlink Symlink = true
same_kind Block Block = true
same_kind Char Char = true
same_kind Fifo Fifo = true
same_kind Socket Socket = true
same_kind a b = false

-- whether an inode of this kind has data of its own: a target or a device's number
abbrev pub has_data : Kind → Bool
has_data Symlink = true
has_data Block = true
has_data Char = true
has_data kind = false

-- whether numbers are below 2^32, or below 2^64
abbrev pub are_words : List ℕ → Bool
are_words numbers = list_all (λ n. nat_lt n (2 ^ 32)) numbers

abbrev pub are_long_words : List ℕ → Bool
are_long_words numbers = list_all (λ n. nat_lt n (2 ^ 64)) numbers

-- an inode that a node can carry (`struct ubifs_ino_node`)
abbrev pub is_inode_node : ℕ × Inode → Bool
is_inode_node e =
    not (e.0 == 0) && nat_lt e.1.mode 4096 && are_words (e.0 ∷ e.1.uid ∷ e.1.gid ∷ e.1.flags ∷ e.1.nlink ∷ [])
    && are_long_words (e.1.size ∷ e.1.atime ∷ e.1.ctime ∷ e.1.mtime ∷ [])
    && are_bytes e.1.extra && nat_le (length e.1.extra) 4096 && (is_empty e.1.extra || has_data e.1.kind)

-- a block that a node can carry (`struct ubifs_data_node`)
abbrev pub is_block_node : (ℕ × ℕ) × List ℕ → Bool
is_block_node e = nat_lt e.0.0 (2 ^ 32) && nat_lt e.0.1 (2 ^ 29) && not (is_empty e.1) && nat_le (length e.1) 4096 && are_bytes e.1

-- a name of 1 to 255 bytes, without a zero byte and without a slash
abbrev pub is_name : List ℕ → Bool
is_name name = not (is_empty name) && nat_le (length name) 255 && are_bytes name && list_all (λ b. not (b == 0) && not (b == 47)) name

-- an entry that a node can carry (`struct ubifs_dent_node`), kept at its own directory and name
abbrev pub is_entry_node : (ℕ × List ℕ) × Entry → Bool
is_entry_node e = (e.0.0 == e.1.dir) && is_same_name e.0.1 e.1.name && is_name e.1.name && are_words (e.1.dir ∷ e.1.ino ∷ [])

-- the entries that name an inode
abbrev pub names_of : Tree → ℕ → List Entry
names_of tree ino = filter (λ e. e.ino == ino) (values_of tree.entries)

-- whether an inode of this kind has this number
abbrev pub has_kind : Tree → ℕ → Kind → Bool
has_kind tree ino kind = option_map_or (λ inode. same_kind inode.kind kind) (inode_at tree ino) false

-- an entry stands in a directory and names an inode of its kind, which isn't the root
abbrev pub is_sound_entry : Tree → Entry → Bool
is_sound_entry tree entry = has_kind tree entry.dir Dir && has_kind tree entry.ino entry.kind && not (entry.ino == 1)

-- whether so many steps up from a directory lead to the root, or fewer
abbrev pub climbs : Tree → ℕ → ℕ → Bool
climbs tree zero ino = ino == 1
climbs tree (suc steps) ino = (ino == 1) || list_any (λ e. climbs tree steps e.dir) (names_of tree ino)

-- a directory is the root, or has one name and is reached from the root
abbrev pub is_sound_dir : Tree → ℕ → Bool
is_sound_dir tree ino = (ino == 1) || ((length (names_of tree ino) == 1) && climbs tree (length tree.inodes) ino)

-- An inode has as many links as names; a directory is in its place. One without links is held open, or is an orphan.
abbrev pub is_sound_inode : Tree → ℕ × Inode → Bool
is_sound_inode tree (ino, inode) = if is_dir inode.kind then is_sound_dir tree ino else inode.nlink == length (names_of tree ino)

-- whether an inode is no directory, or has links: a mount drops what has none
abbrev pub is_linked : ℕ × Inode → Bool
is_linked e = not (is_dir e.1.kind && (e.1.nlink == 0))

-- whether no number passes the highest
abbrev pub are_numbered : Tree → Bool
are_numbered tree =
    list_all (λ e. nat_le e.0 tree.highest) tree.inodes
    && list_all (λ e. nat_le e.0.0 tree.highest) tree.blocks
    && list_all (λ e. nat_le e.0.0 tree.highest && nat_le e.1.ino tree.highest) tree.entries

-- inodes, blocks and entries in order of key
pub record IsInOrder (tree : Tree) : Type 0 where
  pub inodes : IsTrue (ascends nat_cmp (keys_of tree.inodes))
  pub blocks : IsTrue (ascends pair_cmp (keys_of tree.blocks))
  pub entries : IsTrue (ascends name_cmp (keys_of tree.entries))

pub record IsProper (tree : Tree) : Type 0 where
  pub inodes_ascend : IsTrue (ascends nat_cmp (keys_of tree.inodes))
  pub blocks_ascend : IsTrue (ascends pair_cmp (keys_of tree.blocks))
  pub entries_ascend : IsTrue (ascends name_cmp (keys_of tree.entries))
  pub inode_nodes : IsTrue (list_all is_inode_node tree.inodes)
  pub block_nodes : IsTrue (list_all is_block_node tree.blocks)
  pub entry_nodes : IsTrue (list_all is_entry_node tree.entries)
  pub root : IsTrue (has_kind tree 1 Dir)
  pub entries : IsTrue (list_all (is_sound_entry tree) (values_of tree.entries))
  pub inodes : IsTrue (list_all (is_sound_inode tree) tree.inodes)
  pub linked : IsTrue (list_all is_linked tree.inodes)
  pub numbers : IsTrue (are_numbered tree)
