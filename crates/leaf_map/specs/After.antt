-- What a node that is put, or read of a journal, makes of the leaves of an index (Hunter 2008, "The journal"; the replay of Linux fs/ubifs).
use Rattle.std.specs.Prelude.{◌≡◌, ℕ, ◌*◌, ◌==◌, ◌&&◌, nat_le, not, Bool, true, false, if◌then◌else◌, List, [], ◌∷◌, filter, sum_by, Option, Some, None}
use Rattle.std.specs.List.{list_any}
use Rattle.index_tree.specs.Order.{leaf_rank}
use Rattle.media_leaf.specs.LeafNode.{LeafNode}
use Rattle.fs_model.specs.declared.change.Change.{Change}
use Rattle.fs_model.specs.declared.change.Change.TheVariants.{SetInode, SetEntry, DropEntry, SetBlock, CutBlocks, DropInode}
use Rattle.fs_model.specs.Path.{is_same_name}
use Rattle.group_nodes.specs.Nodes.{change_of}
use Rattle.leaf_map.specs.Kept.{Kept, Placed, kept_at, kept_bytes, shown, shown_by}

-- whether a change makes obsolete what shows this: an inode and a block are told by their key, an entry by its directory and name
abbrev pub goes : Change → Option Change → Bool
goes (SetInode ino inode) (Some (SetInode other old)) = other == ino
goes (SetEntry e) (Some (SetEntry old)) = (old.dir == e.dir) && is_same_name old.name e.name
goes (DropEntry dir name) (Some (SetEntry old)) = (old.dir == dir) && is_same_name old.name name
goes (SetBlock ino number bytes) (Some (SetBlock other at old)) = (other == ino) && (at == number)
goes (CutBlocks ino old_size new_size) (Some (SetBlock other at old)) = (other == ino) && nat_le new_size (4096 * at)
goes (DropInode ino) (Some (SetInode other old)) = other == ino
goes (DropInode ino) (Some (SetBlock other at old)) = other == ino
goes change other = false

-- whether a leaf shows an inode of this number
abbrev pub is_inode : ℕ → Option Change → Bool
is_inode ino (Some (SetInode other inode)) = other == ino
is_inode ino other = false

-- whether leaves have an inode
abbrev pub has_inode : List Kept → ℕ → Bool
has_inode kept ino = list_any (λ x. is_inode ino (shown_by x)) kept

-- whether a change does nothing: a block of no inode
abbrev pub is_idle : List Kept → Change → Bool
is_idle kept (SetBlock ino number bytes) = not (has_inode kept ino)
is_idle kept change = false

-- whether a change's node becomes a leaf
abbrev pub is_set : Change → Bool
is_set (SetInode ino inode) = true
is_set (SetEntry e) = true
is_set (SetBlock ino number bytes) = true
is_set change = false

-- a leaf in the place of the one that is told by a test, or else behind all leaves whose key isn't greater
abbrev pub put_leaf : (Kept → Bool) → Kept → List Kept → List Kept
put_leaf old new [] = new ∷ []
put_leaf old new (x ∷ kept) =
    if old x then new ∷ kept
    else if nat_le (leaf_rank x.leaf) (leaf_rank new.leaf) then x ∷ put_leaf old new kept
    else new ∷ x ∷ kept

-- whether a change makes a leaf obsolete
abbrev pub is_gone : Change → Kept → Bool
is_gone change x = goes change (shown_by x)

-- what a change that does something makes of the leaves
abbrev pub kept_with : Change → Kept → List Kept → List Kept
kept_with change new kept = if is_set change then put_leaf (is_gone change) new kept else filter (λ x. not (is_gone change x)) kept

-- what a change makes of the leaves, whose node becomes this leaf if it becomes one
abbrev pub kept_by : Change → Kept → List Kept → List Kept
kept_by change new kept = if is_idle kept change then kept else kept_with change new kept

-- the leaves that a change makes obsolete
abbrev pub gone_by : Change → List Kept → List Kept
gone_by change kept = if is_idle kept change then [] else filter (is_gone change) kept

-- the leaf that a change's node becomes, if it becomes one
abbrev pub come_by : Change → Kept → List Kept → List Kept
come_by change new kept = if is_idle kept change then [] else if is_set change then new ∷ [] else []

-- what a node makes of the leaves of which this was read; one that carries no change does nothing
abbrev pub read : Option Change → Placed → List Kept → List Kept
read None new kept = kept
read (Some change) new kept = kept_by change (kept_at new) kept

-- what a node that is read of a journal makes of the leaves: an inode's without links drops it
abbrev pub kept_after : List Kept → Placed → List Kept
kept_after kept new = read (change_of new.node) new kept

-- a node carries a change: it shows what is set, is the node of what goes, or is an inode's without links
abbrev pub ShowsChange : Change → LeafNode → Type 0
ShowsChange (DropInode ino) node = change_of node ≡ Some (DropInode ino)
ShowsChange change node = shown node ≡ Some change

-- the bytes that leaves take
abbrev pub used_by : List Kept → ℕ
used_by kept = sum_by kept_bytes kept
