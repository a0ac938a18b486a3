-- What stands at an inode's number, a block or a name after changes: what the last of them that touches it made.
use Rattle.std.specs.Prelude.{ℕ, ◌*◌, ◌==◌, ◌&&◌, nat_le, is_some, if◌then◌else◌, List, [], ◌∷◌, Option, Some, None}
use Rattle.fs_model.specs.declared.change.Change.{Change}
use Rattle.fs_model.specs.declared.change.Change.TheVariants.{SetInode, SetEntry, DropEntry, SetBlock, CutBlocks, DropInode}
use Rattle.fs_model.specs.declared.inode.Entry.{Entry}
use Rattle.fs_model.specs.declared.inode.Inode.{Inode}
use Rattle.fs_model.specs.Change.{applied}
use Rattle.fs_model.specs.Files.{Tree, inode_at}
use Rattle.fs_model.specs.Path.{is_same_name}

-- what a change makes of one place of a tree: it sets something there, takes away what is there, or doesn't touch it
abbrev pub Made : Type 0 → Type 0
Made X = Option (Option X)

-- of an inode's number
abbrev pub makes_inode : ℕ → Tree → Change → Made Inode
makes_inode q tree (SetInode ino inode) = if ino == q then Some (Some inode) else None
makes_inode q tree (DropInode ino) = if ino == q then Some None else None
makes_inode q tree change = None

-- of a block, by inode and number; a block of no inode touches nothing
abbrev pub makes_block : ℕ × ℕ → Tree → Change → Made (List ℕ)
makes_block q tree (SetBlock ino number bytes) = if (ino == q.0) && (number == q.1) && is_some (inode_at tree ino) then Some (Some bytes) else None
makes_block q tree (CutBlocks ino old_size new_size) = if (q.0 == ino) && nat_le new_size (4096 * q.1) then Some None else None
makes_block q tree (DropInode ino) = if q.0 == ino then Some None else None
makes_block q tree change = None

-- of a name, by directory and name
abbrev pub makes_entry : ℕ × List ℕ → Tree → Change → Made Entry
makes_entry q tree (SetEntry e) = if (e.dir == q.0) && is_same_name e.name q.1 then Some (Some e) else None
makes_entry q tree (DropEntry dir name) = if (dir == q.0) && is_same_name name q.1 then Some None else None
makes_entry q tree change = None

-- what is made later, or else what was made first
abbrev pub later : {X : Type 0} → Made X → Made X → Made X
later None first = first
later (Some made) first = Some made

-- what the last change that touches a place makes of it
abbrev pub last_made : {X : Type 0} → (Tree → Change → Made X) → Tree → List Change → Made X
last_made makes tree [] = None
last_made makes tree (change ∷ changes) = later (last_made makes (applied tree change) changes) (makes tree change)

-- what is there then, where this was there before
abbrev pub there : {X : Type 0} → Made X → Option X → Option X
there None before = before
there (Some made) before = made
