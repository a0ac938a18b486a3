-- The kinds of the inodes that leaves show.
use Rattle.std.specs.Prelude.{ℕ, ◌+◌, ◌==◌, List, [], ◌∷◌, ◌++◌, Option, Some, None, cond, if◌then◌else◌}
use Rattle.std.specs.BTreeMap.{is_at}
use Rattle.std.specs.Ordering.{nat_cmp}
use Rattle.fs_model.specs.declared.inode.Kind.{Kind}
use Rattle.tree_check.specs.declared.inode_kind.InodeKind.{InodeKind}
use Rattle.tree_check.specs.declared.shown_leaf.Shown.{Shown}
use Rattle.tree_check.specs.declared.shown_leaf.Shown.TheVariants.{Inode}
use Rattle.tree_check.specs.declared.shown_leaf.ShownLeaf.{ShownLeaf}

-- the kind of an inode, if a leaf shows this inode, and else what is said
abbrev pub with_kind : Shown → ℕ → Option Kind → Option Kind
with_kind (Inode ino kind links) q other = cond (is_at (nat_cmp ino) q) (Some kind) other
with_kind shown q other = other

-- the kind that the first of some leaves shows for an inode, and else what is said
abbrev pub kind_over : List ShownLeaf → ℕ → Option Kind → Option Kind
kind_over [] q other = other
kind_over (x ∷ leaves) q other = with_kind x.shown q (kind_over leaves q other)

-- the kind of an inode, if leaves show it
abbrev pub kind_shown : List ShownLeaf → ℕ → Option Kind
kind_shown leaves q = kind_over leaves q None

-- how many inodes a leaf shows
abbrev pub inode_count : Shown → ℕ
inode_count (Inode ino kind links) = 1
inode_count shown = 0

-- how many leaves show an inode
abbrev pub inodes_shown : List ShownLeaf → ℕ
inodes_shown [] = 0
inodes_shown (x ∷ leaves) = inode_count x.shown + inodes_shown leaves

-- the inode that a leaf shows with its kind, if it shows one
abbrev pub inode_kind : Shown → List InodeKind
inode_kind (Inode ino kind links) = record { ino = ino; kind = kind } ∷ []
inode_kind shown = []

-- the inodes that leaves show, leaf by leaf
abbrev pub inode_kinds : List ShownLeaf → List InodeKind
inode_kinds [] = []
inode_kinds (x ∷ leaves) = inode_kind x.shown ++ inode_kinds leaves

-- the kind of the first of some inodes that has this number
abbrev pub kind_at : List InodeKind → ℕ → Option Kind
kind_at [] q = None
kind_at (inode ∷ inodes) q = cond (is_at (nat_cmp inode.ino) q) (Some inode.kind) (kind_at inodes q)

-- the kind of an inode, if it has this number
abbrev pub kind_if : InodeKind → ℕ → Option Kind
kind_if inode q = if inode.ino == q then Some inode.kind else None

-- the kind of the first of some inodes, if it has this number
abbrev pub first_kind : List InodeKind → ℕ → Option Kind
first_kind [] q = None
first_kind (inode ∷ inodes) q = kind_if inode q
