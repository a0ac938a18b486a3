-- A small tree, for a test: a file with two names and a hole, and a directory with a symbolic link.
use Rattle.std.specs.Prelude.{ℕ, List, [], ◌∷◌, codes}
use Rattle.fs_model.specs.declared.change.Change.{Change}
use Rattle.fs_model.specs.declared.change.Change.TheVariants.{SetInode, SetEntry, SetBlock}
use Rattle.fs_model.specs.declared.inode.Inode.{Inode}
use Rattle.fs_model.specs.declared.inode.Entry.{Entry}
use Rattle.fs_model.specs.declared.inode.Kind.{Kind}
use Rattle.fs_model.specs.declared.inode.Kind.TheVariants.{File, Dir, Symlink}
use Rattle.fs_model.specs.Files.{Tree}

-- an inode of these links, size and data
abbrev pub sample_inode : Kind → ℕ → ℕ → List ℕ → Inode
sample_inode kind nlink size extra = record { kind = kind; mode = 420; uid = 7; gid = 8; flags = 0; nlink = nlink; size = size; atime = 1; ctime = 2; mtime = 3; extra = extra }

abbrev pub sample_entry : ℕ → List ℕ → ℕ → Kind → Entry
sample_entry dir name ino kind = record { dir = dir; name = name; ino = ino; kind = kind }

-- the links and sizes that the directories' inodes say are wrong
abbrev pub sample_inodes : List Change
sample_inodes =
    SetInode 1 (sample_inode Dir 9 5 []) ∷ SetInode 65 (sample_inode File 2 8193 []) ∷ SetInode 66 (sample_inode Dir 9 5 []) ∷ SetInode 67 (sample_inode Symlink 1 2 (codes "am"))
    ∷ []

-- the names `am` and `bb` have one hash, and `d` a smaller one
abbrev pub sample_entries : List Change
sample_entries =
    SetEntry (sample_entry 1 (codes "am") 65 File) ∷ SetEntry (sample_entry 1 (codes "bb") 65 File) ∷ SetEntry (sample_entry 1 (codes "d") 66 Dir)
    ∷ SetEntry (sample_entry 66 (codes "s") 67 Symlink) ∷ []

abbrev pub sample_blocks : List Change
sample_blocks = SetBlock 65 0 (codes "abc") ∷ SetBlock 65 2 (codes "z") ∷ []

-- the tree that these make
abbrev pub sample : Tree
sample = record {
  inodes = (1, sample_inode Dir 9 5 []) ∷ (65, sample_inode File 2 8193 []) ∷ (66, sample_inode Dir 9 5 []) ∷ (67, sample_inode Symlink 1 2 (codes "am")) ∷ [];
  blocks = ((65, 0), codes "abc") ∷ ((65, 2), codes "z") ∷ [];
  entries =
      ((1, codes "am"), sample_entry 1 (codes "am") 65 File) ∷ ((1, codes "bb"), sample_entry 1 (codes "bb") 65 File) ∷ ((1, codes "d"), sample_entry 1 (codes "d") 66 Dir)
      ∷ ((66, codes "s"), sample_entry 66 (codes "s") 67 Symlink) ∷ [];
  highest = 67;
}
